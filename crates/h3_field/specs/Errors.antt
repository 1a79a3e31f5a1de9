-- Which error each error becomes.
use Rattle.h3_field.specs.declared.prefix_string.Error as string
use Rattle.h3_field.specs.declared.vas.Error as address
use Rattle.h3_field.specs.declared.dynamic.Error as dynamic
use Rattle.h3_field.specs.declared.parse_error.ParseError as parse
use Rattle.h3_field.specs.declared.decoder_error.DecoderError as decoder
use Rattle.h3_field.specs.declared.encoder_error.EncoderError as encoder

abbrev pub of_address : address.Error → dynamic.Error
of_address (address.TheVariants.RelativeIndex i) = dynamic.TheVariants.BadRelativeIndex i
of_address (address.TheVariants.PostbaseIndex i) = dynamic.TheVariants.BadPostbaseIndex i
of_address (address.TheVariants.Index i) = dynamic.TheVariants.BadIndex i

-- an inner want of memory becomes the outer one
abbrev pub decoder_string : string.Error → decoder.DecoderError
decoder_string string.TheVariants.OutOfMemory = decoder.TheVariants.OutOfMemory
decoder_string string.TheVariants.UnexpectedEnd = decoder.TheVariants.InvalidString string.TheVariants.UnexpectedEnd
decoder_string (string.TheVariants.Integer e) = decoder.TheVariants.InvalidString (string.TheVariants.Integer e)
decoder_string string.TheVariants.HuffmanDecoding = decoder.TheVariants.InvalidString string.TheVariants.HuffmanDecoding
decoder_string string.TheVariants.HuffmanEncoding = decoder.TheVariants.InvalidString string.TheVariants.HuffmanEncoding
decoder_string string.TheVariants.BufSize = decoder.TheVariants.InvalidString string.TheVariants.BufSize

abbrev pub decoder_dynamic : dynamic.Error → decoder.DecoderError
decoder_dynamic dynamic.TheVariants.OutOfMemory = decoder.TheVariants.OutOfMemory
decoder_dynamic (dynamic.TheVariants.BadRelativeIndex i) = decoder.TheVariants.DynamicTable (dynamic.TheVariants.BadRelativeIndex i)
decoder_dynamic (dynamic.TheVariants.BadPostbaseIndex i) = decoder.TheVariants.DynamicTable (dynamic.TheVariants.BadPostbaseIndex i)
decoder_dynamic (dynamic.TheVariants.BadIndex i) = decoder.TheVariants.DynamicTable (dynamic.TheVariants.BadIndex i)
decoder_dynamic dynamic.TheVariants.MaxTableSizeReached = decoder.TheVariants.DynamicTable dynamic.TheVariants.MaxTableSizeReached
decoder_dynamic dynamic.TheVariants.MaximumTableSizeTooLarge = decoder.TheVariants.DynamicTable dynamic.TheVariants.MaximumTableSizeTooLarge
decoder_dynamic dynamic.TheVariants.MaxBlockedStreamsTooLarge = decoder.TheVariants.DynamicTable dynamic.TheVariants.MaxBlockedStreamsTooLarge
decoder_dynamic (dynamic.TheVariants.UnknownStreamId i) = decoder.TheVariants.DynamicTable (dynamic.TheVariants.UnknownStreamId i)
decoder_dynamic dynamic.TheVariants.NoTrackingData = decoder.TheVariants.DynamicTable dynamic.TheVariants.NoTrackingData
decoder_dynamic dynamic.TheVariants.InvalidTrackingCount = decoder.TheVariants.DynamicTable dynamic.TheVariants.InvalidTrackingCount

abbrev pub decoder_parse : parse.ParseError → decoder.DecoderError
decoder_parse (parse.TheVariants.Integer e) = decoder.TheVariants.InvalidInteger e
decoder_parse (parse.TheVariants.String e) = decoder_string e
decoder_parse (parse.TheVariants.InvalidPrefix p) = decoder.TheVariants.UnknownPrefix p
decoder_parse parse.TheVariants.InvalidBase = decoder.TheVariants.BadBaseIndex
decoder_parse parse.TheVariants.OutOfMemory = decoder.TheVariants.OutOfMemory

abbrev pub encoder_string : string.Error → encoder.EncoderError
encoder_string string.TheVariants.OutOfMemory = encoder.TheVariants.OutOfMemory
encoder_string string.TheVariants.UnexpectedEnd = encoder.TheVariants.InvalidString string.TheVariants.UnexpectedEnd
encoder_string (string.TheVariants.Integer e) = encoder.TheVariants.InvalidString (string.TheVariants.Integer e)
encoder_string string.TheVariants.HuffmanDecoding = encoder.TheVariants.InvalidString string.TheVariants.HuffmanDecoding
encoder_string string.TheVariants.HuffmanEncoding = encoder.TheVariants.InvalidString string.TheVariants.HuffmanEncoding
encoder_string string.TheVariants.BufSize = encoder.TheVariants.InvalidString string.TheVariants.BufSize

abbrev pub encoder_dynamic : dynamic.Error → encoder.EncoderError
encoder_dynamic dynamic.TheVariants.OutOfMemory = encoder.TheVariants.OutOfMemory
encoder_dynamic (dynamic.TheVariants.BadRelativeIndex i) = encoder.TheVariants.Insertion (dynamic.TheVariants.BadRelativeIndex i)
encoder_dynamic (dynamic.TheVariants.BadPostbaseIndex i) = encoder.TheVariants.Insertion (dynamic.TheVariants.BadPostbaseIndex i)
encoder_dynamic (dynamic.TheVariants.BadIndex i) = encoder.TheVariants.Insertion (dynamic.TheVariants.BadIndex i)
encoder_dynamic dynamic.TheVariants.MaxTableSizeReached = encoder.TheVariants.Insertion dynamic.TheVariants.MaxTableSizeReached
encoder_dynamic dynamic.TheVariants.MaximumTableSizeTooLarge = encoder.TheVariants.Insertion dynamic.TheVariants.MaximumTableSizeTooLarge
encoder_dynamic dynamic.TheVariants.MaxBlockedStreamsTooLarge = encoder.TheVariants.Insertion dynamic.TheVariants.MaxBlockedStreamsTooLarge
encoder_dynamic (dynamic.TheVariants.UnknownStreamId i) = encoder.TheVariants.Insertion (dynamic.TheVariants.UnknownStreamId i)
encoder_dynamic dynamic.TheVariants.NoTrackingData = encoder.TheVariants.Insertion dynamic.TheVariants.NoTrackingData
encoder_dynamic dynamic.TheVariants.InvalidTrackingCount = encoder.TheVariants.Insertion dynamic.TheVariants.InvalidTrackingCount

abbrev pub encoder_parse : parse.ParseError → encoder.EncoderError
encoder_parse (parse.TheVariants.Integer e) = encoder.TheVariants.InvalidInteger e
encoder_parse (parse.TheVariants.String e) = encoder_string e
encoder_parse (parse.TheVariants.InvalidPrefix p) = encoder.TheVariants.UnknownDecoderInstruction p
encoder_parse parse.TheVariants.InvalidBase = encoder.TheVariants.UnknownDecoderInstruction 0
encoder_parse parse.TheVariants.OutOfMemory = encoder.TheVariants.OutOfMemory
