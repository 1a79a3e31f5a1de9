-- What errors print: the name of the variant, and `out of memory` for want of memory.
use Rattle.std.specs.Prelude.{ℕ, List, codes}
use Rattle.h3_field.specs.declared.prefix_int.Error as integer
use Rattle.h3_field.specs.declared.prefix_string.Error as string
use Rattle.h3_field.specs.declared.prefix_string.string_decode.Error as huffman
use Rattle.h3_field.specs.declared.static_.Error as static_entry
use Rattle.h3_field.specs.declared.vas.Error as address
use Rattle.h3_field.specs.declared.dynamic.Error as dynamic
use Rattle.h3_field.specs.declared.parse_error.ParseError as parse
use Rattle.h3_field.specs.declared.decoder_error.DecoderError as decoder
use Rattle.h3_field.specs.declared.encoder_error.EncoderError as encoder
use Rattle.h3_field.specs.declared.error.Error as either

abbrev pub integer_text : integer.Error → List ℕ
integer_text integer.TheVariants.Overflow = codes "Overflow"
integer_text integer.TheVariants.UnexpectedEnd = codes "UnexpectedEnd"

abbrev pub string_text : string.Error → List ℕ
string_text string.TheVariants.UnexpectedEnd = codes "UnexpectedEnd"
string_text (string.TheVariants.Integer a) = codes "Integer"
string_text string.TheVariants.HuffmanDecoding = codes "HuffmanDecoding"
string_text string.TheVariants.HuffmanEncoding = codes "HuffmanEncoding"
string_text string.TheVariants.BufSize = codes "BufSize"
string_text string.TheVariants.OutOfMemory = codes "out of memory"

abbrev pub huffman_text : huffman.Error → List ℕ
huffman_text (huffman.TheVariants.MissingBits a) = codes "MissingBits"
huffman_text (huffman.TheVariants.Unhandled a b) = codes "Unhandled"

abbrev pub static_text : static_entry.Error → List ℕ
static_text (static_entry.TheVariants.Unknown a) = codes "Unknown"

abbrev pub address_text : address.Error → List ℕ
address_text (address.TheVariants.RelativeIndex a) = codes "RelativeIndex"
address_text (address.TheVariants.PostbaseIndex a) = codes "PostbaseIndex"
address_text (address.TheVariants.Index a) = codes "Index"

abbrev pub dynamic_text : dynamic.Error → List ℕ
dynamic_text (dynamic.TheVariants.BadRelativeIndex a) = codes "BadRelativeIndex"
dynamic_text (dynamic.TheVariants.BadPostbaseIndex a) = codes "BadPostbaseIndex"
dynamic_text (dynamic.TheVariants.BadIndex a) = codes "BadIndex"
dynamic_text dynamic.TheVariants.MaxTableSizeReached = codes "MaxTableSizeReached"
dynamic_text dynamic.TheVariants.MaximumTableSizeTooLarge = codes "MaximumTableSizeTooLarge"
dynamic_text dynamic.TheVariants.MaxBlockedStreamsTooLarge = codes "MaxBlockedStreamsTooLarge"
dynamic_text (dynamic.TheVariants.UnknownStreamId a) = codes "UnknownStreamId"
dynamic_text dynamic.TheVariants.NoTrackingData = codes "NoTrackingData"
dynamic_text dynamic.TheVariants.InvalidTrackingCount = codes "InvalidTrackingCount"
dynamic_text dynamic.TheVariants.OutOfMemory = codes "out of memory"

abbrev pub parse_text : parse.ParseError → List ℕ
parse_text (parse.TheVariants.Integer a) = codes "Integer"
parse_text (parse.TheVariants.String a) = codes "String"
parse_text (parse.TheVariants.InvalidPrefix a) = codes "InvalidPrefix"
parse_text parse.TheVariants.InvalidBase = codes "InvalidBase"
parse_text parse.TheVariants.OutOfMemory = codes "out of memory"

abbrev pub decoder_text : decoder.DecoderError → List ℕ
decoder_text (decoder.TheVariants.InvalidInteger a) = codes "InvalidInteger"
decoder_text (decoder.TheVariants.InvalidString a) = codes "InvalidString"
decoder_text (decoder.TheVariants.InvalidIndex a) = codes "InvalidIndex"
decoder_text (decoder.TheVariants.DynamicTable a) = codes "DynamicTable"
decoder_text (decoder.TheVariants.InvalidStaticIndex a) = codes "InvalidStaticIndex"
decoder_text (decoder.TheVariants.UnknownPrefix a) = codes "UnknownPrefix"
decoder_text (decoder.TheVariants.MissingRefs a) = codes "MissingRefs"
decoder_text decoder.TheVariants.BadBaseIndex = codes "BadBaseIndex"
decoder_text decoder.TheVariants.UnexpectedEnd = codes "UnexpectedEnd"
decoder_text (decoder.TheVariants.HeaderTooLong a) = codes "HeaderTooLong"
decoder_text decoder.TheVariants.BufSize = codes "BufSize"
decoder_text decoder.TheVariants.OutOfMemory = codes "out of memory"

abbrev pub encoder_text : encoder.EncoderError → List ℕ
encoder_text (encoder.TheVariants.Insertion a) = codes "Insertion"
encoder_text (encoder.TheVariants.InvalidString a) = codes "InvalidString"
encoder_text (encoder.TheVariants.InvalidInteger a) = codes "InvalidInteger"
encoder_text (encoder.TheVariants.UnknownDecoderInstruction a) = codes "UnknownDecoderInstruction"
encoder_text encoder.TheVariants.OutOfMemory = codes "out of memory"

abbrev pub error_text : either.Error → List ℕ
error_text (either.TheVariants.Encoder a) = codes "Encoder"
error_text (either.TheVariants.Decoder a) = codes "Decoder"
