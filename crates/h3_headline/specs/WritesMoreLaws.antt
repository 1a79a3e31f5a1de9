-- What an endpoint has of the other side's own streams stays as it is when that side writes more on them.
use Rattle.std.proofs.Common.{ℕ, ◌<◌, length, arith, ◌+◌, ◌*◌, ◌-◌, List, ◌++◌, length-append, ◌≡◌, [], ◌∷◌, refl, ap, ◌≤◌, flat_map, if◌then◌else◌, take, drop, sym, ◌∙◌, Option, Some, Bool, true, false}
use Rattle.std.proofs.lemmas.Grind.{common_steps}
use Rattle.h3_field.specs.Integer.{prefixed}
use Rattle.h3_field.specs.StringLiteral.{Text, bit_h, text_bytes, string_literal}
use Rattle.h3_field.specs.Instruction.{EncoderInstruction, encoder_bytes, DecoderInstruction, decoder_bytes}
use Rattle.h3_field.specs.Instruction.EncoderInstruction.{SetCapacity, InsertWithStaticName, InsertWithEntryName, InsertLiteral, Duplicate}
use Rattle.h3_field.specs.Instruction.DecoderInstruction.{Acknowledge, CancelStream, Increment}
use Rattle.h3_coding.specs.Encodings.{encoding}
use Rattle.h3_connection.specs.Endpoint.{goaway_encoding, first_decoder}
use Rattle.h3_proto.specs.declared.stream.Side.{Side}
use Rattle.h3_connection.specs.OwnIds.{other}
use Rattle.h3_connection.specs.PeerReading.{Peer}
use Rattle.h3_connection.specs.Unidirectional.{Unidirectional}
use Rattle.h3_world.specs.Setup.{Setup, announced_at}
use Rattle.h3_world.specs.OwnStreams.{settings_bytes}
use Rattle.h3_qpack.specs.DecoderState.{decoder_after_all}
use Rattle.h3_connection.specs.Listeners.{Decoding}
use Rattle.h3_headline.specs.Parts.{HaveBytes}
use Rattle.h3_headline.specs.Standing.{HasControl, HasDecoderStream, HasEncoderStream, are_settings_there, replies_unread}
use Rattle.h3_headline.specs.UnitLaws.{front_same, rest_same, taken_same}

some_prefixed : (size flags n : ℕ) → 0 < length (prefixed size flags n)
some_prefixed size flags n = grind (arith, common_steps)

behind : (xs ys : List ℕ) → 0 < length xs → 0 < length (xs ++ ys)
behind xs ys h = omega (arith, h, length-append xs ys)

some_string : (size flags : ℕ) (text : Text) → 0 < length (string_literal size flags text)
some_string size flags text =
    behind (prefixed (size - 1) (2 * flags + bit_h text.is_huffman) (length (text_bytes text))) (text_bytes text)
    (some_prefixed (size - 1) (2 * flags + bit_h text.is_huffman) (length (text_bytes text)))

some_encoder : (i : EncoderInstruction) → 0 < length (encoder_bytes i)
some_encoder (SetCapacity capacity) = some_prefixed 5 1 capacity
some_encoder (InsertWithStaticName index value) = behind (prefixed 6 3 index) (string_literal 8 0 value) (some_prefixed 6 3 index)
some_encoder (InsertWithEntryName index value) = behind (prefixed 6 2 index) (string_literal 8 0 value) (some_prefixed 6 2 index)
some_encoder (InsertLiteral name value) = behind (string_literal 6 1 name) (string_literal 8 0 value) (some_string 6 1 name)
some_encoder (Duplicate index) = some_prefixed 5 0 index

some_decoder : (i : DecoderInstruction) → 0 < length (decoder_bytes i)
some_decoder (Acknowledge stream) = some_prefixed 7 1 stream
some_decoder (CancelStream stream) = some_prefixed 6 1 stream
some_decoder (Increment count) = some_prefixed 6 0 count

-- the types of streams and of GOAWAY frames are single bytes
pub type_of_encoder : encoding 2 ≡ 2 ∷ []
unfolding encoding
type_of_encoder = refl

pub type_of_decoder : encoding 3 ≡ 3 ∷ []
unfolding encoding
type_of_decoder = refl

pub type_of_control : encoding 0 ≡ 0 ∷ []
unfolding encoding
type_of_control = refl

type_of_goaway : encoding 7 ≡ 7 ∷ []
unfolding encoding
type_of_goaway = refl

some_goaway : (id : ℕ) → 0 < length (goaway_encoding id)
some_goaway id =
    let size = encoding (length (encoding id)) in
    omega (arith, ap length type_of_goaway, length-append (encoding 7) size, length-append (encoding 7 ++ size) (encoding id))

pub encoder_bytes_some : HaveBytes encoder_bytes
encoder_bytes_some = record { some = some_encoder }

pub decoder_bytes_some : HaveBytes decoder_bytes
decoder_bytes_some = record { some = some_decoder }

pub goaways_some : HaveBytes goaway_encoding
goaways_some = record { some = some_goaway }

-- how much came behind what a stream begins with
pub behind_start : (came : ℕ) (start more : List ℕ) → came ≤ length (start ++ more) → came - length start ≤ length more
behind_start came start more h = omega (arith, h, length-append start more)

pub behind_encoder_type : (came : ℕ) (is : List EncoderInstruction) → came ≤ length (encoding 2 ++ flat_map encoder_bytes is) → came - 1 ≤ length (flat_map encoder_bytes is)
behind_encoder_type came is h = omega (arith, ap length type_of_encoder, behind_start came (encoding 2) (flat_map encoder_bytes is) h)

pub behind_decoder_type : (came : ℕ) (is : List DecoderInstruction) → came ≤ length (encoding 3 ++ flat_map decoder_bytes is) → came - 1 ≤ length (flat_map decoder_bytes is)
behind_decoder_type came is h = omega (arith, ap length type_of_decoder, behind_start came (encoding 3) (flat_map decoder_bytes is) h)

-- GOAWAY frames
pub control_more : (setup : Setup) (side : Side) (came : ℕ) (goaways more : List ℕ) (stream : Option Unidirectional) (on : Option ℕ) (peer : Peer)
    → came ≤ length (settings_bytes (announced_at setup (other side)) ++ flat_map goaway_encoding goaways) → HasControl setup side came goaways stream on peer → HasControl setup side came (goaways ++ more) stream on peer
control_more setup side came goaways more stream on peer within h =
    let start = settings_bytes (announced_at setup (other side)) in
    let n = came - length start in
    let fits = behind_start came start (flat_map goaway_encoding goaways) within in
    record {
      stream_is = h.stream_is;
      is_on = h.is_on;
      settings = h.settings;
      goaways_are = h.goaways_are ∙ sym (taken_same goaway_encoding goaways_some n goaways more fits);
      most_pushes = h.most_pushes;
      updates = h.updates;
      others = h.others;
      unread = h.unread ∙ sym (ap (λ l. if are_settings_there setup (other side) came then l else drop 1 (take came start)) (rest_same goaway_encoding goaways_some n goaways more fits));
    }

-- encoder instructions
pub encoder_stream_more : (setup : Setup) (side : Side) (came : ℕ) (is more : List EncoderInstruction) (stream : Option Unidirectional) (on : Option ℕ) (decoding : Decoding)
    → came ≤ length (encoding 2 ++ flat_map encoder_bytes is) → HasEncoderStream setup side came is stream on decoding → HasEncoderStream setup side came (is ++ more) stream on decoding
encoder_stream_more setup side came is more stream on decoding within h =
    let fits = behind_encoder_type came is within in
    record {
      stream_is = h.stream_is;
      is_on = h.is_on;
      decoder = ap (λ l. decoder_after_all (Some (first_decoder (announced_at setup side))) l) (taken_same encoder_bytes encoder_bytes_some (came - 1) is more fits) ∙ h.decoder;
      unread = h.unread ∙ sym (rest_same encoder_bytes encoder_bytes_some (came - 1) is more fits);
    }

unread_same : (knows : Bool) (came : ℕ) (is more : List DecoderInstruction) → came - 1 ≤ length (flat_map decoder_bytes is) → replies_unread knows came (is ++ more) ≡ replies_unread knows came is
unread_same true came is more fits = rest_same decoder_bytes decoder_bytes_some (came - 1) is more fits
unread_same false came is more fits = front_same decoder_bytes (came - 1) is more fits

-- decoder instructions
pub decoder_stream_more : (side : Side) (knows : Bool) (came : ℕ) (is more : List DecoderInstruction) (stream : Option Unidirectional) (on : Option ℕ) (unread : List ℕ)
    → came ≤ length (encoding 3 ++ flat_map decoder_bytes is) → HasDecoderStream side knows came is stream on unread → HasDecoderStream side knows came (is ++ more) stream on unread
decoder_stream_more side knows came is more stream on unread within h =
    record { stream_is = h.stream_is; is_on = h.is_on; left = h.left ∙ sym (unread_same knows came is more (behind_decoder_type came is within)) }
