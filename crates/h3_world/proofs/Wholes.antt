-- What came of a stream stays as it came when more is written.
use Rattle.std.proofs.Common.{◌≡◌, ℕ, ◌+◌, ◌*◌, ◌-◌, ◌<◌, ◌≤◌, false, List, [], ◌∷◌, ◌++◌, length, take, refl, ap, ◌∙◌, arith, nat_le, if◌then◌else◌, length-append}
use Rattle.std.specs.List.{flat_map, count_by}
use Rattle.std.proofs.lemmas.Grind.{common_steps}
use Rattle.std.proofs.lemmas.List.{take-append-le}
use Rattle.h3_coding.specs.Encodings.{encoding}
use Rattle.h3_field.specs.Integer.{prefixed}
use Rattle.h3_field.specs.StringLiteral.{Text, bit_h, text_bytes, string_literal}
use Rattle.h3_field.specs.Instruction.{EncoderInstruction, encoder_bytes, DecoderInstruction, decoder_bytes}
use Rattle.h3_field.specs.Instruction.EncoderInstruction.{SetCapacity, InsertWithStaticName, InsertWithEntryName, InsertLiteral, Duplicate}
use Rattle.h3_field.specs.Instruction.DecoderInstruction.{Acknowledge, CancelStream, Increment}
use Rattle.h3_qpack.specs.WholeInstructions.{whole_in, insertions_in, is_insertion, decoder_instructions_in}
use Rattle.h3_world.specs.World.{Party}
use Rattle.h3_world.specs.OwnStreams.{encoder_stream, decoder_stream}

pub whole_within : {X : Type 0} (bytes_of : X → List ℕ) (count : ℕ) (xs : List X) → whole_in bytes_of count xs ≤ length xs
whole_within bytes_of count [] = omega arith
whole_within bytes_of count (x ∷ xs) = grind (arith, common_steps, whole_within bytes_of (count - length (bytes_of x)) xs)

short : (a b : ℕ) → 0 < a → b ≤ 0 → nat_le a b ≡ false
short a b h k = grind (arith, common_steps, h, k)

-- no more are whole where no more bytes came than there were
pub whole_same : {X : Type 0} (bytes_of : X → List ℕ) (some : (x : X) → 0 < length (bytes_of x)) (count : ℕ) (xs ys : List X) → count ≤ length (flat_map bytes_of xs)
    → whole_in bytes_of count (xs ++ ys) ≡ whole_in bytes_of count xs
whole_same bytes_of some count [] [] h = refl
whole_same bytes_of some count [] (y ∷ ys) h =
    ap (λ b. if b then whole_in bytes_of (count - length (bytes_of y)) ys + 1 else 0) (short (length (bytes_of y)) count (some y) h)
whole_same bytes_of some count (x ∷ xs) ys h =
    let fits : count - length (bytes_of x) ≤ length (flat_map bytes_of xs) = omega (arith, h, length-append (bytes_of x) (flat_map bytes_of xs)) in
    ap (λ n. if nat_le (length (bytes_of x)) count then n + 1 else 0) (whole_same bytes_of some (count - length (bytes_of x)) xs ys fits)

pub taken_same : {X : Type 0} (bytes_of : X → List ℕ) (some : (x : X) → 0 < length (bytes_of x)) (count : ℕ) (xs ys : List X) → count ≤ length (flat_map bytes_of xs)
    → take (whole_in bytes_of count (xs ++ ys)) (xs ++ ys) ≡ take (whole_in bytes_of count xs) xs
taken_same bytes_of some count xs ys h =
    ap (λ n. take n (xs ++ ys)) (whole_same bytes_of some count xs ys h) ∙ take-append-le (whole_in bytes_of count xs) xs ys (whole_within bytes_of count xs)

some_prefixed : (size flags n : ℕ) → 0 < length (prefixed size flags n)
some_prefixed size flags n = grind (arith, common_steps)

behind : (xs ys : List ℕ) → 0 < length xs → 0 < length (xs ++ ys)
behind xs ys h = omega (arith, h, length-append xs ys)

some_string : (size flags : ℕ) (text : Text) → 0 < length (string_literal size flags text)
some_string size flags text =
    behind (prefixed (size - 1) (2 * flags + bit_h text.is_huffman) (length (text_bytes text))) (text_bytes text)
    (some_prefixed (size - 1) (2 * flags + bit_h text.is_huffman) (length (text_bytes text)))

pub encoder_some : (i : EncoderInstruction) → 0 < length (encoder_bytes i)
encoder_some (SetCapacity capacity) = some_prefixed 5 1 capacity
encoder_some (InsertWithStaticName index value) = behind (prefixed 6 3 index) (string_literal 8 0 value) (some_prefixed 6 3 index)
encoder_some (InsertWithEntryName index value) = behind (prefixed 6 2 index) (string_literal 8 0 value) (some_prefixed 6 2 index)
encoder_some (InsertLiteral name value) = behind (string_literal 6 1 name) (string_literal 8 0 value) (some_string 6 1 name)
encoder_some (Duplicate index) = some_prefixed 5 0 index

pub decoder_some : (i : DecoderInstruction) → 0 < length (decoder_bytes i)
decoder_some (Acknowledge stream) = some_prefixed 7 1 stream
decoder_some (CancelStream stream) = some_prefixed 6 1 stream
decoder_some (Increment count) = some_prefixed 6 0 count

pub one_byte : length (encoding 2) ≡ 1
unfolding encoding
one_byte = refl

one_byte_more : length (encoding 3) ≡ 1
unfolding encoding
one_byte_more = refl

-- how much of a stream came behind its type
pub came_of_encoder : (p : Party) → p.own.encoder_taken ≤ length (encoder_stream p) → p.own.encoder_taken - 1 ≤ length (flat_map encoder_bytes p.own.instructions)
came_of_encoder p h = omega (arith, h, one_byte, length-append (encoding 2) (flat_map encoder_bytes p.own.instructions))

pub came_of_decoder : (p : Party) → p.own.decoder_taken ≤ length (decoder_stream p) → p.own.decoder_taken - 1 ≤ length (flat_map decoder_bytes p.own.replies)
came_of_decoder p h = omega (arith, h, one_byte_more, length-append (encoding 3) (flat_map decoder_bytes p.own.replies))

-- the insertions that came, and the replies that were read, are the same when more is written
pub insertions_same : (p : Party) (more : List EncoderInstruction) → p.own.encoder_taken ≤ length (encoder_stream p)
    → insertions_in (p.own.encoder_taken - 1) (p.own.instructions ++ more) ≡ insertions_in (p.own.encoder_taken - 1) p.own.instructions
insertions_same p more h = ap (count_by is_insertion) (taken_same encoder_bytes encoder_some (p.own.encoder_taken - 1) p.own.instructions more (came_of_encoder p h))

pub replies_same : (p : Party) (more : List DecoderInstruction) → p.own.decoder_taken ≤ length (decoder_stream p)
    → decoder_instructions_in (p.own.decoder_taken - 1) (p.own.replies ++ more) ≡ decoder_instructions_in (p.own.decoder_taken - 1) p.own.replies
replies_same p more h = taken_same decoder_bytes decoder_some (p.own.decoder_taken - 1) p.own.replies more (came_of_decoder p h)
