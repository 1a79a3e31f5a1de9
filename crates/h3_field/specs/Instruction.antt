-- What an encoder tells a decoder on its stream, and the reverse, and how each instruction is written (RFC 9204,
-- sections 4.3 and 4.4).
use Rattle.std.specs.Prelude.{ℕ, List, ◌++◌}
use Rattle.h3_field.specs.Integer.{prefixed}
use Rattle.h3_field.specs.StringLiteral.{Text, huffman_text, string_literal}

pub data EncoderInstruction : Type 0 where
  -- set dynamic table capacity (4.3.1): | 0 | 0 | 1 | capacity (5+) |
  SetCapacity : (capacity : ℕ) → EncoderInstruction
  -- insert with name reference (4.3.2): | 1 | T | name index (6+) | H | value length (7+) | value |, where T is 1 for the static table
  InsertWithStaticName : (index : ℕ) (value : Text) → EncoderInstruction
  InsertWithEntryName : (index : ℕ) (value : Text) → EncoderInstruction
  -- insert with literal name (4.3.3): | 0 | 1 | H | name length (5+) | name | H | value length (7+) | value |
  InsertLiteral : (name value : Text) → EncoderInstruction
  -- duplicate (4.3.4): | 0 | 0 | 0 | index (5+) |
  Duplicate : (index : ℕ) → EncoderInstruction

-- RFC 9204 4.3: encoder instructions as bytes
abbrev pub encoder_bytes : EncoderInstruction → List ℕ
encoder_bytes (SetCapacity capacity) = prefixed 5 1 capacity
encoder_bytes (InsertWithStaticName index value) = prefixed 6 3 index ++ string_literal 8 0 value
encoder_bytes (InsertWithEntryName index value) = prefixed 6 2 index ++ string_literal 8 0 value
encoder_bytes (InsertLiteral name value) = string_literal 6 1 name ++ string_literal 8 0 value
encoder_bytes (Duplicate index) = prefixed 5 0 index

-- the same with its strings Huffman coded
abbrev pub huffman_instruction : EncoderInstruction → EncoderInstruction
huffman_instruction (SetCapacity capacity) = SetCapacity capacity
huffman_instruction (InsertWithStaticName index value) = InsertWithStaticName index (huffman_text value.bytes)
huffman_instruction (InsertWithEntryName index value) = InsertWithEntryName index (huffman_text value.bytes)
huffman_instruction (InsertLiteral name value) = InsertLiteral (huffman_text name.bytes) (huffman_text value.bytes)
huffman_instruction (Duplicate index) = Duplicate index

pub data DecoderInstruction : Type 0 where
  -- section acknowledgment (4.4.1): | 1 | stream id (7+) |
  Acknowledge : (stream : ℕ) → DecoderInstruction
  -- stream cancellation (4.4.2): | 0 | 1 | stream id (6+) |
  CancelStream : (stream : ℕ) → DecoderInstruction
  -- insert count increment (4.4.3): | 0 | 0 | increment (6+) |
  Increment : (count : ℕ) → DecoderInstruction

abbrev pub decoder_bytes : DecoderInstruction → List ℕ
decoder_bytes (Acknowledge stream) = prefixed 7 1 stream
decoder_bytes (CancelStream stream) = prefixed 6 1 stream
decoder_bytes (Increment count) = prefixed 6 0 count
