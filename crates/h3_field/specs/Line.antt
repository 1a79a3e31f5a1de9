-- Field lines, and how each is written (RFC 9204, sections 4.5.2 to 4.5.6).
use Rattle.std.specs.Prelude.{ℕ, ◌+◌, ◌*◌, Bool, true, false, List, ◌++◌}
use Rattle.h3_field.specs.Integer.{prefixed}
use Rattle.h3_field.specs.StringLiteral.{Text, huffman_text, string_literal}

pub data FieldLine : Type 0 where
  -- indexed field line (4.5.2): | 1 | T | index (6+) |, where T is 1 for the static table
  StaticField : (index : ℕ) → FieldLine
  RelativeField : (index : ℕ) → FieldLine
  -- indexed field line with post-base index (4.5.3): | 0 | 0 | 0 | 1 | index (4+) |
  PostBaseField : (index : ℕ) → FieldLine
  -- literal field line with name reference (4.5.4): | 0 | 1 | N | T | name index (4+) | H | value length (7+) | value |
  StaticName : (index : ℕ) (value : Text) (never_indexed : Bool) → FieldLine
  RelativeName : (index : ℕ) (value : Text) (never_indexed : Bool) → FieldLine
  -- literal field line with post-base name reference (4.5.5): | 0 | 0 | 0 | 0 | N | name index (3+) | H | value length (7+) | value |
  PostBaseName : (index : ℕ) (value : Text) (never_indexed : Bool) → FieldLine
  -- literal field line with literal name (4.5.6): | 0 | 0 | 1 | N | H | name length (3+) | name | H | value length (7+) | value |
  Literal : (name value : Text) (never_indexed : Bool) → FieldLine

-- the bit N
abbrev pub bit_n : Bool → ℕ
bit_n true = 1
bit_n false = 0

-- RFC 9204 4.5: field lines as bytes
abbrev pub line_bytes : FieldLine → List ℕ
line_bytes (StaticField index) = prefixed 6 3 index
line_bytes (RelativeField index) = prefixed 6 2 index
line_bytes (PostBaseField index) = prefixed 4 1 index
line_bytes (StaticName index value n) = prefixed 4 (5 + 2 * bit_n n) index ++ string_literal 8 0 value
line_bytes (RelativeName index value n) = prefixed 4 (4 + 2 * bit_n n) index ++ string_literal 8 0 value
line_bytes (PostBaseName index value n) = prefixed 3 (bit_n n) index ++ string_literal 8 0 value
line_bytes (Literal name value n) = string_literal 4 (2 + bit_n n) name ++ string_literal 8 0 value

-- the same with its strings Huffman coded
abbrev pub huffman_line : FieldLine → FieldLine
huffman_line (StaticField index) = StaticField index
huffman_line (RelativeField index) = RelativeField index
huffman_line (PostBaseField index) = PostBaseField index
huffman_line (StaticName index value n) = StaticName index (huffman_text value.bytes) n
huffman_line (RelativeName index value n) = RelativeName index (huffman_text value.bytes) n
huffman_line (PostBaseName index value n) = PostBaseName index (huffman_text value.bytes) n
huffman_line (Literal name value n) = Literal (huffman_text name.bytes) (huffman_text value.bytes) n
