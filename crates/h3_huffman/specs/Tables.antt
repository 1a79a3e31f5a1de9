-- What the tables of the code have to say, as tests that a check computes over the whole table.
use Rattle.std.specs.Prelude.{◌≡◌, ◌≤◌, ℕ, zero, suc, ◌+◌, ◌*◌, ◌-◌, ◌/◌, ◌%◌, ◌^◌, ◌==◌, nat_lt, nat_le, bytes_eq, Bool, true, not, ◌&&◌, List, [], ◌∷◌, ◌++◌, length, slice_index, flat_map, take, replicate}
use Rattle.std.specs.List.{list_all}
use Rattle.h3_huffman.specs.Huffman.{bits, code_word}
use Rattle.h3_huffman.specs.Writing.{IsHighWord}
use Rattle.h3_huffman.specs.Tree.{Tree, walk, is_leaf_of, is_leaf}

-- p holds of count numbers from the first on
abbrev pub all_from : (ℕ → Bool) → ℕ → ℕ → Bool
all_from p first zero = true
all_from p first (suc count) = p first && all_from p (first + 1) count

-- the test of a table's entries, of which the first has that index
abbrev pub all_entries : (ℕ → ℕ → Bool) → ℕ → List ℕ → Bool
all_entries p index [] = true
all_entries p index (x ∷ xs) = p index x && all_entries p (index + 1) xs

-- every symbol stands in the tree where its word leads
abbrev pub is_tree : Tree → Bool
is_tree t = all_from (λ symbol. is_leaf_of symbol (walk t (code_word symbol))) 0 257

-- An entry of the decoder's table holds one or two symbols, the length of the first one's word, the length of all
-- words, and the number of symbols: eight bits each of the symbols, four of the lengths, the rest the number.
abbrev pub entry_count : ℕ → ℕ
entry_count e = e / 2 ^ 24

abbrev pub entry_first_length : ℕ → ℕ
entry_first_length e = e / 2 ^ 20 % 16

abbrev pub entry_length : ℕ → ℕ
entry_length e = e / 2 ^ 16 % 16

abbrev pub entry_first : ℕ → ℕ
entry_first e = e % 256

abbrev pub entry_second : ℕ → ℕ
entry_second e = e / 256 % 256

abbrev pub entry_symbols : ℕ → List ℕ
entry_symbols e = take (entry_count e) (entry_first e ∷ entry_second e ∷ [])

-- the symbols' words are the front of the index's twelve bits
abbrev pub is_entry : ℕ → ℕ → Bool
is_entry index e =
    bytes_eq (bits 12 index) (flat_map code_word (entry_symbols e) ++ bits (12 - entry_length e) index)
    && bytes_eq (bits 12 index) (code_word (entry_first e) ++ bits (12 - entry_first_length e) index)
    && nat_le 1 (entry_count e) && nat_le (entry_count e) 2
    && nat_le (5 * entry_count e) (entry_length e) && nat_le (entry_length e) 12
    && nat_le 5 (entry_first_length e) && nat_le (entry_first_length e) 12

-- Words of more than twelve bits, a row for each length: where they begin and the next ones do, as words of thirty
-- bits, their length, and the place of the first one's symbol.
abbrev pub row_count : ℕ → ℕ → ℕ → ℕ
row_count low high len = (high - low) / 2 ^ (30 - len)

abbrev pub is_long_word : List ℕ → ℕ → ℕ → ℕ → ℕ → Bool
is_long_word symbols low len offset place =
    nat_le (slice_index symbols (offset + place)) 256
    && bytes_eq (bits len (low / 2 ^ (30 - len) + place)) (code_word (slice_index symbols (offset + place)))

abbrev pub is_row : List ℕ → ℕ → ℕ → ℕ → ℕ → Bool
is_row symbols low high len offset =
    nat_le 13 len && nat_le len 30
    && (low == low / 2 ^ (30 - len) * 2 ^ (30 - len)) && (high == low + row_count low high len * 2 ^ (30 - len))
    && nat_le (offset + row_count low high len) (length symbols)
    && all_from (is_long_word symbols low len offset) 0 (row_count low high len)

abbrev pub are_rows : List ℕ → List ℕ → List ℕ → List ℕ → Bool
are_rows symbols limits lengths offsets =
    all_from (λ r. is_row symbols (slice_index limits r) (slice_index limits (r + 1)) (slice_index lengths r) (slice_index offsets r)) 0 14

-- what the test of an entry says
pub record IsEntry (index e : ℕ) : Type 0 where
  pub words : bits 12 index ≡ flat_map code_word (entry_symbols e) ++ bits (12 - entry_length e) index
  pub word : bits 12 index ≡ code_word (entry_first e) ++ bits (12 - entry_first_length e) index
  pub some : 1 ≤ entry_count e
  pub few : entry_count e ≤ 2
  pub spare : 5 * entry_count e ≤ entry_length e
  pub most : entry_length e ≤ 12
  pub first_least : 5 ≤ entry_first_length e
  pub first_most : entry_first_length e ≤ 12

abbrev pub is_bit : ℕ → Bool
is_bit bit = nat_lt bit 2

-- the words are bits, and fewer than eight ones are no word
abbrev pub are_words : Tree → Bool
are_words t =
    all_from (λ symbol. list_all is_bit (code_word symbol)) 0 257
    && all_from (λ count. not (is_leaf (walk t (replicate count 1)))) 0 8

-- the word of a number that stands at the high end of 64 bits
abbrev pub low_word : ℕ → ℕ → ℕ
low_word byte number = number / 2 ^ (64 - length (code_word byte))

abbrev pub is_high_word : ℕ → ℕ → Bool
is_high_word byte number =
    bytes_eq (bits (length (code_word byte)) (low_word byte number)) (code_word byte)
    && nat_lt (low_word byte number) (2 ^ length (code_word byte))
    && (number == low_word byte number * 2 ^ (64 - length (code_word byte)))

-- a byte's word, in the encoder's tables
abbrev pub is_word : List ℕ → List ℕ → ℕ → Bool
is_word words lengths byte =
    (slice_index lengths byte == length (code_word byte)) && nat_le 5 (slice_index lengths byte) && nat_le (slice_index lengths byte) 30 && is_high_word byte (slice_index words byte)

-- what the test says
pub record IsWord (byte number size : ℕ) : Type 0 where
  pub len : size ≡ length (code_word byte)
  pub least : 5 ≤ size
  pub most : size ≤ 30
  pub word : IsHighWord byte number
