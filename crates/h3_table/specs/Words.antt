-- Words of 64 bits by their numbers.
use Rattle.std.specs.Prelude.{◌≡◌, ◌≢◌, ℕ, ◌/◌, ◌%◌, List, ◌==◌, if◌then◌else◌, slice_index_or}
use Rattle.std.specs.Ordering.{nat_cmp}
use Rattle.std.specs.Option.{unwrap_or}
use Rattle.std.specs.BTreeMap.{is_at}
use Rattle.std.specs.Map.{lookup}
use Rattle.h3_table.specs.declared.words.Words.{Words}

-- a word of the row, in which the numbers are four apart, or 0
abbrev pub row_word : List ℕ → ℕ → ℕ
row_word row number = if number % 4 == 0 then slice_index_or row (number / 4) 0 else 0

-- a further word, or 0
abbrev pub further_word : List (ℕ × ℕ) → ℕ → ℕ
further_word further number = unwrap_or (lookup (is_at (nat_cmp number)) further) 0

-- a word, or the other one where it is 0
abbrev pub word_or : ℕ → ℕ → ℕ
word_or word other = if word == 0 then other else word

-- One that is not there is 0.
abbrev pub word_at : Words → ℕ → ℕ
word_at words number = word_or (row_word words.row.items number) (further_word words.further.entries number)

-- Each number has the same word.
abbrev pub HaveSameWords : (ℕ → ℕ) → (ℕ → ℕ) → Type 0
HaveSameWords before after = (number : ℕ) → after number ≡ before number

-- One number has this word, and the others have the same.
pub record IsOneWord (number word : ℕ) (before after : ℕ → ℕ) : Type 0 where
  pub own : after number ≡ word
  pub others : (other : ℕ) → other ≢ number → after other ≡ before other
