-- What an economical encoder keeps of the values that it wrote as literals: a mark of each of the last 32.
use Rattle.std.specs.Prelude.{ℕ, ◌+◌, ◌-◌, ◌*◌, ◌%◌, ◌^◌, Bool, List, ◌∷◌, length, take, drop, replicate, fold, ◌==◌}
use Rattle.std.specs.List.{list_any}

-- The mark of a value goes by its length and its last 16 bytes. Values that differ may have one mark.
abbrev pub value_mark : List ℕ → ℕ
value_mark value = fold (λ mark byte. (31 * mark + byte) % 2 ^ 32) (length value % 2 ^ 32) (drop (length value - 16) value)

-- before the first value: 0 is the mark of the empty one
abbrev pub no_marks : List ℕ
no_marks = replicate 32 0

-- the newest first
abbrev pub with_mark : List ℕ → List ℕ → List ℕ
with_mark marks value = value_mark value ∷ take 31 marks

abbrev pub is_marked : List ℕ → List ℕ → Bool
is_marked marks value = list_any (λ mark. mark == value_mark value) marks
