-- Words in a row.
use Rattle.std.proofs.Common.{◌≡◌, ◌≢◌, ◌<◌, ◌≤◌, ℕ, ◌/◌, ◌%◌, Bool, true, false, List, length, cond, refl, ◌∙◌, ap, arith, get_or, set, bit_or, nat_lt}
use Rattle.std.specs.Prelude.{◌==◌}
use Rattle.std.proofs.lemmas.Grind.{common_steps}
use Rattle.std.proofs.lemmas.List.{get_or-set_same, get_or-set_other}
use Rattle.std.proofs.lemmas.Nat.{le_or_l}
use Rattle.std.proofs.Math.ListN.{get_or-eq_default}
use Rattle.h3_table.specs.Words.{row_word, word_or, IsOneWord}

-- a word that is there has its place in the row
in_row : (row : List ℕ) (number : ℕ) → row_word row number ≢ 0 → (number % 4 ≡ 0) × (number / 4 < length row)
in_row row number some = by_tests (number % 4 == 0) (nat_lt (number / 4) (length row)) refl refl some
  where
    by_tests : (a b : Bool) → (number % 4 == 0) ≡ a → nat_lt (number / 4) (length row) ≡ b → cond a (get_or row (number / 4) 0) 0 ≢ 0 → (number % 4 ≡ 0) × (number / 4 < length row)
    by_tests true true e within h = (grind (arith, common_steps), grind (arith, common_steps))
    by_tests true false e past h = let far : length row ≤ number / 4 = grind (arith, common_steps) in absurd (h (get_or-eq_default row 0 far))
    by_tests false b e past h = absurd (h refl)

-- A word of the row was written.
written : (row : List ℕ) (further : ℕ → ℕ) (number word : ℕ) → number % 4 ≡ 0 → number / 4 < length row → word ≢ 0
    → IsOneWord number word (λ n. word_or (row_word row n) (further n)) (λ n. word_or (row_word (set row (number / 4) word) n) (further n))
written row further number word of_row within some =
    record {
      own = ap (λ w. word_or w (further number)) is ∙ there;
      others = λ other ne. ap (λ w. word_or w (further other)) (by_test other ne (other % 4 == 0) refl);
    }
  where
    is : row_word (set row (number / 4) word) number ≡ word
    is = rw of_row (get_or-set_same row (number / 4) word 0 within)

    there : word_or word (further number) ≡ word
    there = let no : (word == 0) ≡ false = grind (arith, common_steps) in rw no refl

    by_test : (other : ℕ) → other ≢ number → (b : Bool) → (other % 4 == 0) ≡ b → cond b (get_or (set row (number / 4) word) (other / 4) 0) 0 ≡ cond b (get_or row (other / 4) 0) 0
    by_test other ne true e =
        let far : other / 4 ≢ number / 4 = λ same. (let zero : other % 4 ≡ 0 = grind (arith, common_steps) in ne (omega (arith, zero, of_row, same))) in
        get_or-set_other row (number / 4) (other / 4) word 0 far
    by_test other ne false e = refl

-- Bits were added to a word of the row.
pub added : (row : List ℕ) (further : ℕ → ℕ) (number word bits : ℕ) → word ≡ row_word row number → word ≢ 0
    → IsOneWord number (bit_or (word_or (row_word row number) (further number)) bits) (λ n. word_or (row_word row n) (further n)) (λ n. word_or (row_word (set row (number / 4) (bit_or word bits)) n) (further n))
added row further number word bits is some =
    let no : (row_word row number == 0) ≡ false = grind (arith, common_steps, is, some) in
    let was : word_or (row_word row number) (further number) ≡ word = rw (no, ← is) refl in
    let place = in_row row number (λ z. some (is ∙ z)) in
    rw was (written row further number (bit_or word bits) place.0 place.1 (λ z. omega (arith, z, le_or_l word bits, some)))
