-- What an encoder keeps serves for the list of all insertions.
use Rattle.std.proofs.Common.{◌≡◌, ℕ, suc, ◌+◌, ◌-◌, ◌<◌, ◌≤◌, Bool, true, false, List, [], ◌∷◌, ◌++◌, length, take, drop, refl, sym, ◌∙◌, ap, arith, length-append, Option, Some, None, nat_le, if◌then◌else◌}
use Rattle.std.proofs.lemmas.Grind.{common_steps}
use Rattle.std.proofs.lemmas.List.{take-append-drop, length-take-le}
use Rattle.h3_field.specs.Field.{Field, field_size, section_size}
use Rattle.h3_table.specs.Table.{table, evictions, newest, newest_from, or_else}
use Rattle.h3_table.specs.TableState.{TableState, in_range, newest_in, with_entry}
use Rattle.h3_table.specs.TableLaws.{length-table, table-one}
use Rattle.h3_qpack.proofs.Newest.{newest_from-none}

-- the table of all these insertions, as it is held
abbrev pub table_state_of : ℕ → List Field → TableState
table_state_of capacity inserted = record { capacity = capacity; entries = table capacity inserted; inserted = length inserted }

-- what is there is an end of the insertions
pub table-end : (capacity : ℕ) (fs : List Field) → table capacity fs ≡ drop (evictions capacity fs) fs
table-end capacity [] = refl
table-end capacity (f ∷ fs) = by_test (nat_le (section_size (f ∷ fs)) capacity) refl (table-end capacity fs)
  where
    by_test : (b : Bool) → nat_le (section_size (f ∷ fs)) capacity ≡ b → table capacity fs ≡ drop (evictions capacity fs) fs
        → (if b then f ∷ fs else table capacity fs) ≡ drop (length (f ∷ fs) - length (if b then f ∷ fs else table capacity fs)) (f ∷ fs)
    by_test true e h = let none : length (f ∷ fs) - length (f ∷ fs) ≡ 0 = omega arith in rw none refl
    by_test false e h =
        let one : length (f ∷ fs) - length (table capacity fs) ≡ suc (evictions capacity fs) = omega (arith, length-table capacity fs) in
        rw one h

-- a smaller table of a table is a table of all
pub table-table : (small large : ℕ) (fs : List Field) → small ≤ large → table small (table large fs) ≡ table small fs
table-table small large [] le = refl
table-table small large (f ∷ fs) le = by_test (nat_le (section_size (f ∷ fs)) large) refl (table-table small large fs le)
  where
    by_test : (b : Bool) → nat_le (section_size (f ∷ fs)) large ≡ b → table small (table large fs) ≡ table small fs
        → table small (if b then f ∷ fs else table large fs) ≡ table small (f ∷ fs)
    by_test true e h = refl
    by_test false e h = let far : nat_le (section_size (f ∷ fs)) small ≡ false = grind (arith, common_steps) in rw far h

-- a further insertion, held
pub with_entry-held : (capacity : ℕ) (fs : List Field) (f : Field) → field_size f ≤ capacity → with_entry (table_state_of capacity fs) f ≡ table_state_of capacity (fs ++ f ∷ [])
with_entry-held capacity fs f fits =
    let entries : table capacity (table capacity fs ++ f ∷ []) ≡ table capacity (fs ++ f ∷ []) =
    table-one capacity (table capacity fs) f fits
    ∙ ap (λ es. es ++ f ∷ []) (table-table (capacity - field_size f) capacity fs (omega arith))
    ∙ sym (table-one capacity fs f fits) in
    let count : length fs + 1 ≡ length (fs ++ f ∷ []) = omega (arith, length-append fs (f ∷ [])) in
    rw (entries, count) refl

-- a search in two parts
newest_from-append : (test : ℕ → Field → Bool) (first : ℕ) (fs gs : List Field) → newest_from test first (fs ++ gs) ≡ or_else (newest_from test (first + length fs) gs) (newest_from test first fs)
newest_from-append test first [] gs = let same : first + 0 ≡ first = omega arith in rw same (last (newest_from test first gs))
  where
    last : (o : Option ℕ) → o ≡ or_else o None
    last None = refl
    last (Some n) = refl
newest_from-append test first (f ∷ fs) gs =
    let same : first + 1 + length fs ≡ first + suc (length fs) = omega arith in
    ap (λ o. or_else o (if test first f then Some first else None)) (newest_from-append test (first + 1) fs gs)
    ∙ ap (λ n. or_else (or_else (newest_from test n gs) (newest_from test (first + 1) fs)) (if test first f then Some first else None)) same
    ∙ choice (newest_from test (first + suc (length fs)) gs) (newest_from test (first + 1) fs) (if test first f then Some first else None)
  where
    choice : (a b c : Option ℕ) → or_else (or_else a b) c ≡ or_else a (or_else b c)
    choice None b c = refl
    choice (Some x) b c = refl

-- two tests that agree on the numbers of the list
pub newest_from-same : (test other : ℕ → Field → Bool) (first : ℕ) (fs : List Field) → ((n : ℕ) (e : Field) → first ≤ n → n < first + length fs → test n e ≡ other n e)
    → newest_from test first fs ≡ newest_from other first fs
newest_from-same test other first [] same = refl
newest_from-same test other first (f ∷ fs) same =
    rw (newest_from-same test other (first + 1) fs (λ n e low high. same n e (omega (arith, low)) (omega (arith, high))), same first f (omega arith) (omega arith)) refl

-- A search of what is held finds what a search of all insertions finds, where it wants an entry that is there.
pub search_held : (capacity : ℕ) (fs : List Field) (test : Field → Bool) (above most : ℕ) (whole : ℕ → Field → Bool)
    → ((n : ℕ) (e : Field) → n ≤ evictions capacity fs → whole n e ≡ false)
    → ((n : ℕ) (e : Field) → evictions capacity fs < n → n ≤ length fs → in_range test above most n e ≡ whole n e)
    → newest_in (table_state_of capacity fs) test above most ≡ newest whole fs
search_held capacity fs test above most whole evicted_none same =
    let g = evictions capacity fs in
    let len : length (table capacity fs) ≡ length fs - g = omega (arith, length-table capacity fs) in
    let front : length (take g fs) ≡ g = length-take-le g fs (omega arith) in
    let split : newest whole fs ≡ or_else (newest_from whole (1 + length (take g fs)) (drop g fs)) (newest_from whole 1 (take g fs)) =
    ap (newest whole) (sym (take-append-drop g fs)) ∙ newest_from-append whole 1 (take g fs) (drop g fs) in
    let none : newest_from whole 1 (take g fs) ≡ None = newest_from-none whole 1 (take g fs) (λ n e lt. evicted_none n e (omega (arith, lt, front))) in
    let first : 1 + length (take g fs) ≡ g + 1 = omega (arith, front) in
    newest_from-same (in_range test above most) whole (g + 1) (table capacity fs) (λ n e low high. same n e (omega (arith, low)) (omega (arith, high, len, length-table capacity fs)))
    ∙ ap (newest_from whole (g + 1)) (table-end capacity fs)
    ∙ sym (split ∙ ap (λ o. or_else (newest_from whole (1 + length (take g fs)) (drop g fs)) o) none
    ∙ or_none (newest_from whole (1 + length (take g fs)) (drop g fs))
    ∙ ap (λ n. newest_from whole n (drop g fs)) first)
  where
    or_none : (o : Option ℕ) → or_else o None ≡ o
    or_none None = refl
    or_none (Some n) = refl
