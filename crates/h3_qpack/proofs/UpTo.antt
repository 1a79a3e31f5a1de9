-- What lines find in a table up to a number: what they find in the whole table, if they name no entry above it.
use Rattle.std.proofs.Common.{◌≡◌, ℕ, zero, suc, ◌-◌, ◌<◌, ◌≤◌, Bool, true, false, if◌then◌else◌, List, [], ◌∷◌, length, take, min, Option, Some, None, refl, sym, ◌∙◌, ap, arith, nat_lt, slice_get, inl, inr}
use Rattle.std.specs.List.{AllByRecursion}
use Rattle.std.proofs.lemmas.Bool.{cases_lt, lt-ltb, le-ltb}
use Rattle.std.proofs.lemmas.List.{length-take}
use Rattle.std.proofs.lemmas.Option.{slice_get_past}
use Rattle.h3_field.specs.Field.{Field}
use Rattle.h3_field.specs.Line.{FieldLine}
use Rattle.h3_table.specs.TableState.{TableState, evicted, entry_at}
use Rattle.h3_qpack.specs.DecoderState.{DecoderState}
use Rattle.h3_qpack.specs.NamedFields.{entry_number}
use Rattle.h3_qpack.specs.Meaning.{up_to, table_for, HaveFields}
use Rattle.h3_qpack.proofs.NamedFieldsOf.{lines_alike}

slice_get-front : {X : Type 0} (xs : List X) (n i : ℕ) → i < n → slice_get (take n xs) i ≡ slice_get xs i
slice_get-front [] zero i lt = refl
slice_get-front [] (suc n) i lt = refl
slice_get-front (x ∷ xs) zero i lt = absurd (omega (arith, lt))
slice_get-front (x ∷ xs) (suc n) zero lt = refl
slice_get-front (x ∷ xs) (suc n) (suc i) lt = slice_get-front xs n i (omega (arith, lt))

-- the entry behind so many that are gone
behind : List Field → ℕ → ℕ → Option Field
behind entries gone number = if nat_lt gone number then slice_get entries (number - gone - 1) else None

still_gone : (most : ℕ) (h : TableState) → length (take (most - evicted h) h.entries) ≡ min (most - evicted h) (length h.entries)
still_gone most h = length-take (most - evicted h) h.entries

-- an entry up to the number is as it was
pub entry_below : (most : ℕ) (h : TableState) (number : ℕ) → number ≤ most → entry_at (up_to most h) number ≡ entry_at h number
unfolding behind
entry_below most h number low = elim (cases_lt (evicted h) number) [
  | inl above ↦
      let gone : evicted (up_to most h) ≡ evicted h = omega (arith, still_gone most h, above, low) in
      ap (λ n. behind (take (most - evicted h) h.entries) n number) gone
      ∙ ap (λ b. if b then slice_get (take (most - evicted h) h.entries) (number - evicted h - 1) else None) (lt-ltb (evicted h) number above)
      ∙ slice_get-front h.entries (most - evicted h) (number - evicted h - 1) (omega (arith, above, low))
      ∙ ap (λ b. if b then slice_get h.entries (number - evicted h - 1) else None) (sym (lt-ltb (evicted h) number above))
  | inr gone ↦
      let more : number ≤ evicted (up_to most h) = omega (arith, still_gone most h, gone, low) in
      ap (λ b. if b then slice_get (take (most - evicted h) h.entries) (number - evicted (up_to most h) - 1) else None) (le-ltb (evicted (up_to most h)) number more)
      ∙ ap (λ b. if b then slice_get h.entries (number - evicted h - 1) else None) (sym (le-ltb (evicted h) number gone))
]

-- and above it there is none
pub entry_above : (most : ℕ) (h : TableState) (number : ℕ) → most < number → entry_at (up_to most h) number ≡ None
entry_above most h number high = by_test (nat_lt (evicted (up_to most h)) number)
  where
    past : slice_get (take (most - evicted h) h.entries) (number - evicted (up_to most h) - 1) ≡ None
    past = slice_get_past (take (most - evicted h) h.entries) (number - evicted (up_to most h) - 1) (omega (arith, still_gone most h, high))

    by_test : (b : Bool) → (if b then slice_get (take (most - evicted h) h.entries) (number - evicted (up_to most h) - 1) else None) ≡ None
    by_test true = past
    by_test false = refl

-- lines that name no entry above the number
pub lines_below : (most : ℕ) (h : TableState) (base : ℕ) (lines : List FieldLine) (fields : List Field) → AllByRecursion (λ line. entry_number base line ≤ most) lines → HaveFields h base lines fields → HaveFields (up_to most h) base lines fields
lines_below most h base lines fields low have =
    lines_alike (λ line. entry_number base line ≤ most) (entry_at h) (entry_at (up_to most h)) base base lines fields
    (λ line few f e. entry_below most h (entry_number base line) few ∙ e) low have

-- what such a table has the whole one has
pub lines_cut : (most : ℕ) (h : TableState) (base : ℕ) (lines : List FieldLine) (fields : List Field) → HaveFields (up_to most h) base lines fields → HaveFields h base lines fields
lines_cut most h base lines fields have =
    lines_alike (λ line. Unit {0}) (entry_at (up_to most h)) (entry_at h) base base lines fields (λ line any f e. there (entry_number base line) f e) (any_of lines) have
  where
    there : (n : ℕ) (f : Field) → entry_at (up_to most h) n ≡ Some f → entry_at h n ≡ Some f
    there n f e = elim (cases_lt most n) [
      | inl high ↦ let none = sym (entry_above most h n high) ∙ e in absurd (cc)
      | inr low ↦ sym (entry_below most h n low) ∙ e
    ]

    any_of : (lines : List FieldLine) → AllByRecursion (λ line. Unit {0}) lines
    any_of [] = tt
    any_of (line ∷ lines) = (tt, any_of lines)

-- lines that name no entry above the count, to any decoder
pub lines_counted : (r : DecoderState) (count base : ℕ) (lines : List FieldLine) (fields : List Field) → AllByRecursion (λ line. entry_number base line ≤ count) lines → HaveFields r.table base lines fields → HaveFields (table_for r count) base lines fields
lines_counted r count base lines fields low have = by_choice r.checks_count
  where
    by_choice : (b : Bool) → HaveFields (if b then up_to count r.table else r.table) base lines fields
    by_choice true = lines_below count r.table base lines fields low have
    by_choice false = have
