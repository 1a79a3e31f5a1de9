-- Where the first field is that passes a test.
use Rattle.std.proofs.Common.{◌≡◌, ℕ, ◌+◌, ◌<◌, ◌≤◌, Bool, true, false, List, [], length, Some, None, refl, sym, ap, ◌∙◌, arith, inl, inr}
use Rattle.std.proofs.Math.Nat.{eq-or-lt_of_le}
use Rattle.std.specs.Prelude.{slice_get, get_or}
use Rattle.std.specs.List.{position, position_or_len}
use Rattle.std.proofs.lemmas.Bool.{lt-ltb, le-ltb}
use Rattle.std.proofs.lemmas.List.Sums.{position_or_len_is}
use Rattle.std.proofs.lemmas.Option.{get_or_from_slice_get, slice_get_within}
use Rattle.h3_field.specs.Field.{Field, plain_field}

-- none of the first so many passes
abbrev pub NoneBefore : (Field → Bool) → List Field → ℕ → Type 0
NoneBefore test fields n = (k : ℕ) → k < n → test (get_or fields k (plain_field [] [])) ≡ false

at : (test : Field → Bool) (fields : List Field) (n : ℕ) (f : Field) (b : Bool) → slice_get fields n ≡ Some f → test f ≡ b → test (get_or fields n (plain_field [] [])) ≡ b
at test fields n f b is told = rw (get_or_from_slice_get fields n f (plain_field [] []) is) told

pub next : (test : Field → Bool) (fields : List Field) (n : ℕ) (f : Field) → slice_get fields n ≡ Some f → test f ≡ false → NoneBefore test fields n → NoneBefore test fields (n + 1)
next test fields n f is fails before = λ k less. elim (eq-or-lt_of_le (le k less)) [
  | inl same ↦ ap (λ m. test (get_or fields m (plain_field [] []))) same ∙ at test fields n f false is fails
  | inr earlier ↦ before k earlier
]
  where
    le : (k : ℕ) → k < n + 1 → k ≤ n
    le k less = omega (arith, less)

pub found : (test : Field → Bool) (fields : List Field) (n : ℕ) (f : Field) → slice_get fields n ≡ Some f → test f ≡ true → NoneBefore test fields n → Some n ≡ position test fields
found test fields n f is passes before =
    let within = slice_get_within fields n f is in
    let first : position_or_len test fields ≡ n =
    position_or_len_is test fields n (plain_field [] []) (omega (arith, within)) before (λ _. at test fields n f true is passes) in
    sym (rw (first, lt-ltb n (length fields) within) refl)

pub nowhere : (test : Field → Bool) (fields : List Field) (n : ℕ) → length fields ≤ n → n ≤ length fields → NoneBefore test fields n → None ≡ position test fields
nowhere test fields n past within before =
    let first : position_or_len test fields ≡ n = position_or_len_is test fields n (plain_field [] []) within before (λ less. absurd (omega (arith, less, past))) in
    sym (rw (first, le-ltb n (length fields) past) refl)
