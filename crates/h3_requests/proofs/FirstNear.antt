-- A walk over the places of a row, for the first word on whose streams something waits.
use Rattle.std.proofs.Common.{arith, ◌≡◌, ◌<◌, ◌≤◌, ◌+◌, ◌%◌, ◌^◌, ℕ, Bool, true, false, List, length, refl, sym, ◌∙◌, ap, subst, inl, inr, if◌then◌else◌, slice_get, slice_index_or, zero, suc, [], ◌∷◌}
use Rattle.std.specs.Prelude.{◌&&◌, ◌==◌, ◌≢◌, Option, Some, None, nat_le, nat_lt}
use Rattle.std.proofs.lemmas.Bool.{cases_eq}
use Rattle.std.proofs.lemmas.Grind.{common_steps}
use Rattle.h3_requests.specs.FirstWord.{IsFirstWord}
use Rattle.h3_requests.specs.Words.{comes_next, held_by, held_in, is_less, waiting_of, with_bits}
use Rattle.h3_requests.specs.declared.waiting.near.NearWord.{NearWord}
use Rattle.h3_requests.specs.declared.waiting.word.Word.{Word}

-- of the places that were passed
abbrev pub so_far : List NearWord → ℕ → ℕ → ℕ
so_far row i q = if nat_lt (q % 16) i then waiting_of (held_in row q) else 0

-- where words agree up to the first one, it is the first of both
abbrev is_past : ℕ → Option (ℕ × ℕ) → Bool
is_past q None = false
is_past q (Some found) = nat_lt found.0 q

agrees : (f g : ℕ → ℕ) (from : ℕ) (first : Option (ℕ × ℕ)) → ((q : ℕ) → from ≤ q → is_past q first ≡ false → g q ≡ f q) → IsFirstWord f from first → IsFirstWord g from first
agrees f g from None same h = λ q there. same q there refl ∙ h q there
agrees f g from (Some found) same h = (
  h.0,
  same found.0 h.0 (grind (arith, common_steps)) ∙ h.1,
  h.2,
  h.3,
  λ q there before. same q there (grind (arith, common_steps, before)) ∙ h.4 q there before,
)

waits_with : (w : Word) → waiting_of (with_bits w) ≡ w.waiting
waits_with w = by_test (w.places == 0) (w.waiting == 0) refl
  where
    by_test : (a b : Bool) → (w.waiting == 0) ≡ b → waiting_of (if a && b then None else Some w) ≡ w.waiting
    by_test true true e = grind (arith, common_steps, e)
    by_test true false e = refl
    by_test false b e = refl

itself : (n : ℕ) → (n == n) ≡ true
itself n = grind (arith, common_steps)

-- One place more changes what is found at its number alone.
own : (row : List NearWord) (i : ℕ) (p : NearWord) → slice_get row i ≡ Some p → (p.number % 16 == i) ≡ true → so_far row (i + 1) p.number ≡ p.word.waiting
own row i p is at =
    let here : p.number % 16 ≡ i = grind (arith, common_steps, at) in
    let within : nat_lt (p.number % 16) (i + 1) ≡ true = grind (arith, common_steps, here) in
    rw within (ap (λ k. waiting_of (held_by (slice_get row k) p.number)) here ∙ ap (λ o. waiting_of (held_by o p.number)) is ∙ ap (λ t. waiting_of (if t then with_bits p.word else None)) (itself p.number) ∙ waits_with p.word)

not_yet : (row : List NearWord) (i q : ℕ) → q % 16 ≡ i → so_far row i q ≡ 0
not_yet row i q here = let beyond : nat_lt (q % 16) i ≡ false = grind (arith, common_steps, here) in rw beyond refl

others : (row : List NearWord) (i q : ℕ) (p : NearWord) → slice_get row i ≡ Some p → (p.number == q) ≡ false → so_far row (i + 1) q ≡ so_far row i q
others row i q p is differs = elim (cases_eq (q % 16) i) [
  | inl here ↦
      let within : nat_lt (q % 16) (i + 1) ≡ true = grind (arith, common_steps, here) in
      rw within (ap (λ k. waiting_of (held_by (slice_get row k) q)) here ∙ ap (λ o. waiting_of (held_by o q)) is ∙ ap (λ t. waiting_of (if t then with_bits p.word else None)) differs) ∙ sym (not_yet row i q here)
  | inr apart ↦
      let same : nat_lt (q % 16) (i + 1) ≡ nat_lt (q % 16) i = grind (arith, common_steps, apart) in
      ap (λ t. if t then waiting_of (held_in row q) else 0) same
]

-- A place is passed that has no word, or one that does not come first.
pub passed : (row : List NearWord) (from i : ℕ) (p : NearWord) (first : Option (ℕ × ℕ)) → slice_get row i ≡ Some p → comes_next p i from first ≡ false
    → IsFirstWord (so_far row i) from first → IsFirstWord (so_far row (i + 1)) from first
passed row from i p first is not h = agrees (so_far row i) (so_far row (i + 1)) from first same h
  where
    same : (q : ℕ) → from ≤ q → is_past q first ≡ false → so_far row (i + 1) q ≡ so_far row i q
    same q there near = elim (cases_eq q p.number) [
      | inr differs ↦ others row i q p is (grind (arith, common_steps, differs))
      | inl level ↦ by_place (p.number % 16 == i) refl level
    ]
      where
        level_place : (p.number % 16 == i) ≡ true → q ≡ p.number → so_far row i q ≡ 0
        level_place at level = not_yet row i q (grind (arith, common_steps, at, level))

        silent : (a b c : Bool) (first : Option (ℕ × ℕ)) → nat_lt 0 p.word.waiting ≡ a → nat_le from p.number ≡ b → is_less p.number first ≡ c → (a && b && c) ≡ false → IsFirstWord (so_far row i) from first → is_past q first ≡ false → q ≡ p.number
            → (p.number % 16 == i) ≡ true → p.word.waiting ≡ 0
        silent false b c first ea eb ec h first_is past level at = grind (arith, common_steps, ea)
        silent true false c first ea eb ec h first_is past level at = absurd (let wrong : p.number < from = grind (arith, common_steps, eb) in omega (arith, wrong, level, there))
        silent true true true first ea eb ec h first_is past level at = absurd (cc)
        silent true true false None ea eb ec h first_is past level at = absurd (cc)
        silent true true false (Some found) ea eb ec h first_is past level at =
            let here : found.0 ≡ q = grind (arith, common_steps, ec, past, level) in
            let zero_there : so_far row i found.0 ≡ 0 = ap (so_far row i) here ∙ level_place at level in
            absurd (let wrong : found.1 ≡ 0 = sym first_is.1 ∙ zero_there in omega (arith, wrong, first_is.2))

        by_place : (b : Bool) → (p.number % 16 == i) ≡ b → q ≡ p.number → so_far row (i + 1) q ≡ so_far row i q
        by_place false e level =
            let apart : q % 16 ≢ i = grind (arith, common_steps, e, level) in
            let same : nat_lt (q % 16) (i + 1) ≡ nat_lt (q % 16) i = grind (arith, common_steps, apart) in
            ap (λ t. if t then waiting_of (held_in row q) else 0) same
        by_place true e level =
            let none : p.word.waiting ≡ 0 = silent (nat_lt 0 p.word.waiting) (nat_le from p.number) (is_less p.number first) first refl refl refl (subst (λ b. (b && nat_lt 0 p.word.waiting && nat_le from p.number && is_less p.number first) ≡ false) e not) h near level e in
            ap (so_far row (i + 1)) level ∙ own row i p is e ∙ none ∙ sym (level_place e level)

-- or one that does
pub taken : (row : List NearWord) (from i : ℕ) (p : NearWord) (first : Option (ℕ × ℕ)) → slice_get row i ≡ Some p → comes_next p i from first ≡ true → p.word.waiting < 2 ^ 64
    → IsFirstWord (so_far row i) from first → IsFirstWord (so_far row (i + 1)) from (Some (p.number, p.word.waiting))
taken row from i p first is next fits h =
    let w = all_four (p.number % 16 == i) (nat_lt 0 p.word.waiting) (nat_le from p.number) (is_less p.number first) next in (
      grind (arith, common_steps, w.2),
      own row i p is w.0,
      grind (arith, common_steps, w.1),
      fits,
      λ q there before. others row i q p is (grind (arith, common_steps, before)) ∙ earlier first h w.3 q there before,
    )
  where
    all_four : (a b c d : Bool) → (a && b && c && d) ≡ true → (a ≡ true) × (b ≡ true) × (c ≡ true) × (d ≡ true)
    all_four true true true true h = (refl, refl, refl, refl)
    all_four true true true false h = absurd (cc)
    all_four true true false d h = absurd (cc)
    all_four true false c d h = absurd (cc)
    all_four false b c d h = absurd (cc)

    earlier : (first : Option (ℕ × ℕ)) → IsFirstWord (so_far row i) from first → is_less p.number first ≡ true → (q : ℕ) → from ≤ q → q < p.number → so_far row i q ≡ 0
    earlier None h less q there before = h q there
    earlier (Some found) h less q there before = let lt : q < found.0 = grind (arith, common_steps, less, before) in h.4 q there lt

-- All places were passed.
pub all_passed : (row : List NearWord) (from i : ℕ) (first : Option (ℕ × ℕ)) → length row ≤ i → IsFirstWord (so_far row i) from first → IsFirstWord (λ q. waiting_of (held_in row q)) from first
all_passed row from i first all h = agrees (so_far row i) (λ q. waiting_of (held_in row q)) from first (λ q there near. same q) h
  where
    beyond : (row : List NearWord) (k : ℕ) → length row ≤ k → slice_get row k ≡ None
    beyond [] k far = refl
    beyond (p ∷ row) zero far = absurd (omega (arith, far))
    beyond (p ∷ row) (suc k) far = beyond row k (omega (arith, far))

    same : (q : ℕ) → waiting_of (held_in row q) ≡ so_far row i q
    same q = by_test (nat_lt (q % 16) i) refl
      where
        by_test : (b : Bool) → nat_lt (q % 16) i ≡ b → waiting_of (held_in row q) ≡ (if b then waiting_of (held_in row q) else 0)
        by_test true e = refl
        by_test false e = ap (λ o. waiting_of (held_by o q)) (beyond row (q % 16) (grind (arith, common_steps, e, all)))

-- a place that was read
pub read : (row : List NearWord) (i : ℕ) (p : NearWord) → i < length row → p ≡ slice_index_or row i p → slice_get row i ≡ Some p
read [] i p within is = absurd (omega (arith, within))
read (x ∷ row) zero p within is = ap Some (sym is)
read (x ∷ row) (suc i) p within is = read row i p (omega (arith, within)) is
