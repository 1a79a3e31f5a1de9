-- The least number that passes a test: there is one at most, and of two tests it is the lesser of both.
use Rattle.std.proofs.Common.{arith, ◌≡◌, ◌≤◌, ◌<◌, ℕ, Bool, true, false, if◌then◌else◌, sym, refl, ap, subst, ◌∙◌, inl, inr}
use Rattle.std.specs.Prelude.{◌||◌, ◌==◌, Option, Some, None}
use Rattle.std.proofs.lemmas.Bool.{cases_lt, cases_order, lt-ltb, le-ltb, eq-eqb, ne_eqb, true≢false}
use Rattle.h3_scheduler.specs.Least.{IsLeast, lesser_of}

neither : (a b : Bool) → a ≡ false → b ≡ false → (a || b) ≡ false
neither true b is other = absurd (cc)
neither false b is other = other

either_one : (a b : Bool) → a ≡ true → (a || b) ≡ true
either_one true b is = refl
either_one false b is = absurd (cc)

either_other : (a b : Bool) → b ≡ true → (a || b) ≡ true
either_other true b is = refl
either_other false b is = is

-- one of two tests: none passes either,
least_neither : (f g : ℕ → Bool) (from : ℕ) → IsLeast f from None → IsLeast g from None → IsLeast (λ q. f q || g q) from None
least_neither f g from h k = λ q there. neither (f q) (g q) (h q there) (k q there)

-- the first that passes the one is before all that pass the other,
least_one : (f g : ℕ → Bool) (from id : ℕ) (other : Option ℕ) → IsLeast f from (Some id) → IsLeast g from other → ((q : ℕ) → from ≤ q → q < id → g q ≡ false) → IsLeast (λ q. f q || g q) from (Some id)
least_one f g from id other h k later = (h.0, either_one (f id) (g id) h.1, λ q there less. neither (f q) (g q) (h.2 q there less) (later q there less))

least_other : (f g : ℕ → Bool) (from id : ℕ) (one : Option ℕ) → IsLeast f from one → IsLeast g from (Some id) → ((q : ℕ) → from ≤ q → q < id → f q ≡ false) → IsLeast (λ q. f q || g q) from (Some id)
least_other f g from id one h k later = (k.0, either_other (f id) (g id) k.1, λ q there less. neither (f q) (g q) (later q there less) (k.2 q there less))

-- what passes either is the lesser of both
pub least_either : (f g : ℕ → Bool) (from : ℕ) (one other : Option ℕ) → IsLeast f from one → IsLeast g from other → IsLeast (λ q. f q || g q) from (lesser_of one other)
least_either f g from None None h k = least_neither f g from h k
least_either f g from None (Some second) h k = least_other f g from second None h k (λ q there less. h q there)
least_either f g from (Some first) None h k = least_one f g from first None h k (λ q there less. k q there)
least_either f g from (Some first) (Some second) h k = elim (cases_lt second first) [
  | inl less ↦
      subst (IsLeast (λ q. f q || g q) from) (sym (ap (λ b. if b then Some second else Some first) (lt-ltb second first less)))
      (least_other f g from second (Some first) h k (λ q there before. h.2 q there (omega (arith, before, less))))
  | inr past ↦
      subst (IsLeast (λ q. f q || g q) from) (sym (ap (λ b. if b then Some second else Some first) (le-ltb second first past)))
      (least_one f g from first (Some second) h k (λ q there before. k.2 q there (omega (arith, before, past))))
]

-- only one number is the least
pub one_least : (f : ℕ → Bool) (from : ℕ) (one other : Option ℕ) → IsLeast f from one → IsLeast f from other → one ≡ other
one_least f from None None h k = refl
one_least f from None (Some second) h k = absurd (true≢false (sym k.1 ∙ h second k.0))
one_least f from (Some first) None h k = absurd (true≢false (sym h.1 ∙ k first h.0))
one_least f from (Some first) (Some second) h k = elim (cases_order first second) [
  | inl same ↦ ap Some same
  | inr apart ↦ elim apart [
    | inl less ↦ absurd (true≢false (sym h.1 ∙ k.2 first h.0 less))
    | inr more ↦ absurd (true≢false (sym k.1 ∙ h.2 second k.0 more))
  ]
]

-- tests that answer alike have the same least number
pub least_alike : (f g : ℕ → Bool) (from : ℕ) (least : Option ℕ) → ((q : ℕ) → f q ≡ g q) → IsLeast f from least → IsLeast g from least
least_alike f g from None same h = λ q there. sym (same q) ∙ h q there
least_alike f g from (Some id) same h = (h.0, sym (same id) ∙ h.1, λ q there less. sym (same q) ∙ h.2 q there less)

-- the one number that is this
pub least_itself : (n : ℕ) → IsLeast (λ q. n == q) 0 (Some n)
least_itself n = (omega arith, eq-eqb n n refl, λ q there less. ne_eqb n q (λ same. omega (arith, same, less)))
