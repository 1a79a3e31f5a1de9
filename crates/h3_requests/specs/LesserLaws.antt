-- The least number that passes one of two tests is the lesser of those that are least by each.
use Rattle.std.proofs.Common.{arith, ◌≡◌, ◌≤◌, ◌<◌, ℕ, Bool, true, false, if◌then◌else◌, sym, refl, ap, subst, inl, inr}
use Rattle.std.specs.Prelude.{◌||◌, Option, Some, None}
use Rattle.std.proofs.lemmas.Bool.{cases_lt, lt-ltb, le-ltb}
use Rattle.h3_connection.specs.NextWaiting.{IsLeast}
use Rattle.h3_requests.specs.Lesser.{lesser_of}

neither : (a b : Bool) → a ≡ false → b ≡ false → (a || b) ≡ false
neither true b is other = absurd (cc)
neither false b is other = other

either_one : (a b : Bool) → a ≡ true → (a || b) ≡ true
either_one true b is = refl
either_one false b is = absurd (cc)

either_other : (a b : Bool) → b ≡ true → (a || b) ≡ true
either_other true b is = refl
either_other false b is = is

-- one of two tests: none passes either,
least_neither : (f g : ℕ → Bool) (from : ℕ) → IsLeast f from None → IsLeast g from None → IsLeast (λ q. f q || g q) from None
least_neither f g from h k = λ q there. neither (f q) (g q) (h q there) (k q there)

-- the first that passes the one is before all that pass the other,
least_one : (f g : ℕ → Bool) (from id : ℕ) (other : Option ℕ) → IsLeast f from (Some id) → IsLeast g from other → ((q : ℕ) → from ≤ q → q < id → g q ≡ false) → IsLeast (λ q. f q || g q) from (Some id)
least_one f g from id other h k later = (h.0, either_one (f id) (g id) h.1, λ q there less. neither (f q) (g q) (h.2 q there less) (later q there less))

least_other : (f g : ℕ → Bool) (from id : ℕ) (one : Option ℕ) → IsLeast f from one → IsLeast g from (Some id) → ((q : ℕ) → from ≤ q → q < id → f q ≡ false) → IsLeast (λ q. f q || g q) from (Some id)
least_other f g from id one h k later = (k.0, either_other (f id) (g id) k.1, λ q there less. neither (f q) (g q) (later q there less) (k.2 q there less))

-- what passes either is the lesser of both
pub least_either : (f g : ℕ → Bool) (from : ℕ) (one other : Option ℕ) → IsLeast f from one → IsLeast g from other → IsLeast (λ q. f q || g q) from (lesser_of one other)
least_either f g from None None h k = least_neither f g from h k
least_either f g from None (Some second) h k = least_other f g from second None h k (λ q there less. h q there)
least_either f g from (Some first) None h k = least_one f g from first None h k (λ q there less. k q there)
least_either f g from (Some first) (Some second) h k = elim (cases_lt second first) [
  | inl less ↦
      subst (IsLeast (λ q. f q || g q) from) (sym (ap (λ b. if b then Some second else Some first) (lt-ltb second first less)))
      (least_other f g from second (Some first) h k (λ q there before. h.2 q there (omega (arith, before, less))))
  | inr past ↦
      subst (IsLeast (λ q. f q || g q) from) (sym (ap (λ b. if b then Some second else Some first) (le-ltb second first past)))
      (least_one f g from first (Some second) h k (λ q there before. k.2 q there (omega (arith, before, past))))
]
