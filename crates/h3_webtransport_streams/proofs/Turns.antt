-- A stream that waits has its turn.
use Rattle.std.proofs.Common.{◌≡◌, ◌≢◌, ◌⊎◌, inl, inr, ◌<◌, ◌≤◌, ◌+◌, ℕ, Bool, true, false, List, [], ◌∷◌, length, Some, None, sym, ◌∙◌, arith}
use Rattle.std.proofs.lemmas.Bool.{cases_lt}
use Rattle.h3_webtransport_streams.specs.Sessions.{IsLast, IsTurn}
use Rattle.h3_webtransport_streams.specs.Turns.{Turn, WaitsThrough}

never : (b : Bool) → b ≡ true → b ≡ false → ⊥
never b is not = absurd (let both : true ≡ false = sym is ∙ not in cc)

-- a place that is above the stream comes down to it
not_passed : (waiting from : ℕ) (t : Turn) → waiting < from → t.takes waiting ≡ true → IsTurn t.takes from (Some t.id) → (waiting ≤ t.id) × (t.id < from)
not_passed waiting from t there is (inl h) = elim (cases_lt t.id waiting) [
  | inl less ↦ absurd (never (t.takes waiting) is (h.2 waiting there less))
  | inr more ↦ (more, h.0)
]
not_passed waiting from t there is (inr h) = absurd (never (t.takes waiting) is (h.0 waiting there))

down : (waiting bound from : ℕ) (turns : List Turn) → waiting < from → WaitsThrough waiting bound from turns → length turns + waiting < from
down waiting bound from [] there h = omega (arith, there)
down waiting bound from (t ∷ turns) there h =
    let step = not_passed waiting from t there h.0 h.1 in
    let above : waiting < t.id = omega (arith, step.0, h.2) in
    omega (arith, step.1, down waiting bound t.id turns above h.4)

-- or the round ends first, and the next one begins above it
begins_above : (waiting : ℕ) (t : Turn) → t.takes waiting ≡ true → t.id ≢ waiting → IsLast t.takes None (Some t.id) → waiting < t.id
begins_above waiting t is differs top = elim (cases_lt t.id waiting) [
  | inl less ↦ absurd (never (t.takes waiting) is (top.2 waiting tt less))
  | inr more ↦ omega (arith, more, differs)
]

by_turn : (waiting bound from : ℕ) (t : Turn) (turns : List Turn) → WaitsThrough waiting bound from (t ∷ turns) → length turns ≤ t.id + bound
    → IsTurn t.takes from (Some t.id) → length (t ∷ turns) ≤ from + bound
by_turn waiting bound from t turns h later (inl here) = omega (arith, here.0, later)
by_turn waiting bound from t turns h later (inr next) = omega (arith, h.3, down waiting bound t.id turns (begins_above waiting t h.0 h.2 next.1) h.4)

pub has_its_turn : (waiting bound from : ℕ) (turns : List Turn) → WaitsThrough waiting bound from turns → length turns ≤ from + bound
has_its_turn waiting bound from [] h = omega arith
has_its_turn waiting bound from (t ∷ turns) h = by_turn waiting bound from t turns h (has_its_turn waiting bound t.id turns h.4) h.1
