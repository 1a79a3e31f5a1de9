-- Turns of one urgency, one after another, whatever happens between them.
use Rattle.std.specs.Prelude.{◌≡◌, ◌≢◌, ◌<◌, ℕ, ◌+◌, Bool, true, ◌==◌, List, [], ◌∷◌, if◌then◌else◌}
use Rattle.h3_scheduler.specs.Rounds.{after_turn}
use Rattle.h3_scheduler.specs.Places.{IsTurn}
use Rattle.h3_scheduler.specs.declared.round.Round.{Round}

-- who takes turns then, a number above all ids that are open, and the id whose turn it is
pub record Moment : Type 0 where
  pub takes : ℕ → Bool
  pub bound : ℕ
  pub id : ℕ

-- Through all of them a stream waits for its turn, and each turn is another's whose turn it is.
abbrev pub WaitsThrough : ℕ → Round → List Moment → Type 0
WaitsThrough waiting r [] = Unit
WaitsThrough waiting r (m ∷ moments) =
    (m.takes waiting ≡ true) × (waiting < m.bound) × IsTurn m.takes r m.id × (m.id ≢ waiting) × WaitsThrough waiting (after_turn r m.id m.bound) moments

-- how many turns a stream has
abbrev pub turns_among : ℕ → List Moment → ℕ
turns_among id [] = 0
turns_among id (m ∷ moments) = (if m.id == id then 1 else 0) + turns_among id moments
