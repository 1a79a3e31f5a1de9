-- Turns one after another, while a stream waits for its own.
use Rattle.std.specs.Prelude.{◌≡◌, ◌≢◌, ◌<◌, ⊤, ℕ, Bool, true, List, [], ◌∷◌, Some}
use Rattle.h3_webtransport_streams.specs.Sessions.{IsTurn}

-- who takes turns at a moment, and whose turn it is
pub record Turn : Type 0 where
  pub takes : ℕ → Bool
  pub id : ℕ

-- At each of these moments the stream waits, and another has its turn, whose id is below a bound. Which streams take turns may change in between.
abbrev pub WaitsThrough : (waiting bound from : ℕ) → List Turn → Type 0
WaitsThrough waiting bound from [] = ⊤
WaitsThrough waiting bound from (t ∷ turns) =
    (t.takes waiting ≡ true) × IsTurn t.takes from (Some t.id) × (t.id ≢ waiting) × (t.id < bound) × WaitsThrough waiting bound t.id turns
