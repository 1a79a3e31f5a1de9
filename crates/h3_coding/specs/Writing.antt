-- What a write leaves.
use Rattle.std.specs.Prelude.{◌≡◌, ℕ, ◌+◌, ◌<◌, ◌≤◌, List, ◌++◌, Result, MatchResult}

-- new is old with a beginning of the encoding at its end
pub record AppendsFront (octets old new : List ℕ) : Type 0 where
  pub front : List ℕ
  pub rest : List ℕ
  pub parts : octets ≡ front ++ rest
  pub appended : new ≡ old ++ front

-- a write of n bytes takes at most n of the spare room, and fails only where that room was missing
abbrev pub UsesRoom : {T E : Type 0} → Result T E → ℕ → ℕ → ℕ → Type 0
UsesRoom r old new n = MatchResult r (λ _. old ≤ new + n) (λ _. old < n)
