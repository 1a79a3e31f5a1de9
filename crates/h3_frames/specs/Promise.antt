-- What is seen of a promise of a push.
use Rattle.std.specs.Prelude.{ℕ, List}

pub record Promise : Type 0 where
  pub id : ℕ
  pub section : List ℕ
