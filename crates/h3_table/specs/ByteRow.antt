-- Bytes in a row.
use Rattle.std.specs.Prelude.{ℕ, List}

pub record ByteRow : Type 0 where
  pub bytes : List ℕ
  -- for how many more there is memory behind them
  pub room : ℕ
