-- Fields whose bytes lie end to end, the oldest first.
use Rattle.std.specs.Prelude.{ℕ, List}
use Rattle.h3_field.specs.Field.{Field}

pub record FieldRow : Type 0 where
  pub fields : List Field
  -- how many bytes of names and values there ever were
  pub written : ℕ
  -- for how many more bytes there is memory behind them
  pub room : ℕ
  -- for how many records there is memory
  pub places : ℕ
