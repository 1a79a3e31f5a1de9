-- What a read of a number takes.
use Rattle.std.specs.Prelude.{◌≡◌, ℕ, List, Option, Some, None}
use Rattle.h3_coding.specs.Varint.{varint_at}

-- a number is taken where it is whole, and else nothing
abbrev pub TakesNumber : Option ℕ → List ℕ → List ℕ → Type 0
TakesNumber (Some v) old new = varint_at old ≡ Some (v, new)
TakesNumber None old new = (varint_at old ≡ None) × (new ≡ old)
