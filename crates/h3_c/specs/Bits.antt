-- A Boolean as a number of C's.
use Rattle.std.specs.Prelude.{ℕ, Bool, true, false}

abbrev pub bit : Bool → ℕ
bit true = 1
bit false = 0
