use Rattle.std.specs.Prelude.{◌≡◌, ◌≤◌, ◌*◌, drop, length, take}
use Rattle.h3_c.specs.Further.{paired}
use Rattle.h3_c.proofs.Pairing.{with_rest}
use Rattle.h3_c.proofs.connection.further.GivenPairs.of.Given as goal

abbrev pub invariant-loop-at : goal.invariant-loop-at
invariant-loop-at l = record {
  given : with_rest (take l.at l.pairs) (drop (2 * l.at) l.numbers) ≡ paired l.numbers;
  room : length l.pairs ≡ 8;
  within : l.at ≤ l.len;
}
