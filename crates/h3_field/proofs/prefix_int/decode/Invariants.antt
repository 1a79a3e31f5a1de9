use Rattle.std.proofs.Common.{◌≡◌, ◌+◌, ◌^◌, ◌<◌, ◌≤◌}
use Rattle.h3_field.proofs.Integers.{Groups}
use Rattle.h3_field.proofs.prefix_int.decode.Given as goal

abbrev pub invariant-loop-i : goal.invariant-loop-i
invariant-loop-i l = record {
  standing : Groups l.size l.first l.ones l.bytes l.sum l.i;
  within : l.sum < 2 ^ 63 + l.ones;
  least : l.ones ≤ l.sum;
  kept : l.buf ≡ l.bytes;
}
