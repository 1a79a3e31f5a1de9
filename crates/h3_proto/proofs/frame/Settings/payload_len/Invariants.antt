use Rattle.std.proofs.Common.{◌≡◌, ◌*◌, ◌≤◌, length, take}
use Rattle.h3_proto.specs.Pairs.{payload_of}
use Rattle.h3_proto.proofs.frame.Settings.payload_len.Given as goal

abbrev pub invariant-loop-pair : goal.invariant-loop-pair
invariant-loop-pair l = record {
  sum : l.len ≡ length (payload_of (take l.pair-index l.pairs));
  bound : l.len ≤ 16 * l.pair-index;
}
