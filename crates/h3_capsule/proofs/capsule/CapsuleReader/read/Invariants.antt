use Rattle.std.proofs.Common.{◌≡◌, ◌<◌, false, length, drop}
use Rattle.h3_capsule.specs.Capsule.{read_on, in_head}
use Rattle.h3_capsule.proofs.Heads.{later}
use Rattle.h3_capsule.proofs.capsule.CapsuleReader.read.Given as goal

abbrev pub invariant-head : goal.invariant-head
invariant-head l = record {
  begun : l.self-inside.is_at_end ≡ false;
  none_left : l.self-inside.left ≡ 0;
  few : length l.self-inside.head < 16;
  same : read_on l.fn.self l.bytes ≡ later l.index (in_head l.self-inside.head (drop l.index l.bytes));
}
