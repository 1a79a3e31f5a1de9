use Rattle.std.proofs.Common.{◌≡◌, ◌+◌, drop}
use Rattle.std.specs.List.{prefix_len}
use Rattle.h3_priority.specs.Characters.{is_in}
use Rattle.h3_priority.proofs.cursor.count_front.Given as goal

abbrev pub invariant-loop-byte : goal.invariant-loop-byte
invariant-loop-byte l = record {
  counted : l.count ≡ l.byte-index;
  passed : prefix_len (is_in l.class) l.text ≡ l.count + prefix_len (is_in l.class) (drop l.count l.text);
}
