use Rattle.std.proofs.Common.{◌≡◌, drop}
use Rattle.h3_table.proofs.tracking.drop_front.Given as goal

abbrev pub invariant-loop-done : goal.invariant-loop-done
invariant-loop-done l = l.items.items ≡ drop l._done l.initial.items.items
