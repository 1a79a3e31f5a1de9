use Rattle.std.proofs.Common.{◌≡◌, drop}
use Rattle.std.specs.Prelude.{sum}
use Rattle.h3_table.proofs.blocking.drop_counts.Given as goal

abbrev pub invariant-loop-done : goal.invariant-loop-done
invariant-loop-done l = (l.left ≡ sum l.waiting.items) × (l.waiting.items ≡ drop l._done l.initial.waiting.items)
