-- What was gone over, and what lies behind it.
use Rattle.std.proofs.Common.{◌≡◌, ◌≤◌, ◌+◌, ◌-◌}
use Rattle.h3_blocked.specs.Counting.{number_at, sum_above}
use Rattle.h3_blocked.proofs.counts.Blocked.between.Given as goal

abbrev pub invariant-loop-at : goal.invariant-loop-at
invariant-loop-at l = (l.at ≤ l.high) × (l.sum + sum_above l.at (number_at l.self) ≡ sum_above l.low (number_at l.self))

abbrev pub decreases-loop-at : goal.decreases-loop-at
decreases-loop-at l = l.high - l.at
