-- No stream above has a mark.
use Rattle.std.proofs.Common.{◌≡◌, ◌<◌, ℕ}
use Rattle.h3_requests.specs.Marks.{mark_at}
use Rattle.h3_requests.proofs.over.marks.Marks.greatest.Given as goal

abbrev pub invariant-loop-id : goal.invariant-loop-id
invariant-loop-id l = (q : ℕ) → l.id < q → mark_at l.self q ≡ 0

abbrev pub decreases-loop-id : goal.decreases-loop-id
decreases-loop-id l = l.id
