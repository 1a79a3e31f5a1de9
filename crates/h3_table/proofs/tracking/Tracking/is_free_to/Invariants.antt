use Rattle.std.proofs.Common.{◌≡◌, ◌<◌, ◌≤◌, ◌+◌, ◌-◌, ℕ, List}
use Rattle.h3_table.specs.declared.tracking.TrackedSection.{TrackedSection}
use Rattle.h3_table.specs.Tracking.{reference_count}
use Rattle.h3_table.proofs.tracking.Tracking.is_free_to.Given as goal

pub record Invariant (evicted count place : ℕ) (ts : List TrackedSection) : Type 0 where
  pub within : place ≤ count
  pub none : (n : ℕ) → evicted < n → n ≤ evicted + place → reference_count n ts ≡ 0

abbrev pub invariant-loop-place : goal.invariant-loop-place
invariant-loop-place l = Invariant l.self-inside.evicted l.count l.place l.self-inside.sections

abbrev pub decreases-loop-place : goal.decreases-loop-place
decreases-loop-place l = l.count - l.place
