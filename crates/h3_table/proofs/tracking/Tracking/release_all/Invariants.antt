use Rattle.std.proofs.Common.{◌≡◌, ℕ, length}
use Rattle.h3_table.specs.Tracking.{TrackingState, without_all_of}
use Rattle.h3_table.proofs.tracking.Tracking.release_all.Given as goal

pub record Invariant (first now : TrackingState) (stream : ℕ) : Type 0 where
  pub same : now ≡ record first { sections = now.sections }
  pub others : without_all_of stream now.sections ≡ without_all_of stream first.sections

abbrev pub invariant-loop : goal.invariant-loop
invariant-loop l = Invariant l.initial.self l.self l.stream

abbrev pub decreases-loop : goal.decreases-loop
decreases-loop l = length l.self.sections
