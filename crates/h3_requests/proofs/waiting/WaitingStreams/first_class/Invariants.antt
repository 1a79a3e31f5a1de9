-- Nothing waits in the classes so far, and each round passes one.
use Rattle.std.specs.Prelude.{◌≤◌}
use Rattle.h3_requests.specs.Waiting.{is_waiting}
use Rattle.h3_requests.proofs.Classed.{NoneBelow}
use Rattle.h3_requests.proofs.waiting.WaitingStreams.first_class.Given as goal

abbrev pub invariant-loop-passed : goal.invariant-loop-passed
invariant-loop-passed l = record {
  none : NoneBelow (is_waiting l.self) l.from;
  few : l.from ≤ 17;
  count : l.passed ≤ l.from;
}
