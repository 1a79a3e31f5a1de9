-- The first stream of the classes so far.
use Rattle.h3_connection.specs.NextWaiting.{IsLeast}
use Rattle.h3_requests.specs.Waiting.{is_any_below, is_waiting}
use Rattle.h3_requests.proofs.waiting.WaitingStreams.next_of_any.Given as goal

abbrev pub invariant-loop-class : goal.invariant-loop-class
invariant-loop-class l = IsLeast (is_any_below l.class (is_waiting l.self)) l.from l.first
