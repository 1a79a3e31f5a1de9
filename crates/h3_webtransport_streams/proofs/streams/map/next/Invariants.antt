-- The streams that were passed are not looked for.
use Rattle.h3_webtransport_streams.specs.Sought.{is_sought}
use Rattle.h3_webtransport_streams.proofs.Walk.{Left}
use Rattle.h3_webtransport_streams.proofs.streams.map.next.Given as goal

abbrev pub invariant-loop-id : goal.invariant-loop-id
invariant-loop-id l = Left (is_sought l.sought) l.streams.entries l.from l.id-iterator
