-- The streams are passed in order.
use Rattle.std.proofs.Common.{rules}
use Rattle.h3_webtransport_streams.specs.Sought.{is_sought}
use Rattle.h3_webtransport_streams.proofs.Walk.{all_left, passed, first_found}
use Rattle.h3_webtransport_streams.proofs.streams.map.next.Goals as goal

pub loop-id-init : goal.loop-id-init
loop-id-init c = all_left (is_sought c.args.sought) c.args.streams.now.entries c.args.from _ (search rules) c.range-id-items.ensures.ordered

pub loop-id-preserved : goal.loop-id-preserved
loop-id-preserved c =
    passed (is_sought c.args.sought) c.args.streams.now.entries c.args.from c.loop-id.id-iterator (c.in-Some.id.now, c.in-Some.stream.now) c.next.new.self
    (search rules) (search rules) c.loop-id.invariant

pub returns-then-is_sought-clause-value : goal.returns-then-is_sought-clause-value
returns-then-is_sought-clause-value c =
    first_found (is_sought c.args.sought) c.args.streams.now.entries c.args.from c.loop-id.id-iterator (c.in-Some.id.now, c.in-Some.stream.now) c.next.new.self
    (search rules) (search rules) c.loop-id.invariant
