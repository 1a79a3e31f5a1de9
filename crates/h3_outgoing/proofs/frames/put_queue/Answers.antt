use Rattle.std.proofs.Common.{rules}
use Rattle.h3_outgoing.proofs.HeldFronts.{queue_copied, queue_more, queue_past}
use Rattle.h3_outgoing.proofs.frames.put_queue.Goals as goal

pub returns-then-is_last-clause-copied : goal.returns-then-is_last-clause-copied
returns-then-is_last-clause-copied c =
    queue_copied c.args.frames.now.items c.loop-index.index c.index.result.now c.args.out.now c.loop-index.out c.put-next.new.out c.loop-index.at c.put-next.result.0 c.put-next.result.1 c.put-next.result.2
    (search rules) (search rules) c.loop-index.invariant c.put-next.ensures c.if-is_last.true

pub returns-then-is_last-clause-past : goal.returns-then-is_last-clause-past
returns-then-is_last-clause-past c =
    queue_past c.args.frames.now.items c.loop-index.index c.index.result.now c.args.out.now c.loop-index.out c.put-next.new.out c.loop-index.at c.put-next.result.0 c.put-next.result.1 c.put-next.result.2
    (search rules) (search rules) c.loop-index.invariant c.put-next.ensures c.if-is_last.true

pub loop-index-preserved : goal.loop-index-preserved
loop-index-preserved c =
    queue_more c.args.frames.now.items c.loop-index.index c.index.result.now c.args.out.now c.loop-index.out c.put-next.new.out c.loop-index.at c.put-next.result.0 c.put-next.result.1 c.put-next.result.2
    (search rules) (search rules) c.loop-index.invariant c.put-next.ensures c.if-is_last.false
