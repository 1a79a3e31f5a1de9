use Rattle.std.proofs.Common.{rules}
use Rattle.h3_outgoing.proofs.Queues.{behind_queue, in_second, one_more}
use Rattle.h3_outgoing.proofs.frames.WaitingFrames.push.Goals as goal

pub invariant_of-self : goal.invariant_of-self
invariant_of-self c =
    one_more _ _ c.args.frame c.self.inside.waiting c.remaining.result
    (behind_queue c.self.inside.first c.self.inside.second c.self.inside.later.items c.push_back_reserved.new.self.items c.args.frame c.push_back_reserved.ensures.items)
    c.self.invariant c.remaining.ensures c.requires.some

pub invariant_of-self-then-is_some-6 : goal.invariant_of-self-then-is_some-6
invariant_of-self-then-is_some-6 c =
    one_more _ _ c.args.frame c.self.inside.waiting c.remaining.result
    (in_second c.self.inside.first c.self.inside.second c.self.inside.later.items c.args.frame (search rules) (search rules))
    c.self.invariant c.remaining.ensures c.requires.some
