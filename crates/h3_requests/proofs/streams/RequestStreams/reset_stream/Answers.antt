-- Nothing waits on it then.
use Rattle.std.proofs.Common.{rules}
use Rattle.h3_requests.proofs.Sendable.{left, moved, written}
use Rattle.h3_requests.proofs.streams.RequestStreams.reset_stream.Goals as goal

pub invariant_of-self-then-is_sent_off : goal.invariant_of-self-then-is_sent_off
invariant_of-self-then-is_sent_off c = written _ _ _ _ c.args.id c.in-Some.stream.now _ (c.get_mut.follows.holds _) (search rules) (search rules) (search rules) c.self.invariant

pub invariant_of-self-2 : goal.invariant_of-self-2
invariant_of-self-2 c = moved c.retire_if.ensures
    (left _ _ _ _ _ _ c.args.id c.in-Some.stream.now _ (c.get_mut.follows.holds _) (search rules) (search rules) (search rules) (search rules) (search rules) (search rules) (search rules) c.leave.ensures.bytes c.leave.ensures.taken c.leave.ensures.places c.leave.ensures.classes c.self.invariant)
