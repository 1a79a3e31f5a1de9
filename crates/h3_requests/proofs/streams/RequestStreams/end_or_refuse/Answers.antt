-- The stream waits for as much as before.
use Rattle.std.proofs.Common.{rules}
use Rattle.h3_requests.proofs.Sendable.{moved, written}
use Rattle.h3_requests.proofs.streams.RequestStreams.end_or_refuse.Goals as goal

pub invariant_of-self-then-has_ended : goal.invariant_of-self-then-has_ended
invariant_of-self-then-has_ended c = written _ _ _ _ c.args.id c.in-Some.stream.now _ (c.get_mut.follows.holds _) (search rules) (search rules) (search rules) c.self.invariant

pub invariant_of-self-2 : goal.invariant_of-self-2
invariant_of-self-2 c = moved c.retire_if.ensures
    (written _ _ _ _ c.args.id c.in-Some.stream.now _ (c.get_mut.follows.holds _) (search rules) (search rules) (search rules) c.self.invariant)
