-- The count of the stream is replaced by what it waits for now.
use Rattle.std.proofs.Common.{rules}
use Rattle.h3_requests.proofs.Counts.{has_count_at}
use Rattle.h3_requests.proofs.Sendable.{moved, replaced, written}
use Rattle.h3_requests.specs.Stored.{streams_in}
use Rattle.h3_requests.proofs.streams.RequestStreams.reset_there.Goals as goal

pub invariant_of-self-in_default-reset : goal.invariant_of-self-in_default-reset
invariant_of-self-in_default-reset c = written _ _ _ _ c.args.id c.in-Some.stream.now _ (c.get_mut.follows.holds _) (search rules) (search rules) (search rules) c.self.invariant

pub replace-requires-clause-among : goal.replace-requires-clause-among
replace-requires-clause-among c = has_count_at _ (streams_in c.self.inside.streams) c.args.id _ (search rules) c.self.invariant.counted

pub invariant_of-self-2 : goal.invariant_of-self-2
invariant_of-self-2 c = moved c.retire_if.ensures
    (replaced _ _ _ _ _ c.args.id c.in-Some.stream.now _ (c.get_mut.follows.holds _) (search rules) c.replace.ensures.sound (search rules) (search rules) c.self.invariant)
