-- The count of the stream is replaced by what it waits for now.
use Rattle.std.proofs.Common.{rules, subst}
use Rattle.h3_blocked.specs.Counting.{Replaces}
use Rattle.h3_connection.specs.State.{RequestState}
use Rattle.h3_requests.proofs.Counts.{has_count_at}
use Rattle.h3_requests.proofs.Sendable.{moved, replaced, written}
use Rattle.h3_requests.specs.Stored.{streams_in}
use Rattle.h3_requests.proofs.streams.RequestStreams.cancel_stream.Goals as goal

pub invariant_of-self-then-is_settled : goal.invariant_of-self-then-is_settled
invariant_of-self-then-is_settled c = written _ _ _ _ c.args.id c.in-Some.stream.now _ (c.get_mut.follows.holds _) (search rules) (search rules) (search rules) c.self.invariant

pub invariant_of-self-in_default-cancel : goal.invariant_of-self-in_default-cancel
invariant_of-self-in_default-cancel c = written _ _ _ _ c.args.id c.in-Some.stream.now _ (c.get_mut.follows.holds _) (search rules) (search rules) (search rules) c.self.invariant

pub replace-requires-clause-among : goal.replace-requires-clause-among
replace-requires-clause-among c = has_count_at _ (streams_in c.self.inside.streams) c.args.id _ (search rules) c.self.invariant.counted

pub invariant_of-self-2 : goal.invariant_of-self-2
invariant_of-self-2 c =
    let waited : Replaces c.self.inside.blocked c.replace.new.self c.stream.inside.incoming.waits_for c.cancel.new.self.waits_for =
    subst (λ n. Replaces c.self.inside.blocked c.replace.new.self n c.cancel.new.self.waits_for) c.waits_for-before.ensures
    (subst (λ n. Replaces c.self.inside.blocked c.replace.new.self c.waits_for-before.result n) c.waits_for.ensures c.replace.ensures.replaced) in
    let stands : Replaces c.self.inside.blocked c.replace.new.self c.in-Some.stream.now.incoming.waits_for c.cancel.new.self.waits_for =
    subst (λ (r : RequestState). Replaces c.self.inside.blocked c.replace.new.self r.incoming.waits_for c.cancel.new.self.waits_for) c.stream.view_is waited in
    moved c.retire_if.ensures
    (replaced _ _ _ _ _ c.args.id c.in-Some.stream.now _ (c.get_mut.follows.holds _) (search rules) c.replace.ensures.sound stands (search rules) c.self.invariant)
