-- The count of the stream goes with it.
use Rattle.std.proofs.Common.{rules, ◌∙◌, ap}
use Rattle.std.specs.Prelude.{◌/◌, min}
use Rattle.h3_requests.proofs.Counts.{has_count_at}
use Rattle.h3_requests.proofs.Sendable.{removed, seen_left}
use Rattle.h3_requests.proofs.streams.RequestStreams.undo_open.Goals as goal

pub replace-requires-clause-among : goal.replace-requires-clause-among
replace-requires-clause-among c = has_count_at _ _ c.args.id _ c.remove-before.ensures.before c.self.invariant.counted

pub invariant_of-self : goal.invariant_of-self
invariant_of-self c =
    removed _ _ _ _ _ _ _ c.args.id _ c.remove-before.ensures.takes_out c.remove-before.ensures.distinct c.remove-before.ensures.before
    c.replace.ensures.sound c.replace.ensures.replaced (search rules) c.leave.ensures.bytes c.leave.ensures.taken c.leave.ensures.places c.leave.ensures.classes c.self.invariant
    (seen_left _ _ _ _ c.args.id c.remove-before.ensures.takes_out (c.min-self-inside.ensures ∙ ap (λ q. min c.self.inside.seen (q / 4)) c.into_inner.ensures.value) c.self.invariant.seen_at_least)
