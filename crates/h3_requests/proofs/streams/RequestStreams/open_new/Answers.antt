-- Nothing waited on it, and nothing does.
use Rattle.std.proofs.Common.{refl, sym, ◌∙◌, ap}
use Rattle.h3_connection.specs.State.{kept_at}
use Rattle.h3_requests.specs.Stored.{over_at, stored_at}
use Rattle.h3_requests.proofs.Found.{few, found, none_under}
use Rattle.h3_requests.proofs.Sendable.{came, seen_set}
use Rattle.h3_requests.proofs.streams.RequestStreams.open_new.Goals as goal

pub open_new-requires : goal.open_new-requires
open_new-requires c =
    none_under _ (over_at c.self.inside.streams c.args.id)
    (sym (found (stored_at c.self.inside.streams) c.args.id (few _ _ c.into_inner-self-inside.ensures.value c.into_inner-self-inside.ensures.bound)) ∙ ap (λ l. kept_at l c.args.id) c.self.view_is ∙ c.requires)

pub count_seen-self-inside-requires : goal.count_seen-self-inside-requires
count_seen-self-inside-requires c = seen_set _ _ c.args.id _ c.in-Ok.ensures.ok c.self.invariant.seen_at_least

pub invariant_of-self-2 : goal.invariant_of-self-2
invariant_of-self-2 c = came _ _ _ _ c.args.id _ c.in-Ok.ensures.ok c.in-Ok.ensures.distinct refl refl refl refl refl (ap (λ l. kept_at l c.args.id) c.self.view_is ∙ c.requires) c.self.invariant c.count_seen-self-inside.ensures.seen
