-- The count of the stream that was there goes with it.
use Rattle.std.proofs.Common.{rules, refl}
use Rattle.h3_requests.proofs.Counts.{has_count_at}
use Rattle.h3_requests.proofs.Sendable.{inserted, seen_set}
use Rattle.h3_requests.proofs.streams.RequestStreams.open.Goals as goal

pub replace-requires-clause-among : goal.replace-requires-clause-among
replace-requires-clause-among c = has_count_at _ _ c.args.id _ c.in-Ok.ensures.before c.self.invariant.counted

pub count_seen-self-inside-requires : goal.count_seen-self-inside-requires
count_seen-self-inside-requires c = seen_set _ _ c.args.id _ c.in-Ok.ensures.ok c.self.invariant.seen_at_least

pub invariant_of-self-2 : goal.invariant_of-self-2
invariant_of-self-2 c =
    inserted _ _ _ _ _ _ _ c.args.id _ _ c.in-Ok.ensures.ok c.in-Ok.ensures.distinct refl refl refl refl refl c.in-Ok.ensures.before
    c.replace.ensures.sound c.replace.ensures.replaced (search rules) c.leave.ensures.bytes c.leave.ensures.taken c.leave.ensures.places c.leave.ensures.classes c.self.invariant c.count_seen-self-inside.ensures.seen
