-- The stream waits for as much as before, and room alone is taken.
use Rattle.std.proofs.Common.{rules}
use Rattle.h3_requests.proofs.Sendable.{room_kept, written}
use Rattle.h3_requests.proofs.streams.RequestStreams.reserve_trailer.Goals as goal

pub invariant_of-self-then-not-takes_body : goal.invariant_of-self-then-not-takes_body
invariant_of-self-then-not-takes_body c = written _ _ _ _ c.args.id c.in-Some.stream.now _ (c.get_mut.follows.holds _) (search rules) (search rules) (search rules) c.self.invariant

pub invariant_of-self-in-Some-early_trailer : goal.invariant_of-self-in-Some-early_trailer
invariant_of-self-in-Some-early_trailer c = written _ _ _ _ c.args.id c.in-Some.stream.now _ (c.get_mut.follows.holds _) (search rules) (search rules) (search rules) c.self.invariant

pub invariant_of-self-in_default-reserve : goal.invariant_of-self-in_default-reserve
invariant_of-self-in_default-reserve c = written _ _ _ _ c.args.id c.in-Some.stream.now _ (c.get_mut.follows.holds _) (search rules) (search rules) (search rules) c.self.invariant

pub invariant_of-self-in_default-reserve-2 : goal.invariant_of-self-in_default-reserve-2
invariant_of-self-in_default-reserve-2 c = room_kept {s = c.self.inside.ready} {t = c.reserve-2.new.self} c.reserve-2.ensures.same c.reserve-2.ensures.ends c.reserve-2.ensures.classes (written _ _ _ _ c.args.id c.in-Some.stream.now _ (c.get_mut.follows.holds _) (search rules) (search rules) (search rules) c.self.invariant)

pub invariant_of-self-2 : goal.invariant_of-self-2
invariant_of-self-2 c = room_kept {s = c.self.inside.ready} {t = c.reserve-2.new.self} c.reserve-2.ensures.same c.reserve-2.ensures.ends c.reserve-2.ensures.classes (written _ _ _ _ c.args.id c.in-Some.stream.now _ (c.get_mut.follows.holds _) (search rules) (search rules) (search rules) c.self.invariant)
