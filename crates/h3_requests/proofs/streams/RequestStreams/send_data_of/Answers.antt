-- The stream waits for as much as before, and whether bytes wait on it is told.
use Rattle.std.proofs.Common.{rules, sym, ◌∙◌}
use Rattle.h3_requests.proofs.Sendable.{body_class, body_end, of_plain, room_kept, settled, written}
use Rattle.h3_requests.proofs.streams.RequestStreams.send_data_of.Goals as goal

pub invariant_of-self-then-not-takes_body : goal.invariant_of-self-then-not-takes_body
invariant_of-self-then-not-takes_body c = written _ _ _ _ c.args.id c.in-Some.stream.now _ (c.get_mut.follows.holds _) (search rules) (search rules) (search rules) c.self.invariant

pub invariant_of-self-then-passes_content : goal.invariant_of-self-then-passes_content
invariant_of-self-then-passes_content c = written _ _ _ _ c.args.id c.in-Some.stream.now _ (c.get_mut.follows.holds _) (search rules) (search rules) (search rules) c.self.invariant

pub invariant_of-self-then-len-eq0 : goal.invariant_of-self-then-len-eq0
invariant_of-self-then-len-eq0 c = written _ _ _ _ c.args.id c.in-Some.stream.now _ (c.get_mut.follows.holds _) (search rules) (search rules) (search rules) c.self.invariant

pub invariant_of-self-in_default-reserve : goal.invariant_of-self-in_default-reserve
invariant_of-self-in_default-reserve c = room_kept {s = c.self.inside.ready} {t = c.reserve.new.self} c.reserve.ensures.same c.reserve.ensures.ends c.reserve.ensures.classes (written _ _ _ _ c.args.id c.in-Some.stream.now _ (c.get_mut.follows.holds _) (search rules) (search rules) (search rules) c.self.invariant)

pub invariant_of-self-in_default-send_body_of : goal.invariant_of-self-in_default-send_body_of
invariant_of-self-in_default-send_body_of c = room_kept {s = c.self.inside.ready} {t = c.reserve.new.self} c.reserve.ensures.same c.reserve.ensures.ends c.reserve.ensures.classes (written _ _ _ _ c.args.id c.in-Some.stream.now _ (c.get_mut.follows.holds _) (search rules) (search rules) (search rules) c.self.invariant)

pub invariant_of-self-2 : goal.invariant_of-self-2
invariant_of-self-2 c = settled _ c.reserve.new.self c.settle.new.self _ _ _ c.args.id _ c.in-Some.stream.now _ (c.get_mut.follows.holds _) (search rules) (search rules) c.settle.ensures.bytes (search rules) c.settle.ensures.ends (search (rules, body_end)) (search (rules, body_end)) (search rules) (search (rules, body_class)) c.settle.ensures.classes (room_kept {s = c.self.inside.ready} {t = c.reserve.new.self} c.reserve.ensures.same c.reserve.ensures.ends c.reserve.ensures.classes c.self.invariant)

-- while all streams are of one class it is of that
pub class_if-class-requires : goal.class_if-class-requires
class_if-class-requires c = λ none. of_plain {s = c.self.inside.ready} c.args.id c.in-Some.stream.now c.self.invariant (search rules) (sym c.has_classes.ensures ∙ none)
