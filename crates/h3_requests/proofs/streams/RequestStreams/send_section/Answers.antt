-- The stream waits for as much as before, and whether bytes wait on it is told.
use Rattle.std.proofs.Common.{rules, sym, ◌∙◌}
use Rattle.h3_requests.proofs.Sendable.{both_kept, of_plain, settled, written}
use Rattle.h3_requests.proofs.streams.RequestStreams.send_section.Goals as goal

pub invariant_of-self-in_default-reserve_both : goal.invariant_of-self-in_default-reserve_both
invariant_of-self-in_default-reserve_both c = both_kept {s = c.self.inside.ready} {t = c.reserve_both.new.self} c.reserve_both.ensures.same c.reserve_both.ensures.ending c.reserve_both.ensures.places c.reserve_both.ensures.classes (written _ _ _ _ c.id-id.result c.in-Some.stream.now _ (c.get_mut.follows.holds _) (search rules) (search rules) (search rules) c.self.invariant)

pub invariant_of-self-in-Err : goal.invariant_of-self-in-Err
invariant_of-self-in-Err c = both_kept {s = c.self.inside.ready} {t = c.reserve_both.new.self} c.reserve_both.ensures.same c.reserve_both.ensures.ending c.reserve_both.ensures.places c.reserve_both.ensures.classes (written _ _ _ _ c.id-id.result c.in-Some.stream.now _ (c.get_mut.follows.holds _) (search rules) (search rules) (search rules) c.self.invariant)

pub invariant_of-self-2 : goal.invariant_of-self-2
invariant_of-self-2 c = settled _ c.reserve_both.new.self c.settle.new.self _ _ _ c.id-id.result _ c.in-Some.stream.now _ (c.get_mut.follows.holds _) (search rules) (search rules) c.settle.ensures.bytes (search rules) c.settle.ensures.ends (search rules) (λ may. search rules) (search rules) (search rules) c.settle.ensures.classes (both_kept {s = c.self.inside.ready} {t = c.reserve_both.new.self} c.reserve_both.ensures.same c.reserve_both.ensures.ending c.reserve_both.ensures.places c.reserve_both.ensures.classes c.self.invariant)

-- while all streams are of one class it is of that
pub class_if-class-requires : goal.class_if-class-requires
class_if-class-requires c = λ none. of_plain {s = c.self.inside.ready} c.id-id.result c.in-Some.stream.now c.self.invariant (search rules) (sym c.has_classes.ensures ∙ none)
