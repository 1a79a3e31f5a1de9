use Rattle.std.proofs.Common.{◌≡◌, ◌++◌, ◌∙◌, sym, ap, arith, length, Some, None}
use Rattle.h3_table.specs.declared.tracking.TrackedSection.{TrackedSection}
use Rattle.h3_table.specs.InOrder.{in_order}
use Rattle.h3_table.proofs.Streams.{one_less}
use Rattle.h3_table.proofs.ByStream.{oldest_taken, none_left}
use Rattle.h3_table.proofs.sections.Sections.take_oldest.Goals as goal

pub invariant_of-self : goal.invariant_of-self
invariant_of-self c =
    let taken = oldest_taken c.args.stream (c.self.inside.places.sections ++ c.self.inside.further) (c.take_oldest.new.places.sections ++ c.take_oldest.new.further) None c.in_err-named.ensures.taken in
    c.self.invariant ∙ ap length (sym taken.none)

pub returns-in_err-named : goal.returns-in_err-named
returns-in_err-named c =
    rw (c.from_residual.ensures, ← c.self.view_is) (oldest_taken c.args.stream (c.self.inside.places.sections ++ c.self.inside.further) (c.take_oldest.new.places.sections ++ c.take_oldest.new.further) None c.in_err-named.ensures.taken)

pub overflow_sub-self : goal.overflow_sub-self
overflow_sub-self c =
    let taken = oldest_taken c.args.stream (c.self.inside.places.sections ++ c.self.inside.further) (c.take_oldest.new.places.sections ++ c.take_oldest.new.further) (Some c.in_ok-named.named) c.in_ok-named.ensures.taken in
    omega (arith, c.self.invariant, one_less c.in_ok-named.named.oldest _ _ taken.one)

pub give_back-requires : goal.give_back-requires
give_back-requires c = λ none.
    let taken = oldest_taken c.args.stream (c.self.inside.places.sections ++ c.self.inside.further) (c.take_oldest.new.places.sections ++ c.take_oldest.new.further) (Some c.in_ok-named.named) c.in_ok-named.ensures.taken in
    let left : length (in_order (λ (t : TrackedSection). t.stream) (c.take_oldest.new.places.sections ++ c.take_oldest.new.further)) ≡ 0 = omega (arith, none, c.self.invariant, one_less c.in_ok-named.named.oldest _ _ taken.one) in
    none_left c.take_oldest.new.places.sections c.take_oldest.new.further left

pub invariant_of-self-2 : goal.invariant_of-self-2
invariant_of-self-2 c =
    let taken = oldest_taken c.args.stream (c.self.inside.places.sections ++ c.self.inside.further) (c.take_oldest.new.places.sections ++ c.take_oldest.new.further) (Some c.in_ok-named.named) c.in_ok-named.ensures.taken in
    rw c.give_back.ensures.same (omega (arith, c.self.invariant, one_less c.in_ok-named.named.oldest _ _ taken.one))

pub returns : goal.returns
returns c =
    rw (← c.self.view_is, c.give_back.ensures.same) (oldest_taken c.args.stream (c.self.inside.places.sections ++ c.self.inside.further) (c.take_oldest.new.places.sections ++ c.take_oldest.new.further) (Some c.in_ok-named.named) c.in_ok-named.ensures.taken)
