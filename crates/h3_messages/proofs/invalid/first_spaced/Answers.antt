use Rattle.std.proofs.Common.{◌-◌, ◌∙◌, ap, sym, length}
use Rattle.std.specs.Prelude.{◌||◌, slice_index}
use Rattle.h3_messages.specs.Messages.{has_space_around, is_space}
use Rattle.h3_messages.proofs.Positions.{found, next}
use Rattle.h3_messages.proofs.invalid.first_spaced.Goals as goal
use Rattle.h3_messages.proofs.invalid.first_spaced.Goals.{Then-has_space_around, Else-has_space_around}

pub returns-then-has_space_around : goal.returns-then-has_space_around
returns-then-has_space_around c =
    let spaced = ap (λ v. is_space (slice_index v 0) || is_space (slice_index v (length v - 1))) (sym c.value.ensures) in
    found has_space_around c.args.fields.now c.loop-place.place c.get.result c.get.ensures (spaced ∙ sym c.has_space_around.ensures ∙ c.if-has_space_around.true) c.loop-place.invariant

pub loop-place-preserved : goal.loop-place-preserved
loop-place-preserved c =
    let spaced = ap (λ v. is_space (slice_index v 0) || is_space (slice_index v (length v - 1))) (sym c.value.ensures) in
    next has_space_around c.args.fields.now c.loop-place.place c.get.result c.get.ensures (spaced ∙ sym c.has_space_around.ensures ∙ c.if-has_space_around.false) c.loop-place.invariant
