use Rattle.std.proofs.Common.{◌∙◌, sym}
use Rattle.h3_messages.specs.InvalidField.{is_invalid}
use Rattle.h3_messages.proofs.Positions.{next}
use Rattle.h3_messages.proofs.invalid.first_invalid.Goals as goal

pub loop-place-preserved : goal.loop-place-preserved
loop-place-preserved c =
    next (is_invalid c.args.any_protocol) c.args.fields.now c.loop-place.place c.get.result c.get.ensures (sym c.is_invalid.ensures ∙ c.if-is_invalid.false) c.loop-place.invariant
