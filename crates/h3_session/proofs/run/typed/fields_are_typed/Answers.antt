use Rattle.std.proofs.Common.{arith, subst}
use Rattle.std.proofs.lemmas.List.{take_all}
use Rattle.std.proofs.lemmas.List.Elements.{All-more, recursion_from_All}
use Rattle.std.specs.Prelude.{All}
use Rattle.h3_field.specs.ReadBack.{IsFieldOfBytes}
use Rattle.h3_session.proofs.run.typed.fields_are_typed.Goals as goal

pub loop-field-preserved : goal.loop-field-preserved
loop-field-preserved c =
    All-more IsFieldOfBytes c.args.fields.now c.loop-field.field-index c.field-item.result c.loop-field-test.true c.loop-field.invariant (subst IsFieldOfBytes c.field-item.is c.are_bytes.ensures)

pub returns : goal.returns
returns c =
    let fields = c.args.fields.now in
    recursion_from_All IsFieldOfBytes fields (subst (All IsFieldOfBytes) (take_all c.loop-field.field-index fields (omega (arith, c.loop-field-test.false))) c.loop-field.invariant)
