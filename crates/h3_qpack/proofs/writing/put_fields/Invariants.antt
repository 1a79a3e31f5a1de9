use Rattle.h3_qpack.proofs.Fieldwise.{InFields}
use Rattle.h3_qpack.proofs.writing.put_fields.Given as goal

abbrev pub invariant-fields : goal.invariant-fields
invariant-fields l =
    InFields l.fn.table l.fn.section l.fn.lines.items l.fn.encoder_buf.items l.table l.section l.lines.items l.encoder_buf.items l.fields l.place
