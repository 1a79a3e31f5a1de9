use Rattle.std.proofs.Common.{◌∷◌, sym, ◌∙◌, ap, arith}
use Rattle.h3_table.specs.FieldRow.{FieldRow}
use Rattle.h3_table.specs.Records.{first_field, fields_of}
use Rattle.h3_table.proofs.Laid.{first_size}
use Rattle.h3_table.proofs.field_queue.FieldQueue.pop.Goals as goal

pub overflow_add-count : goal.overflow_add-count
overflow_add-count c =
    let laid = rw c.in_ok-record.ensures.items at c.self.invariant.laid in
    omega (arith, laid.0.within, c.self.invariant.few)

pub returns-clause-some : goal.returns-clause-some
returns-clause-some c =
    let laid = rw c.in_ok-record.ensures.items at c.self.invariant.laid in
    let bytes = c.self.inside.bytes.bytes in
    let first = first_field bytes c.in_ok-record.record in (
      first,
      ap (λ (k : FieldRow). k.fields) (sym c.self.view_is) ∙ ap (fields_of bytes) c.in_ok-record.ensures.items ∙ ap (λ b. first ∷ fields_of b c.pop_front.new.self.items) (sym c.drop_front.ensures.bytes),
      sym (first_size bytes c.in_ok-record.record laid.0.within),
    )
