use Rattle.std.proofs.Common.{length, sym, ◌∙◌, ap}
use Rattle.h3_table.specs.FieldRow.{FieldRow}
use Rattle.h3_table.proofs.Laid.{length-fields_of}
use Rattle.h3_table.proofs.field_queue.FieldQueue.len.Goals as goal

pub returns : goal.returns
returns c =
    c.len.ensures ∙ c.self.inside.records.ok.0 ∙ sym (length-fields_of c.self.inside.bytes.bytes c.self.inside.records.items) ∙ ap (λ (k : FieldRow). length k.fields) c.self.view_is
