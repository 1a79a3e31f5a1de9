use Rattle.std.proofs.Common.{refl}
use Rattle.h3_field.specs.SectionLaws.{named_entry, line_named}
use Rattle.h3_qpack.proofs.LinesAt.{named_put}
use Rattle.h3_qpack.proofs.lines.Lines.has_put_named.Goals as goal

pub returns-in-Ok-get_name-clause-yes : goal.returns-in-Ok-get_name-clause-yes
returns-in-Ok-get_name-clause-yes c = λ yes.
    named_put c.args.self.now.table c.args.self.now.base c.args.buf.now c.decode_index.new.buf c.has_put_value.new.buf c.in-Ok-get_name.name.now c.args.block.now c.has_put_value.new.block _
    (line_named _ c.requires.some c.requires.own) c.in-Ok.ensures.answer (c.has_put_value.ensures.yes yes)
    (λ value. rw c.in-Static.is (named_entry _ _ _ _ c.in-Ok-get_name.ensures))

pub returns-in-Ok-relative-clause-yes : goal.returns-in-Ok-relative-clause-yes
returns-in-Ok-relative-clause-yes c = λ yes.
    let read = rw c.name.ensures at (c.has_put_value-in-Ok-relative.ensures.yes yes) in
    named_put c.args.self.now.table c.args.self.now.base c.args.buf.now c.decode_index.new.buf c.has_put_value-in-Ok-relative.new.buf c.in-Ok-relative.entry.name c.args.block.now c.has_put_value-in-Ok-relative.new.block _
    (line_named _ c.requires.some c.requires.own) c.in-Ok.ensures.answer read
    (λ value. rw (c.in-Dynamic.is, c.in-Ok-relative.ensures) refl)
