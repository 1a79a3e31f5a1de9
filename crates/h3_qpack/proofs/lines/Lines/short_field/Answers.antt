use Rattle.h3_field.specs.SectionLaws.{named_entry}
use Rattle.h3_qpack.proofs.lines.Lines.short_field.Goals as goal

pub returns-in_ok-field-in-Ok : goal.returns-in_ok-field-in-Ok
returns-in_ok-field-in-Ok c = rw (c.in-Static.is, c.with_never_indexed.ensures, c.in_ok-field-in-Ok.ensures.some) (named_entry _ _ _ _ c.in-Ok.ensures)
