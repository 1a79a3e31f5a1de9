use Rattle.std.proofs.Common.{◌≡◌, ◌-◌, false, refl, sym, ◌∙◌, ap, Some}
use Rattle.h3_field.specs.SectionLaws.{named_entry}
use Rattle.h3_table.specs.TableState.{entry_at}
use Rattle.h3_qpack.proofs.decoder.Decoder.short_named.Goals as goal

pub returns-in_ok-field-in-Ok-clause-names : goal.returns-in_ok-field-in-Ok-clause-names
returns-in_ok-field-in-Ok-clause-names c = rw (c.in-Static.is, c.in_ok-field-in-Ok.ensures.some) (named_entry _ _ _ false c.in-Ok.ensures)
