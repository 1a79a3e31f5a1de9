use Rattle.std.proofs.Common.{◌≡◌, ◌-◌, false, refl, sym, ◌∙◌, ap, Some, None}
use Rattle.h3_table.specs.TableState.{entry_at}
use Rattle.h3_field.specs.ShapeAnswer.{behind}
use Rattle.h3_field.specs.IntegerReading.{integer}
use Rattle.h3_field.specs.InstructionReading.{name_reference}
use Rattle.h3_field.specs.InstructionAnswer.{named_insertion}
use Rattle.h3_field.specs.SectionLaws.{named_entry}
use Rattle.h3_field.specs.StaticTableLaws.{static_none}
use Rattle.h3_field.specs.ShorterLaws.{name_reference_less}
use Rattle.h3_field.specs.ReadBackLaws.{instruction_named}
use Rattle.h3_qpack.proofs.InsertionsAt.{begins_insertion, begins_no_insertion, refused}
use Rattle.h3_qpack.proofs.decoder.Decoder.read_long_named.Goals as goal

pub returns-in-Ok : goal.returns-in-Ok
returns-in-Ok c =
    begins_insertion (behind (integer 6 c.args.buf.now)) c.args.self.now.table named_insertion name_reference c.args.buf.now _ _ _ _ name_reference_less (instruction_named _ c.requires.some c.requires.own) c.in-Ok-Some-Static.field-0-is (c.in-Ok-Some-Static.ensures.own c.requires.own)
    (rw c.in-Ok-Some-Static.field-0-0-is refl) (rw (c.in-Ok-Some-Static.field-0-0-is, c.with_static_name.ensures) (named_entry _ _ _ false c.in-Ok.ensures)) (rw c.with_static_name.ensures refl)

pub returns-in-Err-get_name : goal.returns-in-Err-get_name
returns-in-Err-get_name c =
    begins_no_insertion (behind (integer 6 c.args.buf.now)) c.args.self.now.table named_insertion (name_reference c.args.buf.now) c.args.buf.now _ _ _ (instruction_named _ c.requires.some c.requires.own) c.in-Ok-Some-Static.field-0-is (c.in-Ok-Some-Static.ensures.own c.requires.own)
    (rw c.in-Ok-Some-Static.field-0-0-is refl) (rw (c.in-Ok-Some-Static.field-0-0-is, static_none c.in-Ok-Some-Static.index c.in-Err-get_name.ensures.1) refl)

pub returns-in-Ok-with_value : goal.returns-in-Ok-with_value
returns-in-Ok-with_value c =
    let there : entry_at c.self.inside.entries (c.self.inside.entries.inserted - c.in-Ok-Some-Dynamic.index) ≡ Some c.in-Ok-relative.entry =
    ap (λ n. entry_at c.self.inside.entries (n - c.in-Ok-Some-Dynamic.index)) (sym c.inserted-newest.ensures.value) ∙ c.in-Ok-relative.ensures in
    rw (← c.self.view_is) (begins_insertion (behind (integer 6 c.args.buf.now)) c.self.inside.entries named_insertion name_reference c.args.buf.now _ _ _ _ name_reference_less (instruction_named _ c.requires.some c.requires.own) c.in-Ok-Some-Dynamic.field-0-is (c.in-Ok-Some-Dynamic.ensures.own c.requires.own)
    (rw c.in-Ok-Some-Dynamic.field-0-0-is refl) (rw (c.in-Ok-Some-Dynamic.field-0-0-is, c.in-Ok-with_value.ensures.ok, there) refl) (rw c.in-Ok-with_value.ensures.ok refl))

pub returns-in-Err-relative : goal.returns-in-Err-relative
returns-in-Err-relative c =
    let none : entry_at c.self.inside.entries (c.self.inside.entries.inserted - c.in-Ok-Some-Dynamic.index) ≡ None =
    ap (λ n. entry_at c.self.inside.entries (n - c.in-Ok-Some-Dynamic.index)) (sym c.inserted-newest.ensures.value) ∙ c.in-Err-relative.ensures.0 in
    rw (c.in-Err-relative.ensures.1, ← c.self.view_is) (begins_no_insertion (behind (integer 6 c.args.buf.now)) c.self.inside.entries named_insertion (name_reference c.args.buf.now) c.args.buf.now _ _ _ (instruction_named _ c.requires.some c.requires.own) c.in-Ok-Some-Dynamic.field-0-is (c.in-Ok-Some-Dynamic.ensures.own c.requires.own)
    (rw c.in-Ok-Some-Dynamic.field-0-0-is refl) (rw (c.in-Ok-Some-Dynamic.field-0-0-is, none) refl))

pub returns-in-Err : goal.returns-in-Err
returns-in-Err c = rw c.from.ensures (refused (behind (integer 6 c.args.buf.now)) c.args.self.now.table named_insertion _ _ _ _ (instruction_named _ c.requires.some c.requires.own) (c.in-Err.ensures.own c.requires.own))
