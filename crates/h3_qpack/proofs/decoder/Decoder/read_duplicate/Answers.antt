use Rattle.std.proofs.Common.{◌≡◌, ◌-◌, refl, sym, ◌∙◌, ap, Some}
use Rattle.h3_table.specs.TableState.{entry_at}
use Rattle.h3_field.specs.ShapeAnswer.{AtInteger}
use Rattle.h3_field.specs.InstructionReading.{repeat}
use Rattle.h3_field.specs.InstructionAnswer.{duplication}
use Rattle.h3_field.specs.ShorterLaws.{repeat_less}
use Rattle.h3_field.specs.ReadBackLaws.{instruction_repeat}
use Rattle.h3_qpack.proofs.InsertionsAt.{begins_insertion, refused}
use Rattle.h3_qpack.proofs.decoder.Decoder.read_duplicate.Goals as goal

pub returns-in-Ok-copy : goal.returns-in-Ok-copy
returns-in-Ok-copy c =
    let there : entry_at c.self.inside.entries (c.self.inside.entries.inserted - c.in-Ok-Some.field-0-0.0) ≡ Some c.in-Ok.entry =
    ap (λ n. entry_at c.self.inside.entries (n - c.in-Ok-Some.field-0-0.0)) (sym c.inserted.ensures.value) ∙ c.in-Ok.ensures in
    rw (← c.self.view_is) (begins_insertion AtInteger c.self.inside.entries duplication repeat c.args.buf.now _ _ _ _ repeat_less (instruction_repeat _ c.requires.some c.requires.own) c.in-Ok-Some.field-0-is (c.in-Ok-Some.ensures.own c.requires.own)
    refl (there ∙ ap Some (sym c.in-Ok-copy.ensures)) (rw c.in-Ok-copy.ensures c.is_plain.ensures))

pub returns-in-Err : goal.returns-in-Err
returns-in-Err c = rw c.from.ensures (refused AtInteger c.args.self.now.table duplication _ _ _ _ (instruction_repeat _ c.requires.some c.requires.own) (c.in-Err.ensures.own c.requires.own))
