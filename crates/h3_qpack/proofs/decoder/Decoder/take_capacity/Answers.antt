use Rattle.std.proofs.Common.{refl, sym, ◌∙◌, arith}
use Rattle.h3_field.specs.ShapeAnswer.{AtInteger}
use Rattle.h3_field.specs.InstructionReading.{capacity}
use Rattle.h3_field.specs.InstructionAnswer.{capacity_setting}
use Rattle.h3_field.specs.ShorterLaws.{capacity_less}
use Rattle.h3_qpack.specs.ReasonLaws.{reason_map}
use Rattle.h3_field.specs.ReadBackLaws.{instruction_capacity}
use Rattle.h3_qpack.proofs.InsertionsAt.{has_instruction, capacity_told, capacity_reads, refused, no_insertion_bad}
use Rattle.h3_qpack.proofs.decoder.Decoder.take_capacity.Goals as goal

pub returns-else-capacity-unwrap_or : goal.returns-else-capacity-unwrap_or
returns-else-capacity-unwrap_or c =
    let own = rw (c.new-ahead.ensures, c.chunk.ensures) at c.in-Ok-Some.ensures.own in
    let here = capacity_told c.args.buf.now c.decode.new.buf c.in-Ok-Some.field-0-0.0 (has_instruction AtInteger capacity_setting (capacity c.args.buf.now) c.args.buf.now c.decode.new.buf c.in-Ok-Some.field-0 c.in-Ok-Some.field-0-0 (instruction_capacity _ c.requires.some c.requires.own) c.in-Ok-Some.field-0-is (own c.requires.own)) in
    let less = capacity_less c.args.buf.now c.decode.new.buf here.form (sym (instruction_capacity _ c.requires.some c.requires.own) ∙ here.whole) in
    rw (c.set_capacity.ensures, ← c.self.view_is) (capacity_reads _ c.args.buf.now c.decode.new.buf c.in-Ok-Some.field-0-0.0 here less (omega arith))

pub returns-in-Err : goal.returns-in-Err
returns-in-Err c =
    let own = rw (c.new-ahead.ensures, c.chunk.ensures) at c.in-Err.ensures.own in (
      rw c.from.ensures (reason_map _ _ _ (no_insertion_bad c.args.self.now c.args.buf.now)
          (refused AtInteger c.args.self.now.table capacity_setting (capacity c.args.buf.now) c.args.buf.now _ c.in-Err.e (instruction_capacity _ c.requires.some c.requires.own) (own c.requires.own))),
      refl,
      refl,
    )
