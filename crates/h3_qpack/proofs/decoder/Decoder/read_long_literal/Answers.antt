use Rattle.std.proofs.Common.{refl}
use Rattle.h3_field.specs.ShapeAnswer.{AtString}
use Rattle.h3_field.specs.InstructionReading.{literal_name}
use Rattle.h3_field.specs.InstructionAnswer.{literal_insertion}
use Rattle.h3_field.specs.ShorterLaws.{literal_name_less}
use Rattle.h3_field.specs.ReadBackLaws.{instruction_literal}
use Rattle.h3_qpack.proofs.InsertionsAt.{begins_insertion, refused}
use Rattle.h3_qpack.proofs.decoder.Decoder.read_long_literal.Goals as goal

pub returns-in-Ok-Some : goal.returns-in-Ok-Some
returns-in-Ok-Some c =
    begins_insertion AtString c.args.self.now.table literal_insertion literal_name c.args.buf.now _ _ _ _ literal_name_less (instruction_literal _ c.requires.some c.requires.own) c.in-Ok-Some.field-0-is (c.in-Ok-Some.ensures.own c.requires.own)
    refl (rw (c.in-Ok-Some.field-0-0-is, c.new.ensures) refl) (rw c.new.ensures refl)

pub returns-in-Err : goal.returns-in-Err
returns-in-Err c = rw c.from.ensures (refused AtString c.args.self.now.table literal_insertion _ _ _ _ (instruction_literal _ c.requires.some c.requires.own) (c.in-Err.ensures.own c.requires.own))
