use Rattle.std.proofs.Common.{Some, refl}
use Rattle.h3_field.specs.InstructionAnswer.{field_insertion}
use Rattle.h3_field.specs.InstructionReading.{literal_name}
use Rattle.h3_field.specs.ReadBackLaws.{instruction_literal}
use Rattle.h3_field.specs.ShapeAnswer.{AtString}
use Rattle.h3_field.specs.ShorterLaws.{literal_name_less}
use Rattle.h3_qpack.proofs.InsertionsAt.{begins_insertion, plain_field_is}
use Rattle.h3_qpack.proofs.decoder.Decoder.read_literal.Goals as goal

pub returns-in-Some : goal.returns-in-Some
returns-in-Some c =
    begins_insertion AtString c.args.self.now.table field_insertion literal_name c.args.buf.now _ (Some c.in-Some.field) c.in-Some.field _ literal_name_less (instruction_literal _ c.requires.some c.requires.own) refl
    c.in-Some.ensures.some refl (plain_field_is c.in-Some.field c.in-Some.ensures.plain) c.in-Some.ensures.plain
