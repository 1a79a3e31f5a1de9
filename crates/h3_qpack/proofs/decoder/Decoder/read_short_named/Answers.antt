use Rattle.std.proofs.Common.{Some, refl}
use Rattle.h3_field.specs.InstructionAnswer.{short_named_insertion}
use Rattle.h3_field.specs.InstructionReading.{name_reference}
use Rattle.h3_field.specs.ReadBackLaws.{instruction_named}
use Rattle.h3_field.specs.ShapeAnswer.{AtInteger}
use Rattle.h3_field.specs.ShorterLaws.{name_reference_less}
use Rattle.h3_qpack.proofs.InsertionsAt.{begins_insertion, named_inserts}
use Rattle.h3_qpack.proofs.decoder.Decoder.read_short_named.Goals as goal

pub returns-clause-some : goal.returns-clause-some
returns-clause-some c =
    begins_insertion AtInteger c.args.self.now.table (short_named_insertion _) name_reference c.args.buf.now _ (Some c.in_ok-name.name) c.in_ok-name.name _ name_reference_less (instruction_named _ c.requires.some c.requires.own) refl
    (rw (c.new-ahead.ensures, c.chunk.ensures) at c.in_ok-name.ensures.some) (named_inserts _ c.in_ok-name.name) (rw c.as_slice.ensures at c.in_ok-field.ensures.names) c.in_ok-field.ensures.plain
