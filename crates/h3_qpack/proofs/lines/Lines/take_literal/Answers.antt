use Rattle.std.proofs.Common.{refl}
use Rattle.h3_field.specs.LineAnswer.{field_line}
use Rattle.h3_field.specs.LineReading.{literal}
use Rattle.h3_field.specs.ShapeAnswer.{AtString}
use Rattle.h3_field.specs.SectionLaws.{line_literal}
use Rattle.h3_field.specs.ShorterLaws.{literal_less}
use Rattle.h3_qpack.proofs.LinesAt.{begins_with}
use Rattle.h3_qpack.proofs.lines.Lines.take_literal.Goals as goal

pub returns-in-Some : goal.returns-in-Some
returns-in-Some c =
    begins_with AtString c.args.self.now.table c.args.self.now.base field_line literal _ _ _ _ literal_less (line_literal _ c.requires.some c.requires.own) c.in-Some.ensures.some (rw c.own.ensures refl)
