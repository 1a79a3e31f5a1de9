use Rattle.std.proofs.Common.{refl}
use Rattle.h3_field.specs.LineReading.{literal}
use Rattle.h3_field.specs.LineAnswer.{field_line}
use Rattle.h3_field.specs.ShapeAnswer.{AtString}
use Rattle.h3_field.specs.SectionLaws.{line_literal}
use Rattle.h3_field.proofs.NoLines.{has_field}
use Rattle.h3_field.specs.ShorterLaws.{literal_less}
use Rattle.h3_field.proofs.decoder.take_literal.Goals as goal

pub returns-in-Some : goal.returns-in-Some
returns-in-Some c =
    has_field AtString field_line literal _ _ _ _ literal_less (line_literal _ c.requires.some c.requires.own) c.in-Some.ensures.some refl
