use Rattle.h3_field.specs.ShapeAnswer.{AtInteger}
use Rattle.h3_field.specs.LineReading.{named}
use Rattle.h3_field.specs.LineAnswer.{short_named_line}
use Rattle.h3_field.specs.SectionLaws.{line_named}
use Rattle.h3_field.specs.ShorterLaws.{named_less}
use Rattle.h3_qpack.proofs.LinesAt.{begins_with}
use Rattle.h3_qpack.proofs.lines.Lines.take_short_named.Goals as goal

pub returns-clause-some : goal.returns-clause-some
returns-clause-some c =
    begins_with AtInteger c.args.self.now.table c.args.self.now.base (short_named_line _) named _ _ _ _ named_less (line_named _ c.requires.some c.requires.own) (rw (c.new-ahead.ensures, c.chunk.ensures) at c.in_ok-head.ensures.some)
    (rw c.as_slice.ensures at c.in_ok-field.ensures)
