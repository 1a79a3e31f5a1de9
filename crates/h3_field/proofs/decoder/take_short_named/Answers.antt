use Rattle.h3_field.specs.LineReading.{named}
use Rattle.h3_field.specs.LineAnswer.{short_named_line}
use Rattle.h3_field.specs.ShapeAnswer.{AtInteger}
use Rattle.h3_field.specs.SectionLaws.{named_entry, line_named}
use Rattle.h3_field.specs.ShorterLaws.{named_less}
use Rattle.h3_field.proofs.NoLines.{has_field}
use Rattle.h3_field.proofs.decoder.take_short_named.Goals as goal

pub returns-clause-some : goal.returns-clause-some
returns-clause-some c =
    has_field AtInteger (short_named_line _) named _ _ _ _ named_less (line_named _ c.requires.some c.requires.own) (rw (c.new-ahead.ensures, c.chunk.ensures) at c.in_ok-head.ensures.some)
    (rw (c.in-Static.is, c.with_never_indexed.ensures, c.in_ok-field.ensures.some, c.as_slice.ensures) (named_entry _ _ _ _ c.in-Ok.ensures))
