use Rattle.std.proofs.Common.{refl}
use Rattle.h3_field.specs.ShapeAnswer.{AtInteger}
use Rattle.h3_field.specs.LineReading.{post_base_named}
use Rattle.h3_field.specs.LineAnswer.{short_post_base_named_line}
use Rattle.h3_field.specs.SectionLaws.{line_post_base_named}
use Rattle.h3_field.specs.ShorterLaws.{post_base_named_less}
use Rattle.h3_qpack.proofs.LinesAt.{begins_with}
use Rattle.h3_qpack.proofs.lines.Lines.take_short_post_base_named.Goals as goal

pub returns-clause-some : goal.returns-clause-some
returns-clause-some c =
    (begins_with AtInteger c.args.self.now.table c.args.self.now.base (short_post_base_named_line _) post_base_named _ _ _ _ post_base_named_less (line_post_base_named _ c.requires.some c.requires.own) (rw (c.new-ahead.ensures, c.chunk.ensures) at c.in_ok-head.ensures.some)
    (rw (c.with_never_indexed.ensures, c.in-Ok.ensures, c.in_ok-field.ensures, c.as_slice.ensures) refl))
