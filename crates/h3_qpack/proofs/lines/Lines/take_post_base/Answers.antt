use Rattle.std.proofs.Common.{sym, ◌∙◌, ap, Some}
use Rattle.h3_field.specs.ShapeAnswer.{AtInteger}
use Rattle.h3_field.specs.LineReading.{post_base}
use Rattle.h3_field.specs.LineAnswer.{post_base_line}
use Rattle.h3_field.specs.ShorterLaws.{post_base_less}
use Rattle.h3_field.specs.SectionLaws.{line_post_base}
use Rattle.h3_qpack.proofs.LinesAt.{begins_with}
use Rattle.h3_qpack.proofs.lines.Lines.take_post_base.Goals as goal

pub returns : goal.returns
returns c =
    (begins_with AtInteger c.args.self.now.table c.args.self.now.base post_base_line post_base _ _ _ _ post_base_less (line_post_base _ c.requires.some c.requires.own) (c.in_ok-line.ensures.own c.requires.own)
    (c.in_ok-entry.ensures ∙ ap Some (sym c.entry.ensures)))
