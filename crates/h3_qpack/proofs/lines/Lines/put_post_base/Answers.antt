use Rattle.std.proofs.lemmas.Result.{err_from_is_err_and}
use Rattle.h3_field.specs.ShapeAnswer.{AtInteger}
use Rattle.h3_field.specs.LineReading.{post_base}
use Rattle.h3_field.specs.LineAnswer.{post_base_line}
use Rattle.h3_field.specs.ShorterLaws.{post_base_less}
use Rattle.h3_field.specs.SectionLaws.{line_post_base}
use Rattle.h3_qpack.proofs.LinesAt.{begins_with, begins_with_none, refused_line, puts, puts_none}
use Rattle.h3_qpack.proofs.lines.Lines.put_post_base.Goals as goal

pub returns : goal.returns
returns c =
    puts _ _ _ _ _ _ c.in_ok-entry.entry c.put.result
    (begins_with AtInteger c.args.self.now.table c.args.self.now.base post_base_line post_base _ _ _ _ post_base_less (line_post_base _ c.requires.some c.requires.own) (c.in_ok-line.ensures.own c.requires.own)
    c.in_ok-entry.ensures)
    (rw c.lent.ensures at c.put.ensures.ok) c.put.ensures.err

pub returns-in_err-entry : goal.returns-in_err-entry
returns-in_err-entry c =
    let p = err_from_is_err_and c.from_residual-in_err-entry.result c.from_residual-in_err-entry.ensures.1 in
    rw (p.1, p.2, c.in_err-entry.ensures.1) (begins_with_none AtInteger c.args.self.now.table c.args.self.now.base post_base_line _ _ _ _ (line_post_base _ c.requires.some c.requires.own) (c.in_ok-line.ensures.own c.requires.own)
    c.in_err-entry.ensures.0)

pub returns-in_err-line : goal.returns-in_err-line
returns-in_err-line c =
    let p = err_from_is_err_and c.from_residual.result c.from_residual.ensures.1 in
    rw (p.1, p.2) (puts_none _ _ _ _ (refused_line AtInteger c.args.self.now.table c.args.self.now.base post_base_line _ _ _ _ (line_post_base _ c.requires.some c.requires.own) (c.in_err-line.ensures.own c.requires.own)))
