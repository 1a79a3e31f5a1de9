use Rattle.std.proofs.Common.{refl}
use Rattle.std.proofs.lemmas.Result.{err_from_is_err_and}
use Rattle.h3_field.specs.ShapeAnswer.{AtString}
use Rattle.h3_field.specs.LineReading.{literal}
use Rattle.h3_field.specs.LineAnswer.{literal_line}
use Rattle.h3_field.specs.SectionLaws.{line_literal}
use Rattle.h3_field.specs.ShorterLaws.{literal_less}
use Rattle.h3_qpack.proofs.LinesAt.{begins_with, refused_line}
use Rattle.h3_qpack.proofs.lines.Lines.take_long_literal.Goals as goal

pub returns : goal.returns
returns c =
    begins_with AtString c.args.self.now.table c.args.self.now.base literal_line literal _ _ _ _ literal_less (line_literal _ c.requires.some c.requires.own) (c.in_ok-line.ensures.own c.requires.own)
    (rw (c.own.ensures, c.with_never_indexed.ensures, c.new-field.ensures) refl)

pub returns-in_err-line : goal.returns-in_err-line
returns-in_err-line c =
    let p = err_from_is_err_and c.from_residual.result c.from_residual.ensures.1 in
    rw (p.1, p.2) (refused_line AtString c.args.self.now.table c.args.self.now.base literal_line _ _ _ _ (line_literal _ c.requires.some c.requires.own) (c.in_err-line.ensures.own c.requires.own))
