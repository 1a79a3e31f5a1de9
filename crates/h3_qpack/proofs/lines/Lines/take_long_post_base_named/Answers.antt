use Rattle.std.proofs.Common.{refl}
use Rattle.std.proofs.lemmas.Result.{err_from_is_err_and}
use Rattle.h3_field.specs.ShapeAnswer.{behind}
use Rattle.h3_field.specs.IntegerReading.{integer}
use Rattle.h3_field.specs.LineReading.{post_base_named}
use Rattle.h3_field.specs.LineAnswer.{post_base_named_line}
use Rattle.h3_field.specs.ShorterLaws.{post_base_named_less}
use Rattle.h3_field.specs.SectionLaws.{line_post_base_named}
use Rattle.h3_qpack.proofs.LinesAt.{begins_with, begins_with_none, refused_line}
use Rattle.h3_qpack.proofs.lines.Lines.take_long_post_base_named.Goals as goal

pub returns : goal.returns
returns c =
    (begins_with (behind (integer 3 c.args.buf.now)) c.args.self.now.table c.args.self.now.base post_base_named_line post_base_named _ _ _ _ post_base_named_less (line_post_base_named _ c.requires.some c.requires.own) (c.in_ok-line.ensures.own c.requires.own)
    (rw (c.named.ensures, c.in_ok-entry.ensures) refl))

pub returns-in_err-entry : goal.returns-in_err-entry
returns-in_err-entry c =
    let p = err_from_is_err_and c.from_residual-in_err-entry.result c.from_residual-in_err-entry.ensures.1 in
    rw (p.1, p.2, c.in_err-entry.ensures.1) (begins_with_none (behind (integer 3 c.args.buf.now)) c.args.self.now.table c.args.self.now.base post_base_named_line _ _ _ _ (line_post_base_named _ c.requires.some c.requires.own) (c.in_ok-line.ensures.own c.requires.own)
    (rw c.in_err-entry.ensures.0 refl))

pub returns-in_err-line : goal.returns-in_err-line
returns-in_err-line c =
    let p = err_from_is_err_and c.from_residual.result c.from_residual.ensures.1 in
    rw (p.1, p.2) (refused_line (behind (integer 3 c.args.buf.now)) c.args.self.now.table c.args.self.now.base post_base_named_line _ _ _ _ (line_post_base_named _ c.requires.some c.requires.own) (c.in_err-line.ensures.own c.requires.own))
