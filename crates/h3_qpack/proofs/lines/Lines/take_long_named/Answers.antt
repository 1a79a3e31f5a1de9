use Rattle.std.proofs.Common.{refl}
use Rattle.std.proofs.lemmas.Result.{err_from_is_err_and}
use Rattle.h3_field.specs.ShapeAnswer.{behind}
use Rattle.h3_field.specs.IntegerReading.{integer}
use Rattle.h3_field.specs.LineReading.{named}
use Rattle.h3_field.specs.LineAnswer.{named_line}
use Rattle.h3_field.specs.SectionLaws.{named_entry, line_named}
use Rattle.h3_field.specs.ShorterLaws.{named_less}
use Rattle.h3_field.specs.StaticTableLaws.{static_none}
use Rattle.h3_qpack.proofs.LinesAt.{begins_with, begins_with_none, refused_line}
use Rattle.h3_qpack.proofs.lines.Lines.take_long_named.Goals as goal

pub returns-in_ok-get_name-in-Static : goal.returns-in_ok-get_name-in-Static
returns-in_ok-get_name-in-Static c =
    begins_with (behind (integer 4 c.args.buf.now)) c.args.self.now.table c.args.self.now.base named_line named _ _ _ _ named_less (line_named _ c.requires.some c.requires.own) (c.in_ok-index.ensures.own c.requires.own)
    (rw (c.in-Static.is, c.own.ensures, c.with_never_indexed.ensures, c.with_static_name-field.ensures) (named_entry _ _ _ _ c.in_ok-get_name-in-Static.ensures))

pub returns-in_err-get_name-in-Static : goal.returns-in_err-get_name-in-Static
returns-in_err-get_name-in-Static c =
    let p = err_from_is_err_and c.from_residual-in_err-get_name-in-Static.result c.from_residual-in_err-get_name-in-Static.ensures.1 in
    rw (p.1, p.2) (begins_with_none (behind (integer 4 c.args.buf.now)) c.args.self.now.table c.args.self.now.base named_line _ _ _ _ (line_named _ c.requires.some c.requires.own) (c.in_ok-index.ensures.own c.requires.own)
    (rw (c.in-Static.is, static_none c.in-Static.index c.in_err-get_name-in-Static.ensures.1) refl))

pub returns-in_ok-relative-in-Dynamic : goal.returns-in_ok-relative-in-Dynamic
returns-in_ok-relative-in-Dynamic c =
    (begins_with (behind (integer 4 c.args.buf.now)) c.args.self.now.table c.args.self.now.base named_line named _ _ _ _ named_less (line_named _ c.requires.some c.requires.own) (c.in_ok-index.ensures.own c.requires.own)
    (rw (c.in-Dynamic.is, c.named.ensures, c.in_ok-relative-in-Dynamic.ensures) refl))

pub returns-in_err-index : goal.returns-in_err-index
returns-in_err-index c =
    let p = err_from_is_err_and c.from_residual.result c.from_residual.ensures.1 in
    rw (p.1, p.2) (refused_line (behind (integer 4 c.args.buf.now)) c.args.self.now.table c.args.self.now.base named_line _ _ _ _ (line_named _ c.requires.some c.requires.own) (c.in_err-index.ensures.own c.requires.own))
