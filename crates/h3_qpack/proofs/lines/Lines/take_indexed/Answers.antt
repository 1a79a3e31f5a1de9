use Rattle.std.proofs.Common.{sym, ◌∙◌, ap, Some}
use Rattle.std.proofs.lemmas.Result.{err_from_is_err_and}
use Rattle.h3_field.specs.ShapeAnswer.{AtInteger}
use Rattle.h3_field.specs.LineReading.{indexed}
use Rattle.h3_field.specs.LineAnswer.{indexed_line}
use Rattle.h3_field.specs.SectionLaws.{line_indexed}
use Rattle.h3_field.specs.ShorterLaws.{indexed_less}
use Rattle.h3_field.specs.StaticTableLaws.{static_none}
use Rattle.h3_qpack.proofs.LinesAt.{begins_with, begins_with_none}
use Rattle.h3_qpack.proofs.lines.Lines.take_indexed.Goals as goal

pub returns-in_ok-get-in-Static : goal.returns-in_ok-get-in-Static
returns-in_ok-get-in-Static c =
    begins_with AtInteger c.args.self.now.table c.args.self.now.base indexed_line indexed _ _ _ _ indexed_less (line_indexed _ c.requires.some c.requires.own) (c.in_ok-index.ensures.own c.requires.own)
    (rw (c.in-Static.is, c.own.ensures) c.in_ok-get-in-Static.ensures)

pub returns-in_err-get-in-Static : goal.returns-in_err-get-in-Static
returns-in_err-get-in-Static c =
    let p = err_from_is_err_and c.from_residual-in_err-get-in-Static.result c.from_residual-in_err-get-in-Static.ensures.1 in
    rw (p.1, p.2) (begins_with_none AtInteger c.args.self.now.table c.args.self.now.base indexed_line _ _ _ _ (line_indexed _ c.requires.some c.requires.own) (c.in_ok-index.ensures.own c.requires.own)
    (rw c.in-Static.is (static_none c.in-Static.index c.in_err-get-in-Static.ensures.1)))

pub returns-in_ok-relative-in-Dynamic : goal.returns-in_ok-relative-in-Dynamic
returns-in_ok-relative-in-Dynamic c =
    (begins_with AtInteger c.args.self.now.table c.args.self.now.base indexed_line indexed _ _ _ _ indexed_less (line_indexed _ c.requires.some c.requires.own) (c.in_ok-index.ensures.own c.requires.own)
    (rw c.in-Dynamic.is (c.in_ok-relative-in-Dynamic.ensures ∙ ap Some (sym c.entry.ensures))))
