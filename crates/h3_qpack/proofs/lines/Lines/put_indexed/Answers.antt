use Rattle.std.proofs.lemmas.Result.{err_from_is_err_and}
use Rattle.h3_field.specs.ShapeAnswer.{AtInteger}
use Rattle.h3_field.specs.LineReading.{indexed}
use Rattle.h3_field.specs.LineAnswer.{indexed_line}
use Rattle.h3_field.specs.SectionLaws.{line_indexed}
use Rattle.h3_field.specs.ShorterLaws.{indexed_less}
use Rattle.h3_field.specs.StaticTableLaws.{static_none}
use Rattle.h3_qpack.proofs.LinesAt.{begins_with, begins_with_none, refused_line, puts, puts_none}
use Rattle.h3_qpack.proofs.lines.Lines.put_indexed.Goals as goal

pub returns-in_ok-field-in-Static : goal.returns-in_ok-field-in-Static
returns-in_ok-field-in-Static c =
    puts _ _ _ _ _ _ c.in_ok-field-in-Static.field c.put.result
    (begins_with AtInteger c.args.self.now.table c.args.self.now.base indexed_line indexed _ _ _ _ indexed_less (line_indexed _ c.requires.some c.requires.own) (c.in_ok-index.ensures.own c.requires.own)
    (rw c.in-Static.is c.in_ok-field-in-Static.ensures))
    (rw c.of.ensures at c.put.ensures.ok) c.put.ensures.err

pub returns-in_err-field-in-Static : goal.returns-in_err-field-in-Static
returns-in_err-field-in-Static c =
    let p = err_from_is_err_and c.from_residual-in_err-field-in-Static.result c.from_residual-in_err-field-in-Static.ensures.1 in
    rw (p.1, p.2) (begins_with_none AtInteger c.args.self.now.table c.args.self.now.base indexed_line _ _ _ _ (line_indexed _ c.requires.some c.requires.own) (c.in_ok-index.ensures.own c.requires.own)
    (rw c.in-Static.is (static_none c.in-Static.index c.in_err-field-in-Static.ensures.1)))

pub returns-in_ok-entry-in-Dynamic : goal.returns-in_ok-entry-in-Dynamic
returns-in_ok-entry-in-Dynamic c =
    puts _ _ _ _ _ _ c.in_ok-entry-in-Dynamic.entry c.put-in-Dynamic.result
    (begins_with AtInteger c.args.self.now.table c.args.self.now.base indexed_line indexed _ _ _ _ indexed_less (line_indexed _ c.requires.some c.requires.own) (c.in_ok-index.ensures.own c.requires.own)
    (rw c.in-Dynamic.is c.in_ok-entry-in-Dynamic.ensures))
    (rw c.lent.ensures at c.put-in-Dynamic.ensures.ok) c.put-in-Dynamic.ensures.err

pub returns-in_err-entry-in-Dynamic : goal.returns-in_err-entry-in-Dynamic
returns-in_err-entry-in-Dynamic c =
    let p = err_from_is_err_and c.from_residual-in_err-entry-in-Dynamic.result c.from_residual-in_err-entry-in-Dynamic.ensures.1 in
    rw (p.1, p.2, c.in_err-entry-in-Dynamic.ensures.1) (begins_with_none AtInteger c.args.self.now.table c.args.self.now.base indexed_line _ _ _ _ (line_indexed _ c.requires.some c.requires.own) (c.in_ok-index.ensures.own c.requires.own)
    (rw c.in-Dynamic.is c.in_err-entry-in-Dynamic.ensures.0))

pub returns-in_err-index : goal.returns-in_err-index
returns-in_err-index c =
    let p = err_from_is_err_and c.from_residual.result c.from_residual.ensures.1 in
    rw (p.1, p.2) (puts_none _ _ _ _ (refused_line AtInteger c.args.self.now.table c.args.self.now.base indexed_line _ _ _ _ (line_indexed _ c.requires.some c.requires.own) (c.in_err-index.ensures.own c.requires.own)))
