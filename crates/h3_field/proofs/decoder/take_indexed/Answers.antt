use Rattle.std.proofs.Common.{refl}
use Rattle.std.proofs.lemmas.Result.{err_from_is_err_and}
use Rattle.h3_field.specs.LineReading.{indexed}
use Rattle.h3_field.specs.LineAnswer.{indexed_line}
use Rattle.h3_field.specs.ShapeAnswer.{AtInteger}
use Rattle.h3_field.specs.SectionLaws.{line_indexed}
use Rattle.h3_field.proofs.NoLines.{has_field, no_static}
use Rattle.h3_field.specs.ShorterLaws.{indexed_less}
use Rattle.h3_field.proofs.decoder.take_indexed.Goals as goal

pub returns-in_ok-get-in-Static : goal.returns-in_ok-get-in-Static
returns-in_ok-get-in-Static c =
    has_field AtInteger indexed_line indexed _ _ _ _ indexed_less (line_indexed _ c.requires.some c.requires.own) (c.in_ok-index.ensures.own c.requires.own) (rw c.in-Static.is c.in_ok-get-in-Static.ensures)

pub returns-in_err-get-in-Static : goal.returns-in_err-get-in-Static
returns-in_err-get-in-Static c =
    let p = err_from_is_err_and c.from_residual-in_err-get-in-Static.result c.from_residual-in_err-get-in-Static.ensures.1 in
    rw (p.1, p.2) (no_static AtInteger indexed_line _ _ _ _ (line_indexed _ c.requires.some c.requires.own) (c.in_ok-index.ensures.own c.requires.own) c.in-Static.index c.in_err-get-in-Static.ensures.1 (rw c.in-Static.is refl))
