use Rattle.std.proofs.lemmas.Result.{err_from_is_err_and}
use Rattle.h3_qpack.proofs.LinesAt.{puts, puts_none}
use Rattle.h3_qpack.proofs.lines.Lines.put_other.Goals as goal

pub returns : goal.returns
returns c = puts _ _ _ _ _ _ c.in_ok-line.line c.put.result c.in_ok-line.ensures (rw c.lent.ensures at c.put.ensures.ok) c.put.ensures.err

pub returns-in_err-line : goal.returns-in_err-line
returns-in_err-line c =
    let p = err_from_is_err_and c.from_residual.result c.from_residual.ensures.1 in
    rw (p.1, p.2) (puts_none _ _ _ _ c.in_err-line.ensures)
