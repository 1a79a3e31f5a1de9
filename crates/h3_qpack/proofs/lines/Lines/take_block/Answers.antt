use Rattle.std.proofs.lemmas.Result.{err_from_is_err_and}
use Rattle.h3_qpack.proofs.Sizes.{large_within}
use Rattle.h3_qpack.proofs.lines.Lines.take_block.Goals as goal

pub returns-in_ok-large-in-None-clause-ok : goal.returns-in_ok-large-in-None-clause-ok
returns-in_ok-large-in-None-clause-ok c =
    let told = rw c.in-None.is at c.in_ok-mem_size.ensures.ok in
    let large = rw told.1 at c.in_ok-large-in-None.ensures.ok in
    (large.0, large.1, (large_within _ _ _ told.0.rest told.0.front _ _ told.0.read told.0.large large.1, large.2), large.3)

pub returns-in_err-large-in-None-clause-err : goal.returns-in_err-large-in-None-clause-err
returns-in_err-large-in-None-clause-err c =
    let p = err_from_is_err_and c.from_residual-in_err-large-in-None.result c.from_residual-in_err-large-in-None.ensures.1 in
    let told = rw c.in-None.is at c.in_ok-mem_size.ensures.ok in
    rw (p.1, p.2) (rw told.1 at c.in_err-large-in-None.ensures.err)

pub returns-in_err-large-in-None-clause-memory : goal.returns-in_err-large-in-None-clause-memory
returns-in_err-large-in-None-clause-memory c =
    let p = err_from_is_err_and c.from_residual-in_err-large-in-None.result c.from_residual-in_err-large-in-None.ensures.1 in
    let told = rw c.in-None.is at c.in_ok-mem_size.ensures.ok in
    rw (p.1, p.2) (rw told.1 at c.in_err-large-in-None.ensures.memory)
