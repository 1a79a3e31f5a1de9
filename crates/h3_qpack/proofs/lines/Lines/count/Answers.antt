use Rattle.std.proofs.Common.{[], ◌∷◌, ◌++◌, refl, ap, ◌∙◌}
use Rattle.std.proofs.lemmas.Result.{err_from_is_err_and}
use Rattle.h3_qpack.specs.Sizes.{counted_on}
use Rattle.h3_qpack.proofs.FieldsIn.{none_read, one_read, all_read, bad_read, one_kept, line_asks}
use Rattle.h3_qpack.specs.ReasonLaws.{reason_with_map}
use Rattle.h3_qpack.proofs.Sizes.{counted_more}
use Rattle.h3_qpack.proofs.lines.Lines.count.Goals as goal

pub lines-init : goal.lines-init
lines-init c = ([], none_read _ _ _, refl, λ asks. asks)

pub lines-preserved : goal.lines-preserved
lines-preserved c =
    let seen = c.lines.invariant in (
      seen.0 ++ c.in_ok-line.line ∷ [],
      one_read _ _ _ seen.0 c.in_ok-line.line _ _ seen.1 c.in_ok-line.ensures,
      c.in_ok-add.ensures ∙ ap (λ n. counted_on c.args.name.now n c.in_ok-line.line) seen.2 ∙ counted_more c.args.name.now seen.0 c.in_ok-line.line,
      λ asks. one_kept _ _ _ _ _ _ seen.3 c.in_ok-line.ensures,
    )

pub returns-clause-ok : goal.returns-clause-ok
returns-clause-ok c =
    let seen = c.lines.invariant in
    let all = all_read _ _ _ seen.0 _ seen.1 (rw c.remaining.ensures at c.lines-test.false) in
    (seen.0, all.0, seen.2, all.1)

pub returns-in_err-line-clause-err : goal.returns-in_err-line-clause-err
returns-in_err-line-clause-err c =
    let seen = c.lines.invariant in
    let p = err_from_is_err_and c.from_residual.result c.from_residual.ensures.1 in
    rw (p.1, p.2) (reason_with_map _ _ _ _ _ (λ m. tt) (λ none. bad_read _ _ _ seen.0 _ seen.1 (rw c.remaining.ensures at c.lines-test.true) none) c.in_err-line.ensures)

pub returns-in_err-line-clause-memory : goal.returns-in_err-line-clause-memory
returns-in_err-line-clause-memory c =
    let p = err_from_is_err_and c.from_residual.result c.from_residual.ensures.1 in
    rw (p.1, p.2) (line_asks _ _ _ _ _ c.lines.invariant.3 c.in_err-line.ensures)

pub returns-in_err-add-clause-memory : goal.returns-in_err-add-clause-memory
returns-in_err-add-clause-memory c =
    let p = err_from_is_err_and c.from_residual-in_err-add.result c.from_residual-in_err-add.ensures.1 in
    rw (p.1, p.2) λ same. one_kept _ _ _ _ _ _ c.lines.invariant.3 c.in_ok-line.ensures
