use Rattle.std.proofs.Common.{[], ◌∷◌, ◌++◌}
use Rattle.std.proofs.lemmas.Result.{err_from_is_err_and}
use Rattle.h3_qpack.proofs.FieldsIn.{one_read, all_read, bad_read, one_kept}
use Rattle.h3_qpack.proofs.Hearings.{asks_memory}
use Rattle.h3_qpack.specs.ReasonLaws.{reason_with_map}
use Rattle.h3_qpack.proofs.lines.Lines.block_within.Goals as goal

pub returns-in_err-put_line-clause-err : goal.returns-in_err-put_line-clause-err
returns-in_err-put_line-clause-err c =
    let seen = rw (c.new-ahead.ensures, c.chunk.ensures) at c.lines.invariant.0 in
    let p = err_from_is_err_and c.from_residual.result c.from_residual.ensures.1 in
    rw (p.1, p.2) (reason_with_map _ _ _ _ _ (λ m. tt) (λ none. bad_read _ _ _ c.lines.block _ seen (rw c.remaining.ensures at c.lines-test.true) none) c.in_err-put_line.ensures)

pub returns-in_err-put_line-clause-memory : goal.returns-in_err-put_line-clause-memory
returns-in_err-put_line-clause-memory c =
    let p = err_from_is_err_and c.from_residual.result c.from_residual.ensures.1 in
    rw (p.1, p.2) λ same.
    let asks = rw (c.new-ahead.ensures, c.chunk.ensures) at c.lines.invariant.4 in
    asks (asks_memory _ _ _ c.in_err-put_line.ensures same)

pub returns-then-mem_size-max-clause-ok : goal.returns-then-mem_size-max-clause-ok
returns-then-mem_size-max-clause-ok c =
    let seen = rw (c.new-ahead.ensures, c.chunk.ensures) at c.lines.invariant.0 in
    let put = c.in_ok-put_line.ensures in
    let next = one_read _ _ _ c.lines.block put.field _ _ seen put.begins in
    (record { front = c.lines.block ++ put.field ∷ []; rest = c.put_line.new.buf; read = next; large = rw (c.size_of_block-mem_size.ensures, put.added) at c.if-mem_size-max.true }, c.lines.invariant.3)

pub lines-preserved : goal.lines-preserved
lines-preserved c =
    let put = c.in_ok-put_line.ensures in (
      rw put.added (one_read _ _ _ c.lines.block put.field _ _ c.lines.invariant.0 put.begins),
      c.size_of_block-mem_size.ensures,
      c.if-mem_size-max.false,
      c.lines.invariant.3,
      λ asks. one_kept _ _ _ _ _ _ c.lines.invariant.4 put.begins,
    )

pub returns-clause-ok : goal.returns-clause-ok
returns-clause-ok c =
    let seen = rw (c.new-ahead.ensures, c.chunk.ensures) at c.lines.invariant.0 in
    let all = all_read _ _ _ c.lines.block _ seen (rw c.remaining.ensures at c.lines-test.false) in
    (all.0, c.lines.invariant.1, c.lines.invariant.2, all.1)
