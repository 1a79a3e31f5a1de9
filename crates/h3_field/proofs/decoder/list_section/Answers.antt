use Rattle.std.proofs.Common.{refl, sym, arith}
use Rattle.std.proofs.lemmas.Result.{err_from_is_err_and}
use Rattle.h3_field.specs.EndLaws.{none_dropped}
use Rattle.h3_field.proofs.Ends.{all_dropped}
use Rattle.h3_field.proofs.Standing.{stand_begin, no_prefix, stand_next, stand_long, stand_end, stand_bad, stand_kept}
use Rattle.h3_field.proofs.decoder.list_section.Goals as goal

pub returns-in_err-decode-clause-answer : goal.returns-in_err-decode-clause-answer
returns-in_err-decode-clause-answer c =
    let p = err_from_is_err_and c.from_residual.result c.from_residual.ensures.1 in
    rw (p.1, p.2) (no_prefix _ _ _ _ (rw (c.new-ahead.ensures, c.chunk.ensures) at c.in_err-decode.ensures.answer), refl)

pub lines-init : goal.lines-init
lines-init c = (rw c.requires (stand_begin _ _ _ _ (rw (c.new-ahead.ensures, c.chunk.ensures) at c.in_ok-decode.ensures.answer)), omega arith)

pub returns-in_err-field-clause-answer : goal.returns-in_err-field-clause-answer
returns-in_err-field-clause-answer c =
    let p = err_from_is_err_and c.from_residual-in_err-field.result c.from_residual-in_err-field.ensures.1 in
    rw (p.1, p.2) (stand_bad _ _ _ _ _ _ c.lines.invariant.0 (rw c.remaining.ensures at c.lines-test.true) c.in_err-field.ensures, refl)

pub returns-then-mem_size-max_size-clause-answer : goal.returns-then-mem_size-max_size-clause-answer
returns-then-mem_size-max_size-clause-answer c = (stand_long _ _ _ _ _ _ _ _ _ c.lines.invariant.0 c.in_ok-field.ensures c.mem_size.ensures c.saturating_add-mem_size.ensures c.if-mem_size-max_size.true, refl)

pub returns-then-mem_size-max_size-clause-rest : goal.returns-then-mem_size-max_size-clause-rest
returns-then-mem_size-max_size-clause-rest c = none_dropped _

pub lines-preserved : goal.lines-preserved
lines-preserved c =
    (stand_next _ _ _ _ _ _ _ _ _ _ c.lines.invariant.0 c.in_ok-field.ensures c.mem_size.ensures c.saturating_add-mem_size.ensures c.if-mem_size-max_size.false c.in_ok-keep.ensures.ok, omega (arith, c.lines.invariant.1, c.in_ok-keep.ensures.room))

pub returns-in_err-keep-clause-answer : goal.returns-in_err-keep-clause-answer
returns-in_err-keep-clause-answer c =
    let p = err_from_is_err_and c.from_residual-in_err-keep.result c.from_residual-in_err-keep.ensures.1 in
    rw (p.1, p.2) (stand_kept _ _ _ _ _ _ _ c.lines.invariant.0 c.in_ok-field.ensures, refl)

pub returns-in_err-decode-clause-rest : goal.returns-in_err-decode-clause-rest
returns-in_err-decode-clause-rest c = none_dropped _

pub returns-in_err-field-clause-rest : goal.returns-in_err-field-clause-rest
returns-in_err-field-clause-rest c = none_dropped _

pub returns-in_err-keep-clause-rest : goal.returns-in_err-keep-clause-rest
returns-in_err-keep-clause-rest c = none_dropped _

pub returns-clause-answer : goal.returns-clause-answer
returns-clause-answer c = let end = stand_end _ _ _ _ _ c.lines.invariant.0 (rw c.remaining.ensures at c.lines-test.false) in (end.0, sym end.1)

pub returns-clause-rest : goal.returns-clause-rest
returns-clause-rest c = let end = stand_end _ _ _ _ _ c.lines.invariant.0 (rw c.remaining.ensures at c.lines-test.false) in rw (← end.1) (all_dropped c.args.buf.now)
