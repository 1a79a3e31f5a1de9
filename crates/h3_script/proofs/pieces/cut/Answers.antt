use Rattle.std.proofs.Common.{◌≡◌, suc, ◌+◌, take, drop, Some, arith, sym, ◌∙◌, ap}
use Rattle.std.proofs.lemmas.List.{take_rest}
use Rattle.h3_script.proofs.Cuts.{cut_found, cut_none}
use Rattle.h3_script.proofs.pieces.cut.Goals as goal

pub returns-then-bytes-i-clause-value : goal.returns-then-bytes-i-clause-value
returns-then-bytes-i-clause-value c =
    let bytes = c.args.bytes.now in
    let i = c.loop-i.i in
    let next : i + 1 ≡ suc i = omega arith in
    ap (λ behind. Some (take i bytes, behind)) (take_rest bytes (i + 1) ∙ ap (λ n. drop n bytes) next)
    ∙ sym (cut_found c.args.at bytes i c.loop-i-test.true c.loop-i.invariant c.if-bytes-i.true)

pub returns-clause-value : goal.returns-clause-value
returns-clause-value c = sym (cut_none c.args.at c.args.bytes.now (λ k lt. c.loop-i.invariant k (omega (arith, lt))))
