use Rattle.std.proofs.Common.{rules, ◌≡◌, true, [], refl, arith}
use Rattle.std.proofs.lemmas.Result.{err_from_is_err_and}
use Rattle.h3_qpack.specs.Instructions.{NoInstruction}
use Rattle.h3_qpack.proofs.InstructionsRead.{read_on}
use Rattle.h3_qpack.proofs.decoder.Decoder.take_instructions.Goals as goal

pub loop-self-init : goal.loop-self-init
loop-self-init c = (record { instructions = []; split = NoInstruction _; table = refl }, omega arith)

pub loop-self-preserved : goal.loop-self-preserved
loop-self-preserved c =
    let yes : c.in_ok-is_read.is_read ≡ true = search rules in
    let one = rw yes at c.in_ok-is_read.ensures in
    (read_on _ _ _ _ _ _ c.loop-self.invariant.0 one, omega (arith, c.loop-self.invariant.1, one.grows))

pub returns-in_err-is_read-clause-err : goal.returns-in_err-is_read-clause-err
returns-in_err-is_read-clause-err c =
    let p = err_from_is_err_and c.from_residual.result c.from_residual.ensures.1 in
    rw (p.1, p.2, c.in_err-is_read.ensures.1, c.in_err-is_read.ensures.2) c.in_err-is_read.ensures.0
