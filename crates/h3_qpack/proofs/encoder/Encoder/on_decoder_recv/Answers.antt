use Rattle.std.proofs.Common.{rules, ◌≡◌, true, false, sym, ◌∙◌}
use Rattle.std.proofs.lemmas.Result.{err_from_is_err_and}
use Rattle.h3_qpack.proofs.Hearings.{has_listened, nothing_left, refused_here}
use Rattle.h3_qpack.proofs.Ends.{heard_to_an_end}
use Rattle.h3_qpack.proofs.DecoderInstructionsRead.{heard_none, heard_on}
use Rattle.h3_qpack.proofs.encoder.Encoder.on_decoder_recv.Goals as goal

pub loop-self-init : goal.loop-self-init
loop-self-init c = heard_none _ _

pub loop-self-preserved : goal.loop-self-preserved
loop-self-preserved c =
    let yes : c.in_ok-is_read.is_read ≡ true = search rules in
    let one = rw yes at c.in_ok-is_read.ensures in
    heard_on _ _ _ _ _ _ c.loop-self.invariant one

pub returns-in_err-is_read-clause-rest : goal.returns-in_err-is_read-clause-rest
returns-in_err-is_read-clause-rest c = rw c.in_err-is_read.ensures.3 (heard_to_an_end _ _ _ _ c.loop-self.invariant)

pub returns-then-not-is_read-clause-rest : goal.returns-then-not-is_read-clause-rest
returns-then-not-is_read-clause-rest c =
    let no : c.in_ok-is_read.is_read ≡ false = search rules in
    let one = rw no at c.in_ok-is_read.ensures in
    rw one.2 (heard_to_an_end _ _ _ _ c.loop-self.invariant)

pub returns-clause-rest : goal.returns-clause-rest
returns-clause-rest c = heard_to_an_end _ _ _ _ c.loop-self.invariant

pub returns-in_err-is_read-clause-refused : goal.returns-in_err-is_read-clause-refused
returns-in_err-is_read-clause-refused c =
    let here = rw (← c.in_err-is_read.ensures.2, ← c.in_err-is_read.ensures.3) at c.loop-self.invariant in
    let p = err_from_is_err_and c.from_residual.result c.from_residual.ensures.1 in
    rw (p.1, p.2) λ other s is. has_listened s _ _ _ _ true is here (λ t same. rw c.in_err-is_read.ensures.3 (refused_here t _ _ other (c.in_err-is_read.ensures.0 t (sym c.in_err-is_read.ensures.2 ∙ same))))

pub returns-then-not-is_read-clause-value : goal.returns-then-not-is_read-clause-value
returns-then-not-is_read-clause-value c =
    let no : c.in_ok-is_read.is_read ≡ false = search rules in
    let one = rw no at c.in_ok-is_read.ensures in
    let here = rw (← one.1, ← one.2) at c.loop-self.invariant in
    λ s is. has_listened s _ _ _ _ false is here (λ t same. rw one.2 one.0)

pub returns-clause-value : goal.returns-clause-value
returns-clause-value c = λ s is. has_listened s _ _ _ _ false is c.loop-self.invariant (λ t same. nothing_left _ (rw c.remaining.ensures at c.loop-self-test.false))
