use Rattle.std.proofs.Common.{subst, sym, ◌∙◌}
use Rattle.std.specs.List.{concat}
use Rattle.h3_frames.specs.Frames.{frame_by}
use Rattle.h3_frames.specs.Known.{IsWaiting}
use Rattle.h3_frames.specs.Tries.{Expects}
use Rattle.h3_frames.proofs.SuitingKinds.{given_expects, spared_expects, waits_if}
use Rattle.h3_frames.proofs.frame.buffer.FrameBuffer.decode.Goals as goal

pub invariant_of-self : goal.invariant_of-self
invariant_of-self c =
    let d = c.decode-decoded in
    let expects = subst (λ p. Expects c.args.kinds d.new.decoder (concat p)) (sym c.spare.ensures.pieces) d.ensures.expects in
    let there = waits_if c.args.kinds d.result _ (concat d.new.self.pieces) (sym c.is_waiting.ensures ∙ c.if-is_waiting.true) d.ensures.gives in
    let waits = subst (λ p. IsWaiting (frame_by c.args.kinds (concat p))) (sym c.spare.ensures.pieces) there in
    spared_expects c.args.kinds c.spare.new.self d.new.decoder c.spare.ensures.is expects waits c.spare.ensures.spared

pub invariant_of-self-else-is_waiting : goal.invariant_of-self-else-is_waiting
invariant_of-self-else-is_waiting c =
    let d = c.decode-decoded in
    given_expects d.new.self.known_to d.result d.new.decoder (concat d.new.self.pieces) (sym c.is_waiting.ensures ∙ c.if-is_waiting.false) d.ensures.fresh d.ensures.plain
