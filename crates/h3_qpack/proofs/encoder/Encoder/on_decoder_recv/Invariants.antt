use Rattle.std.proofs.Common.{length}
use Rattle.h3_qpack.specs.EncoderAnswers.{HasReadDecoderInstructions}
use Rattle.h3_qpack.proofs.encoder.Encoder.on_decoder_recv.Given as goal

abbrev pub invariant-loop-self : goal.invariant-loop-self
invariant-loop-self l = HasReadDecoderInstructions l.initial.self l.self l.initial.read l.read

abbrev pub decreases-loop-self : goal.decreases-loop-self
decreases-loop-self l = length l.read
