use Rattle.std.proofs.Common.{length}
use Rattle.std.specs.List.{concat}
use Rattle.h3_frames.proofs.Settling.{GoesOn}
use Rattle.h3_frames.proofs.frame.decoder.FrameDecoder.decode_by.Given as goal

abbrev pub invariant-loop-answer : goal.invariant-loop-answer
invariant-loop-answer l = GoesOn l.fn.kinds l.fn.src.pieces l.src.pieces l.fn.self l.self

abbrev pub decreases-loop-answer : goal.decreases-loop-answer
decreases-loop-answer l = length (concat l.src.pieces)
