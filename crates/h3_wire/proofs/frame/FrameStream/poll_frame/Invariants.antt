use Rattle.std.proofs.Common.{◌≡◌, ◌≤◌, ◌⊎◌, length, false, Option, None, Result}
use Rattle.h3_wire.specs.declared.quic.Poll.{Poll}
use Rattle.h3_frames.specs.declared.proto.frame.PayloadLen.{PayloadLen}
use Rattle.h3_frames.specs.declared.proto.frame.Frame.{Frame}
use Rattle.h3_frames.specs.declared.frame.errors.FrameStreamError.{FrameStreamError}
use Rattle.h3_wire.specs.Asking.{Rounds}
use Rattle.h3_wire.specs.Source.{Asked, coming}
use Rattle.h3_wire.specs.Given.{PassesPieces}
use Rattle.h3_frames.specs.Known.{known}
use Rattle.h3_wire.specs.Streams.{Framing, left, AsksFirst}
use Rattle.h3_wire.proofs.frame.FrameStream.poll_frame.Given as goal

-- bytes came that end no frame, and what the other rounds answer, all of them do
abbrev pub invariant-loop-answer : goal.invariant-loop-answer
invariant-loop-answer g l = record {
  same : known (left g.S.RecvStream.rest l.self) ≡ known (left g.S.RecvStream.rest l.fn.self);
  fewer : length (left g.S.RecvStream.rest l.self) ≤ length (left g.S.RecvStream.rest l.fn.self);
  payload : l.self.payload ≡ l.fn.self.payload;
  is_eos : l.self.is_eos ≡ l.fn.self.is_eos;
  first : l.fn.self.is_eos ≡ false → (l.self.source ≡ l.fn.self.source) ⊎ AsksFirst g.S.RecvStream.answers l.fn.self.source None;
  pieces : PassesPieces g.S.RecvStream.answers l.fn.self.source l.fn.self.pieces l.self.source l.self.pieces;
  rounds : (answer : Poll (Result (Option (Frame PayloadLen)) FrameStreamError)) (new : Framing g.row.S.Denot) → Rounds g.S.RecvStream.answers l.self answer new → Rounds g.S.RecvStream.answers l.fn.self answer new;
  asked : Asked g.S.RecvStream.answers l.fn.self.source l.self.source;
}

abbrev pub decreases-loop-answer : goal.decreases-loop-answer
decreases-loop-answer g l = length (coming l.self.is_eos (g.S.RecvStream.rest l.self.source))
