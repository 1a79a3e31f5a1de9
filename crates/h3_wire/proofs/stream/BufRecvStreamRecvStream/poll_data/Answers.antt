use Rattle.std.proofs.Common.{refl, subst, Ok, Some}
use Rattle.h3_wire.specs.declared.quic.Poll.TheVariants.{Ready}
use Rattle.h3_wire.specs.Streams.{Buffered}
use Rattle.h3_frames.specs.PieceLaws.{first_is}
use Rattle.h3_wire.specs.Buffering.{AnswersFrom, buffered}
use Rattle.h3_wire.proofs.stream.BufRecvStreamRecvStream.poll_data.Goals as goal

pub returns-in-Some : goal.returns-in-Some
returns-in-Some g c =
    let new : Buffered g.row.S.Denot = record { pieces = c.take_first_chunk.new.self.pieces; source = c.self.inside.stream; is_eos = c.self.inside.eos } in
    subst (λ (a : Buffered g.row.S.Denot). AnswersFrom g.S.RecvStream.answers a (Ready (Ok (Some c.in-Some.piece))) new) c.self.view_is
    (buffered c.in-Some.piece refl c.in-Some.ensures.bytes.1 (first_is _ _ _ c.in-Some.ensures.pieces) refl refl)
