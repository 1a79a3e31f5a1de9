use Rattle.std.proofs.Common.{length, subst}
use Rattle.std.specs.List.{concat}
use Rattle.h3_frames.specs.PieceLaws.{ending_rest}
use Rattle.h3_frames.specs.Pieces.{IsRest}
use Rattle.h3_wire.specs.Streams.{Buffered}
use Rattle.h3_wire.proofs.stream.BufRecvStream.take_number.Goals as goal

pub returns-clause-rest : goal.returns-clause-rest
returns-clause-rest g c =
    subst (λ (b : Buffered g.row.S.Denot). IsRest b.pieces c.take_var.new.self.pieces) c.self.view_is
    (ending_rest (length (concat c.take_var.new.self.pieces)) c.self.inside.buf.pieces c.take_var.new.self.pieces c.take_var.ensures.pieces)
