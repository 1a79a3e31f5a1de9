use Rattle.std.proofs.Common.{subst}
use Rattle.h3_wire.specs.Accepting.{Accepting, stream_of}
use Rattle.h3_wire.specs.Asking.{Asks}
use Rattle.h3_wire.proofs.stream.accept.AcceptRecvStream.ask.Goals as goal

pub returns-clause-asks : goal.returns-clause-asks
returns-clause-asks g c =
    subst (λ (x : Accepting g.row.S.Denot). Asks g.S.RecvStream.answers (stream_of x) c.receive.result c.receive.new.self) c.self.view_is c.receive.ensures.asks
