use Rattle.std.proofs.Common.{sym, subst}
use Rattle.std.specs.List.{concat}
use Rattle.h3_wire.specs.Asking.{Asks}
use Rattle.h3_wire.specs.Streams.{Framing, stream_part}
use Rattle.h3_frames.specs.Tries.{Expects}
use Rattle.h3_frames.specs.TryLaws.{Awaits-more}
use Rattle.h3_wire.proofs.frame.FrameStream.ask.Goals as goal
use Rattle.h3_frames.specs.Frames.{plain_frames}

pub invariant_of-self : goal.invariant_of-self
invariant_of-self g c =
    let more = c.receive.ensures.grows in
    (subst (λ l. Expects plain_frames c.self.inside.decoder l) (sym more.1) (Awaits-more plain_frames c.self.inside.decoder.expected c.self.inside.decoder.tries (concat c.self.inside.stream.pieces) more.0 c.self.invariant.0), c.self.invariant.1)

pub returns-clause-asks : goal.returns-clause-asks
returns-clause-asks g c =
    subst (λ (x : Framing g.row.S.Denot). Asks g.S.RecvStream.answers (stream_part x) c.receive.result c.receive.new.self) c.self.view_is c.receive.ensures.asks
