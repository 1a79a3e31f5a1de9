use Rattle.std.proofs.Common.{sym}
use Rattle.h3_streams.proofs.PlacedLaws.{pulled_stands}
use Rattle.h3_streams.proofs.streams.ConnectionStreams.pull.Goals as goal

pub returns : goal.returns
returns c = rw (sym c.self.view_is) (pulled_stands _ _ _ _ c.pull.ensures)
