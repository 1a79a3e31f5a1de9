use Rattle.std.proofs.Common.{sym}
use Rattle.h3_streams.proofs.Closing.{resets}
use Rattle.h3_streams.proofs.streams.ConnectionStreams.reset.Goals as goal

pub returns-clause-ok : goal.returns-clause-ok
returns-clause-ok c = rw (sym c.self.view_is) (resets _ _ _ _ _ _ c.closing_fault.ensures c.in_ok-is_critical.ensures.ok)
