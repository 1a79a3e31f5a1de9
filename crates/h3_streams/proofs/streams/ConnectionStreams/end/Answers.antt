use Rattle.std.proofs.Common.{sym}
use Rattle.h3_streams.proofs.Closing.{ends}
use Rattle.h3_streams.proofs.streams.ConnectionStreams.end.Goals as goal

pub returns-clause-ok : goal.returns-clause-ok
returns-clause-ok c = rw (sym c.self.view_is) (ends _ _ _ _ _ c.closing_fault.ensures c.in_ok-is_critical.ensures.ok)
