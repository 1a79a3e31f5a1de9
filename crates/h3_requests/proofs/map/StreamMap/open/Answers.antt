-- One that is not under way waits for nothing.
use Rattle.std.proofs.Common.{sym, ◌∙◌, ap}
use Rattle.h3_blocked.specs.Counting.{waits_at}
use Rattle.h3_connection.specs.State.{kept_at}
use Rattle.h3_requests.specs.Stored.{streams_in}
use Rattle.h3_requests.proofs.Ways.{over_waits}
use Rattle.h3_requests.proofs.map.StreamMap.open.Goals as goal

pub returns-clause-before : goal.returns-clause-before
returns-clause-before c = sym (ap (λ s. waits_at (kept_at (streams_in s) c.args.id)) (sym c.get_mut.follows.holds-at-none) ∙ over_waits _ c.open_new.ensures.over)
