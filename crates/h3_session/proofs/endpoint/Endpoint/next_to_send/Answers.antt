-- The first on which bytes wait, or an end.
use Rattle.std.proofs.Common.{subst, sym}
use Rattle.h3_connection.specs.EndsWaiting.{ShowsNextToSend}
use Rattle.h3_connection.specs.NextWaiting.{IsLeast}
use Rattle.h3_connection.specs.State.{kept_at}
use Rattle.h3_requests.specs.HasBytes.{has_end}
use Rattle.h3_session.proofs.Endings.{next_of_ends}
use Rattle.h3_session.proofs.endpoint.Endpoint.next_to_send.Goals as goal

pub returns : goal.returns
returns c =
    subst (ShowsNextToSend c.args.self.now c.args.from) (sym c.earlier.ensures)
    (next_of_ends c.args.self.now c.args.from _ _ c.next_waiting.ensures (subst (λ v. IsLeast (λ id. has_end (kept_at v.requests id)) c.args.from c.next_end.result) c.self.view_is c.next_end.ensures))
