-- The first of the request streams and of the own ones.
use Rattle.std.proofs.Common.{subst, sym}
use Rattle.h3_connection.specs.NextWaiting.{IsLeast, ShowsNextWaiting}
use Rattle.h3_connection.specs.State.{kept_at}
use Rattle.h3_requests.specs.HasBytes.{has_bytes}
use Rattle.h3_session.proofs.Next.{next_of_both}
use Rattle.h3_session.proofs.endpoint.Endpoint.next_waiting.Goals as goal

pub returns : goal.returns
returns c =
    subst (ShowsNextWaiting c.args.self.now c.args.from) (sym c.earlier.ensures)
    (next_of_both c.args.self.now c.args.from _ _ (subst (λ v. IsLeast (λ id. has_bytes (kept_at v.requests id)) c.args.from c.next_waiting.result) c.self.view_is c.next_waiting.ensures) c.next_own.ensures)
