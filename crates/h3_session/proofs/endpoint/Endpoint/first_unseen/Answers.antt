-- The first above the greatest that is stored.
use Rattle.std.proofs.Common.{subst}
use Rattle.std.specs.Prelude.{is_some}
use Rattle.h3_connection.specs.State.{kept_at}
use Rattle.h3_requests.specs.Greatest.{IsGreatest}
use Rattle.h3_session.proofs.Draining.{shows_unseen}
use Rattle.h3_session.proofs.endpoint.Endpoint.first_unseen.Goals as goal

pub returns : goal.returns
returns c =
    shows_unseen c.args.self.now c.greatest.result c.above_greatest.result (subst (λ v. IsGreatest (λ id. is_some (kept_at v.requests id)) c.greatest.result) c.self.view_is c.greatest.ensures) c.above_greatest.ensures
