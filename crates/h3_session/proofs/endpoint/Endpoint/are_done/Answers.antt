-- One that is not done with is told, where there is one.
use Rattle.std.proofs.Common.{sym, ◌∙◌, ap, subst}
use Rattle.std.specs.Prelude.{is_some, not}
use Rattle.h3_connection.specs.State.{kept_at}
use Rattle.h3_requests.specs.Done.{is_unfinished}
use Rattle.h3_requests.specs.Greatest.{IsOneOf}
use Rattle.h3_session.proofs.Draining.{done_by_one}
use Rattle.h3_session.proofs.endpoint.Endpoint.are_done.Goals as goal

pub returns-in-Some : goal.returns-in-Some
returns-in-Some c = λ e h.
    sym (ap (λ o. not (is_some o)) c.in-Some.is)
    ∙ done_by_one c.args.self.now e c.unfinished.result h (subst (λ v. IsOneOf (λ q. is_unfinished (kept_at v.requests q)) c.unfinished.result) c.self.view_is c.unfinished.ensures)

pub returns-in-None : goal.returns-in-None
returns-in-None c = λ e h.
    sym (ap (λ o. not (is_some o)) c.in-None.is)
    ∙ done_by_one c.args.self.now e c.unfinished.result h (subst (λ v. IsOneOf (λ q. is_unfinished (kept_at v.requests q)) c.unfinished.result) c.self.view_is c.unfinished.ensures)
