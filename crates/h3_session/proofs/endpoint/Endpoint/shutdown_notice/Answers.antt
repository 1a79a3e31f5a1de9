-- What is named rests on the side.
use Rattle.std.proofs.Common.{◌∙◌, sym, ap}
use Rattle.h3_connection.specs.Shutdown.{goaway_once, notice_id, shutdown_notice}
use Rattle.h3_connection.specs.Answers.{call_refused}
use Rattle.h3_session.proofs.Draining.{does_alike}
use Rattle.h3_session.proofs.endpoint.Endpoint.shutdown_notice.Goals as goal

pub returns : goal.returns
returns c =
    does_alike (λ e. goaway_once e c.notice_id-id.result) shutdown_notice c.args.self.now c.goaway_once.new.self (call_refused c.goaway_once.result)
    (λ e h. ap (goaway_once e) (ap notice_id (sym h.side) ∙ ap (λ v. notice_id v.side) (sym c.self.view_is) ∙ sym c.notice_id-id.ensures)) c.goaway_once.ensures.goes
