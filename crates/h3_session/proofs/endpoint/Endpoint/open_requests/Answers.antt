-- One more is opened in each round.
use Rattle.std.proofs.Common.{arith, ◌≡◌, subst}
use Rattle.h3_connection.specs.SendingContracts.{Opens}
use Rattle.h3_connection.specs.State.{StandsFor}
use Rattle.h3_session.specs.OpeningAt.{opened_more}
use Rattle.h3_session.proofs.OpeningAt.{opened_next}
use Rattle.h3_session.proofs.endpoint.Endpoint.open_requests.Goals as goal

pub loop-opened-preserved : goal.loop-opened-preserved
loop-opened-preserved c =
    opened_next c.args.self.now c.loop-opened.self c.open_request.new.self c.loop-opened.opened c.in-Ok.field-0 c.loop-opened.invariant
    (subst (λ r. Opens c.loop-opened.self c.open_request.new.self r) c.in-Ok.is c.open_request.ensures)

pub returns-clause-ok : goal.returns-clause-ok
returns-clause-ok c =
    let all : c.loop-opened.opened ≡ c.args.count = omega (arith, c.loop-opened-test.false, c.loop-opened.auto.opened-end) in
    λ e h. subst (λ n. StandsFor c.loop-opened.self (opened_more n e)) all (c.loop-opened.invariant e h)
