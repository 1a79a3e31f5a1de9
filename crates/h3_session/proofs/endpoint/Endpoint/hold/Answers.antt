-- A rule refuses it, or a failed allocation, or it is done: of a request stream, or of an own one.
use Rattle.std.proofs.Common.{sym, ap, ◌∙◌}
use Rattle.std.specs.Prelude.{is_some}
use Rattle.h3_connection.specs.State.{EndpointState, kept_at}
use Rattle.h3_session.proofs.OrderingCalls.{hold_closed, holds_none, holds_own, holds_request}
use Rattle.h3_session.proofs.endpoint.Endpoint.hold.Goals as goal

pub returns-in-Some : goal.returns-in-Some
returns-in-Some c = hold_closed c.args.self.now c.args.id c.in-Some.code c.args.is_held (ap (λ (s : EndpointState). s.closed) (sym c.self.view_is) ∙ c.in-Some.is)

pub returns-then-contains : goal.returns-then-contains
returns-then-contains c =
    holds_request c.args.self.now c.hold_request.new.self c.args.id c.args.is_held c.hold_request.result (ap (λ (s : EndpointState). s.closed) (sym c.self.view_is) ∙ c.in_default.is)
    (ap (λ (s : EndpointState). is_some (kept_at s.requests c.args.id)) (sym c.self.view_is) ∙ sym c.contains.ensures ∙ c.if-contains.true)
    c.hold_request.ensures.rest c.hold_request.ensures.ok c.hold_request.ensures.why c.hold_request.ensures.err

pub returns-then-hold_own : goal.returns-then-hold_own
returns-then-hold_own c =
    holds_own c.args.self.now c.hold_own.new.self c.args.id c.args.is_held (ap (λ (s : EndpointState). s.closed) (sym c.self.view_is) ∙ c.in_default.is)
    (ap (λ (s : EndpointState). is_some (kept_at s.requests c.args.id)) (sym c.self.view_is) ∙ sym c.contains.ensures ∙ c.if-contains.false)
    (sym c.hold_own.ensures.own ∙ c.if-hold_own.true) c.hold_own.ensures.order

pub returns-else-hold_own : goal.returns-else-hold_own
returns-else-hold_own c =
    holds_none c.args.self.now c.hold_own.new.self c.args.id c.args.is_held (ap (λ (s : EndpointState). s.closed) (sym c.self.view_is) ∙ c.in_default.is)
    (ap (λ (s : EndpointState). is_some (kept_at s.requests c.args.id)) (sym c.self.view_is) ∙ sym c.contains.ensures ∙ c.if-contains.false)
    (sym c.hold_own.ensures.own ∙ c.if-hold_own.false) c.hold_own.ensures.order
