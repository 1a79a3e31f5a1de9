-- An own stream, or else the request stream that has its turn.
use Rattle.std.proofs.Common.{sym, ap, subst, ◌∙◌}
use Rattle.h3_connection.specs.Order.{rounds_of}
use Rattle.h3_connection.specs.State.{EndpointState}
use Rattle.h3_requests.specs.Ordered.{places_in}
use Rattle.h3_scheduler.specs.Places.{IsNext}
use Rattle.h3_session.proofs.Ordering.{shows_own, shows_requests}
use Rattle.h3_session.proofs.endpoint.Endpoint.first_by_priority.Goals as goal

pub returns-in-Some : goal.returns-in-Some
returns-in-Some c = shows_own c.args.self.now c.in-Some.own (sym c.first_own.ensures ∙ c.in-Some.is)

pub returns-in-Some-rounds : goal.returns-in-Some-rounds
returns-in-Some-rounds c =
    shows_requests c.args.self.now c.in-Some-rounds.rounds.rounds c.next_by_priority.result (sym c.first_own.ensures ∙ c.in_default.is)
    (sym (ap rounds_of (ap (λ (s : EndpointState). s.order.rounds) (sym c.self.view_is) ∙ c.in-Some-rounds.is)))
    (subst (λ (s : EndpointState). IsNext (places_in s.requests) c.in-Some-rounds.rounds.rounds c.next_by_priority.result) c.self.view_is c.next_by_priority.ensures)

pub returns-in-None : goal.returns-in-None
returns-in-None c =
    shows_requests c.args.self.now c.new.result.rounds c.next_by_priority-in-None.result (sym c.first_own.ensures ∙ c.in_default.is)
    (c.new.ensures ∙ sym (ap rounds_of (ap (λ (s : EndpointState). s.order.rounds) (sym c.self.view_is) ∙ c.in-None.is)))
    (subst (λ (s : EndpointState). IsNext (places_in s.requests) c.new.result.rounds c.next_by_priority-in-None.result) c.self.view_is c.next_by_priority-in-None.ensures)
