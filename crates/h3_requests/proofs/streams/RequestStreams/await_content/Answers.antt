-- The stream waits for as much as before, and as much is sent on it; one that is over awaits no head, and sends nothing.
use Rattle.std.proofs.Common.{ap, refl, rules, ◌∙◌}
use Rattle.h3_connection.specs.State.{RequestState, kept_at}
use Rattle.h3_outgoing.specs.Sent.{end_waits, takes_end}
use Rattle.h3_requests.proofs.Sendable.{written_so}
use Rattle.h3_requests.proofs.Received.{altered_there, asks, awaits_over}
use Rattle.h3_requests.specs.Stored.{streams_in}
use Rattle.h3_requests.proofs.streams.RequestStreams.await_content.Goals as goal

pub invariant_of-self-2 : goal.invariant_of-self-2
invariant_of-self-2 c =
    written_so _ _ _ _ c.args.id c.in-Some.stream.now (record { incoming = c.await_content.new.self; outgoing = c.expect.new.self }) (c.get_mut.follows.holds _) (search rules) (search rules)
    (ap (λ o. o.pieces) c.expect.ensures ∙ ap (λ (r : RequestState). r.outgoing.pieces) c.stream.view_is)
    (ap end_waits c.expect.ensures ∙ ap (λ (r : RequestState). end_waits r.outgoing) c.stream.view_is)
    (ap takes_end c.expect.ensures ∙ ap (λ (r : RequestState). takes_end r.outgoing) c.stream.view_is)
    (ap (λ o. o.precedence) c.expect.ensures ∙ ap (λ (r : RequestState). r.outgoing.precedence) c.stream.view_is) c.self.invariant

pub returns-clause-there : goal.returns-clause-there
returns-clause-there c =
    altered_there c.args.self.now (streams_in c.self.inside.streams) _ c.args.id c.in-Some.stream.now _ (asks c.args.content c.args.sent) c.self.view_is (c.get_mut.follows.holds _) (search rules) (search rules)

pub returns-in_default-clause-there : goal.returns-in_default-clause-there
returns-in_default-clause-there c = awaits_over c.args.self.now _ c.args.id c.args.content c.args.sent (kept_at c.args.self.now c.args.id) refl (search rules) (search rules)
