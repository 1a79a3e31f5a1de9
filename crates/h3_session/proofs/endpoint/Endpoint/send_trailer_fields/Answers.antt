use Rattle.std.proofs.Common.{ap, sym, ◌∙◌}
use Rattle.h3_connection.specs.State.{EndpointState}
use Rattle.h3_session.proofs.Lists.{trailer_list_closed}
use Rattle.h3_session.proofs.endpoint.Endpoint.send_trailer_fields.Goals as goal

pub returns-in-Some-clause-sends : goal.returns-in-Some-clause-sends
returns-in-Some-clause-sends c = trailer_list_closed c.args.self.now c.args.id c.args.fields.now c.in-Some.code (ap (λ (s : EndpointState). s.closed) (sym c.self.view_is) ∙ c.in-Some.is)
