-- It rests on the side.
use Rattle.std.proofs.Common.{sym, ◌∙◌, ap}
use Rattle.h3_session.proofs.Draining.{last_client, last_server}
use Rattle.h3_session.proofs.endpoint.Endpoint.last_taken.Goals as goal

pub returns-in-Client : goal.returns-in-Client
returns-in-Client c = λ e h. last_client c.args.self.now e h (ap (λ v. v.side) (sym c.self.view_is) ∙ c.in-Client.is)

pub returns-in-Server : goal.returns-in-Server
returns-in-Server c = λ e h. last_server c.args.self.now e c.first_unseen.result h (ap (λ v. v.side) (sym c.self.view_is) ∙ c.in-Server.is) c.first_unseen.ensures
