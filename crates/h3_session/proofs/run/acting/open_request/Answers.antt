use Rattle.std.proofs.Common.{refl}
use Rattle.h3_session.proofs.run.acting.open_request.Goals as goal

pub returns-in-Client : goal.returns-in-Client
returns-in-Client c = rw c.in-Client.is (record { result = c.open_request.result; given_is = c.opened.ensures; called = c.open_request.ensures }, refl)

pub returns-in-Server : goal.returns-in-Server
returns-in-Server c = rw c.in-Server.is (record { result = c.open_request-in-Server.result; given_is = c.opened-in-Server.ensures; called = c.open_request-in-Server.ensures }, refl)
