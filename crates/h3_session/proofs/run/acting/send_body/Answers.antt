use Rattle.std.proofs.Common.{refl}
use Rattle.h3_session.proofs.run.acting.send_body.Goals as goal

pub returns-in-Client : goal.returns-in-Client
returns-in-Client c = rw c.in-Client.is (record { result = c.send_body.result; given_is = c.sent.ensures; called = c.send_body.ensures }, refl)

pub returns-in-Server : goal.returns-in-Server
returns-in-Server c = rw c.in-Server.is (record { result = c.send_body-in-Server.result; given_is = c.sent-in-Server.ensures; called = c.send_body-in-Server.ensures }, refl)
