use Rattle.std.proofs.Common.{refl}
use Rattle.h3_session.proofs.run.acting.goaway.Goals as goal

pub returns-in-Client : goal.returns-in-Client
returns-in-Client c = rw c.in-Client.is (record { result = c.goaway.result; given_is = c.done.ensures; called = c.goaway.ensures }, refl)

pub returns-in-Server : goal.returns-in-Server
returns-in-Server c = rw c.in-Server.is (record { result = c.goaway-in-Server.result; given_is = c.done-in-Server.ensures; called = c.goaway-in-Server.ensures }, refl)
