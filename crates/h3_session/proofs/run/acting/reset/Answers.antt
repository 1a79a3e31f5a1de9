use Rattle.std.proofs.Common.{refl}
use Rattle.h3_session.proofs.run.acting.reset.Goals as goal

pub returns-in-Client : goal.returns-in-Client
returns-in-Client c = rw c.in-Client.is (record { result = c.reset.result; given_is = c.done.ensures; called = c.reset.ensures }, refl)

pub returns-in-Server : goal.returns-in-Server
returns-in-Server c = rw c.in-Server.is (record { result = c.reset-in-Server.result; given_is = c.done-in-Server.ensures; called = c.reset-in-Server.ensures }, refl)
