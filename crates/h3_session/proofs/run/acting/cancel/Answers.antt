use Rattle.std.proofs.Common.{refl}
use Rattle.h3_session.proofs.run.acting.cancel.Goals as goal

pub returns-in-Client : goal.returns-in-Client
returns-in-Client c = rw c.in-Client.is (record { result = c.cancel.result; given_is = c.done.ensures; called = c.cancel.ensures }, refl)

pub returns-in-Server : goal.returns-in-Server
returns-in-Server c = rw c.in-Server.is (record { result = c.cancel-in-Server.result; given_is = c.done-in-Server.ensures; called = c.cancel-in-Server.ensures }, refl)
