use Rattle.std.proofs.Common.{refl}
use Rattle.h3_session.proofs.run.acting.pull.Goals as goal

pub returns-in-Client : goal.returns-in-Client
returns-in-Client c = rw c.in-Client.is (record { result = c.pull.result; given_is = refl; called = c.pull.ensures }, refl)

pub returns-in-Server : goal.returns-in-Server
returns-in-Server c = rw c.in-Server.is (record { result = c.pull-in-Server.result; given_is = refl; called = c.pull-in-Server.ensures }, refl)
