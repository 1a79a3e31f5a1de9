use Rattle.std.proofs.Common.{refl}
use Rattle.h3_session.proofs.run.acting.show.Goals as goal

pub returns-in-Client : goal.returns-in-Client
returns-in-Client c = rw c.in-Client.is ((refl, c.shown.ensures), refl)

pub returns-in-Server : goal.returns-in-Server
returns-in-Server c = rw c.in-Server.is ((refl, c.shown-in-Server.ensures), refl)
