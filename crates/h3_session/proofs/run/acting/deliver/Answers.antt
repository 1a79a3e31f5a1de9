use Rattle.h3_session.proofs.run.acting.deliver.Goals as goal

pub returns-in-Client : goal.returns-in-Client
returns-in-Client c = rw c.in-Client.is c.carry_bytes.ensures

pub returns-in-Server : goal.returns-in-Server
returns-in-Server c = rw c.in-Server.is c.carry_bytes-in-Server.ensures
