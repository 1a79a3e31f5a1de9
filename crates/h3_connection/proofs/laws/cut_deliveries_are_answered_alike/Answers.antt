use Rattle.h3_connection.proofs.DeliveryCuts.{cut_delivery, refused_delivery}
use Rattle.h3_connection.proofs.laws.cut_deliveries_are_answered_alike.Goals as goal

pub returns-clause-taken : goal.returns-clause-taken
returns-clause-taken c = cut_delivery

pub returns-clause-refused : goal.returns-clause-refused
returns-clause-refused c = refused_delivery
