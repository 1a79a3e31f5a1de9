-- Before each round so many were looked at, and the next one stands at this place.
use Rattle.h3_session.proofs.LookingAtUpdates.{Looked}
use Rattle.h3_session.proofs.endpoint.Endpoint.use_updates.Given as goal

abbrev pub invariant-loop-looked : goal.invariant-loop-looked
invariant-loop-looked l = Looked l.fn.self l.self l.looked l.place
