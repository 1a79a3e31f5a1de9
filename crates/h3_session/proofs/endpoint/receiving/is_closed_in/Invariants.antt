use Rattle.std.proofs.Common.{◌≡◌, false, take}
use Rattle.h3_connection.specs.Arrivals.{is_closed_in}
use Rattle.h3_session.proofs.endpoint.receiving.is_closed_in.Given as goal

abbrev pub invariant-loop-arrival : goal.invariant-loop-arrival
invariant-loop-arrival l = is_closed_in (take l.arrival-index l.arrivals) l.id ≡ false
