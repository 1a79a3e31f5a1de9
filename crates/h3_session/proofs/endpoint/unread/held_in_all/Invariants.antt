use Rattle.std.specs.Prelude.{◌≡◌, take}
use Rattle.std.specs.List.{sum_by}
use Rattle.h3_connection.specs.Unread.{held_in, counted}
use Rattle.h3_session.proofs.endpoint.unread.held_in_all.Given as goal

abbrev pub invariant-arrivals : goal.invariant-arrivals
invariant-arrivals l = l.held ≡ counted (sum_by (held_in l.id) (take l.arrival-index l.arrivals))
