-- The least that is unblocked of those in the places so far.
use Rattle.std.proofs.Common.{◌<◌, ◌/◌, ◌%◌}
use Rattle.h3_requests.specs.Row.{held_at}
use Rattle.h3_requests.specs.Unblocked.{is_next}
use Rattle.h3_requests.proofs.Unblocked.{Least}
use Rattle.h3_requests.proofs.under_way.row.Row.next_unblocked.Given as goal

abbrev pub invariant-places : goal.invariant-places
invariant-places l = Least (λ q. is_next l.inserted l.from q (held_at l.self q)) (λ q. q / 4 % 128 < l.place-index) l.found
