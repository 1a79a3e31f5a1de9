-- The greatest that counts of those in the places so far.
use Rattle.std.proofs.Common.{◌<◌, ◌/◌, ◌%◌}
use Rattle.h3_requests.specs.Done.{is_sought}
use Rattle.h3_requests.specs.Row.{held_at}
use Rattle.h3_requests.proofs.Seeking.{Found}
use Rattle.h3_requests.proofs.under_way.row.Row.greatest.Given as goal

abbrev pub invariant-places : goal.invariant-places
invariant-places l = Found (λ q. is_sought l.undone (held_at l.self q)) (λ q. q / 4 % 128 < l.place-index) l.found
