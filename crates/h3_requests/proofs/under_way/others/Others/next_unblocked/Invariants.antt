-- The least that is unblocked of those that are not left.
use Rattle.std.proofs.Common.{◌≡◌, false}
use Rattle.std.specs.Ordering.{eq_by_cmp, nat_cmp}
use Rattle.std.specs.Set.{is_member}
use Rattle.h3_connection.specs.State.{kept_at}
use Rattle.h3_requests.specs.Unblocked.{is_next}
use Rattle.h3_requests.proofs.Unblocked.{Least}
use Rattle.h3_requests.proofs.under_way.others.Others.next_unblocked.Given as goal

abbrev pub invariant-ids : goal.invariant-ids
invariant-ids l = Least (λ q. is_next l.inserted l.from q (kept_at l.self.streams.entries q)) (λ q. is_member (eq_by_cmp nat_cmp) l.id-iterator q ≡ false) l.found
