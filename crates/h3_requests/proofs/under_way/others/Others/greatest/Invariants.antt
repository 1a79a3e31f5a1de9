-- The greatest that counts of those that are not left.
use Rattle.std.proofs.Common.{◌≡◌, false}
use Rattle.std.specs.Ordering.{eq_by_cmp, nat_cmp}
use Rattle.std.specs.Set.{is_member}
use Rattle.h3_connection.specs.State.{kept_at}
use Rattle.h3_requests.specs.Done.{is_sought}
use Rattle.h3_requests.proofs.Seeking.{Found}
use Rattle.h3_requests.proofs.under_way.others.Others.greatest.Given as goal

abbrev pub invariant-ids : goal.invariant-ids
invariant-ids l = Found (λ q. is_sought l.undone (kept_at l.self.streams.entries q)) (λ q. is_member (eq_by_cmp nat_cmp) l.id-iterator q ≡ false) l.found
