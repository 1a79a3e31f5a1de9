-- The greater of that under way and that which is over.
use Rattle.std.proofs.Common.{false, refl, sym, subst}
use Rattle.std.specs.Prelude.{is_some}
use Rattle.h3_connection.specs.State.{kept_at}
use Rattle.h3_requests.specs.Done.{is_sought}
use Rattle.h3_requests.specs.Greatest.{IsGreatest, greater_of}
use Rattle.h3_requests.specs.Stored.{over_at, stored_at, streams_in, under_way_at}
use Rattle.h3_requests.proofs.Seeking.{fits_both, greatest_listed, greatest_of_both, there_beside}
use Rattle.h3_requests.proofs.map.StreamMap.greatest.Goals as goal

pub returns : goal.returns
returns c =
    subst (IsGreatest (λ q. is_some (kept_at (streams_in c.args.self.now) q))) (sym c.greater.ensures)
    (greatest_listed is_some (stored_at c.args.self.now) (streams_in c.args.self.now) (greater_of c.greatest.result c.greatest-2.result) refl refl
    (fits_both c.greatest.result c.greatest-2.result c.greatest.ensures.fits c.greatest-2.ensures.fits)
    (greatest_of_both (λ q. is_sought false (under_way_at c.args.self.now q)) (λ q. is_some (over_at c.args.self.now q)) (λ q. is_some (stored_at c.args.self.now q)) c.greatest.result c.greatest-2.result
    (λ q. there_beside (under_way_at c.args.self.now q) (over_at c.args.self.now q)) c.greatest.ensures.value c.greatest-2.ensures.value))
