-- The greater of that in the row and that in the map.
use Rattle.std.proofs.Common.{refl, sym, subst}
use Rattle.h3_connection.specs.State.{kept_at}
use Rattle.h3_requests.specs.Done.{is_sought}
use Rattle.h3_requests.specs.Greatest.{IsGreatest, greater_of}
use Rattle.h3_requests.specs.Row.{found_at, held_at}
use Rattle.h3_requests.proofs.Seeking.{fits_both, greatest_listed, greatest_of_both, passes_beside}
use Rattle.h3_requests.proofs.under_way.StreamsUnderWay.greatest.Goals as goal

pub returns-clause-value : goal.returns-clause-value
returns-clause-value c =
    subst (IsGreatest (λ q. is_sought c.args.undone (kept_at c.args.self.now q))) (sym c.greater.ensures)
    (greatest_listed (is_sought c.args.undone) (found_at c.self.inside.row c.self.inside.others.streams.entries) c.args.self.now (greater_of c.greatest.result c.greatest-2.result) c.self.view_is refl
    (fits_both c.greatest.result c.greatest-2.result c.greatest.ensures.fits c.greatest-2.ensures.fits)
    (greatest_of_both (λ q. is_sought c.args.undone (held_at c.self.inside.row q)) (λ q. is_sought c.args.undone (kept_at c.self.inside.others.streams.entries q))
    (λ q. is_sought c.args.undone (found_at c.self.inside.row c.self.inside.others.streams.entries q)) c.greatest.result c.greatest-2.result
    (λ q. passes_beside (is_sought c.args.undone) (held_at c.self.inside.row q) (kept_at c.self.inside.others.streams.entries q) refl (c.self.invariant q)) c.greatest.ensures.value c.greatest-2.ensures.value))
