-- The lesser of that in the row and that in the map.
use Rattle.std.proofs.Common.{◌||◌, refl, sym, subst}
use Rattle.h3_connection.specs.NextWaiting.{IsLeast}
use Rattle.h3_connection.specs.NextWaitingLaws.{least_same}
use Rattle.h3_connection.specs.State.{kept_at}
use Rattle.h3_requests.specs.Lesser.{lesser_of}
use Rattle.h3_requests.specs.LesserLaws.{least_either}
use Rattle.h3_requests.specs.Row.{found_at, held_at}
use Rattle.h3_requests.specs.Unblocked.{is_unblocked}
use Rattle.h3_requests.proofs.Seeking.{passes_beside}
use Rattle.h3_requests.proofs.Unblocked.{fits_both, least_listed}
use Rattle.h3_requests.proofs.under_way.StreamsUnderWay.next_unblocked.Goals as goal

pub returns-clause-value : goal.returns-clause-value
returns-clause-value c =
    let test = is_unblocked c.args.inserted in
    let row = held_at c.self.inside.row in
    let map = kept_at c.self.inside.others.streams.entries in
    let both = found_at c.self.inside.row c.self.inside.others.streams.entries in
    let least = lesser_of c.next_unblocked.result c.next_unblocked-2.result in
    subst (IsLeast (λ q. test (kept_at c.args.self.now q)) c.args.from) (sym c.lesser.ensures)
    (least_listed test both c.args.self.now c.args.from least c.self.view_is refl
    (fits_both c.next_unblocked.result c.next_unblocked-2.result c.next_unblocked.ensures.fits c.next_unblocked-2.ensures.fits)
    (least_same (λ q. test (row q) || test (map q)) (λ q. test (both q)) c.args.from least
    (λ q. passes_beside test (row q) (map q) refl (c.self.invariant q))
    (least_either (λ q. test (row q)) (λ q. test (map q)) c.args.from c.next_unblocked.result c.next_unblocked-2.result c.next_unblocked.ensures.value c.next_unblocked-2.ensures.value)))
