-- What is over is not unblocked.
use Rattle.std.proofs.Common.{refl}
use Rattle.h3_connection.specs.NextWaitingLaws.{least_same}
use Rattle.h3_requests.specs.Stored.{over_at, stored_at, streams_in, under_way_at}
use Rattle.h3_requests.specs.Unblocked.{is_unblocked}
use Rattle.h3_requests.proofs.Unblocked.{least_listed, under_way_alone}
use Rattle.h3_requests.proofs.map.StreamMap.next_unblocked.Goals as goal

pub returns : goal.returns
returns c =
    let n = c.args.inserted in
    least_listed (is_unblocked n) (stored_at c.args.self.now) (streams_in c.args.self.now) c.args.from c.next_unblocked.result refl refl c.next_unblocked.ensures.fits
    (least_same (λ q. is_unblocked n (under_way_at c.args.self.now q)) (λ q. is_unblocked n (stored_at c.args.self.now q)) c.args.from c.next_unblocked.result
    (λ q. under_way_alone n (under_way_at c.args.self.now q) (over_at c.args.self.now q) (c.are_over.ensures q)) c.next_unblocked.ensures.value)
