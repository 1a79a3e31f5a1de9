-- What is over is done.
use Rattle.std.proofs.Common.{true, refl}
use Rattle.h3_requests.specs.Done.{is_sought}
use Rattle.h3_requests.specs.Stored.{over_at, stored_at, streams_in, under_way_at}
use Rattle.h3_requests.proofs.Seeking.{greatest_alike, greatest_listed, undone_beside}
use Rattle.h3_requests.proofs.map.StreamMap.undone.Goals as goal

pub returns : goal.returns
returns c =
    greatest_listed (is_sought true) (stored_at c.args.self.now) (streams_in c.args.self.now) c.greatest.result refl refl c.greatest.ensures.fits
    (greatest_alike (λ q. is_sought true (under_way_at c.args.self.now q)) (λ q. is_sought true (stored_at c.args.self.now q)) c.greatest.result
    (λ q. undone_beside (under_way_at c.args.self.now q) (over_at c.args.self.now q) (c.are_over.ensures q)) c.greatest.ensures.value)
