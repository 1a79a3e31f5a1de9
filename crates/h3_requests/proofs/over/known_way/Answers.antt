-- Each known way is one in which streams are over.
use Rattle.std.proofs.Common.{length, refl}
use Rattle.std.proofs.lemmas.Option.{slice_get_read}
use Rattle.h3_requests.proofs.Ways.{way_stands}
use Rattle.h3_requests.proofs.over.known_way.Goals as goal

pub is_way-requires-clause-way : goal.is_way-requires-clause-way
is_way-requires-clause-way c =
    way_stands c.args.ways.now c.loop-index.index c.index-ways-index.result c.requires.ways
    (slice_get_read c.args.ways.now (length c.args.ways.now) c.loop-index.index c.index-ways-index.result refl c.loop-index-test.true c.index-ways-index.is)
