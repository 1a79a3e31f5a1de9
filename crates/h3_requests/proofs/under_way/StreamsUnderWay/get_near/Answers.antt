-- A stream in the row is the stream of its id.
use Rattle.std.proofs.Common.{Some, refl}
use Rattle.h3_requests.specs.Row.{held_at}
use Rattle.h3_requests.proofs.Beside.{in_row}
use Rattle.h3_requests.proofs.under_way.StreamsUnderWay.get_near.Goals as goal

pub returns-in-Some : goal.returns-in-Some
returns-in-Some c = in_row (held_at c.self.inside.row) c.self.inside.others.streams.entries c.args.self.now c.self.view_is c.args.id c.ranges.id.fits (Some c.in-Some.stream.now) c.in-Some.ensures refl
