-- The stream stands in the row, or else in the map.
use Rattle.std.proofs.Common.{Some, refl, sym, ◌∙◌, ap, option_copied}
use Rattle.h3_requests.specs.Row.{held_at}
use Rattle.h3_requests.proofs.Beside.{behind, in_row}
use Rattle.h3_requests.proofs.under_way.StreamsUnderWay.get.Goals as goal

pub returns-in-Some : goal.returns-in-Some
returns-in-Some c = sym (in_row (held_at c.self.inside.row) c.self.inside.others.streams.entries c.args.self.now c.self.view_is c.args.id c.ranges.id.fits (Some c.in-Some.stream.now) c.in-Some.ensures refl)

pub returns : goal.returns
returns c =
    sym (behind (held_at c.self.inside.row) c.self.inside.others.streams.entries c.args.self.now c.self.view_is c.args.id c.ranges.id.fits (option_copied c.get-2.result) (sym c.get.ensures ∙ ap option_copied c.in_default.is) c.get-2.ensures)
