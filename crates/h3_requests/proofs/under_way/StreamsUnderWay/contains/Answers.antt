-- The stream stands in the row, or else in the map.
use Rattle.std.proofs.Common.{refl, sym, ◌∙◌, ap, is_some}
use Rattle.h3_connection.specs.State.{kept_at}
use Rattle.h3_requests.specs.Row.{held_at}
use Rattle.h3_requests.proofs.Beside.{behind, has_none, in_row}
use Rattle.h3_requests.proofs.under_way.StreamsUnderWay.contains.Goals as goal

pub returns-then-has : goal.returns-then-has
returns-then-has c =
    c.has.ensures
    ∙ sym (ap is_some (in_row (held_at c.self.inside.row) c.self.inside.others.streams.entries c.args.self.now c.self.view_is c.args.id c.ranges.id.fits (held_at c.self.inside.row c.args.id) refl (sym c.has.ensures ∙ c.if-has.true)))

pub returns-else-has : goal.returns-else-has
returns-else-has c =
    c.has-else-has.ensures
    ∙ sym (ap is_some (behind (held_at c.self.inside.row) c.self.inside.others.streams.entries c.args.self.now c.self.view_is c.args.id c.ranges.id.fits (kept_at c.self.inside.others.streams.entries c.args.id) (has_none _ (sym c.has.ensures ∙ c.if-has.false)) refl))
