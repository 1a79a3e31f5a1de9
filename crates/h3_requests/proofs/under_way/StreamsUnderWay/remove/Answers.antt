-- The stream is taken out of the row, or else out of the map.
use Rattle.std.proofs.Common.{Some, refl, sym, ◌∙◌, ap, is_some}
use Rattle.h3_requests.specs.Row.{held_at}
use Rattle.h3_requests.proofs.Beside.{behind, in_row, takes}
use Rattle.h3_requests.proofs.under_way.StreamsUnderWay.remove.Goals as goal

pub returns-in-Some-clause-value : goal.returns-in-Some-clause-value
returns-in-Some-clause-value c =
    sym (in_row (held_at c.self.inside.row) c.self.inside.others.streams.entries c.args.self.now c.self.view_is c.args.id c.ranges.id.fits (Some c.in-Some.stream) (sym c.in-Some.is ∙ c.take.ensures.value) refl)

pub returns-in-Some-clause-takes_out : goal.returns-in-Some-clause-takes_out
returns-in-Some-clause-takes_out c =
    takes (held_at c.self.inside.row) c.self.inside.others.streams.entries c.args.self.now c.self.view_is c.args.id c.ranges.id.fits (held_at c.take.new.self) c.self.inside.others.streams.entries c.take.ensures.taken.own c.take.ensures.taken.others
    (c.self.invariant c.args.id (ap is_some (sym c.take.ensures.value ∙ c.in-Some.is))) (λ q at. refl)

pub returns-clause-value : goal.returns-clause-value
returns-clause-value c =
    sym (behind (held_at c.self.inside.row) c.self.inside.others.streams.entries c.args.self.now c.self.view_is c.args.id c.ranges.id.fits c.take-2.result (sym c.take.ensures.value ∙ c.in_default.is) c.take-2.ensures.value)

pub returns-clause-takes_out : goal.returns-clause-takes_out
returns-clause-takes_out c =
    takes (held_at c.self.inside.row) c.self.inside.others.streams.entries c.args.self.now c.self.view_is c.args.id c.ranges.id.fits (held_at c.take.new.self) c.take-2.new.self.streams.entries c.take.ensures.taken.own c.take.ensures.taken.others
    c.take-2.ensures.own c.take-2.ensures.others
