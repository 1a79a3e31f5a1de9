-- The stream is put into the row, or else into the map.
use Rattle.std.proofs.Common.{◌∙◌, subst, IsSome}
use Rattle.h3_requests.specs.Row.{held_at}
use Rattle.h3_requests.proofs.Beside.{apart_behind, apart_put, in_neither, sets_behind, sets_first}
use Rattle.h3_requests.proofs.under_way.StreamsUnderWay.insert.Goals as goal

pub invariant_of-self-then-has_room : goal.invariant_of-self-then-has_room
invariant_of-self-then-has_room c =
    let none = in_neither (held_at c.self.inside.row) c.self.inside.others.streams.entries c.args.self.now c.self.view_is c.args.id c.ranges.id.fits c.requires in
    apart_put (held_at c.self.inside.row) (held_at c.put.new.self) c.self.inside.others.streams.entries c.args.id none.1 (λ q differs. c.put.ensures.others q differs ∙ c.reserve.ensures q) c.self.invariant

pub returns-then-has_room-clause-ok : goal.returns-then-has_room-clause-ok
returns-then-has_room-clause-ok c =
    sets_first (held_at c.self.inside.row) c.self.inside.others.streams.entries c.args.self.now c.self.view_is c.args.id c.ranges.id.fits (held_at c.put.new.self) c.args.stream c.put.ensures.own
    (λ q differs. c.put.ensures.others q differs ∙ c.reserve.ensures q)

pub invariant_of-self-2 : goal.invariant_of-self-2
invariant_of-self-2 c =
    let none = in_neither (held_at c.self.inside.row) c.self.inside.others.streams.entries c.args.self.now c.self.view_is c.args.id c.ranges.id.fits c.requires in
    apart_behind (held_at c.reserve.new.self) c.self.inside.others.streams.entries c.put-2.new.self.streams.entries c.args.id (c.reserve.ensures c.args.id ∙ none.0) c.in-Ok.ensures.others
    (λ q some. c.self.invariant q (subst (λ o. IsSome o) (c.reserve.ensures q) some))

pub returns-clause-ok : goal.returns-clause-ok
returns-clause-ok c =
    let none = in_neither (held_at c.self.inside.row) c.self.inside.others.streams.entries c.args.self.now c.self.view_is c.args.id c.ranges.id.fits c.requires in
    sets_behind (held_at c.self.inside.row) c.self.inside.others.streams.entries c.args.self.now c.self.view_is c.args.id c.ranges.id.fits (held_at c.reserve.new.self) c.put-2.new.self.streams.entries c.args.stream none.0 c.reserve.ensures
    c.in-Ok.ensures.own c.in-Ok.ensures.others
