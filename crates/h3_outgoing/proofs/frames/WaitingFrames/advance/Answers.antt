use Rattle.std.proofs.Common.{rules, ◌∙◌, ◌-◌, ap}
use Rattle.h3_connection.specs.WaitingPieces.{without_front}
use Rattle.h3_outgoing.specs.Queue.{frames_in}
use Rattle.h3_outgoing.proofs.Queues.{counted_fewer, later_same, later_some, places_fewer, second_some}
use Rattle.h3_outgoing.proofs.frames.WaitingFrames.advance.Goals as goal

pub take_of-requires-2 : goal.take_of-requires-2
take_of-requires-2 c = second_some c.self.inside.first c.self.inside.second c.self.inside.later.items c.self.invariant.1

pub take_later-requires-clause-some : goal.take_later-requires-clause-some
take_later-requires-clause-some c = later_some c.self.inside.first c.self.inside.second c.self.inside.later.items c.self.invariant.1

pub invariant_of-self : goal.invariant_of-self
invariant_of-self c =
    let s = c.self.inside in
    counted_fewer c.args.count s.waiting (frames_in s.first s.second s.later.items) _
    (places_fewer c.args.count c.take_of.result c.take_of-2.result s.first s.second c.take_of.new.place c.take_of-2.new.place s.later.items c.take_later.new.later.items
    c.take_of.ensures.taken c.take_of.ensures.rest c.take_of-2.ensures.taken c.take_of-2.ensures.rest c.take_later.ensures)
    c.self.invariant

pub invariant_of-self-else-behind_second-gt0 : goal.invariant_of-self-else-behind_second-gt0
invariant_of-self-else-behind_second-gt0 c =
    let s = c.self.inside in
    counted_fewer c.args.count s.waiting (frames_in s.first s.second s.later.items) _
    (places_fewer c.args.count c.take_of.result c.take_of-2.result s.first s.second c.take_of.new.place c.take_of-2.new.place s.later.items s.later.items
    c.take_of.ensures.taken c.take_of.ensures.rest c.take_of-2.ensures.taken c.take_of-2.ensures.rest
    (later_same ((c.args.count - c.take_of.result) - c.take_of-2.result) s.later.items (search rules)))
    c.self.invariant

pub returns-else-behind_second-gt0 : goal.returns-else-behind_second-gt0
returns-else-behind_second-gt0 c =
    let s = c.self.inside in
    places_fewer c.args.count c.take_of.result c.take_of-2.result s.first s.second c.take_of.new.place c.take_of-2.new.place s.later.items s.later.items
    c.take_of.ensures.taken c.take_of.ensures.rest c.take_of-2.ensures.taken c.take_of-2.ensures.rest
    (later_same ((c.args.count - c.take_of.result) - c.take_of-2.result) s.later.items (search rules))
    ∙ ap (λ w. without_front c.args.count w.frames) c.self.view_is
