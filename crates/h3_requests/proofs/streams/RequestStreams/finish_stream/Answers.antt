-- The stream waits for as much as before, and its end waits.
use Rattle.std.proofs.Common.{ap, refl, rules, ◌∙◌, sym}
use Rattle.h3_connection.specs.State.{RequestState}
use Rattle.h3_requests.proofs.Sendable.{class_place, ended, moved, of_plain, written}
use Rattle.h3_requests.proofs.streams.RequestStreams.finish_stream.Goals as goal

pub invariant_of-self-then-not-takes_end : goal.invariant_of-self-then-not-takes_end
invariant_of-self-then-not-takes_end c = written _ _ _ _ c.args.id c.in-Some.stream.now _ (c.get_mut.follows.holds _) (search rules) (search rules) (search rules) c.self.invariant

pub invariant_of-self-then-not-may_end : goal.invariant_of-self-then-not-may_end
invariant_of-self-then-not-may_end c = written _ _ _ _ c.args.id c.in-Some.stream.now _ (c.get_mut.follows.holds _) (search rules) (search rules) (search rules) c.self.invariant

pub invariant_of-self-2 : goal.invariant_of-self-2
invariant_of-self-2 c = moved c.retire_if.ensures
    (ended _ _ _ _ _ _ c.args.id _ c.in-Some.stream.now (record { incoming = c.stream.inside.incoming; outgoing = c.finish.new.self }) (c.get_mut.follows.holds _) (search rules) (ap (λ (r : RequestState). r.incoming.waits_for) c.stream.view_is)
    (ap (λ o. o.pieces) c.finish.ensures ∙ ap (λ (r : RequestState). r.outgoing.pieces) c.stream.view_is) c.end_waits-ends.ensures (rw c.finish.ensures refl) (search rules) (ap (λ o. o.precedence) c.finish.ensures ∙ ap (λ (r : RequestState). r.outgoing.precedence) c.stream.view_is) c.settle_end.ensures.bytes c.settle_end.ensures.end c.settle_end.ensures.places c.settle_end.ensures.classes c.self.invariant)

-- a stream that may be finished has a place
pub settle_end-requires-clause-place : goal.settle_end-requires-clause-place
settle_end-requires-clause-place c = λ ends. class_place c.self.invariant _ c.args.id c.in-Some.stream.now (search rules) (search rules) (search rules)

-- while all streams are of one class it is of that
pub class_if-class-requires : goal.class_if-class-requires
class_if-class-requires c = λ none. of_plain {s = c.self.inside.ready} c.args.id c.in-Some.stream.now c.self.invariant (search rules) (sym c.has_classes.ensures ∙ none)
