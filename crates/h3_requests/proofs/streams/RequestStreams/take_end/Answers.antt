-- The end of the stream is taken, whether it is under way or over.
use Rattle.std.proofs.Common.{ap, rules, ◌≡◌, sym, subst, ◌∙◌}
use Rattle.std.specs.Prelude.{IfSome}
use Rattle.std.specs.Option.{option_copied_mut}
use Rattle.h3_connection.specs.Calls.{Sets}
use Rattle.h3_connection.specs.State.{RequestState, kept_at}
use Rattle.h3_requests.specs.HasBytes.{gives_end, has_end}
use Rattle.h3_requests.specs.Over.{IsOver, with_end_taken}
use Rattle.h3_requests.specs.Stored.{over_at, streams_in}
use Rattle.h3_requests.specs.Listed.{either}
use Rattle.h3_requests.proofs.Sendable.{end_gone, of_plain, over_gives, over_gone, written}
use Rattle.h3_requests.proofs.streams.RequestStreams.take_end.Goals as goal

pub invariant_of-self-in_default : goal.invariant_of-self-in_default
invariant_of-self-in_default c =
    let same = c.get_mut.follows.holds-at-none in
    let found : kept_at (streams_in c.self.inside.streams) c.args.id ≡ over_at c.self.inside.streams c.args.id =
    c.get_mut.ensures.found ∙ ap (λ o. either o (over_at c.self.inside.streams c.args.id)) (sym c.get_mut.ensures.value ∙ ap option_copied_mut c.in_default.is) in
    let over = subst (λ s. IfSome (over_at s c.args.id) IsOver) same c.take_end.ensures.over in
    let told = subst (λ s. c.take_end.result ≡ has_end (over_at s c.args.id)) same c.take_end.ensures.told in
    let taken = subst (λ s. IfSome (over_at s c.args.id) (λ r. Sets (streams_in s) (streams_in c.take_end.new.self) c.args.id (with_end_taken r))) same (c.take_end.ensures.taken c.if-not-take_end.false) in
    over_gone _ _ _ (streams_in c.self.inside.streams) _ _ c.args.id (over_at c.self.inside.streams c.args.id) found over (sym told ∙ c.if-not-take_end.false)
    c.take_end.ensures.distinct taken (search (rules, found)) c.settle_end.ensures.bytes c.settle_end.ensures.end c.settle_end.ensures.places c.settle_end.ensures.classes c.self.invariant

pub returns-in_default-clause-told : goal.returns-in_default-clause-told
returns-in_default-clause-told c =
    let same = c.get_mut.follows.holds-at-none in
    let found : kept_at c.args.self.now c.args.id ≡ over_at c.self.inside.streams c.args.id =
    ap (λ l. kept_at l c.args.id) (sym c.self.view_is) ∙ c.get_mut.ensures.found ∙ ap (λ o. either o (over_at c.self.inside.streams c.args.id)) (sym c.get_mut.ensures.value ∙ ap option_copied_mut c.in_default.is) in
    let over = subst (λ s. IfSome (over_at s c.args.id) IsOver) same c.take_end.ensures.over in
    let told = subst (λ s. c.take_end.result ≡ has_end (over_at s c.args.id)) same c.take_end.ensures.told in
    sym (ap gives_end found ∙ sym (over_gives (over_at c.self.inside.streams c.args.id) over) ∙ sym told ∙ c.if-not-take_end.false)

pub invariant_of-self-then-not-take_end-2 : goal.invariant_of-self-then-not-take_end-2
invariant_of-self-then-not-take_end-2 c = written _ _ _ _ c.args.id c.in-Some.stream.now _ (c.get_mut.follows.holds _) (search rules) (search rules) (search rules) c.self.invariant

pub invariant_of-self-2 : goal.invariant_of-self-2
invariant_of-self-2 c =
    end_gone _ _ _ _ _ _ c.args.id c.in-Some.stream.now (record { incoming = c.stream.inside.incoming; outgoing = c.take_end-2.new.self }) (c.get_mut.follows.holds _) (search rules) (ap (λ (r : RequestState). r.incoming.waits_for) c.stream.view_is)
    (search rules) (search rules) (search rules) c.settle_end-2.ensures.bytes c.settle_end-2.ensures.end c.settle_end-2.ensures.places c.settle_end-2.ensures.classes c.self.invariant

-- while all streams are of one class it is of that
pub class_if-class-requires : goal.class_if-class-requires
class_if-class-requires c = λ none. of_plain {s = c.self.inside.ready} c.args.id c.in-Some.stream.now c.self.invariant (search rules) (sym c.has_classes.ensures ∙ none)
