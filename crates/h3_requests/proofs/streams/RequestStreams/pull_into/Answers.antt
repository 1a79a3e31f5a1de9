-- The counts go along, and the limit is judged by them.
use Rattle.std.proofs.Common.{rules, ◌≡◌, Some, refl, sym, subst, ap, ◌∙◌}
use Rattle.std.specs.Option.{option_copied_mut}
use Rattle.std.specs.Prelude.{is_some, nat_lt, IfSome, Option}
use Rattle.h3_blocked.specs.Counting.{above, Replaces, waits_at}
use Rattle.h3_connection.specs.Incoming.{Incoming}
use Rattle.h3_connection.specs.Lists.{list_of, pull_of}
use Rattle.h3_connection.specs.Pulling.{pull_stream}
use Rattle.h3_connection.specs.StreamSets.{Streams}
use Rattle.h3_incoming.specs.AnswerLaws.{lists_then, makes_none, makes_within}
use Rattle.h3_incoming.specs.Answering.{Lists}
use Rattle.h3_connection.specs.Coming.{fields_next}
use Rattle.h3_incoming.specs.Gives.{Gives}
use Rattle.h3_requests.specs.Coming.{fields_at}
use Rattle.h3_requests.specs.Limited.{AnswersOver, AreReceivers, limited}
use Rattle.h3_connection.specs.State.{RequestState, kept_at}
use Rattle.h3_requests.specs.Counted.{AreCounted}
use Rattle.h3_requests.specs.Ready.{AreKept}
use Rattle.h3_requests.proofs.Counts.{has_count_at, replaced_twice}
use Rattle.h3_requests.proofs.Pulls.{gives_just, gives_limited, pulled_over, pulled_there}
use Rattle.h3_requests.proofs.Sendable.{moved, kept_again, replaced, written}
use Rattle.h3_requests.specs.Stored.{over_at, streams_in, under_way_at}
use Rattle.h3_requests.specs.Listed.{either}
use Rattle.h3_requests.proofs.streams.RequestStreams.pull_into.Goals as goal

pub within_limit-requires-clause-among : goal.within_limit-requires-clause-among
within_limit-requires-clause-among c = has_count_at _ (streams_in c.self.inside.streams) c.args.id _ (search rules) (kept_again c.pass.ensures.same c.pass.ensures.sound c.self.invariant).counted

pub invariant_of-self-then-answer_settled : goal.invariant_of-self-then-answer_settled
invariant_of-self-then-answer_settled c =
    let stands : Replaces c.pass.new.self c.within_limit.new.counts c.in-Some.stream.now.incoming.waits_for c.within_limit.new.stream.waits_for =
    subst (λ (r : RequestState). Replaces c.pass.new.self c.within_limit.new.counts r.incoming.waits_for c.within_limit.new.stream.waits_for) c.stream.view_is c.within_limit.ensures.replaced in
    replaced _ _ _ _ _ c.args.id c.in-Some.stream.now _ (c.get_mut.follows.holds _) (search rules) c.within_limit.ensures.sound stands (search rules) (kept_again c.pass.ensures.same c.pass.ensures.sound c.self.invariant)

pub returns-then-answer_settled-clause-answer : goal.returns-then-answer_settled-clause-answer
returns-then-answer_settled-clause-answer c = λ passed.
    let before : RequestState = record { incoming = c.stream.inside.incoming; outgoing = c.stream.inside.outgoing } in
    let there : kept_at (streams_in c.self.inside.streams) c.args.id ≡ Some before = search rules in
    let pulled : Gives (pull_stream c.args.side c.args.announced.now c.args.id c.args.decoder.now before.incoming) (pull_of c.answer_settled.new.out) before.incoming c.args.replies.now.items c.args.replies.now.items = gives_just _ _ _ _ ((c.answer_settled.ensures.settled c.if-answer_settled.true).1 _ _ _ _) in
    let gives : (receivers : Streams Incoming) → AreReceivers receivers (streams_in c.self.inside.streams)
    → Gives (limited c.args.announced.now c.args.id c.args.decoder.now receivers (pull_stream c.args.side c.args.announced.now c.args.id c.args.decoder.now before.incoming)) (pull_of c.within_limit.new.out) c.within_limit.new.stream c.args.replies.now.items c.args.replies.now.items =
    gives_limited c.args.side c.args.announced.now c.args.id c.args.decoder.now (streams_in c.self.inside.streams) before (pull_of c.answer_settled.new.out) (pull_of c.within_limit.new.out) before.incoming c.within_limit.new.stream
    c.pass.new.self c.pass.new.self c.inserted-inserted.result _ _ (kept_again c.pass.ensures.same c.pass.ensures.sound c.self.invariant).counted there pulled (λ n. refl) c.inserted-inserted.ensures.value c.within_limit.ensures.limited in
    let now : RequestState = record { incoming = c.within_limit.new.stream; outgoing = c.stream.inside.outgoing } in
    let found : under_way_at c.self.inside.streams c.args.id ≡ Some c.in-Some.stream.now = search rules in
    pulled_there c.args.side c.args.announced.now c.args.id c.args.decoder.now (streams_in c.self.inside.streams) c.args.self.now (streams_in (c.get_mut.follows.lender now)) (streams_in (c.get_mut.follows.lender now)) before now
    (pull_of c.within_limit.new.out) c.args.replies.now.items c.args.replies.now.items c.self.view_is there ((c.get_mut.follows.holds now).0 (ap is_some found)) refl refl gives

pub invariant_of-self-in_default-make_room : goal.invariant_of-self-in_default-make_room
invariant_of-self-in_default-make_room c =
    written _ _ _ _ c.args.id c.in-Some.stream.now _ (c.get_mut.follows.holds _) (search rules) refl (search rules) (kept_again c.make_room.ensures.same c.make_room.ensures.sound (kept_again c.pass.ensures.same c.pass.ensures.sound c.self.invariant))

pub invariant_of-self-then-is_memory : goal.invariant_of-self-then-is_memory
invariant_of-self-then-is_memory c =
    written _ _ _ _ c.args.id c.in-Some.stream.now _ (c.get_mut.follows.holds _) (search rules) (search rules) (search rules) (kept_again c.make_room.ensures.same c.make_room.ensures.sound (kept_again c.pass.ensures.same c.pass.ensures.sound c.self.invariant))

pub replace-requires-clause-among : goal.replace-requires-clause-among
replace-requires-clause-among c =
    has_count_at _ (streams_in c.self.inside.streams) c.args.id _ (search rules) (kept_again c.make_room.ensures.same c.make_room.ensures.sound (kept_again c.pass.ensures.same c.pass.ensures.sound c.self.invariant)).counted

-- as among the streams with the one that was pulled
pub within_limit-requires-2-clause-among : goal.within_limit-requires-2-clause-among
within_limit-requires-2-clause-among c =
    let now : RequestState = record { incoming = c.pull_into.new.self; outgoing = c.stream.inside.outgoing } in
    let waited : Replaces c.make_room.new.self c.replace.new.self c.stream.inside.incoming.waits_for c.pull_into.new.self.waits_for =
    subst (λ n. Replaces c.make_room.new.self c.replace.new.self n c.pull_into.new.self.waits_for) c.waits_for-before.ensures
    (subst (λ n. Replaces c.make_room.new.self c.replace.new.self c.waits_for-before.result n) c.waits_for.ensures c.replace.ensures.replaced) in
    let stands : Replaces c.make_room.new.self c.replace.new.self c.in-Some.stream.now.incoming.waits_for c.pull_into.new.self.waits_for =
    subst (λ (r : RequestState). Replaces c.make_room.new.self c.replace.new.self r.incoming.waits_for c.pull_into.new.self.waits_for) c.stream.view_is waited in
    let between : AreKept c.replace.new.self c.self.inside.ready c.self.inside.seen (streams_in (c.get_mut.follows.lender now)) =
    replaced _ _ _ _ _ c.args.id c.in-Some.stream.now now (c.get_mut.follows.holds now) (search rules) c.replace.ensures.sound stands (search rules) (kept_again c.make_room.ensures.same c.make_room.ensures.sound (kept_again c.pass.ensures.same c.pass.ensures.sound c.self.invariant)) in
    let found : under_way_at c.self.inside.streams c.args.id ≡ Some c.in-Some.stream.now = search rules in
    let there : kept_at (streams_in (c.get_mut.follows.lender now)) c.args.id ≡ Some now = ((c.get_mut.follows.holds now).0 (ap is_some found)).here in
    has_count_at _ (streams_in (c.get_mut.follows.lender now)) c.args.id _ (sym (ap waits_at there)) between.counted

pub invariant_of-self-2 : goal.invariant_of-self-2
invariant_of-self-2 c =
    let waited : Replaces c.make_room.new.self c.replace.new.self c.stream.inside.incoming.waits_for c.pull_into.new.self.waits_for =
    subst (λ n. Replaces c.make_room.new.self c.replace.new.self n c.pull_into.new.self.waits_for) c.waits_for-before.ensures
    (subst (λ n. Replaces c.make_room.new.self c.replace.new.self c.waits_for-before.result n) c.waits_for.ensures c.replace.ensures.replaced) in
    let both : Replaces c.make_room.new.self c.within_limit-2.new.counts c.stream.inside.incoming.waits_for c.within_limit-2.new.stream.waits_for =
    replaced_twice c.make_room.new.self c.replace.new.self c.within_limit-2.new.counts c.stream.inside.incoming.waits_for c.pull_into.new.self.waits_for c.within_limit-2.new.stream.waits_for waited c.within_limit-2.ensures.replaced in
    let stands : Replaces c.make_room.new.self c.within_limit-2.new.counts c.in-Some.stream.now.incoming.waits_for c.within_limit-2.new.stream.waits_for =
    subst (λ (r : RequestState). Replaces c.make_room.new.self c.within_limit-2.new.counts r.incoming.waits_for c.within_limit-2.new.stream.waits_for) c.stream.view_is both in
    moved c.retire_if.ensures
    (replaced _ _ _ _ _ c.args.id c.in-Some.stream.now _ (c.get_mut.follows.holds _) (search rules) c.within_limit-2.ensures.sound stands (search rules) (kept_again c.make_room.ensures.same c.make_room.ensures.sound (kept_again c.pass.ensures.same c.pass.ensures.sound c.self.invariant)))

pub returns-clause-answer : goal.returns-clause-answer
returns-clause-answer c = λ passed.
    let before : RequestState = record { incoming = c.stream.inside.incoming; outgoing = c.stream.inside.outgoing } in
    let there : kept_at (streams_in c.self.inside.streams) c.args.id ≡ Some before = search rules in
    let replaces : Replaces c.make_room.new.self c.replace.new.self c.stream.inside.incoming.waits_for c.pull_into.new.self.waits_for =
    subst (λ n. Replaces c.make_room.new.self c.replace.new.self n c.pull_into.new.self.waits_for) c.waits_for-before.ensures
    (subst (λ n. Replaces c.make_room.new.self c.replace.new.self c.waits_for-before.result n) c.waits_for.ensures c.replace.ensures.replaced) in
    let gives : (receivers : Streams Incoming) → AreReceivers receivers (streams_in c.self.inside.streams)
    → Gives (limited c.args.announced.now c.args.id c.args.decoder.now receivers (pull_stream c.args.side c.args.announced.now c.args.id c.args.decoder.now before.incoming)) (pull_of c.within_limit-2.new.out) c.within_limit-2.new.stream c.args.replies.now.items c.pull_into.new.replies.items =
    gives_limited c.args.side c.args.announced.now c.args.id c.args.decoder.now (streams_in c.self.inside.streams) before (pull_of c.pull_into.new.out) (pull_of c.within_limit-2.new.out) c.pull_into.new.self c.within_limit-2.new.stream
    c.make_room.new.self c.replace.new.self c.inserted-inserted.result _ _ (kept_again c.make_room.ensures.same c.make_room.ensures.sound (kept_again c.pass.ensures.same c.pass.ensures.sound c.self.invariant)).counted there (c.pull_into.ensures.answer (sym c.is_memory.ensures ∙ c.if-is_memory.false)) replaces c.inserted-inserted.ensures.value c.within_limit-2.ensures.limited in
    let now : RequestState = record { incoming = c.within_limit-2.new.stream; outgoing = c.stream.inside.outgoing } in
    let found : under_way_at c.self.inside.streams c.args.id ≡ Some c.in-Some.stream.now = search rules in
    pulled_there c.args.side c.args.announced.now c.args.id c.args.decoder.now (streams_in c.self.inside.streams) c.args.self.now (streams_in (c.get_mut.follows.lender now)) (streams_in c.retire_if.new.self) before now
    (pull_of c.within_limit-2.new.out) c.args.replies.now.items c.pull_into.new.replies.items c.self.view_is there ((c.get_mut.follows.holds now).0 (ap is_some found)) c.retire_if.ensures refl gives

-- the list that came, unless the answer became a fault
pub returns-clause-list : goal.returns-clause-list
returns-clause-list c =
    let before : RequestState = record { incoming = c.stream.inside.incoming; outgoing = c.stream.inside.outgoing } in
    let there : kept_at (streams_in c.self.inside.streams) c.args.id ≡ Some before = search rules in
    let r = c.args.decoder.now in
    subst (λ s. Lists (list_of c.within_limit-2.new.out) (fields_at c.args.announced.now r (kept_at s c.args.id))) c.self.view_is
    (subst (λ o. Lists (list_of c.within_limit-2.new.out) (fields_at c.args.announced.now r o)) (sym there) (lists_then _ _ (fields_next c.args.announced.now r before.incoming) c.within_limit-2.ensures.list c.pull_into.ensures.list))

-- a stream that is over answers what is settled, and stays
pub returns-in_default-clause-answer : goal.returns-in_default-clause-answer
returns-in_default-clause-answer c = λ passed.
    let found : kept_at c.args.self.now c.args.id ≡ over_at c.self.inside.streams c.args.id =
    ap (λ l. kept_at l c.args.id) (sym c.self.view_is) ∙ c.get_mut.ensures.found ∙ ap (λ o. either o (over_at c.self.inside.streams c.args.id)) (sym c.get_mut.ensures.value ∙ ap option_copied_mut c.in_default.is) in
    let o : Option RequestState = over_at c.self.inside.streams c.args.id in
    let answers : IfSome o (λ q. AnswersOver q.incoming (nat_lt c.args.announced.now.limits.blocked (above c.inserted-inserted.result c.pass.new.self)) (pull_of c.answer_at.new.out)) =
    subst (λ n. IfSome o (λ q. AnswersOver q.incoming (nat_lt c.args.announced.now.limits.blocked n) (pull_of c.answer_at.new.out)))
    c.above.ensures (search (rules, c.answer_at.ensures.there)) in
    let h = pulled_over c.args.side c.args.announced.now c.args.id c.args.decoder.now c.args.self.now c.pass.new.self c.inserted-inserted.result o (pull_of c.answer_at.new.out) c.args.replies.now.items
    (subst (AreCounted c.pass.new.self) c.self.view_is (kept_again c.pass.ensures.same c.pass.ensures.sound c.self.invariant).counted) found answers c.inserted-inserted.ensures.value in
    search (rules, h)

pub returns-clause-header : goal.returns-clause-header
returns-clause-header c = makes_within _ _ _ _ c.within_limit-2.ensures.list c.pull_into.ensures.header

pub returns-then-answer_settled-clause-header : goal.returns-then-answer_settled-clause-header
returns-then-answer_settled-clause-header c = makes_within _ _ _ _ c.within_limit.ensures.list (makes_none c.args.header.now _ (c.answer_settled.ensures.none c.if-answer_settled.true))

pub returns-in_default-make_room-clause-header : goal.returns-in_default-make_room-clause-header
returns-in_default-make_room-clause-header c = makes_none c.args.header.now _ (ap list_of c.fail.ensures)

pub returns-in_default-clause-header : goal.returns-in_default-clause-header
returns-in_default-clause-header c = makes_none c.args.header.now _ c.answer_at.ensures.none
