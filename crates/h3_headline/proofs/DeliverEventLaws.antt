-- A delivery of bytes, of the end or of the reset of a request stream happens in the world, and both ends stand in it after that.
use Rattle.std.proofs.Common.{refl, ◌≡◌, Bool, true, false, if◌then◌else◌, sym, subst, ℕ, not, ◌||◌, ◌*◌, length, ap, ◌∙◌, Some, Option, ◌&&◌, None, ◌≤◌, nat_lt, arith, take, ◌<◌, ◌^◌}
use Rattle.h3_proto.specs.declared.stream.Side.TheVariants.{Client, Server}
use Rattle.h3_world.specs.Setup.{Setup}
use Rattle.h3_world.specs.declared.event.Answer.{Answer}
use Rattle.h3_world.specs.declared.event.Answer.TheVariants as answer
use Rattle.h3_world.specs.Ends.{Ends, done, end_at, with_end, answered, was_offered}
use Rattle.h3_world.specs.World.{World}
use Rattle.h3_proto.specs.declared.stream.Side.{Side}
use Rattle.h3_connection.specs.OwnIds.{is_own, other}
use Rattle.h3_world.specs.Streams.{is_open, has_outgoing, flow, with_flow, waiting}
use Rattle.h3_connection.specs.Endpoint.{EndpointHistory, kind_of, bytes_waiting}
use Rattle.h3_connection.specs.Arrivals.{stream_of}
use Rattle.h3_connection.specs.declared.arrival.Arrival.{Arrival}
use Rattle.h3_connection.specs.declared.event.Refusal.TheVariants as refusal
use Rattle.h3_connection.specs.Keeping.{arrives}
use Rattle.h3_connection.specs.declared.event.Refusal.{Refusal}
use Rattle.h3_world.specs.Delivering.{is_closed, delivered, delivered_own, delivered_message, delivered_end, may_end, delivered_reset, reset_code}
use Rattle.h3_connection.specs.Outgoing.{Outgoing}
use Rattle.h3_connection.specs.Sending.{advance, advance_at}
use Rattle.h3_connection.specs.StreamSets.{stream_at}
use Rattle.std.proofs.lemmas.Grind.{common_steps}
use Rattle.h3_connection.specs.declared.arrival.Arrival.TheVariants.{BytesCame, EndCame, ResetCame}
use Rattle.h3_world.specs.Flow as flows
use Rattle.h3_connection.specs.Shown as shown
use Rattle.h3_world.specs.declared.event.Event.TheVariants as event
use Rattle.h3_world.specs.Machine.{served}
use Rattle.std.specs.Prelude.{◌==◌, unwrap_or, option_map}
use Rattle.h3_world.specs.Order.{is_finished}
use Rattle.h3_headline.proofs.ComesLaws.{bytes_comes}
use Rattle.h3_headline.proofs.DeliverLaws.{after_end}
use Rattle.h3_headline.proofs.OwnEventLaws.{given_as, served_as}
use Rattle.h3_headline.specs.Arriving.{Comes, come}
use Rattle.h3_headline.specs.Calls.{Both, Serves}
use Rattle.h3_headline.specs.Cited.{Laws}
use Rattle.h3_headline.specs.ComesLaws.{arrives_next, end_comes_over, reset_comes_over}
use Rattle.h3_headline.specs.ComingLaws.{kind_is}
use Rattle.h3_headline.specs.DeliverLaws.{has_outgoing_is, sends_at, waiting_is}
use Rattle.h3_headline.specs.FewLaws.{open_is_small}
use Rattle.h3_headline.specs.FlowLaws.{open_there}
use Rattle.h3_headline.specs.SenderEventLaws.{served_stands}
use Rattle.h3_headline.specs.SendingLaws.{both_of}
use Rattle.h3_headline.specs.Standing.{Stands}
use Rattle.h3_headline.specs.Steps.{IsThere, StandsOn}

-- Where nothing is done both stand as before.
unchanged : (setup : Setup) (w : World) (ends : Ends) (a : Answer) → Stands setup w ends → Serves setup (given_as a ends) (served_as a w)
unchanged setup w ends a h = record { answer = refl; both = both_of setup w Client ends h; next_id = h.next_id }

-- A rule that both judge alike, and behind which they go on where it doesn't hold.
stops : (setup : Setup) (w : World) (ends : Ends) (a b : Answer) (t u : Bool) (given : Answer × Ends) (to : Answer × World) → Stands setup w ends → a ≡ b → t ≡ u → (u ≡ false → Serves setup given to)
    → Serves setup (if t then given_as a ends else given) (if u then served_as b w else to)
stops setup w ends a b t u given to h same tests goes =
    subst (λ x. Serves setup (if t then given_as x ends else given) (if u then served_as b w else to)) (sym same)
    (subst (λ x. Serves setup (if x then given_as b ends else given) (if u then served_as b w else to)) (sym tests) (by_test u refl))
  where
    by_test : (x : Bool) → u ≡ x → Serves setup (if x then given_as b ends else given) (if x then served_as b w else to)
    by_test true e = unchanged setup w ends b h
    by_test false e = goes e

-- a stream that is not the writer's own is open
sending : (w : World) (writer : Side) (id : ℕ) → is_own writer id ≡ false → not (has_outgoing w writer id) ≡ false → is_open w writer id ≡ true
sending w writer id off has = by_test (is_own writer id) (is_open w writer id) off has
  where
    by_test : (a b : Bool) → a ≡ false → not (a || b) ≡ false → b ≡ true
    by_test true b e h = cc
    by_test false true e h = refl
    by_test false false e h = cc

-- both ends are set
put_back : (ends : Ends) (side : Side) → with_end ends side (end_at ends side) ≡ ends
put_back ends Client = refl
put_back ends Server = refl

abbrev Next : Ends → Side → EndpointHistory → Type 0
Next ends side e = e.next_id ≡ (end_at ends side).next_id

set_serves : (setup : Setup) (w v : World) (ends : Ends) (writer : Side) (a : Answer) (e f : EndpointHistory) → Stands setup w ends → Both setup v (other writer) f e → Next ends writer e → Next ends (other writer) f
    → length v.exchanges ≡ length w.exchanges → Serves setup (given_as a (with_end (with_end ends writer e) (other writer) f)) (served_as a v)
set_serves setup w v ends Client a e f h both next reader_next count =
    record {
      answer = refl;
      both = record { here = both.there; there = both.here; writes_here = both.writes_there; writes_there = both.writes_here; sends_here = both.sends_there; sends_there = both.sends_here };
      next_id = next ∙ h.next_id ∙ sym (ap (λ n. 4 * n) count);
    }
set_serves setup w v ends Server a e f h both next reader_next count =
    record { answer = refl; both = both; next_id = reader_next ∙ h.next_id ∙ sym (ap (λ n. 4 * n) count) }

refused_behind : (setup : Setup) (w : World) (ends : Ends) (writer : Side) (id : ℕ) (a : Arrival) → Stands setup w ends → IsThere w id → stream_of a ≡ id
    → ((flow w writer id).ended || (flow w writer id).reset_came) ≡ true → arrives (end_at ends (other writer)) a ≡ (Some refusal.AfterEnd, end_at ends (other writer))
refused_behind setup w ends Client id a h there of is = after_end setup w Server id ends.server a h.at_server h.sound there of is
refused_behind setup w ends Server id a h there of is = after_end setup w Client id ends.client a h.at_client h.sound there of is

-- What an arrival is answered with, and the ends after it, by what the reader's endpoint says.
abbrev Answering : Type 0
Answering = Option Refusal × EndpointHistory → Answer × Ends

-- **What comes behind the end or the reset is refused, and all else is taken.**
coming_agrees : (setup : Setup) (w v : World) (ends : Ends) (writer : Side) (id : ℕ) (success : Answer) (e : EndpointHistory) (a : Arrival) (given : Answering) → Stands setup w ends
    → is_own writer id ≡ false → is_open w writer id ≡ true → stream_of a ≡ id → Next ends writer e
    → ((r : Refusal) (f : EndpointHistory) → given (Some r, f) ≡ given_as (answer.Refused r) (with_end ends (other writer) f))
    → ((f : EndpointHistory) → given (None, f) ≡ given_as success (with_end (with_end ends writer e) (other writer) f))
    → (((flow w writer id).ended || (flow w writer id).reset_came) ≡ false → Comes setup w v (other writer) (end_at ends (other writer)) e a)
    → Serves setup (given (arrives (end_at ends (other writer)) a)) (if is_closed w writer id then served_as (answer.Refused refusal.AfterEnd) w else served_as success v)
coming_agrees setup w v ends writer id success e a given h off opened of next refused taken comes =
    let closed : is_closed w writer id ≡ was_closed = ap (λ b. not b && was_closed) off in
    subst (λ b. Serves setup (given (arrives er a)) (if b then served_as (answer.Refused refusal.AfterEnd) w else served_as success v)) (sym closed) (by_closed was_closed refl)
  where
    er : EndpointHistory
    er = end_at ends (other writer)

    was_closed : Bool
    was_closed = (flow w writer id).ended || (flow w writer id).reset_came

    both : Both setup w writer (end_at ends writer) er
    both = both_of setup w writer ends h

    there : IsThere w id
    there = open_there w writer id opened

    behind : was_closed ≡ true → arrives er a ≡ (Some refusal.AfterEnd, er)
    behind is = refused_behind setup w ends writer id a h there of is

    by_closed : (b : Bool) → was_closed ≡ b → Serves setup (given (arrives er a)) (if b then served_as (answer.Refused refusal.AfterEnd) w else served_as success v)
    by_closed true is =
        subst (λ x. Serves setup x (served_as (answer.Refused refusal.AfterEnd) w))
        (sym (ap given (behind is) ∙ refused refusal.AfterEnd er ∙ ap (given_as (answer.Refused refusal.AfterEnd)) (put_back ends (other writer))))
        (unchanged setup w ends (answer.Refused refusal.AfterEnd) h)
    by_closed false is =
        let c = comes is in
        let reader_next : c.after.next_id ≡ er.next_id =
        ap (λ x. x.1.next_id) (sym c.arrived) ∙ arrives_next er a both.there.nothing_kept (ap (λ i. kind_of er.side i) of ∙ kind_is er.side id there.request) in
        subst (λ x. Serves setup x (served_as success v)) (sym (ap given c.arrived ∙ taken c.after))
        (set_serves setup w v ends writer success e c.after h c.both next reader_next c.count)

-- what a writer has handed over of a stream opens no other
advanced_next : (e : EndpointHistory) (id count : ℕ) → (advance e id count).next_id ≡ e.next_id
advanced_next e id count = by_stream (stream_at e.outgoing id)
  where
    by_stream : (o : Option Outgoing) → (advance_at e id count o).next_id ≡ e.next_id
    by_stream (Some o) = refl
    by_stream None = refl

enough : (n count : ℕ) → nat_lt n count ≡ false → count ≤ n
enough n count e = grind (arith, common_steps, e)

-- **Bytes.**
bytes_taken : (setup : Setup) (w : World) (ends : Ends) (writer : Side) (id count : ℕ) → Stands setup w ends → is_open w writer id ≡ true → count ≤ flows.bytes_waiting (flow w writer id)
    → ((flow w writer id).ended || (flow w writer id).reset_came) ≡ false
    → Comes setup w (with_flow w writer id (come (flow w writer id) count)) (other writer) (end_at ends (other writer)) (advance (end_at ends writer) id count) (BytesCame id (take count (bytes_waiting (end_at ends writer) id)))
bytes_taken setup w ends Client id count h opened fits goes = bytes_comes setup w Server id count ends.server ends.client (both_of setup w Server ends h) h.sound opened fits goes
bytes_taken setup w ends Server id count h opened fits goes = bytes_comes setup w Client id count ends.client ends.server (both_of setup w Client ends h) h.sound opened fits goes

deliver_served : (setup : Setup) (w : World) (ends : Ends) (writer : Side) (id count : ℕ) → Stands setup w ends → is_own writer id ≡ false
    → Serves setup (answered ends (event.Deliver writer id count)) (served setup w (event.Deliver writer id count))
deliver_served setup w ends writer id count h off =
    let e = end_at ends writer in
    let f = flow w writer id in
    let here = (both_of setup w writer ends h).here in
    let a = BytesCame id (take count (bytes_waiting e id)) in
    let offered = was_offered ends writer id count (arrives (end_at ends (other writer)) a) in
    let after = λ (v : World). if is_closed w writer id then served_as (answer.Refused refusal.AfterEnd) w else served_as (answer.Delivered count) v in
    let n = waiting setup w writer id in
    stops setup w ends answer.NoStream answer.NoStream (not (shown.has_outgoing e id)) (not (has_outgoing w writer id))
    (if nat_lt (shown.waiting e id) count then given_as (answer.Short (shown.waiting e id)) ends else offered)
    (if nat_lt n count then served_as (answer.Short n) w else after (delivered setup w writer id count)) h refl (ap not (has_outgoing_is setup w writer id e here))
    (λ has.
    let opened = sending w writer id off has in
    let there_wait : n ≡ flows.bytes_waiting f = waiting_is setup w writer id off in
    let waits : shown.waiting e id ≡ n = (sends_at setup w writer id e here opened).waits ∙ sym there_wait in
    stops setup w ends (answer.Short (shown.waiting e id)) (answer.Short n) (nat_lt (shown.waiting e id) count) (nat_lt n count) offered (after (delivered setup w writer id count)) h
    (ap answer.Short waits) (ap (λ m. nat_lt m count) waits)
    (λ fits.
    let is : delivered setup w writer id count ≡ delivered_message w writer id count = ap (λ b. if b then delivered_own setup w writer id count else delivered_message w writer id count) off in
    subst (λ x. Serves setup offered (after x)) (sym is)
    (coming_agrees setup w (delivered_message w writer id count) ends writer id (answer.Delivered count) (advance e id count) a (was_offered ends writer id count) h off opened refl (advanced_next e id count)
    (λ r x. refl) (λ x. refl)
    (bytes_taken setup w ends writer id count h opened (subst (λ m. count ≤ m) there_wait (enough n count fits))))))

-- **The end.**
end_taken : (setup : Setup) (w : World) (ends : Ends) (writer : Side) (id : ℕ) → Stands setup w ends → is_open w writer id ≡ true → ((flow w writer id).ended || (flow w writer id).reset_came) ≡ false
    → Comes setup w (delivered_end w writer id) (other writer) (end_at ends (other writer)) (end_at ends writer) (EndCame id)
end_taken setup w ends Client id h opened goes = end_comes_over setup w Server id ends.server ends.client (both_of setup w Server ends h) h.sound opened goes
end_taken setup w ends Server id h opened goes = end_comes_over setup w Client id ends.client ends.server (both_of setup w Client ends h) h.sound opened goes

-- an end or a reset is answered so
done_refused : (ends : Ends) (writer : Side) (r : Refusal) (f : EndpointHistory) → done ends (other writer) answer.Done (Some r, f) ≡ given_as (answer.Refused r) (with_end ends (other writer) f)
done_refused ends writer r f = refl

done_taken : (ends : Ends) (writer : Side) (f : EndpointHistory) → done ends (other writer) answer.Done (None, f) ≡ given_as answer.Done (with_end (with_end ends writer (end_at ends writer)) (other writer) f)
done_taken ends writer f = ap (λ x. given_as answer.Done (with_end x (other writer) f)) (sym (put_back ends writer))

end_served : (setup : Setup) (w : World) (ends : Ends) (writer : Side) (id : ℕ) → Stands setup w ends → is_own writer id ≡ false
    → Serves setup (answered ends (event.DeliverEnd writer id)) (served setup w (event.DeliverEnd writer id))
end_served setup w ends writer id h off =
    let e = end_at ends writer in
    let f = flow w writer id in
    let here = (both_of setup w writer ends h).here in
    let given = done ends (other writer) answer.Done (arrives (end_at ends (other writer)) (EndCame id)) in
    let after = if is_closed w writer id then served_as (answer.Refused refusal.AfterEnd) w else served_as answer.Done (delivered_end w writer id) in
    let all_over = shown.is_finished e id && (shown.waiting e id == 0) in
    stops setup w ends answer.NoStream answer.NoStream (not (shown.has_outgoing e id)) (not (has_outgoing w writer id))
    (if not all_over then given_as answer.Early ends else given) (if not (may_end setup w writer id) then served_as answer.Early w else after) h refl (ap not (has_outgoing_is setup w writer id e here))
    (λ has.
    let opened = sending w writer id off has in
    let s = sends_at setup w writer id e here opened in
    let n = waiting setup w writer id in
    let over_is : all_over ≡ may_end setup w writer id =
    ap (λ (o : Option Outgoing). unwrap_or (option_map (λ x. x.is_finished) o) false && (shown.waiting e id == 0)) s.stream
    ∙ ap (λ m. is_finished f && (m == 0)) (s.waits ∙ sym (waiting_is setup w writer id off))
    ∙ sym (ap (λ b. not b && is_finished f && (n == 0)) off) in
    stops setup w ends answer.Early answer.Early (not all_over) (not (may_end setup w writer id)) given after h refl (ap not over_is)
    (λ whole.
    coming_agrees setup w (delivered_end w writer id) ends writer id answer.Done e (EndCame id) (done ends (other writer) answer.Done) h off opened refl refl
    (done_refused ends writer) (done_taken ends writer) (end_taken setup w ends writer id h opened)))

-- **The reset.**
reset_taken : (setup : Setup) (w : World) (ends : Ends) (writer : Side) (id : ℕ) → Stands setup w ends → is_open w writer id ≡ true → id < 2 ^ 62 → ((flow w writer id).ended || (flow w writer id).reset_came) ≡ false
    → Comes setup w (delivered_reset w writer id) (other writer) (end_at ends (other writer)) (end_at ends writer) (ResetCame id reset_code)
reset_taken setup w ends Client id h opened small goes = reset_comes_over setup w Server id ends.server ends.client (both_of setup w Server ends h) h.sound opened small goes
reset_taken setup w ends Server id h opened small goes = reset_comes_over setup w Client id ends.client ends.server (both_of setup w Client ends h) h.sound opened small goes

reset_served : (setup : Setup) (w : World) (ends : Ends) (writer : Side) (id : ℕ) → Stands setup w ends → is_own writer id ≡ false
    → Serves setup (answered ends (event.DeliverReset writer id)) (served setup w (event.DeliverReset writer id))
reset_served setup w ends writer id h off =
    let e = end_at ends writer in
    let f = flow w writer id in
    let here = (both_of setup w writer ends h).here in
    let given = done ends (other writer) answer.Done (arrives (end_at ends (other writer)) (ResetCame id reset_code)) in
    let after = if is_closed w writer id then served_as (answer.Refused refusal.AfterEnd) w else served_as answer.Done (delivered_reset w writer id) in
    let early = is_own writer id || not f.is_reset in
    stops setup w ends answer.NoStream answer.NoStream (not (shown.has_outgoing e id)) (not (has_outgoing w writer id))
    (if not (shown.is_reset e id) then given_as answer.Early ends else given) (if early then served_as answer.Early w else after) h refl (ap not (has_outgoing_is setup w writer id e here))
    (λ has.
    let opened = sending w writer id off has in
    let early_is : not (shown.is_reset e id) ≡ early =
    ap (λ (o : Option Outgoing). not (unwrap_or (option_map (λ x. x.is_reset) o) false)) (sends_at setup w writer id e here opened).stream
    ∙ sym (ap (λ b. b || not f.is_reset) off) in
    stops setup w ends answer.Early answer.Early (not (shown.is_reset e id)) early given after h refl early_is
    (λ cut.
    coming_agrees setup w (delivered_reset w writer id) ends writer id answer.Done e (ResetCame id reset_code) (done ends (other writer) answer.Done) h off opened refl refl
    (done_refused ends writer) (done_taken ends writer) (reset_taken setup w ends writer id h opened (open_is_small setup w ends writer id h opened))))

-- **The events of a stream that is not the writer's own.**
pub deliver_on : (laws : Laws) (setup : Setup) (w : World) (ends : Ends) (writer : Side) (id count : ℕ) → Stands setup w ends → is_own writer id ≡ false → StandsOn setup w ends (event.Deliver writer id count)
deliver_on laws setup w ends writer id count h off = served_stands laws.worlds setup w ends (event.Deliver writer id count) tt h (deliver_served setup w ends writer id count h off)

pub end_on : (laws : Laws) (setup : Setup) (w : World) (ends : Ends) (writer : Side) (id : ℕ) → Stands setup w ends → is_own writer id ≡ false → StandsOn setup w ends (event.DeliverEnd writer id)
end_on laws setup w ends writer id h off = served_stands laws.worlds setup w ends (event.DeliverEnd writer id) tt h (end_served setup w ends writer id h off)

pub gone_on : (laws : Laws) (setup : Setup) (w : World) (ends : Ends) (writer : Side) (id : ℕ) → Stands setup w ends → is_own writer id ≡ false → StandsOn setup w ends (event.DeliverReset writer id)
gone_on laws setup w ends writer id h off = served_stands laws.worlds setup w ends (event.DeliverReset writer id) tt h (reset_served setup w ends writer id h off)
