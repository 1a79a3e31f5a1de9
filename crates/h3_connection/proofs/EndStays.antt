-- Once the end of a stream was handed out, every later pull of it answers the end.
use Rattle.std.proofs.Common.{arith, ◌≡◌, ◌≤◌, ℕ, ◌+◌, Bool, true, false, List, [], ◌∷◌, ◌++◌, length, refl, sym, ◌∙◌, ap, subst}
use Rattle.std.specs.Prelude.{Option, Some, None, if◌then◌else◌, ◌==◌, nat_lt, not, ◌&&◌, ◌||◌, is_some}
use Rattle.std.proofs.lemmas.Grind.{common_steps}
use Rattle.std.proofs.lemmas.Bool.{le-ltb}
use Rattle.h3_proto.specs.declared.stream.Side.{Side}
use Rattle.h3_proto.specs.declared.stream.Side.TheVariants.{Client, Server}
use Rattle.h3_connection.specs.declared.event.Pull.{Pull}
use Rattle.h3_connection.specs.declared.event.Pull.TheVariants as answer
use Rattle.h3_connection.specs.declared.event.Item.TheVariants as item
use Rattle.h3_connection.specs.declared.event.Fault.TheVariants as fault
use Rattle.h3_connection.specs.declared.event.Refusal.{Refusal}
use Rattle.h3_connection.specs.declared.event.Refusal.TheVariants as refusal
use Rattle.h3_connection.specs.declared.event.StreamFault.TheVariants as stream_fault
use Rattle.h3_connection.specs.Bounds.{IsBounded}
use Rattle.h3_connection.specs.HandedOut.{IsOver, IsOverSession, RequestIsOver, SessionIsOver, EndsSoundly}
use Rattle.h3_connection.specs.Incoming.{Incoming, nothing_came, awaits_head, is_before_head, having_told}
use Rattle.h3_connection.specs.Unidirectional.{Unidirectional, pull_unidirectional, if_over, role_after}
use Rattle.h3_connection.specs.Outgoing.{Outgoing as Out, is_end_next, with_finish, with_reset}
use Rattle.h3_connection.specs.Endpoint.{EndpointHistory, Kind, kind_of, heads_waiting, replied}
use Rattle.h3_connection.specs.Endpoint.Kind.{Request, ServerOpened, OwnUnidirectional, PeerUnidirectional}
use Rattle.h3_connection.specs.Control.{Found}
use Rattle.h3_connection.specs.StreamSets.{stream_at, set_stream}
use Rattle.h3_connection.specs.StreamSetLaws.{set-same}
use Rattle.h3_connection.specs.Pulling.{Pulled, pull_stream, just, is_client}
use Rattle.h3_connection.specs.Delivering.{delivery_refusal, refusal_at, request_refusal, opened_at, opened, incoming_at, unidirectional_at, with_incoming, taken, bytes_at, end_at, reset_at, give_up, given_up_once, kept, with_end}
use Rattle.h3_connection.specs.Sending.{does, open_refusal, closed_or, pull, pull_at, pull_unless, pull_request, pull_peer, pulled, within_limit, if_too_many, after_answer, advance_at, pulled_unidirectional, sent_bytes, counted, cancel_refusal, open_request, send_head, head_refusal, encoded, appended, head_part, fields_cost, body_refusal, send_trailer, trailer_refusal, finish, finish_refusal, reset, reset_refusal, with_outgoing, outgoing_at, goaway, goaway_refusal, asked, telling_at}
use Rattle.h3_connection.specs.Sections.{written_section}
use Rattle.h3_connection.specs.Outgoing.OwnPart.{OwnTrailer}
use Rattle.h3_header.specs.Head.{Head, head_fields}
use Rattle.h3_connection.specs.CallLists.{Call, Result, called, done, was_pulled, endpoint_after}
use Rattle.h3_connection.specs.CallLists.Result.{Done, Opened}
use Rattle.h3_connection.specs.EndsWaiting.{end_taken_at, end_taken_if}
use Rattle.h3_connection.specs.CallLists.Call.{OpenRequest, SendHead, SendBody, SendTrailer, Finish, Reset, Goaway, Advance, TakeEnd, Outgoing, Deliver, DeliverEnd, DeliverReset, PullStream, Cancel, Show}
use Rattle.h3_connection.specs.Isolation.{FindsNoFault}
use Rattle.h3_connection.proofs.Seen.{at_same, at_other, opened_other}
use Rattle.h3_connection.proofs.SeenEncoder.{by_eq, heard_bytes}
use Rattle.h3_connection.proofs.SameSetups.{same_setup}
use Rattle.h3_connection.proofs.PullEnds.{pull_ends}
use Rattle.h3_connection.proofs.Bounded.{call_on}
use Rattle.h3_connection.proofs.ReadingStays.{bytes_stay, end_stays, reset_stays}
use Rattle.h3_connection.proofs.Isolated.{keeps_rest}
use Rattle.h3_messages.specs.Content.{awaited_by, answered_by}
use Rattle.h3_field.specs.Field.{Field}

-- what a pull of a stream that is over does
pub over_pulled : (side : _) (own : _) (id : ℕ) (r : _) (i : Incoming) → IsOver i → pull_stream side own id r i ≡ just (answer.Item item.End) i
unfolding pull_stream
over_pulled side own id r i h = rw (h.no_fault, h.over) refl

unless_open : (closed : Option ℕ) (e : EndpointHistory) (later : Pull × EndpointHistory) → closed ≡ None → pull_unless closed e later ≡ later
unless_open closed e later is = ap (λ o. pull_unless o e later) is

-- what a pull of an open request stream does
pub pull_is : (e : EndpointHistory) (id : ℕ) (i : Incoming) → e.closed ≡ None → kind_of e.side id ≡ Request → stream_at e.incoming id ≡ Some i
    → pull e id ≡ pulled e id (within_limit e id (pull_stream e.side e.announced id e.decoding.decoder i))
pull_is e id i open_still request here =
    unless_open e.closed e (pull_at e id (kind_of e.side id)) open_still ∙ ap (λ k. pull_at e id k) request ∙ ap (λ at. pull_request e id at) here

few : (e : EndpointHistory) (id : ℕ) → IsBounded e → (h : RequestIsOver e id) → nat_lt e.announced.limits.blocked (heads_waiting e.decoding.decoder (set_stream e.incoming id h.stream)) ≡ false
few e id b h = le-ltb e.announced.limits.blocked (heads_waiting e.decoding.decoder (set_stream e.incoming id h.stream)) (rw (set-same e.incoming id h.stream h.here) b.waiting)

pub pulls_end : (e : EndpointHistory) (id : ℕ) → IsBounded e → RequestIsOver e id → e.closed ≡ None → (pull e id).0 ≡ answer.Item item.End
pulls_end e id b h open_still =
    ap (λ x. x.0) (pull_is e id h.stream open_still h.request h.here ∙ ap (λ p. pulled e id (within_limit e id p)) (over_pulled e.side e.announced id e.decoding.decoder h.stream h.is_over))
    ∙ ap (λ limit. (pulled e id (if_too_many limit (just (answer.Item item.End) h.stream))).0) (few e id b h)

session_over : (o : Unidirectional) → IsOverSession o → pull_unidirectional o o.role ≡ (answer.Item item.End, o)
session_over o h = ap (pull_unidirectional o) h.session ∙ ap (λ over. if_over over o h.id) h.over

pub session_pulls_end : (e : EndpointHistory) (id : ℕ) → SessionIsOver e id → e.closed ≡ None → (pull e id).0 ≡ answer.Item item.End
session_pulls_end e id h open_still =
    ap (λ x. x.0) (unless_open e.closed e (pull_at e id (kind_of e.side id)) open_still ∙ ap (λ k. pull_at e id k) h.peer ∙ ap (λ at. pull_peer e id at) h.here
    ∙ ap (pulled_unidirectional e id) (session_over h.stream h.is_over))

-- a call leaves the streams and the next id alone, or only opens further on
pub record Leaves (e f : EndpointHistory) (id : ℕ) : Type 0 where
  pub incoming : stream_at f.incoming id ≡ stream_at e.incoming id
  pub next_id : e.next_id ≤ f.next_id

leaves_same : (e f : EndpointHistory) (id : ℕ) → f.incoming ≡ e.incoming → f.next_id ≡ e.next_id → Leaves e f id
leaves_same e f id a b = record { incoming = ap (λ s. stream_at s id) a; next_id = omega (arith, b) }

nothing : (e : EndpointHistory) (id : ℕ) → Leaves e e id
nothing e id = record { incoming = refl; next_id = omega arith }

does_leave : (r : Option Refusal) (e f : EndpointHistory) (success : Result) (id : ℕ) → Leaves e f id → Leaves e (done success (does r e f)).1 id
does_leave (Some r) e f success id h = nothing e id
does_leave None e f success id h = h

-- a delivery that is refused, or that leaves this stream alone
taken_leaves : (closed : Option ℕ) (r : Option Refusal) (e : EndpointHistory) (found : Found) (id : ℕ) → (done Done (taken closed r e found)).1.closed ≡ None
    → (r ≡ None → found.1 ≡ None → Leaves e found.0 id) → Leaves e (done Done (taken closed r e found)).1 id
taken_leaves (Some code) r e found id p h = nothing e id
taken_leaves None (Some r) e found id p h = nothing e id
taken_leaves None None e (f, None) id p h = h refl refl
taken_leaves None None e (f, Some code) id p h = cc

-- the stream itself takes nothing more
closed_refuses : (side : Side) (i : Incoming) → i.ended ≡ true → request_refusal side (Some i) ≡ Some refusal.AfterEnd
closed_refuses Client i ended = rw ended refl
closed_refuses Server i ended = rw ended refl

over_refused : (e : EndpointHistory) (id : ℕ) → RequestIsOver e id → delivery_refusal e id ≡ Some refusal.AfterEnd
over_refused e id h = ap (λ k. refusal_at e id k) h.request ∙ ap (request_refusal e.side) h.here ∙ closed_refuses e.side h.stream h.is_over.ended

none_is_not : (r : Refusal) (o : Option Refusal) → o ≡ Some r → o ≡ None → ⊥
none_is_not r (Some s) is none = cc
none_is_not r None is none = cc

arrives_elsewhere : (e f : EndpointHistory) (q id : ℕ) (i : Incoming) → (q == id) ≡ false → f.incoming ≡ set_stream (opened e q).incoming q i → stream_at f.incoming id ≡ stream_at e.incoming id
arrives_elsewhere e f q id i ne is = ap (λ s. stream_at s id) is ∙ at_other (opened e q).incoming q id i ne ∙ opened_other e q id (stream_at e.incoming q) ne

bytes_elsewhere : (e : EndpointHistory) (q id : ℕ) (bytes : List ℕ) (k : Kind) → (q == id) ≡ false → (bytes_at e q bytes k).1 ≡ None → stream_at (bytes_at e q bytes k).0.incoming id ≡ stream_at e.incoming id
bytes_elsewhere e q id bytes Request ne p = arrives_elsewhere e (bytes_at e q bytes Request).0 q id (kept (incoming_at e q) bytes) ne refl
bytes_elsewhere e q id bytes ServerOpened ne p = refl
bytes_elsewhere e q id bytes OwnUnidirectional ne p = refl
bytes_elsewhere e q id bytes PeerUnidirectional ne p =
    let o = unidirectional_at e q in
    ap (λ s. stream_at s id) (heard_bytes e q o (role_after _ o.role bytes) p).incoming

end_elsewhere : (e : EndpointHistory) (q id : ℕ) (k : Kind) → (q == id) ≡ false → stream_at (end_at e q k).0.incoming id ≡ stream_at e.incoming id
end_elsewhere e q id Request ne = arrives_elsewhere e (end_at e q Request).0 q id (with_end (incoming_at e q)) ne refl
end_elsewhere e q id ServerOpened ne = refl
end_elsewhere e q id OwnUnidirectional ne = refl
end_elsewhere e q id PeerUnidirectional ne = refl

reset_elsewhere : (e : EndpointHistory) (q id code : ℕ) (k : Kind) → (q == id) ≡ false → stream_at (reset_at e q code k).0.incoming id ≡ stream_at e.incoming id
reset_elsewhere e q id code Request ne = arrives_elsewhere e (reset_at e q code Request).0 q id (given_up_once (record (incoming_at e q) { was_reset = true }) (stream_fault.Reset code)) ne refl
reset_elsewhere e q id code ServerOpened ne = refl
reset_elsewhere e q id code OwnUnidirectional ne = refl
reset_elsewhere e q id code PeerUnidirectional ne = refl

-- by whether it is that stream
delivered : (e : EndpointHistory) (q id : ℕ) (found : Found) → RequestIsOver e id → (done Done (taken e.closed (delivery_refusal e q) e found)).1.closed ≡ None
    → ((q == id) ≡ false → found.1 ≡ None → Leaves e found.0 id) → Leaves e (done Done (taken e.closed (delivery_refusal e q) e found)).1 id
delivered e q id found h p elsewhere = by_eq q id (λ b. (q == id) ≡ b → Leaves e (done Done (taken e.closed (delivery_refusal e q) e found)).1 id)
    (λ same is. taken_leaves e.closed (delivery_refusal e q) e found id p (λ none good. absurd (none_is_not refusal.AfterEnd (delivery_refusal e q) (ap (delivery_refusal e) same ∙ over_refused e id h) none)))
    (λ ne is. taken_leaves e.closed (delivery_refusal e q) e found id p (λ none good. elsewhere ne good)) refl

le_of : (a b : ℕ) → b ≡ a → a ≤ b
le_of a b is = omega (arith, is)

-- a pull
after_next : (given : Pull) (e : EndpointHistory) → (after_answer given e).1.next_id ≡ e.next_id
after_next (answer.Fault (fault.Connection code)) e = refl
after_next (answer.Fault (fault.Stream f)) e = refl
after_next (answer.Fault fault.Memory) e = refl
after_next (answer.Item i) e = refl
after_next answer.Pending e = refl
after_next (answer.Waiting n) e = refl
after_next answer.NoMessages e = refl

pulled_leaves : (e : EndpointHistory) (q id : ℕ) (p : Pulled) → (q == id) ≡ false → Leaves e (pulled e q p).1 id
pulled_leaves e q id p ne =
    let f = replied (with_incoming e q p.incoming) p.replies in
    record {
      incoming = ap (λ s. stream_at s id) (keeps_rest p.answer f).0 ∙ at_other e.incoming q id p.incoming ne;
      next_id = le_of e.next_id (pulled e q p).1.next_id (after_next p.answer f);
    }

pull_elsewhere : (e : EndpointHistory) (q id : ℕ) (k : Kind) → (q == id) ≡ false → Leaves e (pull_at e q k).1 id
pull_elsewhere e q id Request ne = at_request (stream_at e.incoming q)
  where
    at_request : (at : Option Incoming) → Leaves e (pull_request e q at).1 id
    at_request None = nothing e id
    at_request (Some i) = pulled_leaves e q id (within_limit e q (pull_stream e.side e.announced q e.decoding.decoder i)) ne
pull_elsewhere e q id ServerOpened ne = nothing e id
pull_elsewhere e q id OwnUnidirectional ne = nothing e id
pull_elsewhere e q id PeerUnidirectional ne = at_peer (stream_at e.unidirectional q)
  where
    at_peer : (at : Option Unidirectional) → Leaves e (pull_peer e q at).1 id
    at_peer None = nothing e id
    at_peer (Some o) = record { incoming = refl; next_id = omega arith }

pull_here : (e : EndpointHistory) (id : ℕ) → IsBounded e → RequestIsOver e id → Leaves e (pull_at e id Request).1 id
pull_here e id b h = rw h.here (rw (over_pulled e.side e.announced id e.decoding.decoder h.stream h.is_over) (rw (few e id b h) (record {
  incoming = at_same e.incoming id h.stream ∙ sym h.here;
  next_id = omega arith;
})))

was_left : (p : Pull × EndpointHistory) (e : EndpointHistory) (id : ℕ) → Leaves e p.1 id → Leaves e (was_pulled p).1 id
was_left (given, f) e id h = h

pull_left : (e : EndpointHistory) (q id : ℕ) → IsBounded e → RequestIsOver e id → Leaves e (pull_unless e.closed e (pull_at e q (kind_of e.side q))).1 id
pull_left e q id b h = by_closed e.closed
  where
    here : q ≡ id → Leaves e (pull_at e q (kind_of e.side q)).1 id
    here same = rw same (rw h.request (pull_here e id b h))

    by_closed : (closed : Option ℕ) → Leaves e (pull_unless closed e (pull_at e q (kind_of e.side q))).1 id
    by_closed (Some code) = nothing e id
    by_closed None = by_eq q id (λ x. Leaves e (pull_at e q (kind_of e.side q)).1 id) here (λ ne. pull_elsewhere e q id (kind_of e.side q) ne)

-- a cancellation
cancel_refused : (e : EndpointHistory) (id : ℕ) → RequestIsOver e id → e.closed ≡ None → cancel_refusal e id ≡ Some refusal.Ended
cancel_refused e id h open_still = rw (open_still, h.request, h.here, h.is_over.over) refl

cancel_left : (e : EndpointHistory) (q id : ℕ) → RequestIsOver e id → e.closed ≡ None → Leaves e (done Done (does (cancel_refusal e q) e (give_up e q (incoming_at e q) stream_fault.Canceled))).1 id
cancel_left e q id h open_still = by_eq q id (λ x. (q == id) ≡ x → Leaves e (done Done (does (cancel_refusal e q) e (give_up e q (incoming_at e q) stream_fault.Canceled))).1 id)
    (λ same is. rw (ap (cancel_refusal e) same ∙ cancel_refused e id h open_still) (nothing e id))
    (λ ne is. does_leave (cancel_refusal e q) e (give_up e q (incoming_at e q) stream_fault.Canceled) Done id
    (record { incoming = at_other e.incoming q id (given_up_once (incoming_at e q) stream_fault.Canceled) ne; next_id = omega arith })) refl

-- the next request
is_asked : (closed : Option ℕ) (b : Bool) (later : Option Refusal) → closed_or closed (if not b then Some refusal.NotClient else later) ≡ None → b ≡ true
is_asked (Some code) b later is = cc
is_asked None true later is = refl
is_asked None false later is = cc

open_left : (e : EndpointHistory) (id : ℕ) → RequestIsOver e id → Leaves e (done (Opened e.next_id) (open_request e)).1 id
open_left e id h = by_refusal (open_refusal e) refl
  where
    n : ℕ
    n = e.next_id

    f : EndpointHistory
    f = record (opened_at e n None) { next_id = n + 4 }

    by_refusal : (r : Option Refusal) → open_refusal e ≡ r → Leaves e (done (Opened n) (does r e f)).1 id
    by_refusal (Some r) is = nothing e id
    by_refusal None is =
        let asked : is_client e.side ≡ true = is_asked e.closed (is_client e.side) _ is in
        let below = h.opened asked in
        let ne : (n == id) ≡ false = grind (arith, common_steps) in
        record { incoming = at_other e.incoming n id nothing_came ne; next_id = omega arith }

body_left : (e : EndpointHistory) (q id : ℕ) (bytes : List ℕ) → Leaves e (counted (sent_bytes e q bytes) (length bytes)) id
body_left e q id [] = record { incoming = refl; next_id = omega arith }
body_left e q id (byte ∷ bytes) = record { incoming = refl; next_id = omega arith }

advance_left : (e : EndpointHistory) (q id count : ℕ) (at : Option Out) → Leaves e (advance_at e q count at) id
advance_left e q id count (Some o) = record { incoming = refl; next_id = omega arith }
advance_left e q id count None = record { incoming = refl; next_id = omega arith }

end_left : (e : EndpointHistory) (q id : ℕ) (at : Option Out) → Leaves e (end_taken_at e q at).1 id
end_left e q id (Some o) = by_test (is_end_next o)
  where
    by_test : (b : Bool) → Leaves e (end_taken_if b e q o).1 id
    by_test true = record { incoming = refl; next_id = omega arith }
    by_test false = record { incoming = refl; next_id = omega arith }
end_left e q id None = record { incoming = refl; next_id = omega arith }

-- of a stream that is over an own head says nothing
no_head : (before : Bool) → (before && false) ≡ false
no_head true = refl
no_head false = refl

over_untold : (side : Side) (i : Incoming) (fields : List Field) → i.is_over ≡ true → having_told side i fields ≡ i
over_untold Client i fields over =
    let none : awaits_head i ≡ false = ap (λ b. is_before_head i.place && not (b || is_some i.fault)) over ∙ no_head (is_before_head i.place) in
    ap (λ b. let j : Incoming = record i { content = if b then awaited_by fields else i.content } in j) none
over_untold Server i fields over =
    ap (λ b. let j : Incoming = record i { content = if not (b || is_some i.fault) then answered_by i.content fields else i.content } in j) over

asked_left : (e : EndpointHistory) (q id : ℕ) (fields : List Field) (strict : Bool) → RequestIsOver e id
    → stream_at (if strict then telling_at e.side e.incoming q fields (stream_at e.incoming q) else e.incoming) id ≡ stream_at e.incoming id
asked_left e q id fields false h = refl
asked_left e q id fields true h = by_eq q id (λ x. stream_at (telling_at e.side e.incoming q fields (stream_at e.incoming q)) id ≡ stream_at e.incoming id) here (elsewhere (stream_at e.incoming q))
  where
    here : q ≡ id → stream_at (telling_at e.side e.incoming q fields (stream_at e.incoming q)) id ≡ stream_at e.incoming id
    here same =
        ap (λ p. stream_at (telling_at e.side e.incoming p fields (stream_at e.incoming p)) id) same ∙ ap (λ at. stream_at (telling_at e.side e.incoming id fields at) id) h.here
        ∙ at_same e.incoming id (having_told e.side h.stream fields) ∙ ap Some (over_untold e.side h.stream fields h.is_over.over) ∙ sym h.here

    elsewhere : (at : Option Incoming) → (q == id) ≡ false → stream_at (telling_at e.side e.incoming q fields at) id ≡ stream_at e.incoming id
    elsewhere None ne = refl
    elsewhere (Some i) ne = at_other e.incoming q id (having_told e.side i fields) ne

head_left : (e : EndpointHistory) (q id : ℕ) (head : Head) → RequestIsOver e id → Leaves e (done Done (send_head e q head)).1 id
head_left e q id head h =
    let f = counted (appended (encoded e q (head_fields head)) q (head_part head (written_section e.encoder q (head_fields head)))) (fields_cost (head_fields head)) in
    does_leave (head_refusal e q head) e (asked f q (head_fields head)) Done id
    (record { incoming = asked_left e q id (head_fields head) e.announced.choices.strict_messages h; next_id = omega arith })

trailer_left : (e : EndpointHistory) (q id : ℕ) (head : Head) → Leaves e (done Done (send_trailer e q head)).1 id
trailer_left e q id head =
    let f = counted (appended (encoded e q (head_fields head)) q (OwnTrailer (written_section e.encoder q (head_fields head)))) (fields_cost (head_fields head)) in
    does_leave (trailer_refusal e q head) e f Done id (leaves_same e f id refl refl)

finish_left : (e : EndpointHistory) (q id : ℕ) → Leaves e (done Done (finish e q)).1 id
finish_left e q id =
    let f = with_outgoing e q (with_finish (outgoing_at e q)) in
    does_leave (finish_refusal e q) e f Done id (leaves_same e f id refl refl)

reset_left : (e : EndpointHistory) (q id : ℕ) → Leaves e (done Done (reset e q)).1 id
reset_left e q id =
    let f = with_outgoing e q (with_reset (outgoing_at e q)) in
    does_leave (reset_refusal e q) e f Done id (leaves_same e f id refl refl)

goaway_left : (e : EndpointHistory) (n id : ℕ) → Leaves e (done Done (goaway e n)).1 id
goaway_left e n id =
    let f = record e { own = record e.own { goaways = e.own.goaways ++ n ∷ [] } } in
    does_leave (goaway_refusal e n) e f Done id (leaves_same e f id refl refl)

call_leaves : (e : EndpointHistory) (c : Call) (id : ℕ) → IsBounded e → RequestIsOver e id → e.closed ≡ None → (called e c).1.closed ≡ None → Leaves e (called e c).1 id
call_leaves e OpenRequest id b h o p = open_left e id h
call_leaves e (SendHead q head) id b h o p = head_left e q id head h
call_leaves e (SendBody q bytes) id b h o p = does_leave (body_refusal e q (length bytes)) e (counted (sent_bytes e q bytes) (length bytes)) Done id (body_left e q id bytes)
call_leaves e (SendTrailer q head) id b h o p = trailer_left e q id head
call_leaves e (Finish q) id b h o p = finish_left e q id
call_leaves e (Reset q) id b h o p = reset_left e q id
call_leaves e (Goaway n) id b h o p = goaway_left e n id
call_leaves e (Advance q count) id b h o p = advance_left e q id count (stream_at e.outgoing q)
call_leaves e (TakeEnd q) id b h o p = end_left e q id (stream_at e.outgoing q)
call_leaves e (Outgoing q) id b h o p = nothing e id
call_leaves e (Deliver q bytes) id b h o p =
    let k = kind_of e.side q in
    delivered e q id (bytes_at e q bytes k) h p (λ ne good. record { incoming = bytes_elsewhere e q id bytes k ne good; next_id = le_of e.next_id (bytes_at e q bytes k).0.next_id (bytes_stay e q bytes k).next_id })
call_leaves e (DeliverEnd q) id b h o p =
    let k = kind_of e.side q in
    delivered e q id (end_at e q k) h p (λ ne good. record { incoming = end_elsewhere e q id k ne; next_id = le_of e.next_id (end_at e q k).0.next_id (end_stays e q k).next_id })
call_leaves e (DeliverReset q code) id b h o p =
    let k = kind_of e.side q in
    delivered e q id (reset_at e q code k) h p (λ ne good. record { incoming = reset_elsewhere e q id code k ne; next_id = le_of e.next_id (reset_at e q code k).0.next_id (reset_stays e q code k).next_id })
call_leaves e (PullStream q) id b h o p = was_left (pull e q) e id (pull_left e q id b h)
call_leaves e (Cancel q) id b h o p = cancel_left e q id h o
call_leaves e Show id b h o p = nothing e id

stays_over : (e f : EndpointHistory) (id : ℕ) → f.side ≡ e.side → Leaves e f id → RequestIsOver e id → RequestIsOver f id
stays_over e f id side l h = record {
  request = ap (λ s. kind_of s id) side ∙ h.request;
  stream = h.stream;
  here = l.incoming ∙ h.here;
  is_over = h.is_over;
  opened = λ client. omega (arith, h.opened (ap is_client (sym side) ∙ client), l.next_id);
}

-- over a list of calls
pub over_after : (e : EndpointHistory) (calls : List Call) (id : ℕ) → IsBounded e → RequestIsOver e id → e.closed ≡ None → FindsNoFault e calls
    → IsBounded (endpoint_after e calls) × RequestIsOver (endpoint_after e calls) id × ((endpoint_after e calls).closed ≡ None)
over_after e [] id b h o p = (b, h, o)
over_after e (c ∷ calls) id b h o p =
    over_after (called e c).1 calls id (call_on e c b) (stays_over e (called e c).1 id (same_setup e c).side (call_leaves e c id b h o p.0) h) p.0 p.1

-- the answer that a pull of a request stream gives
answer_given : (given : Pull) (e : EndpointHistory) → (after_answer given e).0 ≡ given
answer_given (answer.Fault (fault.Connection code)) e = refl
answer_given (answer.Fault (fault.Stream f)) e = refl
answer_given (answer.Fault fault.Memory) e = refl
answer_given (answer.Item i) e = refl
answer_given answer.Pending e = refl
answer_given (answer.Waiting n) e = refl
answer_given answer.NoMessages e = refl

-- how the end begins
ends_stream : (e : EndpointHistory) (id : ℕ) (s : EndsSoundly e id) → (pull_stream e.side e.announced id e.decoding.decoder s.stream).answer ≡ answer.Item item.End
    → IsOver (pull_stream e.side e.announced id e.decoding.decoder s.stream).incoming
ends_stream e id s is = by_over s.stream.is_over refl
  where
    p : Pulled
    p = pull_stream e.side e.announced id e.decoding.decoder s.stream

    by_over : (b : Bool) → s.stream.is_over ≡ b → IsOver p.incoming
    by_over true over = let h = s.is_over over in subst (λ x. IsOver x.incoming) (sym (over_pulled e.side e.announced id e.decoding.decoder s.stream h)) h
    by_over false not_over = (pull_ends e.side e.announced id e.decoding.decoder s.stream not_over).0 is

not_too_many : (b : Bool) (e : EndpointHistory) (id : ℕ) (p : Pulled) → (pulled e id (if_too_many b p)).0 ≡ answer.Item item.End → (if_too_many b p ≡ p) × (p.answer ≡ answer.Item item.End)
not_too_many true e id p is = cc
not_too_many false e id p is = (refl, sym (answer_given p.answer _) ∙ is)

pub begins_over : (e : EndpointHistory) (id : ℕ) → (pull e id).0 ≡ answer.Item item.End → EndsSoundly e id → RequestIsOver (pull e id).1 id
begins_over e id is s = over_now
  where
    p : Pulled
    p = pull_stream e.side e.announced id e.decoding.decoder s.stream

    at_stream : pull e id ≡ pulled e id (within_limit e id p)
    at_stream = pull_is e id s.stream s.open_still s.request s.here

    limit : Bool
    limit = nat_lt e.announced.limits.blocked (heads_waiting e.decoding.decoder (set_stream e.incoming id p.incoming))

    found : (if_too_many limit p ≡ p) × (p.answer ≡ answer.Item item.End)
    found = not_too_many limit e id p (sym (ap (λ x. x.0) at_stream) ∙ is)

    after : pull e id ≡ pulled e id p
    after = at_stream ∙ ap (pulled e id) found.0

    f : EndpointHistory
    f = replied (with_incoming e id p.incoming) p.replies

    there : RequestIsOver f id
    there = record {
      request = s.request;
      stream = p.incoming;
      here = at_same e.incoming id p.incoming;
      is_over = ends_stream e id s found.1;
      opened = s.opened;
    }

    over_now : RequestIsOver (pull e id).1 id
    over_now = subst (λ x. RequestIsOver x.1 id) (sym after) (subst (λ a. RequestIsOver (after_answer a f).1 id) (sym found.1) there)
