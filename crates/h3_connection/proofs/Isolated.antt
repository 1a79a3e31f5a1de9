-- Each call is answered by what a request stream sees, or changes nothing of that.
use Rattle.std.proofs.Common.{◌≡◌, ℕ, ◌+◌, Bool, true, false, ◌||◌, List, [], ◌∷◌, length, refl, sym, ◌∙◌, ap, subst}
use Rattle.std.specs.Prelude.{Option, Some, None, if◌then◌else◌, ◌==◌, nat_lt, is_some, unwrap_or, not}
use Rattle.h3_header.specs.Head.{Head, head_fields}
use Rattle.h3_connection.specs.Sections.{written_section}
use Rattle.h3_proto.specs.declared.stream.Side.{Side}
use Rattle.h3_proto.specs.declared.stream.Side.TheVariants.{Client, Server}
use Rattle.h3_connection.specs.declared.event.Refusal.{Refusal}
use Rattle.h3_connection.specs.declared.event.Refusal.TheVariants as refusal
use Rattle.h3_connection.specs.declared.event.Pull.{Pull}
use Rattle.h3_connection.specs.declared.event.Pull.TheVariants as answer
use Rattle.h3_connection.specs.declared.event.Fault.TheVariants as fault
use Rattle.h3_connection.specs.declared.event.StreamFault.TheVariants as stream_fault
use Rattle.h3_connection.specs.StreamSets.{Streams, stream_at, set_stream}
use Rattle.h3_connection.specs.Incoming.{Incoming, nothing_came, having_told}
use Rattle.h3_connection.specs.Pulling.{pull_stream}
use Rattle.h3_connection.specs.Pulling.{Pulled as PulledStream}
use Rattle.h3_connection.specs.Unidirectional.{Unidirectional, reset_with, pull_unidirectional}
use Rattle.h3_connection.specs.Outgoing.{Outgoing as Out, is_end_next}
use Rattle.h3_connection.specs.Endpoint.{EndpointHistory, limit_of, Kind, kind_of, new_endpoint, is_critical_of, heads_waiting, replied}
use Rattle.h3_connection.specs.Endpoint.Kind.{Request, ServerOpened, OwnUnidirectional, PeerUnidirectional}
use Rattle.h3_connection.specs.Control.{Found}
use Rattle.h3_connection.specs.Delivering.{opened_at, unidirectional_at, incoming_at, opened, with_incoming, taken, refusal_at, server_opened_refusal, bytes_at, end_at, reset_at, kept, with_end, give_up, given_up_once, request_refusal}
use Rattle.h3_connection.specs.Refusals.{first_of}
use Rattle.h3_connection.specs.Sending.{does, open_refusal, advance_at, pull_at, pull_unless, pull_request, pull_peer, pulled, within_limit, if_too_many, after_answer, cancel_refusal, closed_or, sent_bytes, counted, asked, head_refusal, appended, encoded, head_part, fields_cost, telling_at}
use Rattle.h3_connection.specs.CallLists.{Call, Result, called, endpoint_after, done, was_pulled}
use Rattle.h3_connection.specs.EndsWaiting.{end_taken_at, end_taken_if}
use Rattle.h3_connection.specs.CallLists.Call.{OpenRequest, SendHead, SendBody, SendTrailer, Finish, Reset, Goaway, Advance, TakeEnd, Outgoing, Deliver, DeliverEnd, DeliverReset, PullStream, Cancel, Show}
use Rattle.h3_connection.specs.CallLists.Result.{Done, Opened}
use Rattle.h3_connection.specs.CallLists.Result.{Pulled as WasPulled}
use Rattle.h3_connection.specs.Isolation.{Before, GoesOn, view, answers_seen, fold_seen, sight_after, first_sight, Sight, IsSight, AreEncoders, StepIsSeen, Seen, sees, seen, with_seen, seen_incoming, unless_refused, seen_pull, seen_encoder_bytes, seen_encoder_closing, with_told}
use Rattle.h3_connection.proofs.Quiet.{Quiet, still, shut}
use Rattle.h3_connection.proofs.Seen.{at_same, at_other, eq_refl, sight_here, sight_same, unseen, unseen_quiet, quiet_does, Arrived, arrives_here, arrives_other, OpensAt, opens_at, opened_other}
use Rattle.h3_connection.specs.declared.setup.Announced.{Announced}
use Rattle.h3_connection.proofs.SameSetups.{same_setup}
use Rattle.h3_connection.proofs.SeenEncoder.{to_eq, by_eq, encoder_bytes_seen, one_way_bytes_unseen, closing_seen, closing_unseen, pull_front, pulled_front}
use Rattle.h3_field.specs.Field.{Field}
use Rattle.h3_connection.specs.StrictConnection.{known_streams}

pub true_not_false : true ≡ false → ⊥
true_not_false x = cc

pub false_of : (b : Bool) → (b ≡ true → ⊥) → b ≡ false
false_of true f = absurd (f refl)
false_of false f = refl

blind_by : (a b : Bool) → (a ≡ true → ⊥) → (b ≡ true → ⊥) → (a || b) ≡ false
blind_by true b f g = absurd (f refl)
blind_by false true f g = absurd (g refl)
blind_by false false f g = refl

other_kind : (T : ℕ → Bool) (id : ℕ) (e : EndpointHistory) (s : Sight) (q : ℕ) (k : Kind) → Before T id e s → kind_of e.side q ≡ k → (k ≡ Request → ⊥) → (q == id) ≡ true → ⊥
other_kind T id e s q k b is f same = f (sym is ∙ ap (kind_of e.side) (to_eq q id same) ∙ b.request)

no_encoder : (T : ℕ → Bool) (id : ℕ) (e : EndpointHistory) (s : Sight) (q : ℕ) (k : Kind) → Before T id e s → kind_of e.side q ≡ k → (k ≡ PeerUnidirectional → ⊥) → T q ≡ true → ⊥
no_encoder T id e s q k b is f t = f (sym is ∙ b.peers q t)

-- a call of the stream's own
seen_here : (T : ℕ → Bool) (id : ℕ) (e new : EndpointHistory) (s : Sight) (c : Call) (result : Result)
    → (result ≡ (seen e.side e.announced id s c).0) × IsSight T id new (seen e.side e.announced id s c).1 → sees T id e c ≡ true → StepIsSeen T id e new s c result
seen_here T id e new s c result p is_seen = record { seen_one = λ _. p; other = λ blind. let wrong : true ≡ false = sym is_seen ∙ blind in cc }

-- what an arrival finds on each kind of stream
record Finds (T : ℕ → Bool) (id : ℕ) (e : EndpointHistory) (s : Sight) (q : ℕ) (change : Incoming → Incoming) (peer : Seen) (found : Kind → Found) : Type 0 where
  pub end : EndpointHistory
  pub request : found Request ≡ (end, None)
  pub arrived : Arrived e end q (change (incoming_at e q))
  pub code : ℕ
  pub server : found ServerOpened ≡ (e, Some code)
  pub sees_peer : T q ≡ true → let r = done Done (taken None (refusal_at e q PeerUnidirectional) e (found PeerUnidirectional)) in
      r.1.closed ≡ None → (r.0 ≡ peer.0) × IsSight T id r.1 peer.1
  pub other_peer : T q ≡ false → let r = done Done (taken None (refusal_at e q PeerUnidirectional) e (found PeerUnidirectional)) in
      r.1.closed ≡ None → AreEncoders T r.1 → IsSight T id r.1 s

-- the call is told apart by its stream, and sees no more than this
record IsArrival (T : ℕ → Bool) (id : ℕ) (e : EndpointHistory) (s : Sight) (q : ℕ) (change : Incoming → Incoming) (peer : Seen) (c : Call) : Type 0 where
  pub sees_it : sees T id e c ≡ ((q == id) || T q)
  pub as_seen : seen e.side e.announced id s c
      ≡ (if q == id then unless_refused (request_refusal e.side s.incoming) s (with_seen s (change (seen_incoming s))) else peer)

server_case : (T : ℕ → Bool) (id : ℕ) (e : EndpointHistory) (s : Sight) (side : Side) (code : ℕ) → IsSight T id e s
    → let r = done Done (taken None (server_opened_refusal side) e (e, Some code)) in r.1.closed ≡ None → IsSight T id r.1 s
server_case T id e s Client code h p = cc
server_case T id e s Server code h p = h

arrival_step : (T : ℕ → Bool) (id : ℕ) (e : EndpointHistory) (s : Sight) (q : ℕ) (change : Incoming → Incoming) (peer : Seen) (found : Kind → Found) (c : Call)
    → Before T id e s → IsArrival T id e s q change peer c → Finds T id e s q change peer found
    → let r = done Done (taken e.closed (refusal_at e q (kind_of e.side q)) e (found (kind_of e.side q))) in
    r.1.closed ≡ None → AreEncoders T r.1 → StepIsSeen T id e r.1 s c r.0
arrival_step T id e s q change peer found c b is f = go e.closed (kind_of e.side q) b.open_still refl
  where
    go : (closed : Option ℕ) (k : Kind) → closed ≡ None → kind_of e.side q ≡ k
        → let r = done Done (taken closed (refusal_at e q k) e (found k)) in
        r.1.closed ≡ None → AreEncoders T r.1 → StepIsSeen T id e r.1 s c r.0
    go (Some code) k w kind p a = cc
    go None Request w kind p a = rw f.request (by_eq q id (λ x. (q == id) ≡ x → StepIsSeen T id e (done Done (taken None (refusal_at e q Request) e (f.end, None))).1 s c (done Done (taken None (refusal_at e q Request) e (f.end, None))).0)
        (λ same here. let arrived : Arrived e f.end id (change (incoming_at e id)) = subst (λ x. Arrived e f.end x (change (incoming_at e x))) same f.arrived in
        let as_seen : seen e.side e.announced id s c ≡ unless_refused (request_refusal e.side s.incoming) s (with_seen s (change (seen_incoming s))) = is.as_seen ∙ (rw here refl) in
        let sees_it : sees T id e c ≡ true = is.sees_it ∙ (rw here refl) in
        seen_here T id e _ s c _ (rw (as_seen, same) (arrives_here T id e f.end s change b.sight arrived)) sees_it)
        (λ ne is_ne. unseen T id e _ s c _ (is.sees_it ∙ blind_by (q == id) (T q) (λ same. absurd (true_not_false (sym same ∙ ne))) (no_encoder T id e s q Request b kind (λ x. cc)))
        (arrives_other T id q (refusal_at e q Request) e f.end s _ ne b.sight f.arrived)) refl)
    go None ServerOpened w kind p a = unseen T id e _ s c _
        (is.sees_it ∙ blind_by (q == id) (T q) (other_kind T id e s q ServerOpened b kind (λ x. cc)) (no_encoder T id e s q ServerOpened b kind (λ x. cc)))
        (rw f.server (server_case T id e s e.side f.code b.sight (rw f.server at p)))
    go None OwnUnidirectional w kind p a = unseen T id e _ s c _
        (is.sees_it ∙ blind_by (q == id) (T q) (other_kind T id e s q OwnUnidirectional b kind (λ x. cc)) (no_encoder T id e s q OwnUnidirectional b kind (λ x. cc)))
        b.sight
    go None PeerUnidirectional w kind p a = by_test (T q) refl
      where
        not_same : (q == id) ≡ true → ⊥
        not_same = other_kind T id e s q PeerUnidirectional b kind (λ x. cc)

        differs : (q == id) ≡ false
        differs = false_of (q == id) not_same

        as_seen : seen e.side e.announced id s c ≡ peer
        as_seen = is.as_seen ∙ (rw differs refl)

        by_test : (x : Bool) → T q ≡ x → StepIsSeen T id e (done Done (taken None (refusal_at e q PeerUnidirectional) e (found PeerUnidirectional))).1 s c (done Done (taken None (refusal_at e q PeerUnidirectional) e (found PeerUnidirectional))).0
        by_test true t = seen_here T id e _ s c _ (rw as_seen (f.sees_peer t p)) (is.sees_it ∙ (rw (differs, t) refl))
        by_test false t = unseen T id e _ s c _ (is.sees_it ∙ (rw (differs, t) refl)) (f.other_peer t p a)

true_or : (b : Bool) → (b || true) ≡ true
true_or true = refl
true_or false = refl

deliver_step : (T : ℕ → Bool) (id : ℕ) (e : EndpointHistory) (s : Sight) (q : ℕ) (bytes : List ℕ) → Before T id e s
    → (called e (Deliver q bytes)).1.closed ≡ None → AreEncoders T (called e (Deliver q bytes)).1
    → StepIsSeen T id e (called e (Deliver q bytes)).1 s (Deliver q bytes) (called e (Deliver q bytes)).0
deliver_step T id e s q bytes b = arrival_step T id e s q (λ i. kept i bytes) (seen_encoder_bytes (known_streams e.announced) (limit_of e) s q bytes) (bytes_at e q bytes) (Deliver q bytes) b
    (record { sees_it = refl; as_seen = refl })
    (record {
      end = with_incoming (opened e q) q (kept (incoming_at e q) bytes);
      request = refl;
      arrived = record { incoming = refl; decoding = refl; unidirectional = refl };
      code = _;
      server = refl;
      sees_peer = λ t p. encoder_bytes_seen T id e s q bytes b.sight t p;
      other_peer = λ t p a. one_way_bytes_unseen T id e s q bytes b.sight t p a;
    })

end_step : (T : ℕ → Bool) (id : ℕ) (e : EndpointHistory) (s : Sight) (q : ℕ) → Before T id e s
    → (called e (DeliverEnd q)).1.closed ≡ None → AreEncoders T (called e (DeliverEnd q)).1
    → StepIsSeen T id e (called e (DeliverEnd q)).1 s (DeliverEnd q) (called e (DeliverEnd q)).0
end_step T id e s q b = arrival_step T id e s q (λ i. with_end i) (seen_encoder_closing s q) (end_at e q) (DeliverEnd q) b
    (record { sees_it = refl; as_seen = refl })
    (record {
      end = with_incoming (opened e q) q (with_end (incoming_at e q));
      request = refl;
      arrived = record { incoming = refl; decoding = refl; unidirectional = refl };
      code = _;
      server = refl;
      sees_peer = λ t p. closing_seen T id e s q (record (unidirectional_at e q) { ended = true }) b.sight t refl p;
      other_peer = λ t p a. closing_unseen T id e s q (record (unidirectional_at e q) { ended = true }) b.sight t p;
    })

reset_step : (T : ℕ → Bool) (id : ℕ) (e : EndpointHistory) (s : Sight) (q code : ℕ) → Before T id e s
    → (called e (DeliverReset q code)).1.closed ≡ None → AreEncoders T (called e (DeliverReset q code)).1
    → StepIsSeen T id e (called e (DeliverReset q code)).1 s (DeliverReset q code) (called e (DeliverReset q code)).0
reset_step T id e s q code b = arrival_step T id e s q (λ i. given_up_once (record i { was_reset = true }) (stream_fault.Reset code)) (seen_encoder_closing s q) (reset_at e q code) (DeliverReset q code) b
    (record { sees_it = refl; as_seen = refl })
    (record {
      end = give_up (opened e q) q (record (incoming_at e q) { was_reset = true }) (stream_fault.Reset code);
      request = refl;
      arrived = record { incoming = refl; decoding = refl; unidirectional = refl };
      code = _;
      server = refl;
      sees_peer = λ t p. closing_seen T id e s q (reset_with (unidirectional_at e q) code) b.sight t
          (ap (λ c. record { role = (unidirectional_at e q).role; closed = c }) (true_or (unidirectional_at e q).ended)) p;
      other_peer = λ t p a. closing_unseen T id e s q (reset_with (unidirectional_at e q) code) b.sight t p;
    })

-- Pulls: an answer that is no connection fault changes nothing but the stream and the replies.
answered : (given : Pull) (e : EndpointHistory) → e.closed ≡ None → (after_answer given e).1.closed ≡ None → (after_answer given e).0 ≡ given
answered (answer.Fault (fault.Connection code)) e w p = cc
answered (answer.Fault (fault.Stream f)) e w p = refl
answered (answer.Fault fault.Memory) e w p = refl
answered (answer.Item i) e w p = refl
answered answer.Pending e w p = refl
answered (answer.Waiting n) e w p = refl
answered answer.NoMessages e w p = refl

-- whatever it answers
pub keeps_rest : (given : Pull) (e : EndpointHistory) → ((after_answer given e).1.incoming ≡ e.incoming) × ((after_answer given e).1.decoding ≡ e.decoding) × ((after_answer given e).1.unidirectional ≡ e.unidirectional)
keeps_rest (answer.Fault (fault.Connection code)) e = (refl, refl, refl)
keeps_rest (answer.Fault (fault.Stream f)) e = (refl, refl, refl)
keeps_rest (answer.Fault fault.Memory) e = (refl, refl, refl)
keeps_rest (answer.Item i) e = (refl, refl, refl)
keeps_rest answer.Pending e = (refl, refl, refl)
keeps_rest (answer.Waiting n) e = (refl, refl, refl)
keeps_rest answer.NoMessages e = (refl, refl, refl)

-- a pull of the stream itself
pull_here : (T : ℕ → Bool) (id : ℕ) (e : EndpointHistory) (s : Sight) (at : Option Incoming) → Before T id e s → s.incoming ≡ at
    → (pull_request e id at).1.closed ≡ None
    → (WasPulled (pull_request e id at).0 ≡ (seen_pull e.side e.announced id s at).0) × IsSight T id (pull_request e id at).1 (seen_pull e.side e.announced id s at).1
pull_here T id e s None b is p = (refl, b.sight)
pull_here T id e s (Some i) b is p = go (nat_lt e.announced.limits.blocked (heads_waiting e.decoding.decoder (set_stream e.incoming id given.incoming))) p
  where
    given : PulledStream
    given = pull_stream e.side e.announced id e.decoding.decoder i

    same : pull_stream e.side e.announced id s.decoding.decoder i ≡ given
    same = ap (λ d. pull_stream e.side e.announced id d.decoder i) (sym b.sight.decoding)

    after : EndpointHistory
    after = replied (with_incoming e id given.incoming) given.replies

    rest : ((after_answer given.answer after).1.incoming ≡ after.incoming) × ((after_answer given.answer after).1.decoding ≡ after.decoding) × ((after_answer given.answer after).1.unidirectional ≡ after.unidirectional)
    rest = keeps_rest given.answer after

    go : (x : Bool) → (pulled e id (if_too_many x given)).1.closed ≡ None
        → (WasPulled (pulled e id (if_too_many x given)).0 ≡ WasPulled (pull_stream e.side e.announced id s.decoding.decoder i).answer)
        × IsSight T id (pulled e id (if_too_many x given)).1 (with_seen s (pull_stream e.side e.announced id s.decoding.decoder i).incoming)
    go true p = cc
    go false p = rw same (
      ap WasPulled (answered given.answer after b.open_still p),
      sight_here T id e (after_answer given.answer after).1 s (Some given.incoming) b.sight
          (ap (λ x. stream_at x id) rest.0 ∙ at_same e.incoming id given.incoming) rest.1 rest.2,
    )

pull_other : (T : ℕ → Bool) (id : ℕ) (e : EndpointHistory) (s : Sight) (q : ℕ) (at : Option Incoming) → Before T id e s → (q == id) ≡ false → IsSight T id (pull_request e q at).1 s
pull_other T id e s q None b ne = b.sight
pull_other T id e s q (Some i) b ne =
    let p = within_limit e q (pull_stream e.side e.announced q e.decoding.decoder i) in
    let after = replied (with_incoming e q p.incoming) p.replies in
    let rest = keeps_rest p.answer after in
    sight_same T id e (after_answer p.answer after).1 s b.sight (ap (λ x. stream_at x id) rest.0 ∙ at_other e.incoming q id p.incoming ne) rest.1 rest.2

pull_one : (T : ℕ → Bool) (id : ℕ) (e : EndpointHistory) (s : Sight) (q : ℕ) (at : Option Unidirectional) → Before T id e s → stream_at e.unidirectional q ≡ at → IsSight T id (pull_peer e q at).1 s
pull_one T id e s q None b is = b.sight
pull_one T id e s q (Some o) b is = pulled_front T id e s q o (pull_unidirectional o o.role).1 b.sight is (pull_front o o.role)

pull_step : (T : ℕ → Bool) (id : ℕ) (e : EndpointHistory) (s : Sight) (q : ℕ) → Before T id e s
    → (called e (PullStream q)).1.closed ≡ None → StepIsSeen T id e (called e (PullStream q)).1 s (PullStream q) (called e (PullStream q)).0
pull_step T id e s q b = go e.closed (kind_of e.side q) b.open_still refl
  where
    go : (closed : Option ℕ) (k : Kind) → closed ≡ None → kind_of e.side q ≡ k → (was_pulled (pull_unless closed e (pull_at e q k))).1.closed ≡ None
        → StepIsSeen T id e (was_pulled (pull_unless closed e (pull_at e q k))).1 s (PullStream q) (was_pulled (pull_unless closed e (pull_at e q k))).0
    go (Some code) k w kind p = cc
    go None Request w kind p = by_eq q id (λ x. (q == id) ≡ x → StepIsSeen T id e (pull_request e q (stream_at e.incoming q)).1 s (PullStream q) (WasPulled (pull_request e q (stream_at e.incoming q)).0))
        (λ same here. subst (λ y. StepIsSeen T id e (pull_request e y (stream_at e.incoming y)).1 s (PullStream y) (WasPulled (pull_request e y (stream_at e.incoming y)).0)) (sym same)
        (seen_here T id e _ s (PullStream id) _
        (subst (λ x. (pull_request e id x).1.closed ≡ None → (WasPulled (pull_request e id x).0 ≡ (seen_pull e.side e.announced id s s.incoming).0) × IsSight T id (pull_request e id x).1 (seen_pull e.side e.announced id s s.incoming).1)
        (sym b.sight.incoming) (λ z. pull_here T id e s s.incoming b refl z)
        (subst (λ y. (pull_request e y (stream_at e.incoming y)).1.closed ≡ None) same p))
        (eq_refl id)))
        (λ ne is_ne. unseen T id e _ s (PullStream q) _ ne (pull_other T id e s q (stream_at e.incoming q) b ne)) refl
    go None ServerOpened w kind p = unseen T id e _ s (PullStream q) _ (false_of (q == id) (other_kind T id e s q ServerOpened b kind (λ x. cc))) b.sight
    go None OwnUnidirectional w kind p = unseen T id e _ s (PullStream q) _ (false_of (q == id) (other_kind T id e s q OwnUnidirectional b kind (λ x. cc))) b.sight
    go None PeerUnidirectional w kind p = unseen T id e _ s (PullStream q) _ (false_of (q == id) (other_kind T id e s q PeerUnidirectional b kind (λ x. cc)))
        (pull_one T id e s q (stream_at e.unidirectional q) b refl)

-- the two outcomes of a cancellation agree with what is seen
does_here : (T : ℕ → Bool) (id : ℕ) (r : Option Refusal) (e f : EndpointHistory) (s t : Sight) → IsSight T id e s → IsSight T id f t
    → ((done Done (does r e f)).0 ≡ (unless_refused r s t).0) × IsSight T id (done Done (does r e f)).1 (unless_refused r s t).1
does_here T id (Some r) e f s t h k = (refl, h)
does_here T id None e f s t h k = (refl, k)

does_other : (T : ℕ → Bool) (id : ℕ) (r : Option Refusal) (e f : EndpointHistory) (s : Sight) → IsSight T id e s → IsSight T id f s → IsSight T id (done Done (does r e f)).1 s
does_other T id (Some r) e f s h k = h
does_other T id None e f s h k = k

-- the refusal of a cancellation, where no fault came
abbrev cancels : EndpointHistory → ℕ → Kind → Option Incoming → Option Refusal
cancels e q k at = first_of (
    (is_critical_of e q k, refusal.Critical) ∷
    (not (is_some at), refusal.NotOpen) ∷
    ((unwrap_or at nothing_came).is_over || is_some (unwrap_or at nothing_came).fault, refusal.Ended) ∷ [])

cancel_here : (T : ℕ → Bool) (id : ℕ) (e : EndpointHistory) (s : Sight) → Before T id e s
    → let r = done Done (does (cancels e id Request (stream_at e.incoming id)) e (give_up e id (incoming_at e id) stream_fault.Canceled)) in
    (r.0 ≡ (seen e.side e.announced id s (Cancel id)).0) × IsSight T id r.1 (seen e.side e.announced id s (Cancel id)).1
cancel_here T id e s b =
    let at = stream_at e.incoming id in
    let i = given_up_once (unwrap_or at nothing_came) stream_fault.Canceled in
    let f = give_up e id (incoming_at e id) stream_fault.Canceled in
    let k : IsSight T id f (with_seen s i) = sight_here T id e f s (Some i) b.sight (at_same e.incoming id i) refl refl in
    let r = does_here T id (cancels e id Request at) e f s (with_seen s i) b.sight k in
    subst (λ x. let r = done Done (does (cancels e id Request at) e f) in
    let t = unless_refused (cancels e id Request x) s (with_seen s (given_up_once (unwrap_or x nothing_came) stream_fault.Canceled)) in
    (r.0 ≡ t.0) × IsSight T id r.1 t.1) b.sight.incoming r

cancel_step : (T : ℕ → Bool) (id : ℕ) (e : EndpointHistory) (s : Sight) (q : ℕ) → Before T id e s → StepIsSeen T id e (called e (Cancel q)).1 s (Cancel q) (called e (Cancel q)).0
cancel_step T id e s q b = by_eq q id (λ x. (q == id) ≡ x → StepIsSeen T id e (called e (Cancel q)).1 s (Cancel q) (called e (Cancel q)).0)
    (λ same here. subst (λ y. StepIsSeen T id e (called e (Cancel y)).1 s (Cancel y) (called e (Cancel y)).0) (sym same) (own e.closed (kind_of e.side id) b.open_still b.request))
    (λ ne is_ne. unseen T id e _ s (Cancel q) _ ne (does_other T id (cancel_refusal e q) e (give_up e q (incoming_at e q) stream_fault.Canceled) s b.sight
    (sight_same T id e _ s b.sight (at_other e.incoming q id _ ne) refl refl))) refl
  where
    own : (closed : Option ℕ) (k : Kind) → closed ≡ None → k ≡ Request
        → let r = done Done (does (closed_or closed (cancels e id k (stream_at e.incoming id))) e (give_up e id (incoming_at e id) stream_fault.Canceled)) in
        StepIsSeen T id e r.1 s (Cancel id) r.0
    own (Some code) k w is = cc
    own None Request w is = seen_here T id e _ s (Cancel id) _ (cancel_here T id e s b) (eq_refl id)
    own None _ w is = cc

open_step : (T : ℕ → Bool) (id : ℕ) (e : EndpointHistory) (s : Sight) → Before T id e s → StepIsSeen T id e (called e OpenRequest).1 s OpenRequest (called e OpenRequest).0
open_step T id e s b = go (open_refusal e) refl
  where
    n : ℕ
    n = e.next_id

    new : EndpointHistory
    new = record (opened_at e n None) { next_id = n + 4 }

    o : OpensAt e (opened_at e n None)
    o = opens_at e n None

    go : (r : Option Refusal) → open_refusal e ≡ r → StepIsSeen T id e (done (Opened n) (does r e new)).1 s OpenRequest (done (Opened n) (does r e new)).0
    go (Some r) is = unseen T id e _ s OpenRequest _ (rw is refl) b.sight
    go None is = by_eq n id (λ x. (n == id) ≡ x → StepIsSeen T id e new s OpenRequest (Opened n))
        (λ same here. seen_here T id e new s OpenRequest (Opened n) (
          ap Opened same,
          sight_here T id e new s (Some nothing_came) b.sight
              (ap (λ y. stream_at (set_stream e.incoming y nothing_came) id) same ∙ at_same e.incoming id nothing_came)
              o.decoding o.unidirectional,
        )
        (rw (is, here) refl))
        (λ ne is_ne. unseen T id e new s OpenRequest (Opened n) (rw (is, ne) refl)
        (sight_same T id e new s b.sight (opened_other e n id None ne) o.decoding o.unidirectional)) refl

-- calls that neither receive nor open
quiet_body : (e : EndpointHistory) (id : ℕ) (bytes : List ℕ) → Quiet e (counted (sent_bytes e id bytes) (length bytes))
quiet_body e id [] = shut e _ refl refl refl refl refl refl refl
quiet_body e id (byte ∷ bytes) = shut e _ refl refl refl refl refl refl refl

quiet_advance : (e : EndpointHistory) (id count : ℕ) (at : Option Out) → Quiet e (advance_at e id count at)
quiet_advance e id count (Some o) = shut e _ refl refl refl refl refl refl refl
quiet_advance e id count None = shut e _ refl refl refl refl refl refl refl

quiet_end : (e : EndpointHistory) (id : ℕ) (at : Option Out) → Quiet e (end_taken_at e id at).1
quiet_end e id (Some o) = by_test (is_end_next o)
  where
    by_test : (b : Bool) → Quiet e (end_taken_if b e id o).1
    by_test true = shut e _ refl refl refl refl refl refl refl
    by_test false = shut e _ refl refl refl refl refl refl refl
quiet_end e id None = shut e _ refl refl refl refl refl refl refl

-- A head that is sent, where messages are strict
tells_other : (side : Side) (streams : Streams Incoming) (q id : ℕ) (fields : List Field) (at : Option Incoming) → (q == id) ≡ false → stream_at (telling_at side streams q fields at) id ≡ stream_at streams id
tells_other side streams q id fields None ne = refl
tells_other side streams q id fields (Some i) ne = at_other streams q id (having_told side i fields) ne

tells_here : (T : ℕ → Bool) (id : ℕ) (e f : EndpointHistory) (s : Sight) (side : Side) (fields : List Field) (at : Option Incoming) → IsSight T id e s → stream_at e.incoming id ≡ at
    → f.incoming ≡ telling_at side e.incoming id fields at → f.decoding ≡ e.decoding → f.unidirectional ≡ e.unidirectional → IsSight T id f (with_told side s fields at)
tells_here T id e f s side fields None h is a b c = sight_same T id e f s h (ap (λ x. stream_at x id) a) b c
tells_here T id e f s side fields (Some i) h is a b c = sight_here T id e f s (Some (having_told side i fields)) h (ap (λ x. stream_at x id) a ∙ at_same e.incoming id (having_told side i fields)) b c

head_step : (T : ℕ → Bool) (id : ℕ) (e : EndpointHistory) (s : Sight) (q : ℕ) (head : Head) → Before T id e s → StepIsSeen T id e (called e (SendHead q head)).1 s (SendHead q head) (called e (SendHead q head)).0
head_step T id e s q head b = by_choice e.announced.choices.strict_messages refl
  where
    fields : List Field
    fields = head_fields head

    plain : EndpointHistory
    plain = counted (appended (encoded e q (head_fields head)) q (head_part head (written_section e.encoder q (head_fields head)))) (fields_cost (head_fields head))

    said : Streams Out
    said = (asked plain q (head_fields head)).outgoing

    told : EndpointHistory
    told = record plain { incoming = telling_at e.side e.incoming q fields (stream_at e.incoming q); outgoing = said }

    here : (q == id) ≡ true → q ≡ id → IsSight T id told (with_told e.side s fields s.incoming)
    here is same =
        subst (λ at. IsSight T id told (with_told e.side s fields at)) b.sight.incoming
        (tells_here T id e told s e.side fields (stream_at e.incoming id) b.sight refl (ap (λ x. telling_at e.side e.incoming x fields (stream_at e.incoming x)) same) refl refl)

    by_refusal : (r : Option Refusal) → head_refusal e q head ≡ r → e.announced.choices.strict_messages ≡ true
        → StepIsSeen T id e (done Done (does r e told)).1 s (SendHead q head) (done Done (does r e told)).0
    by_refusal (Some r) refused told_so = unseen T id e e s (SendHead q head) _ (rw (refused, told_so) refl) b.sight
    by_refusal None accepted told_so = by_eq q id (λ x. (q == id) ≡ x → StepIsSeen T id e told s (SendHead q head) Done)
        (λ same is. seen_here T id e told s (SendHead q head) Done (refl, here is same) (rw (accepted, told_so, is) refl))
        (λ ne is. unseen T id e told s (SendHead q head) Done (rw (accepted, told_so, ne) refl)
        (sight_same T id e told s b.sight (tells_other e.side e.incoming q id fields (stream_at e.incoming q) ne) refl refl)) refl

    by_choice : (x : Bool) → e.announced.choices.strict_messages ≡ x
        → let f : EndpointHistory = record plain { incoming = if x then telling_at e.side e.incoming q fields (stream_at e.incoming q) else e.incoming; outgoing = said } in
        StepIsSeen T id e (done Done (does (head_refusal e q head) e f)).1 s (SendHead q head) (done Done (does (head_refusal e q head) e f)).0
    by_choice false silent = unseen_quiet T id e _ s _ _ (rw silent refl) b.sight (quiet_does _ e (record plain { outgoing = said }) (shut e (record plain { outgoing = said }) refl refl refl refl refl refl refl))
    by_choice true told_so = by_refusal (head_refusal e q head) refl told_so

-- One call of any kind.
pub each_step : (T : ℕ → Bool) (id : ℕ) (e : EndpointHistory) (s : Sight) (c : Call) → Before T id e s
    → (called e c).1.closed ≡ None → AreEncoders T (called e c).1 → StepIsSeen T id e (called e c).1 s c (called e c).0
each_step T id e s OpenRequest b p a = open_step T id e s b
each_step T id e s (SendHead q head) b p a = head_step T id e s q head b
each_step T id e s (SendBody q bytes) b p a = unseen_quiet T id e _ s _ _ refl b.sight (quiet_does _ e _ (quiet_body e q bytes))
each_step T id e s (SendTrailer q head) b p a = unseen_quiet T id e _ s _ _ refl b.sight (quiet_does _ e _ (shut e _ refl refl refl refl refl refl refl))
each_step T id e s (Finish q) b p a = unseen_quiet T id e _ s _ _ refl b.sight (quiet_does _ e _ (shut e _ refl refl refl refl refl refl refl))
each_step T id e s (Reset q) b p a = unseen_quiet T id e _ s _ _ refl b.sight (quiet_does _ e _ (shut e _ refl refl refl refl refl refl refl))
each_step T id e s (Goaway n) b p a = unseen_quiet T id e _ s _ _ refl b.sight (quiet_does _ e _ (shut e _ refl refl refl refl refl refl refl))
each_step T id e s (Advance q count) b p a = unseen_quiet T id e _ s _ _ refl b.sight (quiet_advance e q count (stream_at e.outgoing q))
each_step T id e s (TakeEnd q) b p a = unseen_quiet T id e _ s _ _ refl b.sight (quiet_end e q (stream_at e.outgoing q))
each_step T id e s (Outgoing q) b p a = unseen_quiet T id e e s _ _ refl b.sight (still e)
each_step T id e s (Deliver q bytes) b p a = deliver_step T id e s q bytes b p a
each_step T id e s (DeliverEnd q) b p a = end_step T id e s q b p a
each_step T id e s (DeliverReset q code) b p a = reset_step T id e s q code b p a
each_step T id e s (PullStream q) b p a = pull_step T id e s q b p
each_step T id e s (Cancel q) b p a = cancel_step T id e s q b
each_step T id e s Show b p a = unseen_quiet T id e e s _ _ refl b.sight (still e)

-- the stream keeps seeing
pub before_next : (T : ℕ → Bool) (id : ℕ) (e f : EndpointHistory) (s t : Sight) → Before T id e s → f.side ≡ e.side → f.closed ≡ None → IsSight T id f t → Before T id f t
before_next T id e f s t b side p h = record { request = ap (λ x. kind_of x id) side ∙ b.request; open_still = p; peers = λ q t. ap (λ x. kind_of x q) side ∙ b.peers q t; sight = h }

-- one call more
isolated_more : (T : ℕ → Bool) (id : ℕ) (side : Side) (own : Announced) (e : EndpointHistory) (s : Sight) (c : Call) (cs : List Call)
    → e.side ≡ side → e.announced ≡ own → StepIsSeen T id e (called e c).1 s c (called e c).0
    → ((t : Sight) → IsSight T id (called e c).1 t → answers_seen T id (called e c).1 cs ≡ fold_seen side own id t (view T id (called e c).1 cs))
    → answers_seen T id e (c ∷ cs) ≡ fold_seen side own id s (view T id e (c ∷ cs))
isolated_more T id side own e s c cs is_side is_own step later = go (sees T id e c) refl
  where
    go : (x : Bool) → sees T id e c ≡ x
        → (if x then (called e c).0 ∷ answers_seen T id (called e c).1 cs else answers_seen T id (called e c).1 cs)
        ≡ fold_seen side own id s (if x then c ∷ view T id (called e c).1 cs else view T id (called e c).1 cs)
    go true is =
        let here : ((called e c).0 ≡ (seen e.side e.announced id s c).0) × IsSight T id (called e c).1 (seen e.side e.announced id s c).1 = step.seen_one is in
        let at_side : ((called e c).0 ≡ (seen side e.announced id s c).0) × IsSight T id (called e c).1 (seen side e.announced id s c).1 =
        subst (λ v. ((called e c).0 ≡ (seen v e.announced id s c).0) × IsSight T id (called e c).1 (seen v e.announced id s c).1) is_side here in
        let both : ((called e c).0 ≡ (seen side own id s c).0) × IsSight T id (called e c).1 (seen side own id s c).1 =
        subst (λ v. ((called e c).0 ≡ (seen side v id s c).0) × IsSight T id (called e c).1 (seen side v id s c).1) is_own at_side in
        ap (λ r. r ∷ answers_seen T id (called e c).1 cs) both.0 ∙ ap (λ rest. (seen side own id s c).0 ∷ rest) (later (seen side own id s c).1 both.1)
    go false is = later s (step.other is)

-- Over a whole list: the answers that the stream sees are those of a fold over its view.
pub isolated : (T : ℕ → Bool) (id : ℕ) (side : Side) (own : Announced) (e : EndpointHistory) (s : Sight) (calls : List Call)
    → Before T id e s → e.side ≡ side → e.announced ≡ own → GoesOn T e calls
    → answers_seen T id e calls ≡ fold_seen side own id s (view T id e calls)
isolated T id side own e s [] b is_side is_own goes = refl
isolated T id side own e s (c ∷ cs) b is_side is_own goes =
    isolated_more T id side own e s c cs is_side is_own (each_step T id e s c b goes.0 goes.1)
    (λ t h. isolated T id side own (called e c).1 t cs (before_next T id e (called e c).1 s t b (same_setup e c).side goes.0 h)
    ((same_setup e c).side ∙ is_side) ((same_setup e c).announced ∙ is_own) goes.2)

-- And what the stream sees at last is a fold over its view too.
sight_more : (T : ℕ → Bool) (id : ℕ) (side : Side) (own : Announced) (e last : EndpointHistory) (s : Sight) (c : Call) (cs : List Call)
    → e.side ≡ side → e.announced ≡ own → StepIsSeen T id e (called e c).1 s c (called e c).0
    → ((t : Sight) → IsSight T id (called e c).1 t → IsSight T id last (sight_after side own id t (view T id (called e c).1 cs)))
    → IsSight T id last (sight_after side own id s (view T id e (c ∷ cs)))
sight_more T id side own e last s c cs is_side is_own step later = go (sees T id e c) refl
  where
    go : (x : Bool) → sees T id e c ≡ x
        → IsSight T id last (sight_after side own id s (if x then c ∷ view T id (called e c).1 cs else view T id (called e c).1 cs))
    go true is =
        let here : IsSight T id (called e c).1 (seen e.side e.announced id s c).1 = (step.seen_one is).1 in
        let at_side : IsSight T id (called e c).1 (seen side e.announced id s c).1 = subst (λ v. IsSight T id (called e c).1 (seen v e.announced id s c).1) is_side here in
        later (seen side own id s c).1 (subst (λ v. IsSight T id (called e c).1 (seen side v id s c).1) is_own at_side)
    go false is = later s (step.other is)

pub sight_isolated : (T : ℕ → Bool) (id : ℕ) (side : Side) (own : Announced) (e : EndpointHistory) (s : Sight) (calls : List Call)
    → Before T id e s → e.side ≡ side → e.announced ≡ own → GoesOn T e calls
    → IsSight T id (endpoint_after e calls) (sight_after side own id s (view T id e calls))
sight_isolated T id side own e s [] b is_side is_own goes = b.sight
sight_isolated T id side own e s (c ∷ cs) b is_side is_own goes =
    sight_more T id side own e (endpoint_after e (c ∷ cs)) s c cs is_side is_own (each_step T id e s c b goes.0 goes.1)
    (λ t h. sight_isolated T id side own (called e c).1 t cs (before_next T id e (called e c).1 s t b (same_setup e c).side goes.0 h)
    ((same_setup e c).side ∙ is_side) ((same_setup e c).announced ∙ is_own) goes.2)

pub from_new : (T : ℕ → Bool) (id : ℕ) (side : Side) (own : Announced) (calls : List Call)
    → kind_of side id ≡ Request → ((q : ℕ) → T q ≡ true → kind_of side q ≡ PeerUnidirectional) → GoesOn T (new_endpoint side own) calls
    → answers_seen T id (new_endpoint side own) calls ≡ fold_seen side own id (first_sight side own) (view T id (new_endpoint side own) calls)
from_new T id side own calls request peers goes = isolated T id side own (new_endpoint side own) (first_sight side own) calls
    (record { request = request; open_still = refl; peers = peers; sight = record { incoming = refl; decoding = refl; fronts = λ q t. refl } }) refl refl goes
