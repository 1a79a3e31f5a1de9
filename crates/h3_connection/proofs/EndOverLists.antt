-- Over whole lists of calls: once a pull of a stream answered the end, every later pull of it does.
use Rattle.std.proofs.Common.{◌≡◌, ℕ, Bool, true, false, if◌then◌else◌, List, [], ◌∷◌, refl, sym, ◌∙◌, ap, subst, Option, Some, None}
use Rattle.std.specs.Prelude.{unwrap_or}
use Rattle.h3_proto.specs.declared.stream.Side.{Side}
use Rattle.h3_connection.specs.declared.event.Refusal.{Refusal}
use Rattle.h3_connection.specs.declared.event.Pull.{Pull}
use Rattle.h3_connection.specs.declared.event.Pull.TheVariants as answer
use Rattle.h3_connection.specs.declared.event.Item.TheVariants as item
use Rattle.h3_connection.specs.declared.setup.Announced.{Announced}
use Rattle.h3_connection.specs.Bounds.{IsBounded}
use Rattle.h3_connection.specs.CallLists.{Call, called, done, was_pulled, endpoint_after}
use Rattle.h3_connection.specs.CallLists.Call.{OpenRequest, SendHead, SendBody, SendTrailer, Finish, Reset, Goaway, Advance, Outgoing, Deliver, DeliverEnd, DeliverReset, PullStream, Cancel, Show, TakeEnd}
use Rattle.h3_connection.specs.CallLists.Result.{Done}
use Rattle.h3_connection.specs.Control.{Found}
use Rattle.h3_connection.specs.Delivering.{unidirectional_at, with_unidirectional, taken, closing, delivery_refusal, read_unidirectional, bytes_at, end_at, reset_at}
use Rattle.h3_connection.specs.Endpoint.{EndpointHistory, Kind, kind_of, new_endpoint}
use Rattle.h3_connection.specs.Endpoint.Kind.{Request, ServerOpened, OwnUnidirectional, PeerUnidirectional}
use Rattle.h3_connection.specs.HandedOut.{RequestIsOver, EndsSoundly}
use Rattle.h3_connection.specs.Incoming.{Incoming}
use Rattle.h3_connection.specs.Isolation.{FindsNoFault}
use Rattle.h3_connection.specs.Pulling.{is_client}
use Rattle.h3_connection.specs.Sending.{pull, pull_at, pull_unless, pull_request, pull_peer, pulled_unidirectional}
use Rattle.h3_connection.specs.StreamSets.{stream_at}
use Rattle.h3_connection.specs.StrictConnection.{known_streams}
use Rattle.h3_connection.specs.Unidirectional.{Unidirectional, Role, untold, reset_with, role_after, with_bytes, raw, raw_or_reset, pull_other, pull_session, if_over, pull_unidirectional}
use Rattle.h3_connection.specs.Unidirectional.Role.{Untold, Control, Encoder, Decoder, Session, Push, Ignored, Other}
use Rattle.h3_connection.specs.UnknownStreams.{is_on}
use Rattle.h3_connection.proofs.AlikePieces.{was_end, open_pull, told_is}
use Rattle.h3_connection.proofs.Bounded.{calls_on, call_on, new_on}
use Rattle.h3_connection.proofs.EndStays.{over_after, pulls_end, begins_over}
use Rattle.h3_connection.proofs.EndedWell.{KnownOf, known_from_new}
use Rattle.h3_connection.proofs.SameSetups.{same_setup}
use Rattle.h3_connection.proofs.Seen.{at_same}
use Rattle.h3_connection.proofs.SeenEncoder.{to_eq}
use Rattle.h3_connection.proofs.UnknownStreams.{other_call}

pub side_after : (calls : List Call) (e : EndpointHistory) → (endpoint_after e calls).side ≡ e.side
side_after [] e = refl
side_after (c ∷ calls) e = side_after calls (called e c).1 ∙ (same_setup e c).side

pub open_after : (calls : List Call) (e : EndpointHistory) → e.closed ≡ None → FindsNoFault e calls → (endpoint_after e calls).closed ≡ None
open_after [] e open_still goes = open_still
open_after (c ∷ calls) e open_still goes = open_after calls (called e c).1 goes.0 goes.1

-- the role of a stream whose bytes are pulled: of a session, or of another type
data IsHanded (role : Role) : Type 0 where
  OfSession : (n : ℕ) → role ≡ Session n → IsHanded role
  OfOther : (kind : ℕ) → role ≡ Other kind → IsHanded role

-- such a stream whose end was handed out
record SessionOver (id : ℕ) (g : EndpointHistory) : Type 0 where
  stream : Unidirectional
  here : stream_at g.unidirectional id ≡ Some stream
  session : IsHanded stream.role
  over : stream.is_over ≡ true

set_over : (id : ℕ) (e : EndpointHistory) (u : Unidirectional) → IsHanded u.role → u.is_over ≡ true → SessionOver id (with_unidirectional e id u)
set_over id e u session over = record { stream = u; here = at_same e.unidirectional id u; session = session; over = over }

-- its end is handed out again
pulled_over : (o : Unidirectional) → IsHanded o.role → o.is_over ≡ true → pull_unidirectional o o.role ≡ (answer.Item item.End, o)
pulled_over o (OfSession n is) over = ap (pull_unidirectional o) is ∙ ap (λ b. if_over b o n) over
pulled_over o (OfOther kind is) over = ap (pull_unidirectional o) is ∙ ap (λ b. pull_other b o) over

-- what the end of such a stream leaves
record EndedSession (x : Unidirectional) : Type 0 where
  session : IsHanded x.role
  over : x.is_over ≡ true

ends_session : (o : Unidirectional) → (pull_unidirectional o o.role).0 ≡ answer.Item item.End → EndedSession (pull_unidirectional o o.role).1
ends_session o = by_role o.role refl
  where
    ended_raw : Bool → Pull × Unidirectional
    ended_raw b = if b then (answer.Item item.End, record o { is_over = true }) else (answer.Pending, o)

    told_raw : ℕ → Bool → Pull × Unidirectional
    told_raw n told = if told then raw o o.unread else (answer.Item (item.Session n), record o { is_told = true })

    by_end : IsHanded o.role → (b : Bool) → (ended_raw b).0 ≡ answer.Item item.End → EndedSession (ended_raw b).1
    by_end is true h = record { session = is; over = refl }
    by_end is false h = absurd (cc)

    by_raw : IsHanded o.role → (pieces : List (List ℕ)) → (raw o pieces).0 ≡ answer.Item item.End → EndedSession (raw o pieces).1
    by_raw is [] h = by_end is o.ended h
    by_raw is (piece ∷ pieces) h = absurd (cc)

    by_told : (n : ℕ) → o.role ≡ Session n → (told : Bool) → (told_raw n told).0 ≡ answer.Item item.End → EndedSession (told_raw n told).1
    by_told n is true h = by_raw (OfSession n is) o.unread h
    by_told n is false h = absurd (cc)

    by_reset : (n : ℕ) → o.role ≡ Session n → (code : Option ℕ) → (pull_session n o code).0 ≡ answer.Item item.End → EndedSession (pull_session n o code).1
    by_reset n is (Some code) h = absurd (cc)
    by_reset n is None h = by_told n is o.is_told h

    by_over : (n : ℕ) → o.role ≡ Session n → (b : Bool) → o.is_over ≡ b → (if_over b o n).0 ≡ answer.Item item.End → EndedSession (if_over b o n).1
    by_over n is true over h = record { session = OfSession n is; over = over }
    by_over n is false over h = by_reset n is o.reset_code h

    by_code : (kind : ℕ) → o.role ≡ Other kind → (code : Option ℕ) → (raw_or_reset o code).0 ≡ answer.Item item.End → EndedSession (raw_or_reset o code).1
    by_code kind is (Some code) h = absurd (cc)
    by_code kind is None h = by_raw (OfOther kind is) o.unread h

    by_left : (kind : ℕ) → o.role ≡ Other kind → (b : Bool) → o.is_over ≡ b → (pull_other b o).0 ≡ answer.Item item.End → EndedSession (pull_other b o).1
    by_left kind is true over h = record { session = OfOther kind is; over = over }
    by_left kind is false over h = by_code kind is o.reset_code h

    no_end : (b c : Bool) → (if b then answer.NoMessages else (if c then answer.Pending else answer.NoMessages)) ≡ answer.Item item.End → ⊥
    no_end true c h = cc
    no_end false true h = cc
    no_end false false h = cc

    by_role : (role : Role) → o.role ≡ role → (pull_unidirectional o role).0 ≡ answer.Item item.End → EndedSession (pull_unidirectional o role).1
    by_role (Untold front) is h = absurd (no_end _ _ h)
    by_role Control is h = absurd (cc)
    by_role Encoder is h = absurd (cc)
    by_role Decoder is h = absurd (cc)
    by_role (Session n) is h = by_over n is o.is_over refl h
    by_role (Push n) is h = absurd (cc)
    by_role Ignored is h = absurd (cc)
    by_role (Other kind) is h = by_left kind is o.is_over refl h

session_begins : (e : EndpointHistory) (id : ℕ) → e.closed ≡ None → kind_of e.side id ≡ PeerUnidirectional → (pull e id).0 ≡ answer.Item item.End → SessionOver id (pull e id).1
session_begins e id open_still kind is = by_stream (stream_at e.unidirectional id) refl
  where
    at : pull e id ≡ pull_peer e id (stream_at e.unidirectional id)
    at = open_pull e id PeerUnidirectional open_still kind

    by_stream : (s : Option Unidirectional) → stream_at e.unidirectional id ≡ s → SessionOver id (pull e id).1
    by_stream None none = let wrong : answer.Pending ≡ answer.Item item.End = sym (ap (λ (x : Pull × EndpointHistory). x.0) (at ∙ ap (pull_peer e id) none)) ∙ is in absurd (cc)
    by_stream (Some o) some =
        let x = pull_unidirectional o o.role in
        let to : pull e id ≡ (x.0, with_unidirectional e id x.1) = at ∙ ap (pull_peer e id) some ∙ told_is e id x in
        let h = ends_session o (ap (λ (y : Pull × EndpointHistory). y.0) (sym to) ∙ is) in
        subst (λ (y : Pull × EndpointHistory). SessionOver id y.1) (sym to) (set_over id e x.1 h.session h.over)

session_end : (e : EndpointHistory) (id : ℕ) → e.closed ≡ None → kind_of e.side id ≡ PeerUnidirectional → SessionOver id e → (pull e id).0 ≡ answer.Item item.End
session_end e id open_still kind h =
    let o = h.stream in
    ap (λ (y : Pull × EndpointHistory). y.0) (open_pull e id PeerUnidirectional open_still kind ∙ ap (pull_peer e id) h.here ∙ ap (pulled_unidirectional e id) (pulled_over o h.session h.over))

-- what comes leaves it over
taken_over : (id : ℕ) (closed : Option ℕ) (r : Option Refusal) (e : EndpointHistory) (found : Found) → SessionOver id e → SessionOver id found.0 → SessionOver id (done Done (taken closed r e found)).1
taken_over id (Some code) r e found h k = h
taken_over id None (Some r) e found h k = h
taken_over id None None e (f, None) h k = k
taken_over id None None e (f, Some code) h k = record { stream = k.stream; here = k.here; session = k.session; over = k.over }

module _ (id : ℕ) (e : EndpointHistory) (kind : kind_of e.side id ≡ PeerUnidirectional) (h : SessionOver id e) where
  there : unidirectional_at e id ≡ h.stream
  there = ap (λ x. unwrap_or x untold) h.here

  bytes_over : (bytes : List ℕ) → SessionOver id (bytes_at e id bytes (kind_of e.side id)).0
  bytes_over bytes =
      subst (λ k. SessionOver id (bytes_at e id bytes k).0) (sym kind)
      (subst (λ x. SessionOver id (read_unidirectional e id x (role_after (known_streams e.announced) x.role bytes)).0) (sym there)
      (by_role h.session))
    where
      ReadAs : Role → Type 0
      ReadAs role = SessionOver id (read_unidirectional e id h.stream (role_after (known_streams e.announced) role bytes)).0

      by_role : IsHanded h.stream.role → ReadAs h.stream.role
      by_role (OfSession n is) = subst ReadAs (sym is) (set_over id e (with_bytes h.stream (Session n, bytes)) (OfSession n refl) h.over)
      by_role (OfOther kind is) = subst ReadAs (sym is) (set_over id e (with_bytes h.stream (Other kind, bytes)) (OfOther kind refl) h.over)

  end_over : SessionOver id (end_at e id (kind_of e.side id)).0
  end_over =
      subst (λ k. SessionOver id (end_at e id k).0) (sym kind)
      (subst (λ (x : Unidirectional). SessionOver id (closing e id (record x { ended = true })).0) (sym there) (set_over id e (record h.stream { ended = true }) h.session h.over))

  reset_over : (code : ℕ) → SessionOver id (reset_at e id code (kind_of e.side id)).0
  reset_over code =
      subst (λ k. SessionOver id (reset_at e id code k).0) (sym kind)
      (subst (λ (x : Unidirectional). SessionOver id (closing e id (reset_with x code)).0) (sym there) (set_over id e (reset_with h.stream code) h.session h.over))

  pull_over : SessionOver id (called e (PullStream id)).1
  pull_over = by_closed e.closed
    where
      over : pull_unidirectional h.stream h.stream.role ≡ (answer.Item item.End, h.stream)
      over = pulled_over h.stream h.session h.over

      by_closed : (closed : Option ℕ) → SessionOver id (was_pulled (pull_unless closed e (pull_at e id (kind_of e.side id)))).1
      by_closed (Some code) = h
      by_closed None =
          subst (λ k. SessionOver id (was_pulled (pull_at e id k)).1) (sym kind)
          (subst (λ x. SessionOver id (was_pulled (pull_peer e id x)).1) (sym h.here)
          (subst (λ x. SessionOver id (was_pulled (pulled_unidirectional e id x)).1) (sym over) (set_over id e h.stream h.session h.over)))

  here_over : (c : Call) → is_on id c ≡ true → SessionOver id (called e c).1
  here_over (Deliver q bytes) on = subst (λ n. SessionOver id (called e (Deliver n bytes)).1) (sym (to_eq q id on)) (taken_over id e.closed (delivery_refusal e id) e _ h (bytes_over bytes))
  here_over (DeliverEnd q) on = subst (λ n. SessionOver id (called e (DeliverEnd n)).1) (sym (to_eq q id on)) (taken_over id e.closed (delivery_refusal e id) e _ h end_over)
  here_over (DeliverReset q code) on = subst (λ n. SessionOver id (called e (DeliverReset n code)).1) (sym (to_eq q id on)) (taken_over id e.closed (delivery_refusal e id) e _ h (reset_over code))
  here_over (PullStream q) on = subst (λ n. SessionOver id (called e (PullStream n)).1) (sym (to_eq q id on)) pull_over
  here_over OpenRequest on = absurd (cc)
  here_over (SendHead q head) on = absurd (cc)
  here_over (SendBody q bytes) on = absurd (cc)
  here_over (SendTrailer q head) on = absurd (cc)
  here_over (Finish q) on = absurd (cc)
  here_over (Reset q) on = absurd (cc)
  here_over (Goaway n) on = absurd (cc)
  here_over (Advance q count) on = absurd (cc)
  here_over (TakeEnd q) on = absurd (cc)
  here_over (Outgoing q) on = absurd (cc)
  here_over (Cancel q) on = absurd (cc)
  here_over Show on = absurd (cc)

  stays_over : (c : Call) → SessionOver id (called e c).1
  stays_over c = by_test (is_on id c) refl
    where
      by_test : (b : Bool) → is_on id c ≡ b → SessionOver id (called e c).1
      by_test true on = here_over c on
      by_test false off =
          let kept = (other_call id (Some h.stream) e e.unidirectional (record { agree = λ q ne. refl; here = h.here }) c off).left.others.here in
          record { stream = h.stream; here = kept; session = h.session; over = h.over }

session_after : (calls : List Call) (id : ℕ) (e : EndpointHistory) → kind_of e.side id ≡ PeerUnidirectional → SessionOver id e → SessionOver id (endpoint_after e calls)
session_after [] id e kind h = h
session_after (c ∷ calls) id e kind h = session_after calls id (called e c).1 (ap (λ s. kind_of s id) (same_setup e c).side ∙ kind) (stays_over id e kind h c)

pub end_stays_after : (side : Side) (own : Announced) (before between : List Call) (id : ℕ) → let e = endpoint_after (new_endpoint side own) before in
    FindsNoFault (new_endpoint side own) before → FindsNoFault e (PullStream id ∷ between) → (pull e id).0 ≡ answer.Item item.End → (pull (endpoint_after e (PullStream id ∷ between)) id).0 ≡ answer.Item item.End
end_stays_after side own before between id goes later is = by_kind (kind_of side id) refl
  where
    e : EndpointHistory
    e = endpoint_after (new_endpoint side own) before

    f : EndpointHistory
    f = (called e (PullStream id)).1

    open_still : e.closed ≡ None
    open_still = open_after before (new_endpoint side own) refl goes

    kind_here : kind_of e.side id ≡ kind_of side id
    kind_here = ap (λ s. kind_of s id) (side_after before (new_endpoint side own))

    kind_then : kind_of f.side id ≡ kind_of side id
    kind_then = ap (λ s. kind_of s id) (same_setup e (PullStream id)).side ∙ kind_here

    last_open : (endpoint_after f between).closed ≡ None
    last_open = open_after between f later.0 later.1

    no_answer : (c : Bool) → (if c then answer.NoMessages else answer.Pending) ≡ answer.Item item.End → ⊥
    no_answer true h = cc
    no_answer false h = cc

    request : kind_of side id ≡ Request → (at : Option Incoming) → stream_at e.incoming id ≡ at → KnownOf side id e.next_id at → (pull (endpoint_after f between) id).0 ≡ answer.Item item.End
    request kind None none k =
        absurd (no_answer (is_client e.side) (sym (ap (λ (x : Pull × EndpointHistory). x.0) (open_pull e id Request open_still (kind_here ∙ kind) ∙ ap (pull_request e id) none)) ∙ is))
    request kind (Some i) some k =
        let sound : EndsSoundly e id = record {
          request = kind_here ∙ kind;
          open_still = open_still;
          stream = i;
          here = some;
          is_over = k.ends;
          opened = λ client. k.below (ap is_client (sym (side_after before (new_endpoint side own))) ∙ client);
        } in
        let over : RequestIsOver f id = subst (λ g. RequestIsOver g id) (sym (was_end (pull e id))) (begins_over e id is sound) in
        let bounded : IsBounded f = call_on e (PullStream id) (calls_on (new_endpoint side own) before (new_on side own)) in
        let last = over_after f between id bounded over later.0 later.1 in
        pulls_end (endpoint_after f between) id last.0 last.1 last.2

    by_kind : (k : Kind) → kind_of side id ≡ k → (pull (endpoint_after f between) id).0 ≡ answer.Item item.End
    by_kind Request kind = request kind (stream_at e.incoming id) refl (known_from_new side own id before kind goes)
    by_kind PeerUnidirectional kind =
        session_end (endpoint_after f between) id last_open (ap (λ s. kind_of s id) (side_after between f) ∙ kind_then ∙ kind)
        (session_after between id f (kind_then ∙ kind) (subst (SessionOver id) (sym (was_end (pull e id))) (session_begins e id open_still (kind_here ∙ kind) is)))
    by_kind ServerOpened kind = let wrong : answer.NoMessages ≡ answer.Item item.End = sym (ap (λ (x : Pull × EndpointHistory). x.0) (open_pull e id ServerOpened open_still (kind_here ∙ kind))) ∙ is in absurd (cc)
    by_kind OwnUnidirectional kind = let wrong : answer.NoMessages ≡ answer.Item item.End = sym (ap (λ (x : Pull × EndpointHistory). x.0) (open_pull e id OwnUnidirectional open_still (kind_here ∙ kind))) ∙ is in absurd (cc)
