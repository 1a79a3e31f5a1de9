-- A pull that hands out no piece is answered alike by endpoints that differ in cuts alone.
use Rattle.std.proofs.Common.{arith, ◌≡◌, ℕ, Bool, true, false, if◌then◌else◌, List, [], ◌∷◌, length, refl, ap, sym, ◌∙◌, subst, Option, Some, None}
use Rattle.std.specs.Prelude.{nat_lt}
use Rattle.h3_field.specs.Instruction.{DecoderInstruction}
use Rattle.h3_connection.specs.declared.event.Pull.{Pull}
use Rattle.h3_connection.specs.declared.event.Pull.TheVariants as answer
use Rattle.h3_connection.specs.declared.event.Item.TheVariants as item
use Rattle.h3_connection.specs.declared.event.Fault.TheVariants as fault
use Rattle.h3_connection.specs.CallCuts.{SessionsDifferInCuts, with_streams, DifferInCutsAlone, piece_of}
use Rattle.h3_connection.specs.CallLists.{called, was_pulled}
use Rattle.h3_connection.specs.CallLists.Call.{PullStream}
use Rattle.h3_connection.specs.CallLists.Result.{Pulled as WasPulled}
use Rattle.h3_connection.specs.Delivering.{with_incoming}
use Rattle.h3_connection.specs.Endpoint.{EndpointHistory, Kind, kind_of, replied, heads_waiting}
use Rattle.h3_connection.specs.Endpoint.Kind.{Request, ServerOpened, OwnUnidirectional, PeerUnidirectional}
use Rattle.h3_connection.specs.Incoming.{Incoming}
use Rattle.h3_connection.specs.PullCuts.{piece_in, DifferInCuts, PullsAlike, Same, Bodies, Raws}
use Rattle.h3_connection.specs.Pulling.{Pulled, pull_stream}
use Rattle.h3_connection.specs.Sending.{after_answer, if_too_many, within_limit, pulled, pull_request, pulled_unidirectional, pull_peer, pull_at, pull_unless, pull}
use Rattle.h3_connection.specs.StreamSets.{Streams, stream_at, set_stream}
use Rattle.h3_connection.specs.Unidirectional.{Unidirectional, Role, raw, raw_or_reset, pull_other, pull_session, if_over, pull_unidirectional}
use Rattle.h3_connection.specs.Unidirectional.Role.{Untold, Control, Encoder, Decoder, Session, Push, Ignored, Other}
use Rattle.h3_connection.proofs.AlikeCalls.{AlikeCalled, still_closed}
use Rattle.h3_connection.proofs.AlikeEnds.{OfBoth, at_both, set_both, SameWaits, same_waits, counts_alike, replied_alike}
use Rattle.h3_connection.proofs.AlikeReading.{Beside, beside_alike}
use Rattle.h3_connection.proofs.PullCuts.{no_pieces, cut_pulled}

pub record AlikePulled (x y : Pull × EndpointHistory) : Type 0 where
  pub answer : x.0 ≡ y.0
  pub closed : x.1.closed ≡ y.1.closed
  pub left : x.1.closed ≡ None → DifferInCutsAlone x.1 y.1

was_alike : (x y : Pull × EndpointHistory) → AlikePulled x y → AlikeCalled (λ one two. one ≡ two) (was_pulled x) (was_pulled y)
was_alike (a, e) (b, f) h = record { answer = ap WasPulled h.answer; closed = h.closed; left = h.left }

pub was_piece : (x : Pull × EndpointHistory) → piece_of (was_pulled x).0 ≡ piece_in x.0
was_piece (a, e) = refl

-- an answer behind the same change
after_alike : (a : Pull) (x y : EndpointHistory) → DifferInCutsAlone x y → AlikePulled (after_answer a x) (after_answer a y)
after_alike (answer.Fault (fault.Connection code)) x y d = record { answer = refl; closed = refl; left = λ none. absurd (cc) }
after_alike (answer.Fault (fault.Stream f)) x y d = record { answer = refl; closed = still_closed x y d; left = λ none. d }
after_alike (answer.Fault fault.Memory) x y d = record { answer = refl; closed = still_closed x y d; left = λ none. d }
after_alike (answer.Item i) x y d = record { answer = refl; closed = still_closed x y d; left = λ none. d }
after_alike answer.Pending x y d = record { answer = refl; closed = still_closed x y d; left = λ none. d }
after_alike (answer.Waiting n) x y d = record { answer = refl; closed = still_closed x y d; left = λ none. d }
after_alike answer.NoMessages x y d = record { answer = refl; closed = still_closed x y d; left = λ none. d }

pub not_none : {X : Type 0} (o : Option X) (x : X) → o ≡ None → o ≡ Some x → ⊥
not_none o x none some = let wrong : None ≡ Some x = sym none ∙ some in cc

-- a session that hands out no piece
record AlikeSession (x y : Pull × Unidirectional) : Type 0 where
  answer : x.0 ≡ y.0
  left : SessionsDifferInCuts x.1 y.1

raws_alike : (o : Unidirectional) (one two : List (List ℕ)) (d : SessionsDifferInCuts (record o { unread = one }) (record o { unread = two }))
    → piece_in (raw (record o { unread = one }) one).0 ≡ None → AlikeSession (raw (record o { unread = one }) one) (raw (record o { unread = two }) two)
raws_alike o (p ∷ one) two d none = absurd (not_none (Some p) p none refl)
raws_alike o [] two d none =
    let empty : two ≡ [] = no_pieces two d.second (omega (arith, ap length d.bytes)) in
    subst (λ u. AlikeSession (raw (record o { unread = [] }) []) (raw (record o { unread = u }) u)) (sym empty) (by_end o.ended)
  where
    q : Unidirectional
    q = record o { unread = [] }

    by_end : (b : Bool) → AlikeSession (if b then (answer.Item item.End, record q { is_over = true }) else (answer.Pending, q)) (if b then (answer.Item item.End, record q { is_over = true }) else (answer.Pending, q))
    by_end true = record { answer = refl; left = record { bytes = refl; same = refl; first = tt; second = tt } }
    by_end false = record { answer = refl; left = record { bytes = refl; same = refl; first = tt; second = tt } }

sessions_alike : (o p : Unidirectional) → SessionsDifferInCuts o p → piece_in (pull_unidirectional o o.role).0 ≡ None → AlikeSession (pull_unidirectional o o.role) (pull_unidirectional p p.role)
sessions_alike o p d none = subst (λ (q : Unidirectional). AlikeSession (pull_unidirectional o o.role) (pull_unidirectional q q.role)) (sym d.same) (by_role o.role none)
  where
    q : Unidirectional
    q = record o { unread = p.unread }

    unchanged : (a : Pull) → AlikeSession (a, o) (a, q)
    unchanged a = record { answer = refl; left = record { bytes = d.bytes; same = refl; first = d.first; second = d.second } }

    by_told : (id : ℕ) (told : Bool) → piece_in (if told then raw o o.unread else (answer.Item (item.Session id), record o { is_told = true })).0 ≡ None
        → AlikeSession (if told then raw o o.unread else (answer.Item (item.Session id), record o { is_told = true })) (if told then raw q q.unread else (answer.Item (item.Session id), record q { is_told = true }))
    by_told id true h = raws_alike o o.unread p.unread (record { bytes = d.bytes; same = refl; first = d.first; second = d.second }) h
    by_told id false h = record { answer = refl; left = record { bytes = d.bytes; same = refl; first = d.first; second = d.second } }

    by_reset : (id : ℕ) (code : Option ℕ) → piece_in (pull_session id o code).0 ≡ None → AlikeSession (pull_session id o code) (pull_session id q code)
    by_reset id (Some code) h = unchanged _
    by_reset id None h = by_told id o.is_told h

    by_over : (id : ℕ) (over : Bool) → piece_in (if_over over o id).0 ≡ None → AlikeSession (if_over over o id) (if_over over q id)
    by_over id true h = unchanged _
    by_over id false h = by_reset id o.reset_code h

    by_raw : (code : Option ℕ) → piece_in (raw_or_reset o code).0 ≡ None → AlikeSession (raw_or_reset o code) (raw_or_reset q code)
    by_raw (Some code) h = unchanged _
    by_raw None h = raws_alike o o.unread p.unread (record { bytes = d.bytes; same = refl; first = d.first; second = d.second }) h

    by_end : (over : Bool) → piece_in (pull_other over o).0 ≡ None → AlikeSession (pull_other over o) (pull_other over q)
    by_end true h = unchanged _
    by_end false h = by_raw o.reset_code h

    by_role : (role : Role) → piece_in (pull_unidirectional o role).0 ≡ None → AlikeSession (pull_unidirectional o role) (pull_unidirectional q role)
    by_role (Untold front) h = unchanged _
    by_role Control h = unchanged _
    by_role Encoder h = unchanged _
    by_role Decoder h = unchanged _
    by_role (Session id) h = by_over id o.is_over h
    by_role (Push id) h = unchanged _
    by_role Ignored h = unchanged _
    by_role (Other kind) h = by_end o.is_over h

-- as much is waited for, whatever two pulls handed out
waits_after : (p q : Pulled) → PullsAlike p q → SameWaits p.incoming q.incoming
waits_after p q (Same a b d) = ap (λ (x : Incoming). x.waits_for) d.same
waits_after p q (Bodies x y a b left h) = ap (λ (i : Incoming). i.waits_for) h.same
waits_after p q (Raws x y a b left h) = ap (λ (i : Incoming). i.waits_for) h.same

module _ (e : EndpointHistory) (s : Streams Incoming) (t : Streams Unidirectional) (r : List DecoderInstruction) (id : ℕ) (b : Beside e s t r) where
  abbrev two : EndpointHistory
  two = with_streams e s t r

  here : DifferInCutsAlone e two
  here = beside_alike e s t r b

  unchanged : (a : Pull) → AlikePulled (a, e) (a, two)
  unchanged a = record { answer = refl; closed = refl; left = λ none. here }

  limits_alike : (p q : Pulled) → PullsAlike p q
      → nat_lt e.announced.limits.blocked (heads_waiting e.decoding.decoder (set_stream e.incoming id p.incoming)) ≡ nat_lt e.announced.limits.blocked (heads_waiting e.decoding.decoder (set_stream s id q.incoming))
  limits_alike p q h =
      ap (nat_lt e.announced.limits.blocked) (counts_alike e.decoding.decoder.table.inserted (set_stream e.incoming id p.incoming) (set_stream s id q.incoming)
      (set_both SameWaits e.incoming s id p.incoming q.incoming (same_waits e.incoming s b.incoming) (waits_after p q h)))

  given_alike : (p q : Pulled) → PullsAlike p q → piece_in (pulled e id p).0 ≡ None → AlikePulled (pulled e id p) (pulled two id q)
  given_alike p q (Bodies x y f g left h) none =
      absurd (not_none (piece_in (pulled e id p).0) x none (ap (λ a. piece_in (after_answer a (replied (with_incoming e id p.incoming) p.replies)).0) f))
  given_alike p q (Raws x y f g left h) none =
      absurd (not_none (piece_in (pulled e id p).0) x none (ap (λ a. piece_in (after_answer a (replied (with_incoming e id p.incoming) p.replies)).0) f))
  given_alike p q (Same given replies d) none =
      let f = replied (with_incoming e id p.incoming) p.replies in
      let g = replied (with_incoming two id q.incoming) q.replies in
      let alike : DifferInCutsAlone f (replied (with_incoming two id q.incoming) p.replies) =
      replied_alike (with_incoming e id p.incoming) (with_incoming two id q.incoming) p.replies
      (record { incoming = set_both DifferInCuts e.incoming s id p.incoming q.incoming b.incoming d; unidirectional = b.unidirectional; replies = b.replies; same = refl }) in
      subst (λ a. AlikePulled (after_answer p.answer f) (after_answer a g)) given
      (after_alike p.answer f g (subst (λ l. DifferInCutsAlone f (replied (with_incoming two id q.incoming) l)) replies alike))

  limited_alike : (limit : Bool) (p q : Pulled) → PullsAlike p q → piece_in (pulled e id (if_too_many limit p)).0 ≡ None → AlikePulled (pulled e id (if_too_many limit p)) (pulled two id (if_too_many limit q))
  limited_alike true p q h none = record { answer = refl; closed = refl; left = λ none. absurd (cc) }
  limited_alike false p q h none = given_alike p q h none

  request_alike : (x y : Option Incoming) → OfBoth DifferInCuts x y → piece_in (pull_request e id x).0 ≡ None → AlikePulled (pull_request e id x) (pull_request two id y)
  request_alike None None h none = unchanged _
  request_alike None (Some j) h none = absurd h
  request_alike (Some i) None h none = absurd h
  request_alike (Some i) (Some j) h none =
      let p = pull_stream e.side e.announced id e.decoding.decoder i in
      let q = pull_stream e.side e.announced id e.decoding.decoder j in
      let alike = cut_pulled e.side e.announced id e.decoding.decoder i j h in
      subst (λ limit. AlikePulled (pulled e id (within_limit e id p)) (pulled two id (if_too_many limit q))) (limits_alike p q alike)
      (limited_alike (nat_lt e.announced.limits.blocked (heads_waiting e.decoding.decoder (set_stream e.incoming id p.incoming))) p q alike none)

  told_alike : (x y : Pull × Unidirectional) → AlikeSession x y → AlikePulled (pulled_unidirectional e id x) (pulled_unidirectional two id y)
  told_alike (a, o) (c, p) h = record {
    answer = h.answer;
    closed = refl;
    left = λ none. record { incoming = b.incoming; unidirectional = set_both SessionsDifferInCuts e.unidirectional t id o p b.unidirectional h.left; replies = b.replies; same = refl };
  }

  told_piece : (x : Pull × Unidirectional) → (pulled_unidirectional e id x).0 ≡ x.0
  told_piece (a, o) = refl

  peer_alike : (x y : Option Unidirectional) → OfBoth SessionsDifferInCuts x y → piece_in (pull_peer e id x).0 ≡ None → AlikePulled (pull_peer e id x) (pull_peer two id y)
  peer_alike None None h none = unchanged _
  peer_alike None (Some p) h none = absurd h
  peer_alike (Some o) None h none = absurd h
  peer_alike (Some o) (Some p) h none =
      told_alike (pull_unidirectional o o.role) (pull_unidirectional p p.role) (sessions_alike o p h (ap piece_in (sym (told_piece (pull_unidirectional o o.role))) ∙ none))

  kinds_alike : (k : Kind) → piece_in (pull_at e id k).0 ≡ None → AlikePulled (pull_at e id k) (pull_at two id k)
  kinds_alike Request none = request_alike (stream_at e.incoming id) (stream_at s id) (at_both DifferInCuts e.incoming s id b.incoming) none
  kinds_alike ServerOpened none = unchanged _
  kinds_alike OwnUnidirectional none = unchanged _
  kinds_alike PeerUnidirectional none = peer_alike (stream_at e.unidirectional id) (stream_at t id) (at_both SessionsDifferInCuts e.unidirectional t id b.unidirectional) none

  by_closed : (closed : Option ℕ) (k : Kind) → piece_in (pull_unless closed e (pull_at e id k)).0 ≡ None → AlikePulled (pull_unless closed e (pull_at e id k)) (pull_unless closed two (pull_at two id k))
  by_closed (Some code) k none = unchanged _
  by_closed None k none = kinds_alike k none

  pub pulls_alike : piece_of (called e (PullStream id)).0 ≡ None → AlikeCalled (λ one two. one ≡ two) (called e (PullStream id)) (called two (PullStream id))
  pulls_alike none = was_alike (pull e id) (pull two id) (by_closed e.closed (kind_of e.side id) (sym (was_piece (pull e id)) ∙ none))
