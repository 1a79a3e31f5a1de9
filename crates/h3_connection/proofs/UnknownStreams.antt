-- A unidirectional stream of unknown type changes the answers of no other calls.
use Rattle.std.proofs.Common.{◌≡◌, ℕ, Bool, true, false, if◌then◌else◌, List, [], ◌∷◌, ◌++◌, length, refl, ap, sym, ◌∙◌, subst, Option, Some, None}
use Rattle.std.specs.Prelude.{◌==◌, is_some, unwrap_or}
use Rattle.h3_connection.specs.declared.event.Refusal.{Refusal}
use Rattle.h3_connection.specs.declared.event.Refusal.TheVariants as refusal
use Rattle.h3_connection.specs.declared.event.Pull.{Pull}
use Rattle.h3_connection.specs.declared.event.Pull.TheVariants as answer
use Rattle.h3_connection.specs.declared.event.Fault.TheVariants as fault
use Rattle.h3_connection.specs.declared.event.StreamFault.TheVariants as stream_fault
use Rattle.h3_connection.specs.declared.setup.Announced.{Announced}
use Rattle.h3_proto.specs.declared.stream.Side.{Side}
use Rattle.h3_connection.specs.CallCuts.{with_streams}
use Rattle.h3_connection.specs.CallLists.{Call, Result, called, answers, done, took, was_pulled}
use Rattle.h3_connection.specs.EndsWaiting.{end_taken_at, end_taken_if}
use Rattle.h3_connection.specs.CallLists.Call.{OpenRequest, SendHead, SendBody, SendTrailer, Finish, Reset, Goaway, Advance, TakeEnd, Outgoing, Deliver, DeliverEnd, DeliverReset, PullStream, Cancel, Show}
use Rattle.h3_connection.specs.CallLists.Result.{Opened, Done, Refused}
use Rattle.h3_connection.specs.Control.{Found, read_control, read_encoder, read_decoder}
use Rattle.h3_connection.specs.Delivering.{closed_refusal, refusal_at, delivery_refusal, opened_at, incoming_at, unidirectional_at, with_incoming, with_unidirectional, taken, closed_by, unless_second, heard_as, read_unidirectional, kept, with_end, bytes_at, closing, end_at, give_up, reset_at}
use Rattle.h3_connection.specs.Endpoint.{EndpointHistory, Kind, kind_of, new_endpoint, is_second, replied}
use Rattle.h3_connection.specs.Endpoint.Kind.{Request, ServerOpened, OwnUnidirectional, PeerUnidirectional}
use Rattle.h3_connection.specs.Incoming.{Incoming}
use Rattle.h3_connection.specs.Isolation.{brought_by, brought_on}
use Rattle.h3_connection.specs.Outgoing.{Outgoing as Out, is_end_next}
use Rattle.h3_connection.specs.Pulling.{pull_stream}
use Rattle.h3_connection.specs.Sending.{does, open_refusal, head_refusal, body_refusal, trailer_refusal, finish_refusal, reset_refusal, goaway_refusal, cancel_refusal, advance_at, after_answer, within_limit, pull_request, pulled_unidirectional, pull_peer, pull_at, pull_unless}
use Rattle.h3_connection.specs.StreamSets.{Streams, stream_at, set_stream}
use Rattle.h3_connection.specs.Unidirectional.{StreamKinds, Unidirectional, Role, untold, is_closed, reset_with, is_critical, role_after, with_bytes, pull_unidirectional}
use Rattle.h3_connection.specs.Unidirectional.Role.{Untold, Control, Encoder, Decoder, Session, Push, Ignored, Other}
use Rattle.h3_connection.specs.UnknownStreams.{IsUnread, is_on, without_stream, answers_without}
use Rattle.h3_connection.proofs.AlikeReading.{control_with, decoder_with}
use Rattle.h3_connection.proofs.RoleCuts.{role_cut}
use Rattle.h3_connection.proofs.Closed.{stays}
use Rattle.h3_connection.proofs.SameSetups.{same_setup}
use Rattle.h3_connection.proofs.Seen.{at_same, at_other, eq_refl}
use Rattle.h3_connection.specs.Codes.{closed_critical_stream}
use Rattle.h3_connection.specs.StreamSetLaws.{set-same}
use Rattle.h3_connection.proofs.SeenEncoder.{to_eq}
use Rattle.h3_connection.specs.StrictConnection.{known_streams}

abbrev pub with_others : EndpointHistory → Streams Unidirectional → EndpointHistory
with_others e t = record e { unidirectional = t }

module _ (id : ℕ) (o : Option Unidirectional) where
  -- each other stream is the same, and that one is this at the first
  pub record Fits (s t : Streams Unidirectional) : Type 0 where
    pub agree : (q : ℕ) → (q == id) ≡ false → stream_at s q ≡ stream_at t q
    pub here : stream_at s id ≡ o

  fits_set : (s t : Streams Unidirectional) (q : ℕ) (x : Unidirectional) → (q == id) ≡ false → Fits s t → Fits (set_stream s q x) (set_stream t q x)
  fits_set s t q x other h = record { agree = λ p ne. by_test p ne (q == p) refl; here = at_other s q id x other ∙ h.here }
    where
      by_test : (p : ℕ) → (p == id) ≡ false → (b : Bool) → (q == p) ≡ b → stream_at (set_stream s q x) p ≡ stream_at (set_stream t q x) p
      by_test p ne true same =
          subst (λ n. stream_at (set_stream s q x) n ≡ stream_at (set_stream t q x) n) (to_eq q p same) (at_same s q x ∙ sym (at_same t q x))
      by_test p ne false differs = at_other s q p x differs ∙ h.agree p ne ∙ sym (at_other t q p x differs)

  -- Nothing of two endpoints differs but that stream.
  pub record ButOne (e f : EndpointHistory) : Type 0 where
    pub same : f ≡ with_others e f.unidirectional
    pub others : Fits e.unidirectional f.unidirectional

  but : (e : EndpointHistory) (t : Streams Unidirectional) → Fits e.unidirectional t → ButOne e (with_others e t)
  but e t h = record { same = refl; others = h }

  pub record Both (x y : Result × EndpointHistory) : Type 0 where
    pub answer : x.0 ≡ y.0
    pub left : ButOne x.1 y.1

  record FoundBoth (x y : Found) : Type 0 where
    fault : x.1 ≡ y.1
    left : ButOne x.0 y.0

  does_both : (success : Result) (r : Option Refusal) (e f g h : EndpointHistory) → ButOne e f → ButOne g h → Both (done success (does r e g)) (done success (does r f h))
  does_both success (Some r) e f g h a b = record { answer = refl; left = a }
  does_both success None e f g h a b = record { answer = refl; left = b }

  closed_both : (x y : Found) → FoundBoth x y → Both (done Done (closed_by x)) (done Done (closed_by y))
  closed_both (e, None) (f, None) h = record { answer = refl; left = h.left }
  closed_both (e, Some a) (f, Some b) h =
      let faults : Some a ≡ Some b = h.fault in
      let codes : a ≡ b = cc in
      record {
        answer = ap (λ code. Refused (refusal.Connection code)) codes;
        left = record { same = ap (λ (x : EndpointHistory). let y : EndpointHistory = record x { closed = Some b } in y) h.left.same ∙ ap (λ code. let y : EndpointHistory = record e { unidirectional = f.unidirectional; closed = Some code } in y) (sym codes); others = h.left.others };
      }
  closed_both (e, None) (f, Some b) h = let wrong : None ≡ Some b = h.fault in absurd (cc)
  closed_both (e, Some a) (f, None) h = let wrong : Some a ≡ None = h.fault in absurd (cc)

  taken_both : (closed : Option ℕ) (r : Option Refusal) (e f : EndpointHistory) (x y : Found) → ButOne e f → FoundBoth x y → Both (done Done (taken closed r e x)) (done Done (taken closed r f y))
  taken_both (Some code) r e f x y a h = record { answer = refl; left = a }
  taken_both None (Some r) e f x y a h = record { answer = refl; left = a }
  taken_both None None e f x y a h = closed_both x y h

  second_both : (b : Bool) (e f : EndpointHistory) (x y : Found) → ButOne e f → FoundBoth x y → FoundBoth (unless_second b e x) (unless_second b f y)
  second_both true e f x y a h = record { fault = refl; left = a }
  second_both false e f x y a h = h

  -- what reads without a look at the streams
  found_both : (e : EndpointHistory) (t : Streams Unidirectional) (x y : Found) → Fits e.unidirectional t → x ≡ (with_streams x.0 e.incoming e.unidirectional e.own.replies, x.1) → y ≡ (with_streams x.0 e.incoming t e.own.replies, x.1)
      → FoundBoth x y
  found_both e t x y h own is =
      subst (FoundBoth x) (sym is) (record {
        fault = refl;
        left = record {
          same = sym (ap (λ z. with_others z.0 t) own);
          others = subst (λ l. Fits l t) (sym (ap (λ z. z.0.unidirectional) own)) h;
        };
      })

  heard_both : (e : EndpointHistory) (t : Streams Unidirectional) (q : ℕ) (role : Role) (bytes : List ℕ) → Fits e.unidirectional t → FoundBoth (heard_as e q role bytes) (heard_as (with_others e t) q role bytes)
  heard_both e t q (Untold front) bytes h = record { fault = refl; left = but e t h }
  heard_both e t q Control bytes h =
      let g : EndpointHistory = record e { control_on = Some q } in
      second_both (is_second e.control_on q) e (with_others e t) (read_control g bytes) (read_control (with_others g t) bytes) (but e t h)
      (found_both e t _ _ h (control_with g bytes e.incoming e.unidirectional e.own.replies) (control_with g bytes e.incoming t e.own.replies))
  heard_both e t q Encoder bytes h =
      let g : EndpointHistory = record e { encoder_on = Some q } in
      second_both (is_second e.encoder_on q) e (with_others e t) (read_encoder g bytes) (read_encoder (with_others g t) bytes) (but e t h) (record { fault = refl; left = but (read_encoder g bytes).0 t h })
  heard_both e t q Decoder bytes h =
      let g : EndpointHistory = record e { decoder_on = Some q } in
      second_both (is_second e.decoder_on q) e (with_others e t) (read_decoder g bytes) (read_decoder (with_others g t) bytes) (but e t h)
      (found_both e t _ _ h (decoder_with (is_some e.peer.settings) g bytes e.incoming e.unidirectional e.own.replies) (decoder_with (is_some e.peer.settings) g bytes e.incoming t e.own.replies))
  heard_both e t q (Session n) bytes h = record { fault = refl; left = but e t h }
  heard_both e t q (Push n) bytes h = record { fault = refl; left = but e t h }
  heard_both e t q Ignored bytes h = record { fault = refl; left = but e t h }
  heard_both e t q (Other kind) bytes h = record { fault = refl; left = but e t h }

  read_both : (e : EndpointHistory) (t : Streams Unidirectional) (q : ℕ) (u : Unidirectional) (x : Role × List ℕ) → (q == id) ≡ false → Fits e.unidirectional t → FoundBoth (read_unidirectional e q u x) (read_unidirectional (with_others e t) q u x)
  read_both e t q u (role, bytes) ne h =
      heard_both (with_unidirectional e q (with_bytes u (role, bytes))) (set_stream t q (with_bytes u (role, bytes))) q role bytes (fits_set e.unidirectional t q (with_bytes u (role, bytes)) ne h)

  closing_both : (e : EndpointHistory) (t : Streams Unidirectional) (q : ℕ) (u : Unidirectional) → (q == id) ≡ false → Fits e.unidirectional t → FoundBoth (closing e q u) (closing (with_others e t) q u)
  closing_both e t q u ne h = record { fault = refl; left = but (with_unidirectional e q u) (set_stream t q u) (fits_set e.unidirectional t q u ne h) }

  module _ (e : EndpointHistory) (t : Streams Unidirectional) (h : Fits e.unidirectional t) where
    abbrev pub two : EndpointHistory
    two = with_others e t

    here : ButOne e two
    here = but e t h

    opened_both : (q : ℕ) (at : Option Incoming) (i : Incoming) → ButOne (with_incoming (opened_at e q at) q i) (with_incoming (opened_at two q at) q i)
    opened_both q (Some x) i = but _ t h
    opened_both q None i = but _ t h

    gives_up_both : (q : ℕ) (at : Option Incoming) (i : Incoming) (code : ℕ) → ButOne (give_up (opened_at e q at) q i (stream_fault.Reset code)) (give_up (opened_at two q at) q i (stream_fault.Reset code))
    gives_up_both q (Some x) i code = but _ t h
    gives_up_both q None i code = but _ t h

    module _ (q : ℕ) (ne : (q == id) ≡ false) where
      there : unidirectional_at two q ≡ unidirectional_at e q
      there = ap (λ x. unwrap_or x untold) (sym (h.agree q ne))

      refused_both : (k : Kind) → refusal_at e q k ≡ refusal_at two q k
      refused_both Request = refl
      refused_both ServerOpened = refl
      refused_both OwnUnidirectional = refl
      refused_both PeerUnidirectional = ap (λ x. closed_refusal (is_closed x)) (sym there)

      bytes_both : (bytes : List ℕ) (k : Kind) → FoundBoth (bytes_at e q bytes k) (bytes_at two q bytes k)
      bytes_both bytes Request = record { fault = refl; left = opened_both q (stream_at e.incoming q) (kept (incoming_at e q) bytes) }
      bytes_both bytes ServerOpened = record { fault = refl; left = here }
      bytes_both bytes OwnUnidirectional = record { fault = refl; left = here }
      bytes_both bytes PeerUnidirectional =
          let u = unidirectional_at e q in
          subst (λ x. FoundBoth (bytes_at e q bytes PeerUnidirectional) (read_unidirectional two q x (role_after (known_streams e.announced) x.role bytes))) (sym there) (read_both e t q u (role_after (known_streams e.announced) u.role bytes) ne h)

      end_both : (k : Kind) → FoundBoth (end_at e q k) (end_at two q k)
      end_both Request = record { fault = refl; left = opened_both q (stream_at e.incoming q) (with_end (incoming_at e q)) }
      end_both ServerOpened = record { fault = refl; left = here }
      end_both OwnUnidirectional = record { fault = refl; left = here }
      end_both PeerUnidirectional =
          subst (λ (x : Unidirectional). FoundBoth (end_at e q PeerUnidirectional) (closing two q (record x { ended = true }))) (sym there) (closing_both e t q (record (unidirectional_at e q) { ended = true }) ne h)

      reset_both : (code : ℕ) (k : Kind) → FoundBoth (reset_at e q code k) (reset_at two q code k)
      reset_both code Request = record { fault = refl; left = gives_up_both q (stream_at e.incoming q) (record (incoming_at e q) { was_reset = true }) code }
      reset_both code ServerOpened = record { fault = refl; left = here }
      reset_both code OwnUnidirectional = record { fault = refl; left = here }
      reset_both code PeerUnidirectional =
          subst (λ (x : Unidirectional). FoundBoth (reset_at e q code PeerUnidirectional) (closing two q (reset_with x code))) (sym there) (closing_both e t q (reset_with (unidirectional_at e q) code) ne h)

      arrives_both : (found other : Kind → Found) → ((k : Kind) → FoundBoth (found k) (other k))
          → Both (done Done (taken e.closed (delivery_refusal e q) e (found (kind_of e.side q)))) (done Done (taken e.closed (delivery_refusal two q) two (other (kind_of e.side q))))
      arrives_both found other each =
          subst (λ r. Both (done Done (taken e.closed (delivery_refusal e q) e (found (kind_of e.side q)))) (done Done (taken e.closed r two (other (kind_of e.side q))))) (refused_both (kind_of e.side q))
          (taken_both e.closed (delivery_refusal e q) e two _ _ here (each (kind_of e.side q)))

      -- a pull
      answered_both : (a : Pull) (f g : EndpointHistory) → ButOne f g → Both (was_pulled (after_answer a f)) (was_pulled (after_answer a g))
      answered_both (answer.Fault (fault.Connection code)) f g b =
          record { answer = refl; left = record { same = ap (λ (x : EndpointHistory). let y : EndpointHistory = record x { closed = Some code } in y) b.same; others = b.others } }
      answered_both (answer.Fault (fault.Stream s)) f g b = record { answer = refl; left = b }
      answered_both (answer.Fault fault.Memory) f g b = record { answer = refl; left = b }
      answered_both (answer.Item i) f g b = record { answer = refl; left = b }
      answered_both answer.Pending f g b = record { answer = refl; left = b }
      answered_both (answer.Waiting n) f g b = record { answer = refl; left = b }
      answered_both answer.NoMessages f g b = record { answer = refl; left = b }

      request_both : (at : Option Incoming) → Both (was_pulled (pull_request e q at)) (was_pulled (pull_request two q at))
      request_both None = record { answer = refl; left = here }
      request_both (Some i) =
          let p = within_limit e q (pull_stream e.side e.announced q e.decoding.decoder i) in
          answered_both p.answer (replied (with_incoming e q p.incoming) p.replies) (replied (with_incoming two q p.incoming) p.replies) (but _ t h)

      told_both : (x : Pull × Unidirectional) → Both (was_pulled (pulled_unidirectional e q x)) (was_pulled (pulled_unidirectional two q x))
      told_both (a, u) = record { answer = refl; left = but (with_unidirectional e q u) (set_stream t q u) (fits_set e.unidirectional t q u ne h) }

      peer_both : (at : Option Unidirectional) → Both (was_pulled (pull_peer e q at)) (was_pulled (pull_peer two q at))
      peer_both None = record { answer = refl; left = here }
      peer_both (Some u) = told_both (pull_unidirectional u u.role)

      pull_both : (closed : Option ℕ) (k : Kind) → Both (was_pulled (pull_unless closed e (pull_at e q k))) (was_pulled (pull_unless closed two (pull_at two q k)))
      pull_both (Some code) k = record { answer = refl; left = here }
      pull_both None Request = request_both (stream_at e.incoming q)
      pull_both None ServerOpened = record { answer = refl; left = here }
      pull_both None OwnUnidirectional = record { answer = refl; left = here }
      pull_both None PeerUnidirectional = subst (λ at. Both (was_pulled (pull_peer e q (stream_at e.unidirectional q))) (was_pulled (pull_peer two q at))) (h.agree q ne) (peer_both (stream_at e.unidirectional q))

    advances_both : (q count : ℕ) (at : Option Out) → Both (Done, advance_at e q count at) (Done, advance_at two q count at)
    advances_both q count (Some x) = record { answer = refl; left = but _ t h }
    advances_both q count None = record { answer = refl; left = but _ t h }

    ends_both : (q : ℕ) (at : Option Out) → Both (took (end_taken_at e q at)) (took (end_taken_at two q at))
    ends_both q (Some x) = by_test (is_end_next x)
      where
        by_test : (b : Bool) → Both (took (end_taken_if b e q x)) (took (end_taken_if b two q x))
        by_test true = record { answer = refl; left = but _ t h }
        by_test false = record { answer = refl; left = here }
    ends_both q None = record { answer = refl; left = here }

    body_both : (q : ℕ) (bytes : List ℕ) → Both (called e (SendBody q bytes)) (called two (SendBody q bytes))
    body_both q [] = does_both Done (body_refusal e q 0) e two _ _ here (but _ t h)
    body_both q (byte ∷ bytes) = does_both Done (body_refusal e q (length (byte ∷ bytes))) e two _ _ here (but _ t h)

    -- a call that is not on the stream
    pub other_call : (c : Call) → is_on id c ≡ false → Both (called e c) (called two c)
    other_call OpenRequest ne = does_both (Opened e.next_id) (open_refusal e) e two _ _ here (but _ t h)
    other_call (SendHead q head) ne = does_both Done (head_refusal e q head) e two _ _ here (but _ t h)
    other_call (SendBody q bytes) ne = body_both q bytes
    other_call (SendTrailer q head) ne = does_both Done (trailer_refusal e q head) e two _ _ here (but _ t h)
    other_call (Finish q) ne = does_both Done (finish_refusal e q) e two _ _ here (but _ t h)
    other_call (Reset q) ne = does_both Done (reset_refusal e q) e two _ _ here (but _ t h)
    other_call (Goaway n) ne = does_both Done (goaway_refusal e n) e two _ _ here (but _ t h)
    other_call (Advance q count) ne = advances_both q count (stream_at e.outgoing q)
    other_call (TakeEnd q) ne = ends_both q (stream_at e.outgoing q)
    other_call (Outgoing q) ne = record { answer = refl; left = here }
    other_call (Deliver q bytes) ne = arrives_both q ne (bytes_at e q bytes) (bytes_at two q bytes) (bytes_both q ne bytes)
    other_call (DeliverEnd q) ne = arrives_both q ne (end_at e q) (end_at two q) (end_both q ne)
    other_call (DeliverReset q code) ne = arrives_both q ne (reset_at e q code) (reset_at two q code) (reset_both q ne code)
    other_call (PullStream q) ne = pull_both q ne e.closed (kind_of e.side q)
    other_call (Cancel q) ne = does_both Done (cancel_refusal e q) e two _ _ here (but _ t h)
    other_call Show ne = record { answer = refl; left = here }

-- what is known of the stream: all bytes to come give it no type, it is closed, or the connection is
data Harmless (id : ℕ) (e : EndpointHistory) (rest : List ℕ) : Type 0 where
  Reads : IsUnread (role_after (known_streams e.announced) (unidirectional_at e id).role rest).0 → Harmless id e rest
  Shut : IsUnread (unidirectional_at e id).role → is_closed (unidirectional_at e id) ≡ true → Harmless id e rest
  Faulty : (code : ℕ) → e.closed ≡ Some code → Harmless id e rest

-- a role that is told stays
unread_before : (sessions : StreamKinds) (role : Role) (rest : List ℕ) → IsUnread (role_after sessions role rest).0 → IsUnread role
unread_before sessions (Untold front) rest h = tt
unread_before sessions Ignored rest h = tt
unread_before sessions (Other kind) rest h = h
unread_before sessions Control rest h = h
unread_before sessions Encoder rest h = h
unread_before sessions Decoder rest h = h
unread_before sessions (Session n) rest h = h
unread_before sessions (Push n) rest h = h

-- An endpoint of which nothing but the stream has changed, and what is known of that.
record Goes (id : ℕ) (e g : EndpointHistory) (rest : List ℕ) : Type 0 where
  same : g ≡ with_others e g.unidirectional
  agree : (q : ℕ) → (q == id) ≡ false → stream_at g.unidirectional q ≡ stream_at e.unidirectional q
  harmless : Harmless id g rest

stays_as : (id : ℕ) (e : EndpointHistory) (rest : List ℕ) → Harmless id e rest → Goes id e e rest
stays_as id e rest h = record { same = refl; agree = λ q ne. refl; harmless = h }

turned : (id q : ℕ) → (q == id) ≡ false → (id == q) ≡ false
turned id q ne = by_test (id == q) refl
  where
    by_test : (b : Bool) → (id == q) ≡ b → b ≡ false
    by_test false is = refl
    by_test true is = sym (eq_refl q) ∙ ap (λ n. q == n) (sym (to_eq id q is)) ∙ ne

-- the stream is now this, with a role that is not told
now_is : (id : ℕ) (e : EndpointHistory) (u : Unidirectional) (rest : List ℕ) → IsUnread (role_after (known_streams e.announced) u.role rest).0 → Goes id e (with_unidirectional e id u) rest
now_is id e u rest h = record {
  same = refl;
  agree = λ q ne. at_other e.unidirectional id q u (turned id q ne);
  harmless = Reads (subst (λ o. IsUnread (role_after (known_streams e.announced) (unwrap_or o untold).role rest).0) (sym (at_same e.unidirectional id u)) h);
}

not_critical : (role : Role) → IsUnread role → is_critical role ≡ false
not_critical (Untold front) h = refl
not_critical Ignored h = refl
not_critical (Other kind) h = absurd h
not_critical Control h = absurd h
not_critical Encoder h = absurd h
not_critical Decoder h = absurd h
not_critical (Session n) h = absurd h
not_critical (Push n) h = absurd h

module _ (id : ℕ) (e : EndpointHistory) (kind : kind_of e.side id ≡ PeerUnidirectional) (rest : List ℕ) where
  abbrev o : Unidirectional
  o = unidirectional_at e id

  -- an arrival is refused, or does this
  arrives_own : (bytes : List ℕ) (found : Found) → Harmless id e (bytes ++ rest) → (IsUnread (role_after (known_streams e.announced) (unidirectional_at e id).role (bytes ++ rest)).0 → Goes id e (done Done (closed_by found)).1 rest)
      → Goes id e (done Done (taken e.closed (delivery_refusal e id) e found)).1 rest
  arrives_own bytes found h go = by_closed e.closed (is_closed (unidirectional_at e id)) refl refl h
    where
      refused : (b : Bool) → is_closed (unidirectional_at e id) ≡ b → delivery_refusal e id ≡ closed_refusal b
      refused b is = ap (refusal_at e id) kind ∙ ap closed_refusal is

      by_closed : (closed : Option ℕ) (shut : Bool) → e.closed ≡ closed → is_closed (unidirectional_at e id) ≡ shut → Harmless id e (bytes ++ rest) → Goes id e (done Done (taken closed (delivery_refusal e id) e found)).1 rest
      by_closed (Some code) shut is shut_is k = stays_as id e rest (Faulty code is)
      by_closed None true is shut_is (Faulty code other) = let wrong : None ≡ Some code = sym is ∙ other in absurd (cc)
      by_closed None false is shut_is (Faulty code other) = let wrong : None ≡ Some code = sym is ∙ other in absurd (cc)
      by_closed None false is shut_is (Shut unread closed) = let wrong : false ≡ true = sym shut_is ∙ closed in absurd (cc)
      by_closed None true is shut_is (Shut unread closed) =
          subst (λ r. Goes id e (done Done (taken None r e found)).1 rest) (sym (refused true shut_is)) (stays_as id e rest (Shut unread shut_is))
      by_closed None true is shut_is (Reads k) =
          subst (λ r. Goes id e (done Done (taken None r e found)).1 rest) (sym (refused true shut_is)) (stays_as id e rest (Shut (unread_before (known_streams e.announced) (unidirectional_at e id).role (bytes ++ rest) k) shut_is))
      by_closed None false is shut_is (Reads k) = subst (λ r. Goes id e (done Done (taken None r e found)).1 rest) (sym (refused false shut_is)) (go k)

  bytes_own : (bytes : List ℕ) → Harmless id e (bytes ++ rest) → Goes id e (called e (Deliver id bytes)).1 rest
  bytes_own bytes h = arrives_own bytes (bytes_at e id bytes (kind_of e.side id)) h (λ k.
      subst (λ a. Goes id e (done Done (closed_by (bytes_at e id bytes a))).1 rest) (sym kind)
      (by_role (role_after (known_streams e.announced) o.role bytes) (subst (λ (x : Role × List ℕ). IsUnread x.0) (role_cut (known_streams e.announced) o.role bytes rest) k)))
    where
      by_role : (x : Role × List ℕ) → IsUnread (role_after (known_streams e.announced) x.0 rest).0 → Goes id e (done Done (closed_by (read_unidirectional e id (unidirectional_at e id) x))).1 rest
      by_role (Untold front, more) k = now_is id e (record (unidirectional_at e id) { role = Untold front }) rest k
      by_role (Ignored, more) k = now_is id e (record (unidirectional_at e id) { role = Ignored }) rest k
      by_role (Other kind, more) k = absurd k
      by_role (Control, more) k = absurd k
      by_role (Encoder, more) k = absurd k
      by_role (Decoder, more) k = absurd k
      by_role (Session n, more) k = absurd k
      by_role (Push n, more) k = absurd k

  closing_own : (u : Unidirectional) → u.role ≡ (unidirectional_at e id).role → IsUnread (role_after (known_streams e.announced) (unidirectional_at e id).role rest).0 → Goes id e (done Done (closed_by (closing e id u))).1 rest
  closing_own u same k =
      let role : is_critical u.role ≡ false = ap is_critical same ∙ not_critical (unidirectional_at e id).role (unread_before (known_streams e.announced) (unidirectional_at e id).role rest k) in
      subst (λ b. Goes id e (done Done (closed_by (with_unidirectional e id u, if b then Some closed_critical_stream else None))).1 rest) (sym role)
      (now_is id e u rest (subst (λ r. IsUnread (role_after (known_streams e.announced) r rest).0) (sym same) k))

  end_own : Harmless id e rest → Goes id e (called e (DeliverEnd id)).1 rest
  end_own h = arrives_own [] (end_at e id (kind_of e.side id)) h (λ k. subst (λ a. Goes id e (done Done (closed_by (end_at e id a))).1 rest) (sym kind) (closing_own (record (unidirectional_at e id) { ended = true }) refl k))

  reset_own : (code : ℕ) → Harmless id e rest → Goes id e (called e (DeliverReset id code)).1 rest
  reset_own code h =
      arrives_own [] (reset_at e id code (kind_of e.side id)) h (λ k. subst (λ a. Goes id e (done Done (closed_by (reset_at e id code a))).1 rest) (sym kind) (closing_own (reset_with (unidirectional_at e id) code) refl k))

  -- a pull changes nothing of it
  pulled_same : (u : Unidirectional) → IsUnread u.role → (pull_unidirectional u u.role).1 ≡ u
  pulled_same u = by_role u.role
    where
      by_role : (role : Role) → IsUnread role → (pull_unidirectional u role).1 ≡ u
      by_role (Untold front) h = refl
      by_role Ignored h = refl
      by_role (Other kind) h = absurd h
      by_role Control h = absurd h
      by_role Encoder h = absurd h
      by_role Decoder h = absurd h
      by_role (Session n) h = absurd h
      by_role (Push n) h = absurd h

  unread_now : Harmless id e rest → (code : Option ℕ) → e.closed ≡ code → code ≡ None → IsUnread (unidirectional_at e id).role
  unread_now (Reads k) code is none = unread_before (known_streams e.announced) (unidirectional_at e id).role rest k
  unread_now (Shut k closed) code is none = k
  unread_now (Faulty other fault) code is none = let wrong : Some other ≡ None = sym fault ∙ is ∙ none in absurd (cc)

  pull_own : Harmless id e rest → Goes id e (called e (PullStream id)).1 rest
  pull_own h = by_closed e.closed refl
    where
      by_peer : (at : Option Unidirectional) → stream_at e.unidirectional id ≡ at → IsUnread (unidirectional_at e id).role → Goes id e (was_pulled (pull_peer e id at)).1 rest
      by_peer None is k = stays_as id e rest h
      by_peer (Some u) is k =
          let role : IsUnread u.role = subst (λ x. IsUnread (unwrap_or x untold).role) is k in
          let whole : (was_pulled (pull_peer e id (Some u))).1 ≡ e =
          told (pull_unidirectional u u.role) ∙ ap (with_unidirectional e id) (pulled_same u role) ∙ ap (with_others e) (set-same e.unidirectional id u is) in
          subst (λ g. Goes id e g rest) (sym whole) (stays_as id e rest h)
        where
          told : (x : Pull × Unidirectional) → (was_pulled (pulled_unidirectional e id x)).1 ≡ with_unidirectional e id x.1
          told (a, v) = refl

      by_closed : (closed : Option ℕ) → e.closed ≡ closed → Goes id e (was_pulled (pull_unless closed e (pull_at e id (kind_of e.side id)))).1 rest
      by_closed (Some code) is = stays_as id e rest h
      by_closed None is = subst (λ k. Goes id e (was_pulled (pull_at e id k)).1 rest) (sym kind) (by_peer (stream_at e.unidirectional id) refl (unread_now h None is refl))

-- a call on the stream
own_call : (id : ℕ) (e : EndpointHistory) (c : Call) (rest : List ℕ) → kind_of e.side id ≡ PeerUnidirectional → is_on id c ≡ true → Harmless id e (brought_by id c ++ rest) → Goes id e (called e c).1 rest
own_call id e (Deliver q bytes) rest kind on h =
    let same = to_eq q id on in
    let there : Harmless id e (bytes ++ rest) = subst (λ b. Harmless id e ((if b then bytes else []) ++ rest)) (ap (λ n. id == n) same ∙ eq_refl id) h in
    subst (λ n. Goes id e (called e (Deliver n bytes)).1 rest) (sym same) (bytes_own id e kind rest bytes there)
own_call id e (DeliverEnd q) rest kind on h = subst (λ n. Goes id e (called e (DeliverEnd n)).1 rest) (sym (to_eq q id on)) (end_own id e kind rest h)
own_call id e (DeliverReset q code) rest kind on h = subst (λ n. Goes id e (called e (DeliverReset n code)).1 rest) (sym (to_eq q id on)) (reset_own id e kind rest code h)
own_call id e (PullStream q) rest kind on h = subst (λ n. Goes id e (called e (PullStream n)).1 rest) (sym (to_eq q id on)) (pull_own id e kind rest h)
own_call id e OpenRequest rest kind on h = absurd (cc)
own_call id e (SendHead q head) rest kind on h = absurd (cc)
own_call id e (SendBody q bytes) rest kind on h = absurd (cc)
own_call id e (SendTrailer q head) rest kind on h = absurd (cc)
own_call id e (Finish q) rest kind on h = absurd (cc)
own_call id e (Reset q) rest kind on h = absurd (cc)
own_call id e (Goaway n) rest kind on h = absurd (cc)
own_call id e (Advance q count) rest kind on h = absurd (cc)
own_call id e (TakeEnd q) rest kind on h = absurd (cc)
own_call id e (Outgoing q) rest kind on h = absurd (cc)
own_call id e (Cancel q) rest kind on h = absurd (cc)
own_call id e Show rest kind on h = absurd (cc)

-- nothing comes on the stream by another call
brings_none : (id : ℕ) (c : Call) → is_on id c ≡ false → brought_by id c ≡ []
brings_none id (Deliver q bytes) ne = ap (λ b. if b then bytes else []) (turned id q ne)
brings_none id (DeliverEnd q) ne = refl
brings_none id (DeliverReset q code) ne = refl
brings_none id (PullStream q) ne = refl
brings_none id OpenRequest ne = refl
brings_none id (SendHead q head) ne = refl
brings_none id (SendBody q bytes) ne = refl
brings_none id (SendTrailer q head) ne = refl
brings_none id (Finish q) ne = refl
brings_none id (Reset q) ne = refl
brings_none id (Goaway n) ne = refl
brings_none id (Advance q count) ne = refl
brings_none id (TakeEnd q) ne = refl
brings_none id (Outgoing q) ne = refl
brings_none id (Cancel q) ne = refl
brings_none id Show ne = refl

-- what is known stays by another call
still_harmless : (id : ℕ) (e g : EndpointHistory) (rest : List ℕ) → g.announced ≡ e.announced → stream_at g.unidirectional id ≡ stream_at e.unidirectional id → ((code : ℕ) → e.closed ≡ Some code → g.closed ≡ Some code) → Harmless id e rest → Harmless id g rest
still_harmless id e g rest own kept_at closed (Reads k) =
    Reads (subst (λ (a : Announced). IsUnread (role_after (known_streams a) (unidirectional_at g id).role rest).0) (sym own)
    (subst (λ o. IsUnread (role_after (known_streams e.announced) (unwrap_or o untold).role rest).0) (sym kept_at) k))
still_harmless id e g rest own kept_at closed (Shut k shut) = Shut (subst (λ o. IsUnread (unwrap_or o untold).role) (sym kept_at) k) (ap (λ o. is_closed (unwrap_or o untold)) kept_at ∙ shut)
still_harmless id e g rest own kept_at closed (Faulty code is) = Faulty code (closed code is)

-- Nothing of two endpoints differs but that stream.
record Alone (id : ℕ) (e f : EndpointHistory) : Type 0 where
  same : f ≡ with_others e f.unidirectional
  agree : (q : ℕ) → (q == id) ≡ false → stream_at e.unidirectional q ≡ stream_at f.unidirectional q

without_answers : (id : ℕ) (calls : List Call) (e f : EndpointHistory) → Alone id e f → kind_of e.side id ≡ PeerUnidirectional → Harmless id e (brought_on id calls) → answers_without id e calls ≡ answers f (without_stream id calls)
without_answers id [] e f a kind h = refl
without_answers id (c ∷ calls) e f a kind h = by_test (is_on id c) refl (λ g b k. without_answers id calls (called e c).1 g b (ap (λ s. kind_of s id) (same_setup e c).side ∙ kind) k)
  where
    by_test : (b : Bool) → is_on id c ≡ b
        → ((g : EndpointHistory) → Alone id (called e c).1 g → Harmless id (called e c).1 (brought_on id calls) → answers_without id (called e c).1 calls ≡ answers g (without_stream id calls))
        → (if b then answers_without id (called e c).1 calls else (called e c).0 ∷ answers_without id (called e c).1 calls) ≡ answers f (if b then without_stream id calls else c ∷ without_stream id calls)
    by_test true on go =
        let k = own_call id e c (brought_on id calls) kind on h in
        go f (record { same = a.same ∙ sym (ap (λ x. with_others x f.unidirectional) k.same); agree = λ q ne. k.agree q ne ∙ a.agree q ne }) k.harmless
    by_test false off go =
        let there : Both id (stream_at e.unidirectional id) (called e c) (called f c) =
        subst (λ x. Both id (stream_at e.unidirectional id) (called e c) (called x c)) (sym a.same) (other_call id (stream_at e.unidirectional id) e f.unidirectional (record { agree = a.agree; here = refl }) c off) in
        let known : Harmless id e (brought_on id calls) = subst (λ l. Harmless id e (l ++ brought_on id calls)) (brings_none id c off) h in
        ap (λ r. r ∷ answers_without id (called e c).1 calls) there.answer
        ∙ ap (λ l. (called f c).0 ∷ l) (go (called f c).1 (record { same = there.left.same; agree = there.left.others.agree }) (still_harmless id e (called e c).1 (brought_on id calls) (same_setup e c).announced there.left.others.here (λ code. stays e c code) known))

pub without_from_new : (side : Side) (own : Announced) (id : ℕ) (calls : List Call) → kind_of side id ≡ PeerUnidirectional → IsUnread (role_after (known_streams own) (Untold []) (brought_on id calls)).0
    → answers_without id (new_endpoint side own) calls ≡ answers (new_endpoint side own) (without_stream id calls)
without_from_new side own id calls kind unread = without_answers id calls (new_endpoint side own) (new_endpoint side own) (record { same = refl; agree = λ q ne. refl }) kind (Reads unread)
