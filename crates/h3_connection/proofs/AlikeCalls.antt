-- A call is answered alike by endpoints that differ in cuts alone.
use Rattle.std.proofs.Common.{◌≡◌, ℕ, ◌+◌, Bool, true, false, if◌then◌else◌, List, [], ◌∷◌, ◌++◌, length, refl, ap, sym, ◌∙◌, subst, Option, Some, None}
use Rattle.std.specs.Prelude.{◌||◌, ◌==◌, ◌≢◌, ◌-◌, ◌^◌, min, not, is_some, unwrap_or}
use Rattle.h3_header.specs.Head.{Head, head_fields}
use Rattle.h3_messages.specs.declared.content.Content.{Content}
use Rattle.h3_field.specs.Instruction.{DecoderInstruction}
use Rattle.h3_connection.specs.declared.event.Refusal.{Refusal}
use Rattle.h3_connection.specs.Remembering.{settings_known}
use Rattle.h3_connection.specs.declared.event.Refusal.TheVariants as refusal
use Rattle.h3_connection.specs.declared.event.StreamFault.TheVariants as stream_fault
use Rattle.h3_connection.specs.CallCuts.{joined_increments, SessionsDifferInCuts, EachStream, with_streams, DifferInCutsAlone, SameAnswer, piece_of}
use Rattle.h3_connection.specs.CallLists.{Call, Result, called, done, took}
use Rattle.h3_connection.specs.EndsWaiting.{end_taken_at, end_taken_if}
use Rattle.h3_connection.specs.CallLists.Call.{OpenRequest, SendHead, SendBody, SendTrailer, Finish, Reset, Goaway, Advance, TakeEnd, Outgoing, Deliver, DeliverEnd, DeliverReset, PullStream, Cancel, Show}
use Rattle.h3_connection.specs.CallLists.Result.{Opened, Done, Refused, Waits, Took, Shown}
use Rattle.h3_connection.specs.Control.{Found}
use Rattle.h3_connection.specs.Delivering.{incoming_at, taken, closed_by, delivery_refusal, bytes_at, end_at, reset_at, give_up, deliver}
use Rattle.h3_connection.specs.Endpoint.{EndpointHistory, Kind, Own, kind_of, own_waiting, bytes_waiting, is_critical_of}
use Rattle.h3_connection.specs.Incoming.{Incoming, nothing_came, having_told}
use Rattle.h3_connection.specs.FirstAbove.{first_above, greater}
use Rattle.h3_connection.specs.OwnIds.{control_id, encoder_id, decoder_id}
use Rattle.h3_connection.specs.Outgoing.{Outgoing as Out, is_end_next, part_bytes_waiting, with_finish, with_reset}
use Rattle.h3_connection.specs.Outgoing.OwnPart.{OwnTrailer}
use Rattle.h3_connection.specs.PullCuts.{DifferInCuts}
use Rattle.h3_connection.specs.Sections.{written_section}
use Rattle.h3_connection.specs.Refusals.{first_of, refusal_of_head}
use Rattle.h3_connection.specs.Sending.{does, closed_or, open_refusal, head_refusal, body_refusal, trailer_refusal, finish_refusal, reset_refusal, goaway_refusal, own_advanced, advance_at, turned, cancel_refusal, cancel, sent_bytes, counted, encoded, appended, head_part, fields_cost, with_outgoing, outgoing_at, asked, content_of_own, known_of, saying_at, sender_at, unless_closed, telling_at}
use Rattle.h3_connection.specs.Shown.{peer_limits, table_sizes}
use Rattle.h3_connection.specs.StreamSets.{Streams, stream_at}
use Rattle.h3_connection.specs.StreamSetLaws.{other_id}
use Rattle.h3_connection.specs.Unidirectional.{Unidirectional}
use Rattle.h3_connection.proofs.AlikeEnds.{OfBoth, set_both, counts_alike, same_waits}
use Rattle.h3_connection.proofs.AlikeReading.{Beside, beside_alike, given_up_alike, gives_up, request_same, requests_here, refused_at, bytes_at_alike, end_at_alike, reset_at_alike}
use Rattle.h3_connection.proofs.ReadingCuts.{Alike}
use Rattle.h3_connection.specs.StrictSending.{broken_head, broken_protocol}
use Rattle.h3_field.specs.Field.{Field}

-- the first id above all streams, where these stand under the same ids
above_alike : (one two : Streams Incoming) → EachStream DifferInCuts one two → first_above two ≡ first_above one
above_alike [] [] h = refl
above_alike [] (b ∷ two) h = absurd h
above_alike (a ∷ one) [] h = absurd h
above_alike ((p, x) ∷ one) ((q, y) ∷ two) h = ap (λ id. greater (id + 4) (first_above two)) h.0 ∙ ap (greater (p + 4)) (above_alike one two h.2)

-- the same answer, and where no fault was found endpoints that differ in cuts alone
pub record AlikeAfter (x y : Option Refusal × EndpointHistory) : Type 0 where
  pub answer : x.0 ≡ y.0
  pub closed : x.1.closed ≡ y.1.closed
  pub left : x.1.closed ≡ None → DifferInCutsAlone x.1 y.1

-- so of a call
pub record AlikeCalled (P : Result → Result → Type 0) (x y : Result × EndpointHistory) : Type 0 where
  pub answer : P x.0 y.0
  pub closed : x.1.closed ≡ y.1.closed
  pub left : x.1.closed ≡ None → DifferInCutsAlone x.1 y.1

pub still_closed : (e f : EndpointHistory) → DifferInCutsAlone e f → e.closed ≡ f.closed
still_closed e f d = sym (ap (λ x. x.closed) d.same)

pub of_done : (success : Result) (x y : Option Refusal × EndpointHistory) → AlikeAfter x y → AlikeCalled (λ one two. one ≡ two) (done success x) (done success y)
of_done success (None, e) (None, f) h = record { answer = refl; closed = h.closed; left = h.left }
of_done success (Some a, e) (Some b, f) h = let same : Some a ≡ Some b = h.answer in record { answer = ap Refused (cc); closed = h.closed; left = h.left }
of_done success (None, e) (Some b, f) h = let wrong : None ≡ Some b = h.answer in absurd (cc)
of_done success (Some a, e) (None, f) h = let wrong : Some a ≡ None = h.answer in absurd (cc)

does_alike : (r : Option Refusal) (e f g h : EndpointHistory) → DifferInCutsAlone e f → DifferInCutsAlone g h → AlikeAfter (does r e g) (does r f h)
does_alike (Some r) e f g h d k = record { answer = refl; closed = still_closed e f d; left = λ none. d }
does_alike None e f g h d k = record { answer = refl; closed = still_closed g h k; left = λ none. k }

pub closed_alike : (x y : Found) → Alike DifferInCutsAlone x y → AlikeAfter (closed_by x) (closed_by y)
closed_alike (e, None) (f, None) h = record { answer = refl; closed = still_closed e f (h.left refl); left = λ none. h.left refl }
closed_alike (e, Some a) (f, Some b) h =
    let same : Some a ≡ Some b = h.answer in
    let codes : a ≡ b = cc in
    record { answer = ap (λ code. Some (refusal.Connection code)) codes; closed = same; left = λ none. absurd (cc) }
closed_alike (e, None) (f, Some b) h = let wrong : None ≡ Some b = h.answer in absurd (cc)
closed_alike (e, Some a) (f, None) h = let wrong : Some a ≡ None = h.answer in absurd (cc)

taken_alike : (closed : Option ℕ) (r : Option Refusal) (e f : EndpointHistory) (x y : Found) → DifferInCutsAlone e f → Alike DifferInCutsAlone x y → AlikeAfter (taken closed r e x) (taken closed r f y)
taken_alike (Some code) r e f x y d h = record { answer = refl; closed = still_closed e f d; left = λ none. d }
taken_alike None (Some r) e f x y d h = record { answer = refl; closed = still_closed e f d; left = λ none. d }
taken_alike None None e f x y d h = closed_alike x y h

own_with : (a b c : Bool) (own : Own) (r : List DecoderInstruction) (count : ℕ) →
    let x : Own = record own { replies = r } in
    (if a then record x { control_taken = x.control_taken + count } else (if b then record x { encoder_taken = x.encoder_taken + count } else (if c then record x { decoder_taken = x.decoder_taken + count } else x)))
    ≡ record (if a then record own { control_taken = own.control_taken + count } else (if b then record own { encoder_taken = own.encoder_taken + count } else (if c then record own { decoder_taken = own.decoder_taken + count } else own))) { replies = r }
own_with true b c own r count = refl
own_with false true c own r count = refl
own_with false false true own r count = refl
own_with false false false own r count = refl

-- the third of some texts is not asked for
third : (a b c : Bool) (one two three other : List ℕ) → c ≡ false → (if a then one else (if b then two else (if c then three else []))) ≡ (if a then one else (if b then two else (if c then other else [])))
third a b false one two three other is = refl
third a b true one two three other is = absurd (cc)

abbrev waits_in : EndpointHistory → ℕ → Option Out → List ℕ
waits_in e id o = elim o [ None ↦ own_waiting e id | Some x ↦ part_bytes_waiting x ]

not_same : (a b : ℕ) → a ≢ b → (a == b) ≡ false
not_same a b ne = other_id b a (λ e. ne (sym e))

module _ (e : EndpointHistory) (s : Streams Incoming) (t : Streams Unidirectional) (r : List DecoderInstruction) (b : Beside e s t r) where
  abbrev two : EndpointHistory
  two = with_streams e s t r

  here : DifferInCutsAlone e two
  here = beside_alike e s t r b

  -- a call that touches none of what differs
  sends : (success : Result) (refused : Option Refusal) (new : EndpointHistory) → Beside new s t r → AlikeCalled (λ one two. one ≡ two) (done success (does refused e new)) (done success (does refused two (with_streams new s t r)))
  sends success refused new k = of_done success _ _ (does_alike refused e two new (with_streams new s t r) here (beside_alike new s t r k))

  as_is : (new : EndpointHistory) → new.incoming ≡ e.incoming → new.unidirectional ≡ e.unidirectional → new.own.replies ≡ e.own.replies → Beside new s t r
  as_is new a c d = record {
    incoming = subst (λ l. EachStream DifferInCuts l s) (sym a) b.incoming;
    unidirectional = subst (λ l. EachStream SessionsDifferInCuts l t) (sym c) b.unidirectional;
    replies = b.replies ∙ sym (ap joined_increments d);
  }

  -- a head, where messages are strict
  tells_alike : (id : ℕ) (fields : List Field) (x y : Option Incoming) → OfBoth DifferInCuts x y → EachStream DifferInCuts (telling_at e.side e.incoming id fields x) (telling_at e.side s id fields y)
  tells_alike id fields None None h = b.incoming
  tells_alike id fields None (Some j) h = absurd h
  tells_alike id fields (Some i) None h = absurd h
  tells_alike id fields (Some i) (Some j) h =
      set_both DifferInCuts e.incoming s id (having_told e.side i fields) (having_told e.side j fields) b.incoming
      (record { bytes = h.bytes; same = ap (λ x. having_told e.side x fields) h.same; first = h.first; second = h.second })

  -- what was asked of both is known alike
  knows_alike : (x y : Option Incoming) → OfBoth DifferInCuts x y → known_of x ≡ known_of y
  knows_alike None None h = refl
  knows_alike None (Some j) h = absurd h
  knows_alike (Some i) None h = absurd h
  knows_alike (Some i) (Some j) h = sym (ap (λ (x : Incoming). x.response) h.same)

  asks_alike : (id : ℕ) (fields : List Field) (strict : Bool)
      → EachStream DifferInCuts (if strict then telling_at e.side e.incoming id fields (stream_at e.incoming id) else e.incoming) (if strict then telling_at e.side s id fields (stream_at s id) else s)
  asks_alike id fields true = tells_alike id fields (stream_at e.incoming id) (stream_at s id) (requests_here e s t r id b)
  asks_alike id fields false = b.incoming

  sends_head : (id : ℕ) (head : Head) → AlikeCalled (λ one two. one ≡ two) (called e (SendHead id head)) (called two (SendHead id head))
  sends_head id head =
      let plain = counted (appended (encoded e id (head_fields head)) id (head_part head (written_section e.encoder id (head_fields head)))) (fields_cost (head_fields head)) in
      let new : EndpointHistory = asked plain id (head_fields head) in
      let others : Streams Incoming = if e.announced.choices.strict_messages then telling_at e.side s id (head_fields head) (stream_at s id) else s in
      let other : Option Content → EndpointHistory = λ known.
      with_streams (record new { outgoing = if e.announced.choices.strict_messages then saying_at plain.outgoing id (content_of_own e.side known (head_fields head)) (stream_at plain.outgoing id) else plain.outgoing }) others t r in
      let refused : Option Content → Option Refusal = λ known.
      unless_closed e (refusal_of_head (sender_at e id) (broken_protocol e.announced head) (broken_head e.side e.announced (settings_known e.announced e.peer.settings) known (head_fields head)) head (head_fields head)) in
      subst (λ known. AlikeCalled (λ one two. one ≡ two) (called e (SendHead id head)) (done Done (does (refused known) two (other known)))) (knows_alike (stream_at e.incoming id) (stream_at s id) (requests_here e s t r id b))
      (of_done Done _ _ (does_alike (head_refusal e id head) e two new (other (known_of (stream_at e.incoming id))) here
      (beside_alike new others t r (record { incoming = asks_alike id (head_fields head) e.announced.choices.strict_messages; unidirectional = b.unidirectional; replies = b.replies }))))

  sends_body : (id : ℕ) (bytes : List ℕ) → AlikeCalled (λ one two. one ≡ two) (called e (SendBody id bytes)) (called two (SendBody id bytes))
  sends_body id [] = sends Done (body_refusal e id 0) (counted (sent_bytes e id []) 0) (as_is _ refl refl refl)
  sends_body id (byte ∷ bytes) = sends Done (body_refusal e id (length (byte ∷ bytes))) (counted (sent_bytes e id (byte ∷ bytes)) (length (byte ∷ bytes))) (as_is _ refl refl refl)

  same_here : (result : Result) → AlikeCalled (λ one two. one ≡ two) (result, e) (result, two)
  same_here result = record { answer = refl; closed = refl; left = λ none. here }

  ends : (id : ℕ) (at : Option Out) → AlikeCalled (λ one two. one ≡ two) (took (end_taken_at e id at)) (took (end_taken_at two id at))
  ends id (Some o) = by_test (is_end_next o)
    where
      by_test : (b : Bool) → AlikeCalled (λ one two. one ≡ two) (took (end_taken_if b e id o)) (took (end_taken_if b two id o))
      by_test true = record { answer = refl; closed = refl; left = λ none. beside_alike _ s t r (as_is _ refl refl refl) }
      by_test false = same_here (Took false)
  ends id None = same_here (Took false)

  advances : (id count : ℕ) (at : Option Out) → AlikeCalled (λ one two. one ≡ two) (Done, advance_at e id count at) (Done, advance_at two id count at)
  advances id count (Some o) =
      subst (λ n. AlikeCalled (λ one two. one ≡ two) (Done, advance_at e id count (Some o)) (Done, record (advance_at two id count (Some o)) { order = turned e.order id count o (min n (2 ^ 64 - 1)) }))
      (sym (above_alike e.incoming s b.incoming)) (record { answer = refl; closed = refl; left = λ none. beside_alike (advance_at e id count (Some o)) s t r (as_is (advance_at e id count (Some o)) refl refl refl) })
  advances id count None =
      let taken_by = own_with (id == control_id e.side) (id == encoder_id e.side) (id == decoder_id e.side) e.own in
      record {
        answer = refl;
        closed = refl;
        left = λ none. record {
          incoming = b.incoming;
          unidirectional = b.unidirectional;
          replies = ap (λ (o : Own). joined_increments o.replies) (taken_by r count) ∙ b.replies ∙ sym (ap (λ (o : Own). joined_increments o.replies) (taken_by e.own.replies count));
          same =
              ap (λ (o : Own). record two { own = o }) (taken_by r count)
              ∙ sym (ap (λ (o : Own). record two { own = record (own_advanced e.own e.side id count) { replies = o.replies } }) (taken_by r count));
        };
      }

  waits_alike : (id : ℕ) → (id == decoder_id e.side) ≡ false → bytes_waiting e id ≡ bytes_waiting two id
  waits_alike id differs = at (stream_at e.outgoing id)
    where
      at : (o : Option Out) → waits_in e id o ≡ waits_in two id o
      at (Some x) = refl
      at None = third (id == control_id e.side) (id == encoder_id e.side) (id == decoder_id e.side) _ _ _ _ differs

  opens_next : AlikeCalled (λ one two. one ≡ two) (called e OpenRequest) (called two OpenRequest)
  opens_next = of_done (Opened e.next_id) _ _ (does_alike (open_refusal e) e two _ _ here (record {
    incoming = set_both DifferInCuts e.incoming s e.next_id nothing_came nothing_came b.incoming (record { bytes = refl; same = refl; first = tt; second = tt });
    unidirectional = b.unidirectional;
    replies = b.replies;
    same = refl;
  }))

  -- a cancellation
  refuses : (id : ℕ) (x y : Option Incoming) → OfBoth DifferInCuts x y
      → first_of ((is_critical_of e id (kind_of e.side id), refusal.Critical) ∷ (not (is_some x), refusal.NotOpen) ∷ ((unwrap_or x nothing_came).is_over || is_some (unwrap_or x nothing_came).fault, refusal.Ended) ∷ [])
      ≡ first_of ((is_critical_of e id (kind_of e.side id), refusal.Critical) ∷ (not (is_some y), refusal.NotOpen) ∷ ((unwrap_or y nothing_came).is_over || is_some (unwrap_or y nothing_came).fault, refusal.Ended) ∷ [])
  refuses id None None h = refl
  refuses id None (Some j) h = absurd h
  refuses id (Some i) None h = absurd h
  refuses id (Some i) (Some j) h = sym (ap (λ (x : Incoming). first_of ((is_critical_of e id (kind_of e.side id), refusal.Critical) ∷ (false, refusal.NotOpen) ∷ (x.is_over || is_some x.fault, refusal.Ended) ∷ [])) h.same)

  cancels : (id : ℕ) → AlikeCalled (λ one two. one ≡ two) (called e (Cancel id)) (called two (Cancel id))
  cancels id =
      let d = request_same e s t r id b in
      let i = incoming_at e id in
      let j = incoming_at two id in
      let refused : cancel_refusal e id ≡ cancel_refusal two id = ap (closed_or e.closed) (refuses id (stream_at e.incoming id) (stream_at s id) (requests_here e s t r id b)) in
      of_done Done _ _
      (subst (λ o. AlikeAfter (cancel e id) (does o two (give_up two id j stream_fault.Canceled))) refused
      (does_alike (cancel_refusal e id) e two (give_up e id i stream_fault.Canceled) (give_up two id j stream_fault.Canceled) here
      (gives_up e two id i j stream_fault.Canceled (ap (λ (x : Incoming). x.fault) d.same) (record {
        incoming = set_both DifferInCuts e.incoming s id _ _ b.incoming (given_up_alike i j stream_fault.Canceled d);
        unidirectional = b.unidirectional;
        replies = b.replies;
        same = refl;
      }))))

  -- what comes
  comes : (id : ℕ) (found other : Kind → Found) → ((k : Kind) → Alike DifferInCutsAlone (found k) (other k))
      → AlikeAfter (taken e.closed (delivery_refusal e id) e (found (kind_of e.side id))) (taken e.closed (delivery_refusal two id) two (other (kind_of e.side id)))
  comes id found other h =
      subst (λ o. AlikeAfter (taken e.closed (delivery_refusal e id) e (found (kind_of e.side id))) (taken e.closed o two (other (kind_of e.side id)))) (refused_at e s t r id b (kind_of e.side id))
      (taken_alike e.closed (delivery_refusal e id) e two _ _ here (h (kind_of e.side id)))

  pub delivers_alike : (id : ℕ) (bytes : List ℕ) → AlikeAfter (deliver e id bytes) (deliver two id bytes)
  delivers_alike id bytes = comes id (bytes_at e id bytes) (bytes_at two id bytes) (bytes_at_alike e s t r id b bytes)

  -- any call that hands out no piece, where pulls are answered alike
  abbrev AreAlike : Call → Type 0
  AreAlike c = AlikeCalled (SameAnswer e.side c) (called e c) (called two c)

  pub called_alike : (c : Call) → piece_of (called e c).0 ≡ None → ((id : ℕ) → piece_of (called e (PullStream id)).0 ≡ None → AreAlike (PullStream id)) → AreAlike c
  called_alike OpenRequest none pulled = opens_next
  called_alike (SendHead id head) none pulled = sends_head id head
  called_alike (SendBody id bytes) none pulled = sends_body id bytes
  called_alike (SendTrailer id head) none pulled = sends Done (trailer_refusal e id head) _ (as_is (counted (appended (encoded e id (head_fields head)) id (OwnTrailer (written_section e.encoder id (head_fields head)))) (fields_cost (head_fields head))) refl refl refl)
  called_alike (Finish id) none pulled = sends Done (finish_refusal e id) _ (as_is (with_outgoing e id (with_finish (outgoing_at e id))) refl refl refl)
  called_alike (Reset id) none pulled = sends Done (reset_refusal e id) _ (as_is (with_outgoing e id (with_reset (outgoing_at e id))) refl refl refl)
  called_alike (Goaway id) none pulled = sends Done (goaway_refusal e id) _ (as_is (record e { own = record e.own { goaways = e.own.goaways ++ id ∷ [] } }) refl refl refl)
  called_alike (Advance id count) none pulled = advances id count (stream_at e.outgoing id)
  called_alike (TakeEnd id) none pulled = ends id (stream_at e.outgoing id)
  called_alike (Outgoing id) none pulled = record { answer = λ other. ap Waits (waits_alike id (not_same id (decoder_id e.side) other)); closed = refl; left = λ none. here }
  called_alike (Deliver id bytes) none pulled = of_done Done _ _ (delivers_alike id bytes)
  called_alike (DeliverEnd id) none pulled = of_done Done _ _ (comes id (end_at e id) (end_at two id) (end_at_alike e s t r id b))
  called_alike (DeliverReset id code) none pulled = of_done Done _ _ (comes id (reset_at e id code) (reset_at two id code) (reset_at_alike e s t r id b code))
  called_alike (PullStream id) none pulled = pulled id none
  called_alike (Cancel id) none pulled = cancels id
  called_alike Show none pulled = record { answer = ap (λ n. Shown (peer_limits e) (table_sizes e) n) (counts_alike e.decoding.decoder.table.inserted e.incoming s (same_waits e.incoming s b.incoming)); closed = refl; left = λ none. here }
