-- Whatever calls were made of a new endpoint, a request stream whose end was handed out has ended, and was given up by nothing.
use Rattle.std.proofs.Common.{arith, ◌≡◌, ◌≤◌, ◌<◌, ℕ, ◌+◌, Bool, true, false, if◌then◌else◌, ◌||◌, List, [], ◌∷◌, length, refl, sym, ◌∙◌, ap, subst, Option, Some, None}
use Rattle.std.specs.Prelude.{◌==◌, is_some, is_none, unwrap_or, not, ◌&&◌}
use Rattle.h3_proto.specs.declared.stream.Side.{Side}
use Rattle.h3_proto.specs.declared.stream.Side.TheVariants.{Client, Server}
use Rattle.h3_qpack.specs.DecoderState.{DecoderState}
use Rattle.h3_connection.specs.declared.event.Refusal.{Refusal}
use Rattle.h3_connection.specs.declared.event.Refusal.TheVariants as refusal
use Rattle.h3_connection.specs.declared.event.StreamFault.{StreamFault}
use Rattle.h3_connection.specs.declared.event.StreamFault.TheVariants as stream_fault
use Rattle.h3_connection.specs.declared.event.Pull.{Pull}
use Rattle.h3_connection.specs.declared.event.Pull.TheVariants as answer
use Rattle.h3_connection.specs.declared.event.Fault.TheVariants as fault
use Rattle.h3_connection.specs.declared.setup.Announced.{Announced}
use Rattle.h3_connection.specs.Bounds.{OfStream}
use Rattle.h3_connection.specs.CallLists.{Call, Result, called, done, was_pulled, endpoint_after}
use Rattle.h3_connection.specs.EndsWaiting.{end_taken_at, end_taken_if}
use Rattle.h3_connection.specs.CallLists.Call.{OpenRequest, SendHead, SendBody, SendTrailer, Finish, Reset, Goaway, Advance, TakeEnd, Outgoing, Deliver, DeliverEnd, DeliverReset, PullStream, Cancel, Show}
use Rattle.h3_connection.specs.CallLists.Result.{Opened, Done}
use Rattle.h3_connection.specs.Control.{Found}
use Rattle.h3_connection.specs.Delivering.{opened_at, closed_refusal, request_refusal, taken, delivery_refusal, kept, with_end, given_up_by, given_up_once}
use Rattle.h3_connection.specs.Endpoint.{EndpointHistory, Kind, kind_of, new_endpoint}
use Rattle.h3_connection.specs.Endpoint.Kind.{Request, ServerOpened, OwnUnidirectional, PeerUnidirectional}
use Rattle.h3_connection.specs.Incoming.{Incoming, nothing_came}
use Rattle.h3_connection.specs.Isolation.{Before, GoesOn, FindsNoFault, Sight, IsSight, StepIsSeen, sees, seen, with_seen, seen_incoming, unless_refused, seen_pull, seen_encoder_bytes, seen_encoder_closing, first_sight, encoders_in, with_told}
use Rattle.h3_connection.specs.Outgoing.{Outgoing as Out, is_end_next}
use Rattle.h3_connection.specs.Pulling.{Pulled, pull_stream, is_client}
use Rattle.h3_connection.specs.Sending.{does, open_refusal, pull_at, pull_unless, pull_request, pull_peer, within_limit, after_answer, advance_at, sent_bytes, counted}
use Rattle.h3_connection.specs.StreamSets.{stream_at}
use Rattle.h3_connection.specs.StrictConnection.{known_streams}
use Rattle.h3_connection.specs.Unidirectional.{Unidirectional}
use Rattle.h3_connection.proofs.Brought.{goes_from_new, encoders_are_peers}
use Rattle.h3_connection.proofs.EndStays.{over_pulled}
use Rattle.h3_connection.proofs.Isolated.{each_step, before_next}
use Rattle.h3_connection.proofs.SeenEncoder.{to_eq}
use Rattle.h3_connection.proofs.PullEnds.{EndedWell, pull_ends}
use Rattle.h3_connection.proofs.ReadingStays.{bytes_stay, end_stays, reset_stays}
use Rattle.h3_connection.proofs.RequestCuts.{some_refusal}
use Rattle.h3_connection.proofs.SameSetups.{same_setup}
use Rattle.h3_header.specs.Head.{head_fields}

-- ids of requests go up
same_next : (a b : ℕ) → b ≡ a → a ≤ b
same_next a b is = omega (arith, is)

does_next : (success : Result) (r : Option Refusal) (e f : EndpointHistory) → e.next_id ≤ f.next_id → e.next_id ≤ (done success (does r e f)).1.next_id
does_next success (Some r) e f h = omega arith
does_next success None e f h = h

does_same : (success : Result) (r : Option Refusal) (e f : EndpointHistory) → f.next_id ≡ e.next_id → e.next_id ≤ (done success (does r e f)).1.next_id
does_same success r e f is = does_next success r e f (same_next e.next_id f.next_id is)

taken_next : (closed : Option ℕ) (r : Option Refusal) (e : EndpointHistory) (found : Found) → found.0.next_id ≡ e.next_id → e.next_id ≤ (done Done (taken closed r e found)).1.next_id
taken_next (Some code) r e found is = omega arith
taken_next None (Some r) e found is = omega arith
taken_next None None e (f, None) is = same_next e.next_id f.next_id is
taken_next None None e (f, Some code) is = same_next e.next_id f.next_id is

answered_next : (a : Pull) (e f : EndpointHistory) → f.next_id ≡ e.next_id → e.next_id ≤ (was_pulled (after_answer a f)).1.next_id
answered_next (answer.Fault (fault.Connection code)) e f is = same_next e.next_id f.next_id is
answered_next (answer.Fault (fault.Stream s)) e f is = same_next e.next_id f.next_id is
answered_next (answer.Fault fault.Memory) e f is = same_next e.next_id f.next_id is
answered_next (answer.Item i) e f is = same_next e.next_id f.next_id is
answered_next answer.Pending e f is = same_next e.next_id f.next_id is
answered_next (answer.Waiting n) e f is = same_next e.next_id f.next_id is
answered_next answer.NoMessages e f is = same_next e.next_id f.next_id is

pull_next : (e : EndpointHistory) (q : ℕ) (closed : Option ℕ) (k : Kind) → e.next_id ≤ (was_pulled (pull_unless closed e (pull_at e q k))).1.next_id
pull_next e q (Some code) k = omega arith
pull_next e q None ServerOpened = omega arith
pull_next e q None OwnUnidirectional = omega arith
pull_next e q None Request = at_request (stream_at e.incoming q)
  where
    at_request : (at : Option Incoming) → e.next_id ≤ (was_pulled (pull_request e q at)).1.next_id
    at_request None = omega arith
    at_request (Some i) = answered_next (within_limit e q (pull_stream e.side e.announced q e.decoding.decoder i)).answer e _ refl
pull_next e q None PeerUnidirectional = at_peer (stream_at e.unidirectional q)
  where
    at_peer : (at : Option Unidirectional) → e.next_id ≤ (was_pulled (pull_peer e q at)).1.next_id
    at_peer None = omega arith
    at_peer (Some o) = omega arith

body_next : (e : EndpointHistory) (q : ℕ) (bytes : List ℕ) → e.next_id ≤ (counted (sent_bytes e q bytes) (length bytes)).next_id
body_next e q [] = omega arith
body_next e q (byte ∷ bytes) = omega arith

advance_next : (e : EndpointHistory) (q count : ℕ) (at : Option Out) → e.next_id ≤ (advance_at e q count at).next_id
advance_next e q count (Some o) = omega arith
advance_next e q count None = omega arith

end_next : (e : EndpointHistory) (q : ℕ) (at : Option Out) → e.next_id ≤ (end_taken_at e q at).1.next_id
end_next e q (Some o) = by_test (is_end_next o)
  where
    by_test : (b : Bool) → e.next_id ≤ (end_taken_if b e q o).1.next_id
    by_test true = omega arith
    by_test false = omega arith
end_next e q None = omega arith

next_up : (e : EndpointHistory) (c : Call) → e.next_id ≤ (called e c).1.next_id
next_up e OpenRequest = does_next (Opened e.next_id) (open_refusal e) e (record (opened_at e e.next_id None) { next_id = e.next_id + 4 }) (omega arith)
next_up e (SendHead q head) = does_same _ _ e _ refl
next_up e (SendBody q bytes) = does_next _ _ e _ (body_next e q bytes)
next_up e (SendTrailer q head) = does_same _ _ e _ refl
next_up e (Finish q) = does_same _ _ e _ refl
next_up e (Reset q) = does_same _ _ e _ refl
next_up e (Goaway n) = does_same _ _ e _ refl
next_up e (Advance q count) = advance_next e q count (stream_at e.outgoing q)
next_up e (TakeEnd q) = end_next e q (stream_at e.outgoing q)
next_up e (Outgoing q) = omega arith
next_up e (Deliver q bytes) = taken_next e.closed (delivery_refusal e q) e _ (bytes_stay e q bytes (kind_of e.side q)).next_id
next_up e (DeliverEnd q) = taken_next e.closed (delivery_refusal e q) e _ (end_stays e q (kind_of e.side q)).next_id
next_up e (DeliverReset q code) = taken_next e.closed (delivery_refusal e q) e _ (reset_stays e q code (kind_of e.side q)).next_id
next_up e (PullStream q) = pull_next e q e.closed (kind_of e.side q)
next_up e (Cancel q) = does_same _ _ e _ refl
next_up e Show = omega arith

-- the next one is this, and it is opened
opens_here : (T : ℕ → Bool) (id : ℕ) (e : EndpointHistory) → sees T id e OpenRequest ≡ true → id < (called e OpenRequest).1.next_id
opens_here T id e = by_refusal (open_refusal e)
  where
    by_refusal : (r : Option Refusal) → (is_none r && (e.next_id == id)) ≡ true → id < (done (Opened e.next_id) (does r e (record (opened_at e e.next_id None) { next_id = e.next_id + 4 }))).1.next_id
    by_refusal (Some r) sees_it = cc
    by_refusal None sees_it = omega (arith, to_eq e.next_id id sees_it)

-- what a stream is seen to be
abbrev pub EndsSo : Option Incoming → Type 0
EndsSo at = OfStream EndedWell at

abbrev pub Below : ℕ → ℕ → Option Incoming → Type 0
Below id next at = OfStream (λ i. id < next) at

pub record KnownOf (side : Side) (id next : ℕ) (at : Option Incoming) : Type 0 where
  pub ends : EndsSo at
  pub below : is_client side ≡ true → Below id next at

below_more : (id n m : ℕ) (at : Option Incoming) → n ≤ m → Below id n at → Below id m at
below_more id n m None h k = tt
below_more id n m (Some i) h k = omega (arith, h, k)

-- a stream that takes what comes has not ended
open_stream : (side : Side) (i : Incoming) → request_refusal side (Some i) ≡ None → EndedWell i → i.is_over ≡ true → ⊥
open_stream side i accepted well over =
    let closed : closed_refusal (i.ended || i.was_reset) ≡ Some refusal.AfterEnd = ap (λ b. closed_refusal (b || i.was_reset)) (well over).ended in
    let wrong : Some refusal.AfterEnd ≡ None = sym closed ∙ sym (some_refusal side i) ∙ accepted in
    cc

-- a change of a stream that comes with what is accepted
changed : (side : Side) (id next : ℕ) (s : Sight) (change : Incoming → Incoming) → KnownOf side id next s.incoming
    → ((i : Incoming) → request_refusal side (Some i) ≡ None → EndedWell i → EndedWell (change i)) → EndedWell (change nothing_came)
    → KnownOf side id next (unless_refused (request_refusal side s.incoming) s (with_seen s (change (seen_incoming s)))).1.incoming
changed side id next s change k well new = by_stream s.incoming refl
  where
    by_refusal : (r : Option Refusal) (j : Incoming) → (r ≡ None → KnownOf side id next (Some j)) → KnownOf side id next (unless_refused r s (with_seen s j)).1.incoming
    by_refusal (Some r) j h = k
    by_refusal None j h = h refl

    by_stream : (at : Option Incoming) → s.incoming ≡ at → KnownOf side id next (unless_refused (request_refusal side at) s (with_seen s (change (unwrap_or at nothing_came)))).1.incoming
    by_stream None is = by_refusal (request_refusal side None) (change nothing_came) (λ accepted. record { ends = new; below = λ client. absurd (no_client side accepted client) })
      where
        no_client : (one : Side) → request_refusal one None ≡ None → is_client one ≡ true → ⊥
        no_client Client a b = cc
        no_client Server a b = cc
    by_stream (Some i) is =
        let there : KnownOf side id next (Some i) = subst (KnownOf side id next) is k in
        by_refusal (request_refusal side (Some i)) (change i) (λ accepted. record { ends = well i accepted there.ends; below = there.below })

as_seen : (side : Side) (id next : ℕ) (r : Option Refusal) (s t : Sight) → KnownOf side id next s.incoming → t.incoming ≡ s.incoming → KnownOf side id next (unless_refused r s t).1.incoming
as_seen side id next (Some r) s t k is = k
as_seen side id next None s t k is = subst (KnownOf side id next) (sym is) k

given_up_well : (i : Incoming) (why : StreamFault) → (i.is_over ≡ true → ⊥) → EndedWell (given_up_once i why)
given_up_well i why not_over = by_fault i.fault
  where
    by_fault : (f : Option StreamFault) → EndedWell (given_up_by i why f)
    by_fault (Some f) = λ over. absurd (not_over over)
    by_fault None = λ over. absurd (not_over over)

module _ (side : Side) (own : Announced) (id : ℕ) where
  pulled_well : (r : DecoderState) (i : Incoming) → EndedWell i → EndedWell (pull_stream side own id r i).incoming
  pulled_well r i well = by_over i.is_over refl
    where
      by_over : (b : Bool) → i.is_over ≡ b → EndedWell (pull_stream side own id r i).incoming
      by_over false is = (pull_ends side own id r i is).1
      by_over true is = subst (λ (p : Pulled). EndedWell p.incoming) (sym (over_pulled side own id r i (well is))) well

  -- a call that the stream sees, where this is the next id after it
  seen_known : (T : ℕ → Bool) (e : EndpointHistory) (s : Sight) (c : Call) (next : ℕ) → sees T id e c ≡ true → KnownOf side id next s.incoming → (c ≡ OpenRequest → id < next) → KnownOf side id next (seen side own id s c).1.incoming
  seen_known T e s OpenRequest next sees_it k opens = record { ends = λ over. absurd (cc); below = λ client. opens refl }
  seen_known T e s (Deliver q bytes) next sees_it k opens = by_same (q == id)
    where
      by_same : (b : Bool) → KnownOf side id next (if b then unless_refused (request_refusal side s.incoming) s (with_seen s (kept (seen_incoming s) bytes)) else seen_encoder_bytes (known_streams own) own.choices.unfinished_limit s q bytes).1.incoming
      by_same true = changed side id next s (λ i. kept i bytes) k (λ i accepted well over. absurd (open_stream side i accepted well over)) (λ over. absurd (cc))
      by_same false = as_seen side id next (closed_refusal (s.fronts q).closed) s _ k refl
  seen_known T e s (DeliverEnd q) next sees_it k opens = by_same (q == id)
    where
      by_same : (b : Bool) → KnownOf side id next (if b then unless_refused (request_refusal side s.incoming) s (with_seen s (with_end (seen_incoming s))) else seen_encoder_closing s q).1.incoming
      by_same true = changed side id next s with_end k (λ i accepted well over. absurd (open_stream side i accepted well over)) (λ over. absurd (cc))
      by_same false = as_seen side id next (closed_refusal (s.fronts q).closed) s _ k refl
  seen_known T e s (DeliverReset q code) next sees_it k opens = by_same (q == id)
    where
      by_same : (b : Bool) → KnownOf side id next (if b then unless_refused (request_refusal side s.incoming) s (with_seen s (given_up_once (record (seen_incoming s) { was_reset = true }) (stream_fault.Reset code))) else seen_encoder_closing s q).1.incoming
      by_same true = changed side id next s (λ i. given_up_once (record i { was_reset = true }) (stream_fault.Reset code)) k
          (λ i accepted well. given_up_well (record i { was_reset = true }) (stream_fault.Reset code) (open_stream side i accepted well)) (λ over. absurd (cc))
      by_same false = as_seen side id next (closed_refusal (s.fronts q).closed) s _ k refl
  seen_known T e s (PullStream q) next sees_it k opens = by_stream s.incoming refl
    where
      by_stream : (at : Option Incoming) → s.incoming ≡ at → KnownOf side id next (seen_pull side own id s at).1.incoming
      by_stream None is = k
      by_stream (Some i) is =
          let there : KnownOf side id next (Some i) = subst (KnownOf side id next) is k in
          record { ends = pulled_well s.decoding.decoder i there.ends; below = there.below }
  seen_known T e s (Cancel q) next sees_it k opens = by_stream s.incoming refl
    where
      by_stream : (at : Option Incoming) → s.incoming ≡ at
          → KnownOf side id next (unless_refused (if not (is_some at) then Some refusal.NotOpen else (if (unwrap_or at nothing_came).is_over || is_some (unwrap_or at nothing_came).fault then Some refusal.Ended else None)) s
          (with_seen s (given_up_once (unwrap_or at nothing_came) stream_fault.Canceled))).1.incoming
      by_stream None is = k
      by_stream (Some i) is = by_over i.is_over refl
        where
          there : KnownOf side id next (Some i)
          there = subst (KnownOf side id next) is k

          given : (b : Bool) → i.is_over ≡ false → KnownOf side id next (unless_refused (if b then Some refusal.Ended else None) s (with_seen s (given_up_once i stream_fault.Canceled))).1.incoming
          given true not_over = k
          given false not_over = record { ends = given_up_well i stream_fault.Canceled (λ over. let wrong : false ≡ true = sym not_over ∙ over in cc); below = there.below }

          by_over : (over : Bool) → i.is_over ≡ over → KnownOf side id next (unless_refused (if over || is_some i.fault then Some refusal.Ended else None) s (with_seen s (given_up_once i stream_fault.Canceled))).1.incoming
          by_over true over = k
          by_over false over = given (is_some i.fault) over
  seen_known T e s (SendHead q head) next sees_it k opens = by_stream s.incoming refl
    where
      by_stream : (at : Option Incoming) → s.incoming ≡ at → KnownOf side id next (with_told side s (head_fields head) at).incoming
      by_stream None is = k
      by_stream (Some i) is =
          let there : KnownOf side id next (Some i) = subst (KnownOf side id next) is k in
          record { ends = λ over. let well = there.ends over in record { ended = well.ended; no_fault = well.no_fault; over = well.over }; below = there.below }
  seen_known T e s (SendBody q bytes) next sees_it k opens = k
  seen_known T e s (SendTrailer q head) next sees_it k opens = k
  seen_known T e s (Finish q) next sees_it k opens = k
  seen_known T e s (Reset q) next sees_it k opens = k
  seen_known T e s (Goaway n) next sees_it k opens = k
  seen_known T e s (Advance q count) next sees_it k opens = k
  seen_known T e s (TakeEnd q) next sees_it k opens = k
  seen_known T e s (Outgoing q) next sees_it k opens = k
  seen_known T e s Show next sees_it k opens = k

  -- over a list of calls
  known_after : (T : ℕ → Bool) (calls : List Call) (e : EndpointHistory) (s : Sight) → Before T id e s → e.side ≡ side → e.announced ≡ own → GoesOn T e calls → KnownOf side id e.next_id s.incoming
      → KnownOf side id (endpoint_after e calls).next_id (stream_at (endpoint_after e calls).incoming id)
  known_after T [] e s b is_side is_own goes k = subst (KnownOf side id e.next_id) (sym b.sight.incoming) k
  known_after T (c ∷ calls) e s b is_side is_own goes k =
      by_sight (each_step T id e s c b goes.0 goes.1) (λ t h known. known_after T calls (called e c).1 t (before_next T id e (called e c).1 s t b (same_setup e c).side goes.0 h) ((same_setup e c).side ∙ is_side) ((same_setup e c).announced ∙ is_own) goes.2 known)
    where
      further : KnownOf side id (called e c).1.next_id s.incoming
      further = record { ends = k.ends; below = λ client. below_more id e.next_id (called e c).1.next_id s.incoming (next_up e c) (k.below client) }

      opened_now : sees T id e c ≡ true → c ≡ OpenRequest → id < (called e c).1.next_id
      opened_now sees_it is = subst (λ x. sees T id e x ≡ true → id < (called e x).1.next_id) (sym is) (opens_here T id e) sees_it

      by_sight : StepIsSeen T id e (called e c).1 s c (called e c).0
          → ((t : Sight) → IsSight T id (called e c).1 t → KnownOf side id (called e c).1.next_id t.incoming → KnownOf side id (endpoint_after (called e c).1 calls).next_id (stream_at (endpoint_after (called e c).1 calls).incoming id))
          → KnownOf side id (endpoint_after (called e c).1 calls).next_id (stream_at (endpoint_after (called e c).1 calls).incoming id)
      by_sight step go = by_test (sees T id e c) refl
        where
          by_test : (x : Bool) → sees T id e c ≡ x → KnownOf side id (endpoint_after (called e c).1 calls).next_id (stream_at (endpoint_after (called e c).1 calls).incoming id)
          by_test false is = go s (step.other is) further
          by_test true is =
              let h : IsSight T id (called e c).1 (seen e.side e.announced id s c).1 = (step.seen_one is).1 in
              let at_side : IsSight T id (called e c).1 (seen side e.announced id s c).1 = subst (λ v. IsSight T id (called e c).1 (seen v e.announced id s c).1) is_side h in
              let there : IsSight T id (called e c).1 (seen side own id s c).1 = subst (λ v. IsSight T id (called e c).1 (seen side v id s c).1) is_own at_side in
              go (seen side own id s c).1 there (seen_known T e s c (called e c).1.next_id is further (opened_now is))

  pub known_from_new : (calls : List Call) → kind_of side id ≡ Request → FindsNoFault (new_endpoint side own) calls
      → KnownOf side id (endpoint_after (new_endpoint side own) calls).next_id (stream_at (endpoint_after (new_endpoint side own) calls).incoming id)
  known_from_new calls request goes =
      known_after (encoders_in side calls) calls (new_endpoint side own) (first_sight side own)
      (record { request = request; open_still = refl; peers = encoders_are_peers side calls; sight = record { incoming = refl; decoding = refl; fronts = λ q t. refl } }) refl refl
      (goes_from_new side own id calls request goes) (record { ends = tt; below = λ client. tt })
