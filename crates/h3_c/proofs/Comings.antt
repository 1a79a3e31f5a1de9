-- What comes at a reader is a step of two endpoints, whatever is seen of how much was taken.
use Rattle.std.proofs.Common.{arith, ◌≡◌, ◌≢◌, ◌≤◌, ℕ, Bool, true, false, if◌then◌else◌, List, [], ◌∷◌, ◌++◌, length, take, refl, sym, ap, subst, ◌∙◌, Option, Some, None, Result, Ok, Err}
use Rattle.std.specs.Prelude.{◌||◌, nat_lt}
use Rattle.std.proofs.lemmas.Grind.{common_steps}
use Rattle.h3_proto.specs.declared.stream.Side.{Side}
use Rattle.h3_proto.specs.declared.stream.Side.TheVariants.{Client, Server}
use Rattle.h3_connection.specs.Answers.{delivery_refused}
use Rattle.h3_connection.specs.Arrivals.{stream_of}
use Rattle.h3_connection.specs.Control.{Found}
use Rattle.h3_connection.specs.Delivering.{closed_by, closed_refusal, delivery_refusal, refusal_at, request_refusal, server_opened_refusal, taken}
use Rattle.h3_connection.specs.Endpoint.{EndpointHistory, Kind, bytes_waiting, kind_of}
use Rattle.h3_connection.specs.Endpoint.Kind.{Request, ServerOpened, OwnUnidirectional, PeerUnidirectional}
use Rattle.h3_connection.specs.Incoming.{Incoming}
use Rattle.h3_connection.specs.Keeping.{arrival_refusal, arrives, arrives_behind, read_arrival, refused_behind, unkept}
use Rattle.h3_connection.specs.OwnIds.{other}
use Rattle.h3_connection.specs.PartReading.{ReadsPart}
use Rattle.h3_connection.specs.ReceivingContracts.{IsTaken, KeepsBehind, Receives}
use Rattle.h3_connection.specs.Sending.{advance}
use Rattle.h3_connection.specs.Shown.{has_outgoing, is_finished, is_reset, waiting}
use Rattle.h3_connection.specs.State.{EndpointState, StandsFor}
use Rattle.h3_connection.specs.declared.arrival.Arrival.{Arrival}
use Rattle.h3_connection.specs.declared.arrival.Arrival.TheVariants.{BytesCame, EndCame, ResetCame}
use Rattle.h3_connection.specs.declared.event.DeliverError.{DeliverError}
use Rattle.h3_connection.specs.declared.event.DeliverError.TheVariants as deliver_error
use Rattle.h3_connection.specs.declared.event.Refusal.{Refusal}
use Rattle.h3_connection.specs.declared.event.Refusal.TheVariants as refusal
use Rattle.h3_world.specs.Delivering.{reset_code}
use Rattle.h3_world.specs.Ends.{Ends, answered, delivery, done, end_at, end_delivery, reset_delivery, was_offered, with_end}
use Rattle.h3_world.specs.Headline.{is_out_of_memory}
use Rattle.h3_world.specs.declared.event.Answer.{Answer}
use Rattle.h3_world.specs.declared.event.Answer.TheVariants as answer
use Rattle.h3_world.specs.declared.event.Event.{Event}
use Rattle.h3_world.specs.declared.event.Event.TheVariants as event
use Rattle.h3_memory.specs.Refused.{AnswerOf, EndsStep, Stores, handed_over}
use Rattle.h3_session.specs.Running.{answer_of, is_stored}
use Rattle.h3_c.proofs.QuietCalls.{stands_unchanged}
use Rattle.h3_c.proofs.ReadsGrow.{Reads, accepted, arrives_reads, reads_none, stored_reads}
use Rattle.h3_c.proofs.Views.{Keeps, View, seen}
use Rattle.h3_c.proofs.ViewsReading as reading

-- What a delivery did to its reader.
pub data Came (e : EndpointHistory) (a : Arrival) : Result Unit DeliverError → EndpointHistory → Type 0 where
  IsDone : (done : Unit {0}) → (arrives e a).0 ≡ None → Came e a (Ok done) (arrives e a).1
  IsRefused : (why : Refusal) → (arrives e a).0 ≡ Some why → Came e a (Err (deliver_error.Refused why)) (arrives e a).1
  LacksRoom : (back : List ℕ) → IsTaken e (stream_of a) → Came e a (Err (deliver_error.OutOfMemory back)) e
  IsKept : (after : EndpointHistory) → IsTaken e (stream_of a) → (kind_of e.side (stream_of a) ≡ Request → e.kept ≢ []) → ReadsPart (unkept e) (e.kept ++ a ∷ []) after → after.kept ≢ []
      → Came e a (Err deliver_error.Kept) after

pub record ComesTo (e : EndpointHistory) (a : Arrival) (result : Result Unit DeliverError) (s : EndpointState) : Type 0 where
  pub after : EndpointHistory
  pub came : Came e a result after
  pub stands : StandsFor s after
  pub reads : Reads e after

pub comes : (r s : EndpointState) (a : Arrival) (result : Result Unit DeliverError) (e : EndpointHistory) → StandsFor r e → Receives r s a result → KeepsBehind r (stream_of a) result → ComesTo e a result s
comes r s a (Ok done) e stands x behind =
    let is = x.done e stands refl in record { after = (arrives e a).1; came = IsDone done (sym is.0); stands = is.1; reads = arrives_reads e a stands.reached }
comes r s a (Err (deliver_error.Refused why)) e stands x behind =
    let is = x.done e stands refl in record { after = (arrives e a).1; came = IsRefused why (sym is.0); stands = is.1; reads = arrives_reads e a stands.reached }
comes r s a (Err (deliver_error.OutOfMemory back)) e stands x behind =
    record { after = e; came = LacksRoom back (x.refused e back stands refl); stands = stands_unchanged r s e (x.back back refl).1 stands; reads = reads_none e }
comes r s a (Err deliver_error.Kept) e stands x behind =
    let is = x.kept e stands refl in
    let kept = is.1 in
    record {
      after = kept.after;
      came = IsKept kept.after is.0
          (λ kind. subst (λ l. l ≢ []) stands.kept (behind (subst (λ k. kind_of k (stream_of a) ≡ Request) (sym stands.side) kind) refl)) kept.read
          (subst (λ l. l ≢ []) kept.stands.kept (x.some_kept refl));
      stands = kept.stands;
      reads = stored_reads e kept.after a stands.reached (accepted e (stream_of a) is.0.accepted) kept.read;
    }

-- So it is to a schedule.
module _ (T : View) (K : Keeps T) where
  pub came_seen : (e : EndpointHistory) (a : Arrival) (result : Result Unit DeliverError) (after : EndpointHistory) → Came e a result after → Came (seen T e) a result (seen T after)
  came_seen e a _ _ (IsDone done none) =
      let same = reading.arrives_seen T K.new e a in subst (λ x. Came (seen T e) a (Ok done) x) (ap (λ x. x.1) same) (IsDone done (ap (λ x. x.0) same ∙ none))
  came_seen e a _ _ (IsRefused why some) =
      let same = reading.arrives_seen T K.new e a in subst (λ x. Came (seen T e) a (Err (deliver_error.Refused why)) x) (ap (λ x. x.1) same) (IsRefused why (ap (λ x. x.0) same ∙ some))
  came_seen e a _ _ (LacksRoom back t) = LacksRoom back (record { open_still = t.open_still; accepted = t.accepted })
  came_seen e a _ _ (IsKept after t behind part some) = IsKept (seen T after) (record { open_still = t.open_still; accepted = t.accepted }) behind (reading.reads_part T K.new part) some

-- No delivery is refused as one that memory lacks for.
abbrev IsPlain : Refusal → Type 0
IsPlain r = is_out_of_memory (answer.Refused r) ≡ false

plain_so : (known r : Refusal) → IsPlain known → Some known ≡ Some r → IsPlain r
plain_so known r plain is = subst IsPlain (same known r is) plain
  where
    same : (x y : Refusal) → Some x ≡ Some y → x ≡ y
    same x y is = cc

none_so : (r : Refusal) → None ≡ Some r → IsPlain r
none_so r is = absurd (let never : None ≡ Some r = is in cc)

plain_if : (b : Bool) (r : Refusal) → closed_refusal b ≡ Some r → IsPlain r
plain_if true r h = plain_so refusal.AfterEnd r refl h
plain_if false r h = none_so r h

plain_request : (side : Side) (i : Option Incoming) (r : Refusal) → request_refusal side i ≡ Some r → IsPlain r
plain_request Client None r h = plain_so refusal.NotOpen r refl h
plain_request Server None r h = none_so r h
plain_request Client (Some i) r h = plain_if (i.ended || i.was_reset) r h
plain_request Server (Some i) r h = plain_if (i.ended || i.was_reset) r h

plain_opened : (side : Side) (r : Refusal) → server_opened_refusal side ≡ Some r → IsPlain r
plain_opened Client r h = none_so r h
plain_opened Server r h = plain_so refusal.NotOpen r refl h

plain_at : (e : EndpointHistory) (id : ℕ) (k : Kind) (r : Refusal) → refusal_at e id k ≡ Some r → IsPlain r
plain_at e id Request r h = plain_request e.side _ r h
plain_at e id ServerOpened r h = plain_opened e.side r h
plain_at e id OwnUnidirectional r h = plain_so refusal.NotReceiving r refl h
plain_at e id PeerUnidirectional r h = plain_if _ r h

plain_behind : (b : Bool) (o : Option Refusal) (r : Refusal) → (o ≡ Some r → IsPlain r) → refused_behind b o ≡ Some r → IsPlain r
plain_behind b (Some x) r plain h = plain h
plain_behind true None r plain h = plain_so refusal.AfterEnd r refl h
plain_behind false None r plain h = none_so r h

plain_closed : (found : Found) (r : Refusal) → (closed_by found).0 ≡ Some r → IsPlain r
plain_closed (e, None) r h = none_so r h
plain_closed (e, Some code) r h = plain_so (refusal.Connection code) r refl h

plain_taken : (closed : Option ℕ) (o : Option Refusal) (e : EndpointHistory) (found : Found) (r : Refusal) → (o ≡ Some r → IsPlain r) → (taken closed o e found).0 ≡ Some r → IsPlain r
plain_taken (Some code) o e found r plain h = plain_so (refusal.Connection code) r refl h
plain_taken None (Some x) e found r plain h = plain h
plain_taken None None e found r plain h = plain_closed found r h

plainly_behind : (kept : List Arrival) (e : EndpointHistory) (a : Arrival) (r : Refusal) → (arrives_behind kept e a).0 ≡ Some r → IsPlain r
plainly_behind [] e a r h = plain_taken e.closed (delivery_refusal e (stream_of a)) e (read_arrival e a) r (plain_at e (stream_of a) (kind_of e.side (stream_of a)) r) h
plainly_behind (k ∷ kept) e a r h =
    plain_taken e.closed (arrival_refusal e (stream_of a)) e _ r (plain_behind _ (delivery_refusal e (stream_of a)) r (plain_at e (stream_of a) (kind_of e.side (stream_of a)) r)) h

pub plainly : (e : EndpointHistory) (a : Arrival) (r : Refusal) → (arrives e a).0 ≡ Some r → is_out_of_memory (answer.Refused r) ≡ false
plainly e a r h = plainly_behind e.kept e a r h

-- both ends
pub done_is : (ends : Ends) (side : Side) (success : Answer) (x : Option Refusal × EndpointHistory) → done ends side success x ≡ (answer_of success x.0, with_end ends side x.1)
done_is ends side success (None, e) = refl
done_is ends side success (Some r, e) = refl

same_end : (ends : Ends) (side : Side) → with_end ends side (end_at ends side) ≡ ends
same_end ends Client = refl
same_end ends Server = refl

not_fewer : (n m : ℕ) → m ≤ n → nat_lt n m ≡ false
not_fewer n m h = grind (arith, common_steps, h)

offered : (ends : Ends) (from : Side) (id count : ℕ) (x : Option Refusal × EndpointHistory) → x.0 ≡ None
    → was_offered ends from id count x ≡ (answer.Delivered count, with_end (with_end ends from (advance (end_at ends from) id count)) (other from) x.1)
offered ends from id count (None, e) none = refl
offered ends from id count (Some r, e) none = absurd (let never : Some r ≡ None = none in cc)

refused : (ends : Ends) (from : Side) (id count : ℕ) (x : Option Refusal × EndpointHistory) (why : Refusal) → x.0 ≡ Some why → was_offered ends from id count x ≡ (answer.Refused why, with_end ends (other from) x.1)
refused ends from id count (None, e) why some = absurd (let never : None ≡ Some why = some in cc)
refused ends from id count (Some r, e) why some = ap (λ x. was_offered ends from id count (x, e)) some

abbrev pub left_if : Bool → Ends → Side → ℕ → ℕ → Ends
left_if stored ends from id count = if stored then handed_over ends from id count else ends

-- an answer that tells of no refused memory
pub told_so : (ends new : Ends) (e : Event) (a : Answer) → is_out_of_memory a ≡ false → answered ends e ≡ (a, new) → EndsStep ends e a new
told_so ends new e a plain is = subst (λ b. AnswerOf b ends e a new) (sym plain) (sym (ap (λ x. x.0) is), sym (ap (λ x. x.1) is))

module _ (ends : Ends) (from : Side) (id : ℕ) where
  abbrev reader : EndpointHistory
  reader = end_at ends (other from)

  goes : (bytes : List ℕ) → has_outgoing (end_at ends from) id ≡ true → length bytes ≤ waiting (end_at ends from) id → take (length bytes) (bytes_waiting (end_at ends from) id) ≡ bytes
      → delivery ends from id (length bytes) ≡ was_offered ends from id (length bytes) (arrives reader (BytesCame id bytes))
  goes bytes has fits front =
      let enough = not_fewer (waiting (end_at ends from) id) (length bytes) fits in
      let is : delivery ends from id (length bytes) ≡ was_offered ends from id (length bytes) (arrives reader (BytesCame id (take (length bytes) (bytes_waiting (end_at ends from) id)))) = rw (has, enough) refl in
      is ∙ ap (λ l. was_offered ends from id (length bytes) (arrives reader (BytesCame id l))) front

  -- **Bytes.**
  pub bytes_step : (bytes : List ℕ) (result : Result Unit DeliverError) (after : EndpointHistory) → has_outgoing (end_at ends from) id ≡ true → length bytes ≤ waiting (end_at ends from) id
      → take (length bytes) (bytes_waiting (end_at ends from) id) ≡ bytes → Came reader (BytesCame id bytes) result after
      → EndsStep ends (event.Deliver from id (length bytes)) (answer_of (answer.Delivered (length bytes)) (delivery_refused result)) (with_end (left_if (is_stored result) ends from id (length bytes)) (other from) after)
  bytes_step bytes _ _ has fits front (IsDone done none) =
      told_so ends _ (event.Deliver from id (length bytes)) (answer.Delivered (length bytes)) refl (goes bytes has fits front ∙ offered ends from id (length bytes) (arrives reader (BytesCame id bytes)) none)
  bytes_step bytes _ _ has fits front (IsRefused why some) =
      told_so ends _ (event.Deliver from id (length bytes)) (answer.Refused why) (plainly reader (BytesCame id bytes) why some)
      (goes bytes has fits front ∙ refused ends from id (length bytes) (arrives reader (BytesCame id bytes)) why some)
  bytes_step bytes _ _ has fits front (LacksRoom back t) = same_end ends (other from)
  bytes_step bytes _ _ has fits front (IsKept after t behind part some) = (
    has,
    fits,
    subst (λ l. Stores ends (other from) (BytesCame id l) (handed_over ends from id (length bytes)) (with_end (handed_over ends from id (length bytes)) (other from) after)) (sym front)
        (record { taken = t; behind = behind; after = after; read = part; some = some; is = refl }),
  )

  -- The end or the reset.
  told_refused : (a : Arrival) (why : Refusal) → (arrives reader a).0 ≡ Some why → done ends (other from) answer.Done (arrives reader a) ≡ (answer.Refused why, with_end ends (other from) (arrives reader a).1)
  told_refused a why some = done_is ends (other from) answer.Done (arrives reader a) ∙ ap (λ r. (answer_of answer.Done r, with_end ends (other from) (arrives reader a).1)) some

  told_done : (a : Arrival) → (arrives reader a).0 ≡ None → done ends (other from) answer.Done (arrives reader a) ≡ (answer.Done, with_end ends (other from) (arrives reader a).1)
  told_done a none = done_is ends (other from) answer.Done (arrives reader a) ∙ ap (λ r. (answer_of answer.Done r, with_end ends (other from) (arrives reader a).1)) none

  pub end_step : (result : Result Unit DeliverError) (after : EndpointHistory) → has_outgoing (end_at ends from) id ≡ true → is_finished (end_at ends from) id ≡ true → waiting (end_at ends from) id ≡ 0
      → Came reader (EndCame id) result after → EndsStep ends (event.DeliverEnd from id) (answer_of answer.Done (delivery_refused result)) (with_end ends (other from) after)
  end_step _ _ has finished none (IsDone _ ok) =
      let is : end_delivery ends from id ≡ done ends (other from) answer.Done (arrives reader (EndCame id)) = rw (has, finished, none) refl in
      told_so ends _ (event.DeliverEnd from id) answer.Done refl (is ∙ told_done (EndCame id) ok)
  end_step _ _ has finished none (IsRefused why some) =
      let is : end_delivery ends from id ≡ done ends (other from) answer.Done (arrives reader (EndCame id)) = rw (has, finished, none) refl in
      told_so ends _ (event.DeliverEnd from id) (answer.Refused why) (plainly reader (EndCame id) why some) (is ∙ told_refused (EndCame id) why some)
  end_step _ _ has finished none (LacksRoom back t) = (finished, none, t, same_end ends (other from))
  end_step _ _ has finished none (IsKept after t behind part some) = (finished, none, record { taken = t; behind = behind; after = after; read = part; some = some; is = refl })

  pub reset_step : (result : Result Unit DeliverError) (after : EndpointHistory) → has_outgoing (end_at ends from) id ≡ true → is_reset (end_at ends from) id ≡ true
      → Came reader (ResetCame id reset_code) result after → EndsStep ends (event.DeliverReset from id) (answer_of answer.Done (delivery_refused result)) (with_end ends (other from) after)
  reset_step _ _ has was (IsDone _ ok) =
      let is : reset_delivery ends from id ≡ done ends (other from) answer.Done (arrives reader (ResetCame id reset_code)) = rw (has, was) refl in
      told_so ends _ (event.DeliverReset from id) answer.Done refl (is ∙ told_done (ResetCame id reset_code) ok)
  reset_step _ _ has was (IsRefused why some) =
      let is : reset_delivery ends from id ≡ done ends (other from) answer.Done (arrives reader (ResetCame id reset_code)) = rw (has, was) refl in
      told_so ends _ (event.DeliverReset from id) (answer.Refused why) (plainly reader (ResetCame id reset_code) why some) (is ∙ told_refused (ResetCame id reset_code) why some)
  reset_step _ _ has was (LacksRoom back t) = (was, t, same_end ends (other from))
  reset_step _ _ has was (IsKept after t behind part some) = (was, record { taken = t; behind = behind; after = after; read = part; some = some; is = refl })
