-- A call of an endpoint that got what is kept, beside that of the one behind: a new stream, a stream given up, and the calls that leave what comes alone.
use Rattle.std.proofs.Common.{◌≡◌, ℕ, ◌+◌, false, not, ◌||◌, List, [], ◌∷◌, length, refl, sym, ap, ◌∙◌, subst, arith, Option, Some, None}
use Rattle.std.specs.Prelude.{map, is_some, unwrap_or}
use Rattle.h3_field.specs.Field.{Field}
use Rattle.h3_header.specs.Head.{Head, head_fields}
use Rattle.h3_header.specs.Reads.{head_of_fields}
use Rattle.h3_proto.specs.declared.stream.Side.{Side}
use Rattle.h3_connection.specs.declared.arrival.Arrival.{Arrival}
use Rattle.h3_connection.specs.Delivering.{opened_at, with_incoming, give_up, given_up_by, cancellation}
use Rattle.h3_connection.specs.Endpoint.{EndpointHistory, replied, is_critical_id}
use Rattle.h3_connection.specs.Incoming.{Incoming, nothing_came}
use Rattle.h3_connection.specs.Outgoing.{nothing_sent}
use Rattle.h3_connection.specs.PartReading.{Resumes}
use Rattle.h3_connection.specs.Sections.{written_section}
use Rattle.h3_connection.specs.Refusals.{first_of, refusal_of_head, refusal_of_trailer}
use Rattle.h3_connection.specs.Sending.{does, closed_or, unless_closed, sender_at, outgoing_at, body_refusal, appended, asked, counted, encoded, fields_cost, head_part, sent_bytes, open_refusal, finish_refusal, goaway_refusal, open_request, send_head, send_body, send_trailer, finish, goaway, cancel, broken_head_at}
use Rattle.h3_connection.specs.Shown.{waiting_heads}
use Rattle.h3_connection.specs.StreamSets.{HaveDistinctIds, Streams, stream_at, set_stream}
use Rattle.h3_connection.specs.StreamSetLaws.{set-distinct}
use Rattle.h3_connection.specs.StrictSending.{broken_protocol, broken_trailer, early_trailer}
use Rattle.h3_connection.specs.declared.event.Malformation.{Malformation}
use Rattle.h3_world.specs.EndLists.{send_fields, send_trailer_fields}
use Rattle.h3_world.specs.Lists.{unreadable}
use Rattle.h3_world.specs.Setup.{takes_any}
use Rattle.h3_connection.specs.declared.event.Refusal.{Refusal}
use Rattle.h3_connection.specs.declared.event.Refusal.TheVariants as refusal
use Rattle.h3_connection.specs.declared.event.StreamFault.{StreamFault}
use Rattle.h3_connection.specs.declared.event.StreamFault.TheVariants.{Canceled}
use Rattle.h3_memory.specs.Kept.{Delivery}
use Rattle.h3_memory.specs.Keeping.{Held, EachResumes, ahead, bytes_in, handed_stream}
use Rattle.h3_memory.proofs.Ahead.{further_taken, set_mapped, body_ahead}
use Rattle.h3_memory.proofs.AheadPulls.{ResumesAt, resumes_itself, at_resumed, set_resumed, waits_same}
use Rattle.h3_memory.proofs.AheadSending.{asks_nothing, head_ahead, head_as, trailer_ahead, trailer_as, finish_ahead, goaway_ahead}

-- The endpoint ahead answers as the one behind, and stands ahead of what that one is then.
pub record CallAhead (mine : List Delivery) (held : Held) (kept : List Arrival) (side : Side) (behind : EndpointHistory) (x z : Option Refusal × EndpointHistory) : Type 0 where
  pub incoming : Streams Incoming
  pub is : z ≡ (x.0, ahead x.1 mine held incoming kept)
  pub peer : x.1.peer ≡ behind.peer
  pub resumes : EachResumes side x.1.announced x.1.incoming incoming
  pub distinct : HaveDistinctIds behind.outgoing → HaveDistinctIds x.1.outgoing

-- What comes is left alone.
record LeavesComing (e new : EndpointHistory) : Type 0 where
  announced : new.announced ≡ e.announced
  incoming : new.incoming ≡ e.incoming
  peer : new.peer ≡ e.peer
  distinct : HaveDistinctIds e.outgoing → HaveDistinctIds new.outgoing

leaves_unless : (r : Option Refusal) (e new : EndpointHistory) → LeavesComing e new → LeavesComing e (does r e new).1
leaves_unless (Some x) e new h = record { announced = refl; incoming = refl; peer = refl; distinct = λ d. d }
leaves_unless None e new h = h

module _ (mine : List Delivery) (held : Held) (kept : List Arrival) (side : Side) (behind : EndpointHistory) (incoming : Streams Incoming) (resumes : EachResumes side behind.announced behind.incoming incoming) where
  abbrev f : EndpointHistory
  f = ahead behind mine held incoming kept

  abbrev Alike : Option Refusal × EndpointHistory → Option Refusal × EndpointHistory → Type 0
  Alike x z = CallAhead mine held kept side behind x z

  leaving : (x z : Option Refusal × EndpointHistory) → z ≡ (x.0, ahead x.1 mine held incoming kept) → LeavesComing behind x.1 → CallAhead mine held kept side behind x z
  leaving x z is h =
      record {
        incoming = incoming;
        is = is;
        peer = h.peer;
        distinct = h.distinct;
        resumes = subst (λ l. EachResumes side x.1.announced l incoming) (sym h.incoming) (subst (λ a. EachResumes side a behind.incoming incoming) (sym h.announced) resumes);
      }

  head_as_alike : behind.announced.choices.strict_messages ≡ false → (id : ℕ) (told : Option Malformation) (head : Head) (fields : List Field) → Alike (head_as behind id told head fields) (head_as (ahead behind mine held incoming kept) id told head fields)
  head_as_alike plain id told head fields =
      leaving (head_as behind id told head fields) (head_as f id told head fields) (head_ahead mine held incoming kept behind plain id told head fields)
      (leaves_unless (unless_closed behind (refusal_of_head (sender_at behind id) told (broken_head_at behind id fields) head fields)) behind (asked sent id fields)
      (record {
        announced = refl;
        incoming = ap (λ (e : EndpointHistory). e.incoming) (asks_nothing sent id fields plain);
        peer = refl;
        distinct = λ d. subst HaveDistinctIds (sym (ap (λ (e : EndpointHistory). e.outgoing) (asks_nothing sent id fields plain))) (set-distinct behind.outgoing id _ d);
      }))
    where
      sent : EndpointHistory
      sent = counted (appended (encoded behind id fields) id (head_part head (written_section behind.encoder id fields))) (fields_cost fields)

  trailer_as_alike : (id : ℕ) (told : Option Malformation) (head : Head) (fields : List Field) → Alike (trailer_as behind id told head fields) (trailer_as (ahead behind mine held incoming kept) id told head fields)
  trailer_as_alike id told head fields =
      leaving (trailer_as behind id told head fields) (trailer_as f id told head fields) (trailer_ahead mine held incoming kept behind id told head fields)
      (leaves_unless (unless_closed behind (refusal_of_trailer (sender_at behind id) told (early_trailer (outgoing_at behind id).content) (broken_trailer behind.announced fields) head fields)) behind _
      (record { announced = refl; incoming = refl; peer = refl; distinct = set-distinct behind.outgoing id _ }))

  pub head_alike : behind.announced.choices.strict_messages ≡ false → (id : ℕ) (head : Head) → Alike (send_head behind id head) (send_head (ahead behind mine held incoming kept) id head)
  head_alike plain id head = head_as_alike plain id (broken_protocol behind.announced head) head (head_fields head)

  pub fields_alike : behind.announced.choices.strict_messages ≡ false → (id : ℕ) (fields : List Field) → Alike (send_fields behind id fields) (send_fields (ahead behind mine held incoming kept) id fields)
  fields_alike plain id fields = head_as_alike plain id (unreadable (takes_any behind.announced) fields) (head_of_fields fields) fields

  pub trailer_alike : (id : ℕ) (head : Head) → Alike (send_trailer behind id head) (send_trailer (ahead behind mine held incoming kept) id head)
  trailer_alike id head = trailer_as_alike id (broken_protocol behind.announced head) head (head_fields head)

  pub trailer_fields_alike : (id : ℕ) (fields : List Field) → Alike (send_trailer_fields behind id fields) (send_trailer_fields (ahead behind mine held incoming kept) id fields)
  trailer_fields_alike id fields = trailer_as_alike id (unreadable (takes_any behind.announced) fields) (head_of_fields fields) fields

  pub body_alike : (id : ℕ) (bytes : List ℕ) → Alike (send_body behind id bytes) (send_body (ahead behind mine held incoming kept) id bytes)
  body_alike id bytes =
      leaving (send_body behind id bytes) (send_body f id bytes) (body_ahead mine held incoming kept behind id bytes)
      (leaves_unless (body_refusal behind id (length bytes)) behind (counted (sent_bytes behind id bytes) (length bytes)) (by_bytes bytes (length bytes)))
    where
      by_bytes : (bytes : List ℕ) (n : ℕ) → LeavesComing behind (counted (sent_bytes behind id bytes) n)
      by_bytes [] n = record { announced = refl; incoming = refl; peer = refl; distinct = λ d. d }
      by_bytes (byte ∷ more) n = record { announced = refl; incoming = refl; peer = refl; distinct = set-distinct behind.outgoing id _ }

  pub finish_alike : (id : ℕ) → Alike (finish behind id) (finish (ahead behind mine held incoming kept) id)
  finish_alike id =
      leaving (finish behind id) (finish f id) (finish_ahead mine held incoming kept behind id)
      (leaves_unless (finish_refusal behind id) behind _ (record { announced = refl; incoming = refl; peer = refl; distinct = set-distinct behind.outgoing id _ }))

  pub goaway_alike : (id : ℕ) → Alike (goaway behind id) (goaway (ahead behind mine held incoming kept) id)
  goaway_alike id =
      leaving (goaway behind id) (goaway f id) (goaway_ahead mine held incoming kept behind id)
      (leaves_unless (goaway_refusal behind id) behind _ (record { announced = refl; incoming = refl; peer = refl; distinct = λ d. d }))

  -- **A new stream.** Nothing that is kept came on it.
  pub open_alike : (open_refusal behind ≡ None → bytes_in behind.next_id mine ≡ 0) → Alike (open_request behind) (open_request (ahead behind mine held incoming kept))
  open_alike none = by_refusal (open_refusal behind) refl
    where
      id : ℕ
      id = behind.next_id

      outgoing : bytes_in id mine ≡ 0 → set_stream (map (handed_stream mine) behind.outgoing) id nothing_sent ≡ map (handed_stream mine) (set_stream behind.outgoing id nothing_sent)
      outgoing e =
          let none_taken : 0 + bytes_in id mine ≡ 0 = omega (arith, e) in
          let fresh : further_taken mine id nothing_sent ≡ nothing_sent = ap (λ n. record nothing_sent { taken = n }) none_taken in
          ap (set_stream (map (handed_stream mine) behind.outgoing) id) (sym fresh) ∙ set_mapped mine behind.outgoing id nothing_sent

      by_refusal : (r : Option Refusal) → open_refusal behind ≡ r
          → Alike (does r behind (record (opened_at behind id None) { next_id = id + 4 })) (does r f (record (opened_at f id None) { next_id = id + 4 }))
      by_refusal (Some x) e = record { incoming = incoming; is = refl; peer = refl; resumes = resumes; distinct = λ d. d }
      by_refusal None e =
          record {
            incoming = set_stream incoming id nothing_came;
            is = ap (λ l. (None, record f { incoming = set_stream incoming id nothing_came; outgoing = l; next_id = id + 4 })) (outgoing (none e));
            peer = refl;
            resumes = set_resumed side behind.announced behind.incoming incoming id nothing_came nothing_came resumes (resumes_itself side behind.announced id nothing_came);
            distinct = set-distinct behind.outgoing id nothing_sent;
          }

  -- **A stream given up.** What is left of it is thrown away, so it is the same then.
  pub cancel_alike : (id : ℕ) → Alike (cancel behind id) (cancel (ahead behind mine held incoming kept) id)
  cancel_alike id = by_stream (stream_at behind.incoming id) (stream_at incoming id) (at_resumed side behind.announced behind.incoming incoming id resumes)
    where
      refused : EndpointHistory → Option Incoming → Option Refusal
      refused e o =
          closed_or e.closed (first_of ((is_critical_id e id, refusal.Critical) ∷ (not (is_some o), refusal.NotOpen) ∷ ((unwrap_or o nothing_came).is_over || is_some (unwrap_or o nothing_came).fault, refusal.Ended) ∷ []))

      given_up : (r : Option Refusal) (i : Incoming) (j : Incoming) → Resumes side behind.announced id i j → j.fault ≡ i.fault → Alike (does r behind (give_up behind id i Canceled)) (does r f (give_up f id j Canceled))
      given_up (Some x) i j h same = record { incoming = incoming; is = refl; peer = refl; resumes = resumes; distinct = λ d. d }
      given_up None i j h same =
          subst (λ o. Alike (None, replied (with_incoming behind id (given_up_by i Canceled i.fault)) (cancellation id i.fault)) (None, replied (with_incoming f id (given_up_by j Canceled o)) (cancellation id o))) (sym same) (by_fault i.fault)
        where
          alike : (o : Option StreamFault) → Resumes side behind.announced id (given_up_by i Canceled o) (given_up_by j Canceled o)
          alike (Some first) = h
          alike None =
              subst (Resumes side behind.announced id (given_up_by i Canceled None)) (sym (ap (λ x. given_up_by x Canceled None) h.same)) (resumes_itself side behind.announced id (given_up_by i Canceled None))

          by_fault : (o : Option StreamFault)
              → Alike (None, replied (with_incoming behind id (given_up_by i Canceled o)) (cancellation id o)) (None, replied (with_incoming f id (given_up_by j Canceled o)) (cancellation id o))
          by_fault o =
              record {
                incoming = set_stream incoming id (given_up_by j Canceled o);
                is = refl;
                peer = refl;
                resumes = set_resumed side behind.announced behind.incoming incoming id (given_up_by i Canceled o) (given_up_by j Canceled o) resumes (alike o);
                distinct = λ d. d;
              }

      by_stream : (o n : Option Incoming) → ResumesAt side behind.announced id o n
          → Alike (does (refused behind o) behind (give_up behind id (unwrap_or o nothing_came) Canceled)) (does (refused f n) f (give_up f id (unwrap_or n nothing_came) Canceled))
      by_stream None None h = given_up (refused behind None) nothing_came nothing_came (resumes_itself side behind.announced id nothing_came) refl
      by_stream None (Some new) h = absurd h
      by_stream (Some old) None h = absurd h
      by_stream (Some old) (Some new) h =
          let over : new.is_over ≡ old.is_over = ap (λ (x : Incoming). x.is_over) h.same in
          let fault : new.fault ≡ old.fault = ap (λ (x : Incoming). x.fault) h.same in
          let same : refused f (Some new) ≡ refused behind (Some old) =
          ap (λ b. closed_or behind.closed (first_of ((is_critical_id behind id, refusal.Critical) ∷ (false, refusal.NotOpen) ∷ (b || is_some new.fault, refusal.Ended) ∷ []))) over
          ∙ ap (λ o. closed_or behind.closed (first_of ((is_critical_id behind id, refusal.Critical) ∷ (false, refusal.NotOpen) ∷ (old.is_over || is_some o, refusal.Ended) ∷ []))) fault in
          subst (λ r. Alike (does (refused behind (Some old)) behind (give_up behind id old Canceled)) (does r f (give_up f id new Canceled))) (sym same) (given_up (refused behind (Some old)) old new h fault)

  -- as many heads wait
  pub waits_alike : waiting_heads (ahead behind mine held incoming kept) ≡ waiting_heads behind
  waits_alike = waits_same side behind.announced behind.decoding.decoder behind.incoming incoming resumes
