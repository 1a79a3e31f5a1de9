-- What is sent is answered alike whatever is seen of how much was taken.
use Rattle.std.proofs.Common.{◌≡◌, ◌+◌, ℕ, Bool, true, false, if◌then◌else◌, List, [], ◌∷◌, ◌++◌, length, refl, sym, ap, ◌∙◌, Option, Some, None}
use Rattle.std.specs.Prelude.{not, option_map}
use Rattle.h3_field.specs.Field.{Field}
use Rattle.h3_field.specs.ReadBack.{AreBytes}
use Rattle.h3_messages.specs.declared.content.Content.{Content}
use Rattle.h3_connection.specs.Delivering.{opened_at}
use Rattle.h3_connection.specs.Endpoint.{EndpointHistory, is_critical_id}
use Rattle.h3_connection.specs.Outgoing.{Outgoing as Out, OwnPart, is_sent_off, with_body, with_finish, with_reset, with_said, nothing_sent}
use Rattle.h3_connection.specs.Outgoing.OwnPart.{OwnHead, OwnInterim, OwnTrailer}
use Rattle.h3_connection.specs.Pulling.{is_interim}
use Rattle.h3_connection.specs.Remembering.{settings_known}
use Rattle.h3_connection.specs.Refusals.{Sender, SenderStream, refusal_of_body, refusal_of_end, refusal_of_head, refusal_of_trailer, refusal_to_stop}
use Rattle.h3_connection.specs.Sections.{written_section}
use Rattle.h3_connection.specs.Sending as sender
use Rattle.h3_connection.specs.Sending.{appended, asked, broken_head_at, content_of_own, counted, does, encoded, fields_cost, head_part, is_open, known_of, outgoing_at, saying_at, seen_at, sender_at, sent_bytes, unless_closed, with_outgoing}
use Rattle.h3_connection.specs.StreamSets.{Streams, stream_at}
use Rattle.h3_connection.specs.StrictConnection.{begins_none_after}
use Rattle.h3_connection.specs.StrictSending.{broken_trailer, early_trailer, passes_content}
use Rattle.h3_connection.specs.Lasts.{last_id}
use Rattle.h3_connection.specs.declared.event.Refusal.{Refusal}
use Rattle.h3_connection.specs.declared.event.Refusal.TheVariants as refusal
use Rattle.h3_messages.specs.Content.{may_end}
use Rattle.h3_header.specs.Reads.{head_of_fields}
use Rattle.h3_world.specs.EndLists.{after_fields, after_trailer_fields, fields_refusal, send_fields, send_trailer_fields, trailer_fields_refusal}
use Rattle.h3_world.specs.Lists.{unreadable}
use Rattle.h3_world.specs.Setup.{takes_any}
use Rattle.h3_c.proofs.Views.{IsSection, Keeps, View, at_seen, content_seen, open_seen, outgoing_seen, seen, sender_seen, set_seen, streams_seen, with_seen}
use Rattle.h3_c.proofs.ViewsReading as reading

module _ (T : View) (K : Keeps T) where
  abbrev so_done : Option Refusal × EndpointHistory → Option Refusal × EndpointHistory
  so_done x = reading.so_done T K.new x

  -- a call is refused alike, or does the same
  does_seen : (r : Option Refusal) (e new : EndpointHistory) → does r (seen T e) (seen T new) ≡ so_done (does r e new)
  does_seen None e new = refl
  does_seen (Some r) e new = refl

  done_so : (r s : Option Refusal) (e new other : EndpointHistory) → r ≡ s → new ≡ seen T other → does r (seen T e) new ≡ so_done (does s e other)
  done_so r s e new other same is = ap (λ x. does x (seen T e) new) same ∙ ap (λ x. does s (seen T e) x) is ∙ does_seen s e other

  pub open_request_seen : (e : EndpointHistory) → sender.open_request (seen T e) ≡ so_done (sender.open_request e)
  open_request_seen e =
      let new = record (opened_at e e.next_id None) { next_id = e.next_id + 4 } in
      done_so (sender.open_refusal e) (sender.open_refusal e) e (record (opened_at (seen T e) e.next_id None) { next_id = e.next_id + 4 }) new refl
      (ap (λ l. record (seen T new) { outgoing = l }) (set_seen e.outgoing T.out T.out e.next_id nothing_sent nothing_sent (K.new e.next_id) (λ i x differs. refl)))

  -- a stream that was written to
  changed : (e : EndpointHistory) (id : ℕ) (change : Out → Out) → ((o : Out) → change (T.out id o) ≡ T.out id (change o))
      → with_outgoing (seen T e) id (change (outgoing_at (seen T e) id)) ≡ seen T (with_outgoing e id (change (outgoing_at e id)))
  changed e id change alike =
      ap (λ o. with_outgoing (seen T e) id (change o)) (outgoing_seen T K e id) ∙ ap (λ o. with_outgoing (seen T e) id o) (alike (outgoing_at e id)) ∙ with_seen T K e id (change (outgoing_at e id))

  part_seen : (e : EndpointHistory) (id : ℕ) (part : OwnPart) → IsSection part → appended (seen T e) id part ≡ seen T (appended e id part)
  part_seen e id part section = changed e id (λ (o : Out). record o { parts = o.parts ++ part ∷ [] }) (λ o. K.part id part o section)

  is_head : (b : Bool) (section : List ℕ) → IsSection (if b then OwnInterim section else OwnHead section)
  is_head true section = tt
  is_head false section = tt

  whole_sender : (e : EndpointHistory) (id : ℕ) → sender_at (seen T e) id ≡ sender_at e id
  whole_sender e id =
      ap (λ (s : SenderStream). let at : Sender = record { side = e.side; stream = s; settings = settings_known e.announced e.peer.settings; going = begins_none_after e.announced e.side (last_id e.peer.goaways) } in at) (sender_seen T K e id)

  -- a head or trailer that was written
  saying_mapped : (streams : Streams Out) (id : ℕ) (said : Content) (o : Option Out) → saying_at (streams_seen streams T.out) id said (option_map (T.out id) o) ≡ streams_seen (saying_at streams id said o) T.out
  saying_mapped streams id said None = refl
  saying_mapped streams id said (Some o) = set_seen streams T.out T.out id (with_said o said) (with_said (T.out id o) said) (sym_said o) (λ i x differs. refl)
    where
      sym_said : (o : Out) → T.out id (with_said o said) ≡ with_said (T.out id o) said
      sym_said o = sym (K.said id said o)

  streams_if : (b : Bool) (one two : Streams Out) → (if b then streams_seen one T.out else streams_seen two T.out) ≡ streams_seen (if b then one else two) T.out
  streams_if true one two = refl
  streams_if false one two = refl

  asked_seen : (e : EndpointHistory) (id : ℕ) (fields : List Field) → asked (seen T e) id fields ≡ seen T (asked e id fields)
  asked_seen e id fields =
      let strict = e.announced.choices.strict_messages in
      let said = content_of_own e.side (known_of (stream_at e.incoming id)) fields in
      let saying : saying_at (streams_seen e.outgoing T.out) id said (stream_at (streams_seen e.outgoing T.out) id) ≡ streams_seen (saying_at e.outgoing id said (stream_at e.outgoing id)) T.out =
      ap (λ o. saying_at (streams_seen e.outgoing T.out) id said o) (at_seen e.outgoing T.out id) ∙ saying_mapped e.outgoing id said (stream_at e.outgoing id) in
      let streams = ap (λ l. if strict then l else streams_seen e.outgoing T.out) saying ∙ streams_if strict (saying_at e.outgoing id said (stream_at e.outgoing id)) e.outgoing in
      ap (λ l. record (seen T (asked e id fields)) { outgoing = l }) streams

  pub fields_sent_seen : (e : EndpointHistory) (id : ℕ) (fields : List Field) → send_fields (seen T e) id fields ≡ so_done (send_fields e id fields)
  fields_sent_seen e id fields =
      let section = head_part (head_of_fields fields) (written_section e.encoder id fields) in
      let sent = encoded e id fields in
      done_so (fields_refusal (seen T e) id fields) (fields_refusal e id fields) e (after_fields (seen T e) id fields) (after_fields e id fields)
      (ap (λ s. unless_closed e (refusal_of_head s (unreadable (takes_any e.announced) fields) (broken_head_at e id fields) (head_of_fields fields) fields)) (whole_sender e id))
      (ap (λ x. asked (counted x (fields_cost fields)) id fields) (part_seen sent id section (is_head (is_interim (head_of_fields fields).status) (written_section e.encoder id fields))) ∙ asked_seen (counted (appended sent id section) (fields_cost fields)) id fields)

  pub trailer_sent_seen : (e : EndpointHistory) (id : ℕ) (fields : List Field) → send_trailer_fields (seen T e) id fields ≡ so_done (send_trailer_fields e id fields)
  trailer_sent_seen e id fields =
      let section = OwnTrailer (written_section e.encoder id fields) in
      let sent = encoded e id fields in
      done_so (trailer_fields_refusal (seen T e) id fields) (trailer_fields_refusal e id fields) e (after_trailer_fields (seen T e) id fields) (after_trailer_fields e id fields)
      (ap (λ s. unless_closed e (refusal_of_trailer s (unreadable (takes_any e.announced) fields) (early_trailer (outgoing_at (seen T e) id).content) (broken_trailer e.announced fields) (head_of_fields fields) fields)) (whole_sender e id)
      ∙ ap (λ c. unless_closed e (refusal_of_trailer (sender_at e id) (unreadable (takes_any e.announced) fields) (early_trailer c) (broken_trailer e.announced fields) (head_of_fields fields) fields)) (content_seen T K e id))
      (ap (λ x. counted x (fields_cost fields)) (part_seen sent id section tt))

  sent_bytes_seen : (e : EndpointHistory) (id : ℕ) (bytes : List ℕ) → AreBytes bytes → sent_bytes (seen T e) id bytes ≡ seen T (sent_bytes e id bytes)
  sent_bytes_seen e id [] all = refl
  sent_bytes_seen e id (byte ∷ bytes) all = changed e id (λ o. with_body o (byte ∷ bytes)) (λ o. K.body id (byte ∷ bytes) o all)

  pub body_refused_seen : (e : EndpointHistory) (id size : ℕ) → sender.body_refusal (seen T e) id size ≡ sender.body_refusal e id size
  body_refused_seen e id size =
      ap (λ s. unless_closed e (refusal_of_body s (passes_content (outgoing_at (seen T e) id).content size))) (sender_seen T K e id)
      ∙ ap (λ c. unless_closed e (refusal_of_body (seen_at e id) (passes_content c size))) (content_seen T K e id)

  pub body_sent_seen : (e : EndpointHistory) (id : ℕ) (bytes : List ℕ) → AreBytes bytes → sender.send_body (seen T e) id bytes ≡ so_done (sender.send_body e id bytes)
  body_sent_seen e id bytes all =
      done_so (sender.body_refusal (seen T e) id (length bytes)) (sender.body_refusal e id (length bytes)) e _ (counted (sent_bytes e id bytes) (length bytes)) (body_refused_seen e id (length bytes))
      (ap (λ x. counted x (length bytes)) (sent_bytes_seen e id bytes all))

  pub finish_seen : (e : EndpointHistory) (id : ℕ) → sender.finish (seen T e) id ≡ so_done (sender.finish e id)
  finish_seen e id =
      done_so (sender.finish_refusal (seen T e) id) (sender.finish_refusal e id) e _ (with_outgoing e id (with_finish (outgoing_at e id)))
      (ap (λ s. unless_closed e (refusal_of_end s (not (may_end (outgoing_at (seen T e) id).content)))) (sender_seen T K e id)
      ∙ ap (λ c. unless_closed e (refusal_of_end (seen_at e id) (not (may_end c)))) (content_seen T K e id))
      (changed e id with_finish (λ o. K.finish id o))

  -- A reset is answered alike where as much is sent off.
  pub reset_call_seen : (e : EndpointHistory) (id : ℕ) → sender.reset_refusal (seen T e) id ≡ sender.reset_refusal e id → sender.reset (seen T e) id ≡ so_done (sender.reset e id)
  reset_call_seen e id same =
      done_so (sender.reset_refusal (seen T e) id) (sender.reset_refusal e id) e _ (with_outgoing e id (with_reset (outgoing_at e id))) same (changed e id with_reset (λ o. K.with_reset id o))

  pub stop_seen : (e : EndpointHistory) (id : ℕ) → sender.reset_refusal (seen T e) id ≡ unless_closed e (refusal_to_stop (is_critical_id e id) (is_open e id) (is_sent_off (T.out id (outgoing_at e id))))
  stop_seen e id =
      ap (λ b. unless_closed e (refusal_to_stop (is_critical_id e id) b (is_sent_off (outgoing_at (seen T e) id)))) (open_seen T K e id)
      ∙ ap (λ o. unless_closed e (refusal_to_stop (is_critical_id e id) (is_open e id) (is_sent_off o))) (outgoing_seen T K e id)

  pub sent_off_seen : (e : EndpointHistory) (id : ℕ) → is_sent_off (T.out id (outgoing_at e id)) ≡ is_sent_off (outgoing_at e id) → sender.reset_refusal (seen T e) id ≡ sender.reset_refusal e id
  sent_off_seen e id same = stop_seen e id ∙ ap (λ b. unless_closed e (refusal_to_stop (is_critical_id e id) (is_open e id) b)) same

  pub cancel_seen : (e : EndpointHistory) (id : ℕ) → sender.cancel (seen T e) id ≡ so_done (sender.cancel e id)
  cancel_seen e id = does_seen (sender.cancel_refusal e id) e _

  pub goaway_seen : (e : EndpointHistory) (id : ℕ) → sender.goaway (seen T e) id ≡ so_done (sender.goaway e id)
  goaway_seen e id = does_seen (sender.goaway_refusal e id) e _
