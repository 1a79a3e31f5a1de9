-- Each call of a sender, and a cancellation, beside the same without strict messages.
use Rattle.std.proofs.Common.{◌≡◌, ℕ, ◌+◌, Bool, true, false, if◌then◌else◌, List, [], ◌∷◌, ◌++◌, length, refl, ap, sym, ◌∙◌, subst, Option, Some, None, inl, inr}
use Rattle.std.specs.Prelude.{not, ◌||◌, ◌-◌, ◌^◌, is_some, min, option_map, unwrap_or}
use Rattle.h3_field.specs.Field.{Field, section_size}
use Rattle.h3_header.specs.Head.{Head, head_fields, has_pseudo}
use Rattle.h3_messages.specs.Content.{may_end}
use Rattle.h3_messages.specs.OwnMessages.{violation_of_own_trailer}
use Rattle.h3_messages.specs.declared.content.Content.{Content}
use Rattle.h3_messages.specs.declared.content.Content.TheVariants.{Unsaid}
use Rattle.h3_connection.specs.Lasts.{last_id}
use Rattle.h3_connection.specs.Remembering.{settings_known}
use Rattle.h3_connection.specs.OwnIds.{other}
use Rattle.h3_connection.specs.Pulling.{is_for}
use Rattle.h3_connection.specs.Delivering.{incoming_at, opened_at, given_up_by, give_up}
use Rattle.h3_connection.specs.Endpoint.{EndpointHistory, is_critical_id}
use Rattle.h3_connection.specs.FirstAbove.{first_above}
use Rattle.h3_connection.specs.Incoming.{Incoming, nothing_came, having_told}
use Rattle.h3_connection.specs.Outgoing.{Outgoing, OwnPart, nothing_sent, takes_head, takes_body, takes_end, is_sent_off, with_body, with_finish, with_reset, with_said}
use Rattle.h3_connection.specs.Outgoing.OwnPart.{OwnTrailer}
use Rattle.h3_connection.specs.Sections.{written_section}
use Rattle.h3_connection.specs.Refusals.{first_of, is_too_large, unless_going}
use Rattle.h3_connection.specs.Sending.{closed_or, open_refusal, open_request, body_refusal, finish_refusal, reset_refusal, goaway_refusal, goaway, cancel_refusal, cancel, send_head, send_body, send_trailer, finish, reset, sent_bytes, counted, encoded, appended, head_part, fields_cost, outgoing_at, asked, content_of_own, known_of, saying_at, advance_at, advance, does, broken_head_at, telling_at, turned}
use Rattle.h3_connection.specs.StreamSets.{Streams, stream_at, set_stream}
use Rattle.h3_connection.specs.StrictConnection.{begins_none_after}
use Rattle.h3_connection.specs.StrictMessages.{malformation_by}
use Rattle.h3_connection.specs.StrictSending.{broken_protocol, broken_trailer, early_trailer, passes_content, unless_malformed, violation_of_own_head}
use Rattle.h3_connection.specs.declared.event.Malformation.{Malformation}
use Rattle.h3_connection.specs.declared.event.Malformation.TheVariants as malformation
use Rattle.h3_connection.specs.declared.event.Refusal.{Refusal}
use Rattle.h3_connection.specs.declared.event.Refusal.TheVariants as refusal
use Rattle.h3_connection.specs.declared.event.StreamFault.{StreamFault}
use Rattle.h3_connection.specs.declared.order.SendOrder.{SendOrder}
use Rattle.h3_connection.specs.declared.event.StreamFault.TheVariants as stream_fault
use Rattle.h3_header.specs.Reads.{head_of_fields}
use Rattle.h3_world.specs.EndLists.{after_trailer_fields, send_fields, send_trailer_fields}
use Rattle.h3_world.specs.Lists.{unreadable}
use Rattle.h3_world.specs.Setup.{takes_any}
use Rattle.h3_strict.proofs.SentLaws.{head_judged, trailer_judged}
use Rattle.h3_proto.specs.declared.stream.Side.{Side}
use Rattle.h3_proto.specs.declared.stream.Side.TheVariants.{Client, Server}
use Rattle.h3_connection.specs.declared.setup.Announced.{Announced}
use Rattle.h3_strict.specs.Plainly.{each_stream, plain, plain_incoming, plain_outgoing, plainly}
use Rattle.h3_strict.specs.PlainAlike.{Agrees, RulesPlainly, SameUnless}
use Rattle.h3_strict.specs.NarrowLaws.{list_narrows, protocol_narrows}
use Rattle.h3_strict.proofs.PlainCalls.{AcceptsOrLarge, CallsPlainly, behind, if_broken, unless_broken, if_open, does_plainly, reads_own, same_behind, same_open, same_own}
use Rattle.h3_strict.proofs.PlainStreams.{above_each, at_each, set_each, set_alike, in_at, out_at}

-- one sender changes
sets_out : (e : EndpointHistory) (id : ℕ) (g : Outgoing → Outgoing) → ((o : Outgoing) → plain_outgoing (g o) ≡ g (plain_outgoing o))
    → set_stream (plainly e).outgoing id (g (outgoing_at (plainly e) id)) ≡ each_stream plain_outgoing (set_stream e.outgoing id (g (outgoing_at e id)))
sets_out e id g same =
    ap (λ o. set_stream (plainly e).outgoing id (g o)) (out_at e id) ∙ ap (λ o. set_stream (plainly e).outgoing id o) (sym (same (outgoing_at e id)))
    ∙ set_each plain_outgoing e.outgoing id (g (outgoing_at e id))

with_out : (e f : EndpointHistory) (id : ℕ) (g : Outgoing → Outgoing) → ((o : Outgoing) → plain_outgoing (g o) ≡ g (plain_outgoing o))
    → record (plainly f) { outgoing = set_stream (plainly e).outgoing id (g (outgoing_at (plainly e) id)) } ≡ plainly (record f { outgoing = set_stream e.outgoing id (g (outgoing_at e id)) })
with_out e f id g same = ap (λ (t : Streams Outgoing). record (plainly f) { outgoing = t }) (sets_out e id g same)

-- the rules of a sender, by what is there of the stream
abbrev going_of : EndpointHistory → Option ℕ
going_of e = begins_none_after e.announced e.side (last_id e.peer.goaways)

going_plain : (own : Announced) (side : Side) (last : Option ℕ) → begins_none_after (plain own) side last ≡ begins_none_after own side last
going_plain own Client last = refl
going_plain own Server last = refl

abbrev head_rules : EndpointHistory → Option ℕ → Option Outgoing → Head → List Field → Option Malformation → Option Malformation → Option Refusal
head_rules e going o head fields protocol broken = closed_or e.closed (first_of (
    (not (is_some o), refusal.NotOpen) ∷
    (not (takes_head (unwrap_or o nothing_sent)), refusal.OutOfOrder) ∷
    unless_going going (
    unless_malformed protocol (
    (not (is_for (other e.side) head), refusal.WrongSide) ∷
    unless_malformed broken (
    (is_too_large (settings_known e.announced e.peer.settings) fields, refusal.TooLarge (section_size fields)) ∷ [])))))

abbrev body_rules : EndpointHistory → Option Outgoing → ℕ → Option Refusal
body_rules e o size = closed_or e.closed (first_of (
    (not (is_some o), refusal.NotOpen) ∷
    (not (takes_body (unwrap_or o nothing_sent)), refusal.OutOfOrder) ∷
    (passes_content (unwrap_or o nothing_sent).content size, refusal.Malformed malformation.ContentLength) ∷ []))

abbrev trailer_rules : EndpointHistory → Option Outgoing → Head → List Field → Option Malformation → Option Malformation → Option Refusal
trailer_rules e o head fields protocol broken = closed_or e.closed (first_of (
    (not (is_some o), refusal.NotOpen) ∷
    (not (takes_body (unwrap_or o nothing_sent)), refusal.OutOfOrder) ∷
    unless_malformed protocol (
    (has_pseudo head, refusal.PseudoInTrailer) ∷
    unless_malformed (early_trailer (unwrap_or o nothing_sent).content) (unless_malformed broken (
    (is_too_large (settings_known e.announced e.peer.settings) fields, refusal.TooLarge (section_size fields)) ∷ [])))))

abbrev finish_rules : EndpointHistory → Option Outgoing → Option Refusal
finish_rules e o = closed_or e.closed (first_of (
    (not (is_some o), refusal.NotOpen) ∷
    (not (takes_end (unwrap_or o nothing_sent)), refusal.OutOfOrder) ∷
    (not (may_end (unwrap_or o nothing_sent).content), refusal.Malformed malformation.ContentLength) ∷ []))

abbrev reset_rules : EndpointHistory → ℕ → Option Outgoing → Option Refusal
reset_rules e id o = closed_or e.closed (first_of (
    (is_critical_id e id, refusal.Critical) ∷
    (not (is_some o), refusal.NotOpen) ∷
    (is_sent_off (unwrap_or o nothing_sent), refusal.Ended) ∷ []))

abbrev cancel_rules : EndpointHistory → ℕ → Option Incoming → Option Refusal
cancel_rules e id o = closed_or e.closed (first_of (
    (is_critical_id e id, refusal.Critical) ∷
    (not (is_some o), refusal.NotOpen) ∷
    ((unwrap_or o nothing_came).is_over || is_some (unwrap_or o nothing_came).fault, refusal.Ended) ∷ []))

-- what an endpoint is after a head
abbrev head_sent : EndpointHistory → ℕ → Head → List Field → EndpointHistory
head_sent e id head fields = asked (counted (appended (encoded e id fields) id (head_part head (written_section e.encoder id fields))) (fields_cost fields)) id fields

module _ (e : EndpointHistory) (id : ℕ) where
  abbrev sent : Option Outgoing
  sent = stream_at e.outgoing id

  found : (P : Option Outgoing → Type 0) → P (option_map plain_outgoing sent) → P (stream_at (plainly e).outgoing id)
  found P h = subst P (sym (at_each plain_outgoing e.outgoing id)) h

  -- the rule behind those of strict messages
  abbrev too_large : List Field → List (Bool × Refusal)
  too_large fields = (is_too_large (settings_known e.announced e.peer.settings) fields, refusal.TooLarge (section_size fields)) ∷ []

  accepts_or_large : (fields : List Field) → AcceptsOrLarge (first_of (too_large fields))
  accepts_or_large fields = by_size (is_too_large (settings_known e.announced e.peer.settings) fields)
    where
      by_size : (b : Bool) → AcceptsOrLarge (first_of ((b, refusal.TooLarge (section_size fields)) ∷ []))
      by_size true = inr (section_size fields, refl)
      by_size false = inl refl

  both_going : {unread : Option Malformation} (going : Option ℕ) (one two : List (Bool × Refusal)) → RulesPlainly unread (first_of one) (first_of two)
      → RulesPlainly unread (first_of (unless_going going one)) (first_of (unless_going going two))
  both_going None one two h = h
  both_going (Some last) one two h = Agrees (inl refl)

  -- what the end does not read, and what no end does
  head_rules_plain : (head : Head) (fields : List Field) (own all broken : Option Malformation) → (own ≡ None → all ≡ None) → (o : Option Outgoing)
      → RulesPlainly own (head_rules e (going_of e) o head fields own broken) (head_rules e (going_of e) (option_map plain_outgoing o) head fields all None)
  head_rules_plain head fields own all broken narrows None = if_open e.closed _ _ (Agrees (inl refl))
  head_rules_plain head fields own all broken narrows (Some o) =
      let size = too_large fields in
      let judges = unless_malformed broken size in
      let sides : Bool × Refusal = (not (is_for (other e.side) head), refusal.WrongSide) in
      let one = unless_malformed own (sides ∷ judges) in
      let two = unless_malformed all (sides ∷ size) in
      if_open e.closed _ _ (behind (not (takes_head o)) refusal.OutOfOrder (unless_going (going_of e) one) (unless_going (going_of e) two)
      (both_going (going_of e) one two (reads_own own all (sides ∷ judges) (sides ∷ size) narrows (behind sides.0 sides.1 judges size (unless_broken broken size size (accepts_or_large fields) (Agrees (inl refl)))))))

  head_judged_plainly : (own all : Option Malformation) → (own ≡ None → all ≡ None) → (head : Head) (fields : List Field) → RulesPlainly own (head_judged e id own head fields) (head_judged (plainly e) id all head fields)
  head_judged_plainly own all narrows head fields =
      let broken = broken_head_at e id fields in
      subst (λ g. RulesPlainly own (head_rules e (going_of e) sent head fields own broken) (head_rules e g (stream_at (plainly e).outgoing id) head fields all None)) (sym (going_plain e.announced e.side (last_id e.peer.goaways)))
      (found (λ o. RulesPlainly own (head_rules e (going_of e) sent head fields own broken) (head_rules e (going_of e) o head fields all None)) (head_rules_plain head fields own all broken narrows sent))

  -- a head that goes out as these fields
  head_as_plainly : (own all : Option Malformation) → (own ≡ None → all ≡ None) → (head : Head) (fields : List Field)
      → CallsPlainly e (does (head_judged e id own head fields) e (head_sent e id head fields)) (does (head_judged (plainly e) id all head fields) (plainly e) (head_sent (plainly e) id head fields))
  head_as_plainly own all narrows head fields =
      does_plainly (head_judged e id own head fields) (head_judged (plainly e) id all head fields) e _ _
      (head_judged_plainly own all narrows head fields)
      (ap (λ (t : Streams Outgoing). record (plainly new) { incoming = each_stream plain_incoming e.incoming; outgoing = t }) outgoing_is
      ∙ ap (λ (s : Streams Incoming). record (plainly new) { incoming = s }) (sym incoming_is))
    where
      part : OwnPart
      part = head_part head (written_section e.encoder id fields)

      with_part : Outgoing → Outgoing
      with_part o = record o { parts = o.parts ++ part ∷ [] }

      now : Streams Outgoing
      now = set_stream e.outgoing id (with_part (outgoing_at e id))

      said : Content
      said = content_of_own e.side (known_of (stream_at e.incoming id)) fields

      new : EndpointHistory
      new = asked (counted (appended (encoded e id fields) id part) (fields_cost fields)) id fields

      tells : (o : Option Incoming) → stream_at e.incoming id ≡ o → each_stream plain_incoming (telling_at e.side e.incoming id fields o) ≡ each_stream plain_incoming e.incoming
      tells None is = refl
      tells (Some i) is = set_alike plain_incoming e.incoming id i (having_told e.side i fields) is refl

      if_asked : (b : Bool) → each_stream plain_incoming (if b then telling_at e.side e.incoming id fields (stream_at e.incoming id) else e.incoming) ≡ each_stream plain_incoming e.incoming
      if_asked true = tells (stream_at e.incoming id) refl
      if_asked false = refl

      incoming_is : each_stream plain_incoming new.incoming ≡ each_stream plain_incoming e.incoming
      incoming_is = if_asked e.announced.choices.strict_messages

      says : (o : Option Outgoing) → stream_at now id ≡ o → each_stream plain_outgoing (saying_at now id said o) ≡ each_stream plain_outgoing now
      says None is = refl
      says (Some o) is = set_alike plain_outgoing now id o (with_said o said) is refl

      if_said : (b : Bool) → each_stream plain_outgoing (if b then saying_at now id said (stream_at now id) else now) ≡ each_stream plain_outgoing now
      if_said true = says (stream_at now id) refl
      if_said false = refl

      outgoing_is : set_stream (plainly e).outgoing id (with_part (outgoing_at (plainly e) id)) ≡ each_stream plain_outgoing new.outgoing
      outgoing_is = sets_out e id with_part (λ o. refl) ∙ sym (if_said e.announced.choices.strict_messages)

  -- what the end does not read of a header or a list, and what no end does
  abbrev own_head : Head → Option Malformation
  own_head head = broken_protocol e.announced head

  abbrev any_head : Head → Option Malformation
  any_head head = broken_protocol (plain e.announced) head

  abbrev own_list : List Field → Option Malformation
  own_list fields = unreadable (takes_any e.announced) fields

  pub heads_alike : (head : Head) → RulesPlainly (broken_protocol e.announced head) (head_judged e id (broken_protocol e.announced head) head (head_fields head)) (head_judged (plainly e) id (broken_protocol (plain e.announced) head) head (head_fields head))
  heads_alike head = head_judged_plainly (own_head head) (any_head head) (protocol_narrows e.announced head) head (head_fields head)

  pub fields_alike : (fields : List Field)
      → RulesPlainly (unreadable (takes_any e.announced) fields) (head_judged e id (unreadable (takes_any e.announced) fields) (head_of_fields fields) fields) (head_judged (plainly e) id (unreadable true fields) (head_of_fields fields) fields)
  fields_alike fields = head_judged_plainly (own_list fields) (unreadable true fields) (list_narrows (takes_any e.announced) fields) (head_of_fields fields) fields

  pub heads_plainly : (head : Head) → CallsPlainly e (send_head e id head) (send_head (plainly e) id head)
  heads_plainly head = head_as_plainly (own_head head) (any_head head) (protocol_narrows e.announced head) head (head_fields head)

  pub fields_plainly : (fields : List Field) → CallsPlainly e (send_fields e id fields) (send_fields (plainly e) id fields)
  fields_plainly fields = head_as_plainly (own_list fields) (unreadable true fields) (list_narrows (takes_any e.announced) fields) (head_of_fields fields) fields

  body_rules_plain : (size : ℕ) (o : Option Outgoing) → RulesPlainly None (body_rules e o size) (body_rules e (option_map plain_outgoing o) size)
  body_rules_plain size None = if_open e.closed _ _ (Agrees (inl refl))
  body_rules_plain size (Some o) =
      let passes = passes_content o.content size in
      if_open e.closed _ _ (behind (not (takes_body o)) refusal.OutOfOrder ((passes, refusal.Malformed malformation.ContentLength) ∷ []) ((false, refusal.Malformed malformation.ContentLength) ∷ [])
      (if_broken passes malformation.ContentLength [] ((false, refusal.Malformed malformation.ContentLength) ∷ []) (inl refl) (Agrees (inl refl))))

  body_is : (bytes : List ℕ) → counted (sent_bytes (plainly e) id bytes) (length bytes) ≡ plainly (counted (sent_bytes e id bytes) (length bytes))
  body_is [] = refl
  body_is (byte ∷ bytes) = with_out e (counted (sent_bytes e id (byte ∷ bytes)) (length (byte ∷ bytes))) id (λ o. with_body o (byte ∷ bytes)) (λ o. refl)

  pub bodies_plainly : (bytes : List ℕ) → CallsPlainly e (send_body e id bytes) (send_body (plainly e) id bytes)
  bodies_plainly bytes =
      does_plainly (body_refusal e id (length bytes)) (body_refusal (plainly e) id (length bytes)) e _ _
      (found (λ o. RulesPlainly None (body_rules e sent (length bytes)) (body_rules e o (length bytes))) (body_rules_plain (length bytes) sent)) (body_is bytes)

  trailer_rules_plain : (head : Head) (fields : List Field) (own all broken : Option Malformation) → (own ≡ None → all ≡ None) → (o : Option Outgoing)
      → RulesPlainly own (trailer_rules e o head fields own broken) (trailer_rules e (option_map plain_outgoing o) head fields all None)
  trailer_rules_plain head fields own all broken narrows None = if_open e.closed _ _ (Agrees (inl refl))
  trailer_rules_plain head fields own all broken narrows (Some o) =
      let size = too_large fields in
      let judges = unless_malformed broken size in
      let early = unless_malformed (early_trailer o.content) judges in
      let pseudo : Bool × Refusal = (has_pseudo head, refusal.PseudoInTrailer) in
      if_open e.closed _ _ (behind (not (takes_body o)) refusal.OutOfOrder (unless_malformed own (pseudo ∷ early)) (unless_malformed all (pseudo ∷ size))
      (reads_own own all (pseudo ∷ early) (pseudo ∷ size) narrows (behind pseudo.0 pseudo.1 early size
      (unless_broken (early_trailer o.content) judges size (accepts_or_large fields) (unless_broken broken size size (accepts_or_large fields) (Agrees (inl refl)))))))

  trailer_judged_plainly : (own all : Option Malformation) → (own ≡ None → all ≡ None) → (head : Head) (fields : List Field) → RulesPlainly own (trailer_judged e id own head fields) (trailer_judged (plainly e) id all head fields)
  trailer_judged_plainly own all narrows head fields =
      let broken = broken_trailer e.announced fields in
      found (λ o. RulesPlainly own (trailer_rules e sent head fields own broken) (trailer_rules e o head fields all None)) (trailer_rules_plain head fields own all broken narrows sent)

  trailer_as_plainly : (own all : Option Malformation) → (own ≡ None → all ≡ None) → (head : Head) (fields : List Field)
      → CallsPlainly e (does (trailer_judged e id own head fields) e (after_trailer_fields e id fields)) (does (trailer_judged (plainly e) id all head fields) (plainly e) (after_trailer_fields (plainly e) id fields))
  trailer_as_plainly own all narrows head fields =
      let part : OwnPart = OwnTrailer (written_section e.encoder id fields) in
      let new : EndpointHistory = counted (appended (encoded e id fields) id part) (fields_cost fields) in
      does_plainly (trailer_judged e id own head fields) (trailer_judged (plainly e) id all head fields) e _ _
      (trailer_judged_plainly own all narrows head fields)
      (with_out e new id (λ o. record o { parts = o.parts ++ part ∷ [] }) (λ o. refl))

  pub trailers_alike : (head : Head)
      → RulesPlainly (broken_protocol e.announced head) (trailer_judged e id (broken_protocol e.announced head) head (head_fields head)) (trailer_judged (plainly e) id (broken_protocol (plain e.announced) head) head (head_fields head))
  trailers_alike head = trailer_judged_plainly (own_head head) (any_head head) (protocol_narrows e.announced head) head (head_fields head)

  pub trailer_fields_alike : (fields : List Field)
      → RulesPlainly (unreadable (takes_any e.announced) fields) (trailer_judged e id (unreadable (takes_any e.announced) fields) (head_of_fields fields) fields) (trailer_judged (plainly e) id (unreadable true fields) (head_of_fields fields) fields)
  trailer_fields_alike fields = trailer_judged_plainly (own_list fields) (unreadable true fields) (list_narrows (takes_any e.announced) fields) (head_of_fields fields) fields

  pub trailers_plainly : (head : Head) → CallsPlainly e (send_trailer e id head) (send_trailer (plainly e) id head)
  trailers_plainly head = trailer_as_plainly (own_head head) (any_head head) (protocol_narrows e.announced head) head (head_fields head)

  pub trailer_fields_plainly : (fields : List Field) → CallsPlainly e (send_trailer_fields e id fields) (send_trailer_fields (plainly e) id fields)
  trailer_fields_plainly fields = trailer_as_plainly (own_list fields) (unreadable true fields) (list_narrows (takes_any e.announced) fields) (head_of_fields fields) fields

  finish_rules_plain : (o : Option Outgoing) → RulesPlainly None (finish_rules e o) (finish_rules e (option_map plain_outgoing o))
  finish_rules_plain None = if_open e.closed _ _ (Agrees (inl refl))
  finish_rules_plain (Some o) =
      let early = not (may_end o.content) in
      if_open e.closed _ _ (behind (not (takes_end o)) refusal.OutOfOrder ((early, refusal.Malformed malformation.ContentLength) ∷ []) ((false, refusal.Malformed malformation.ContentLength) ∷ [])
      (if_broken early malformation.ContentLength [] ((false, refusal.Malformed malformation.ContentLength) ∷ []) (inl refl) (Agrees (inl refl))))

  pub ends_plainly : CallsPlainly e (finish e id) (finish (plainly e) id)
  ends_plainly =
      does_plainly (finish_refusal e id) (finish_refusal (plainly e) id) e _ _
      (found (λ o. RulesPlainly None (finish_rules e sent) (finish_rules e o)) (finish_rules_plain sent)) (with_out e e id with_finish (λ o. refl))

  reset_rules_plain : (o : Option Outgoing) → RulesPlainly None (reset_rules e id o) (reset_rules e id (option_map plain_outgoing o))
  reset_rules_plain None = Agrees (inl refl)
  reset_rules_plain (Some o) = Agrees (inl refl)

  pub resets_plainly : CallsPlainly e (reset e id) (reset (plainly e) id)
  resets_plainly =
      does_plainly (reset_refusal e id) (reset_refusal (plainly e) id) e _ _
      (found (λ o. RulesPlainly None (reset_rules e id sent) (reset_rules e id o)) (reset_rules_plain sent)) (with_out e e id with_reset (λ o. refl))

  pub goaways_alike : RulesPlainly None (goaway_refusal e id) (goaway_refusal (plainly e) id)
  goaways_alike = Agrees (inl refl)

  pub goaways_plainly : CallsPlainly e (goaway e id) (goaway (plainly e) id)
  goaways_plainly = does_plainly (goaway_refusal e id) (goaway_refusal (plainly e) id) e _ _ goaways_alike refl

  -- a stream is given up
  gives_up_by : (i : Incoming) (fault : StreamFault) (first : Option StreamFault) → given_up_by (plain_incoming i) fault first ≡ plain_incoming (given_up_by i fault first)
  gives_up_by i fault (Some why) = refl
  gives_up_by i fault None = refl

  pub gives_up_plainly : (i : Incoming) (fault : StreamFault) → give_up (plainly e) id (plain_incoming i) fault ≡ plainly (give_up e id i fault)
  gives_up_plainly i fault =
      ap (λ (s : Streams Incoming). record (plainly (give_up e id i fault)) { incoming = s })
      (ap (λ j. set_stream (plainly e).incoming id j) (gives_up_by i fault i.fault) ∙ set_each plain_incoming e.incoming id (given_up_by i fault i.fault))

  cancel_rules_plain : (o : Option Incoming) → RulesPlainly None (cancel_rules e id o) (cancel_rules e id (option_map plain_incoming o))
  cancel_rules_plain None = Agrees (inl refl)
  cancel_rules_plain (Some i) = Agrees (inl refl)

  pub cancels_alike : RulesPlainly None (cancel_refusal e id) (cancel_refusal (plainly e) id)
  cancels_alike = subst (λ o. RulesPlainly None (cancel_rules e id (stream_at e.incoming id)) (cancel_rules e id o)) (sym (at_each plain_incoming e.incoming id)) (cancel_rules_plain (stream_at e.incoming id))

  pub cancels_plainly : CallsPlainly e (cancel e id) (cancel (plainly e) id)
  cancels_plainly =
      does_plainly (cancel_refusal e id) (cancel_refusal (plainly e) id) e _ _ cancels_alike
      (ap (λ i. give_up (plainly e) id i stream_fault.Canceled) (in_at e id) ∙ gives_up_plainly (incoming_at e id) stream_fault.Canceled)

  -- some bytes were taken
  advances_by : (count : ℕ) (o : Option Outgoing) → advance_at (plainly e) id count (option_map plain_outgoing o) ≡ plainly (advance_at e id count o)
  advances_by count None = refl
  advances_by count (Some o) =
      let turn : ℕ → SendOrder = λ n. turned e.order id count o (min n (2 ^ 64 - 1)) in
      ap (λ n. record (plainly e) { outgoing = set_stream (plainly e).outgoing id (plain_outgoing (record o { taken = o.taken + count })); order = turn n }) (above_each plain_incoming e.incoming)
      ∙ ap (λ (t : Streams Outgoing). record (plainly e) { outgoing = t; order = turn (first_above e.incoming) }) (set_each plain_outgoing e.outgoing id (record o { taken = o.taken + count }))

  pub advances_plainly : (count : ℕ) → advance (plainly e) id count ≡ plainly (advance e id count)
  advances_plainly count = ap (advance_at (plainly e) id count) (at_each plain_outgoing e.outgoing id) ∙ advances_by count sent

-- a call is told by its rules
pub told : (p : Option Refusal) (e f : EndpointHistory) → (does p e f).0 ≡ p
told None e f = refl
told (Some r) e f = refl

told_same : {unread : Option Malformation} (p q : Option Refusal) (e f g k : EndpointHistory) → SameUnless unread p q → SameUnless unread (does p e f).0 (does q g k).0
told_same {unread = unread} p q e f g k same = subst (λ x. SameUnless unread x (does q g k).0) (sym (told p e f)) (subst (SameUnless unread p) (sym (told q g k)) same)

-- Where an end asks for no strict messages and counts nothing, each send is refused alike, but for what it does not read.
module _ (e : EndpointHistory) (id : ℕ) (plain_messages : e.announced.choices.strict_messages ≡ false) (uncounted : (outgoing_at e id).content ≡ Unsaid) where
  same_out : stream_at (plainly e).outgoing id ≡ stream_at e.outgoing id
  same_out = at_each plain_outgoing e.outgoing id ∙ of (stream_at e.outgoing id) uncounted
    where
      of : (o : Option Outgoing) → (unwrap_or o nothing_sent).content ≡ Unsaid → option_map plain_outgoing o ≡ o
      of None h = refl
      of (Some o) h = ap (λ c. Some (record o { content = c })) (sym h)

  going_same : {unread : Option Malformation} (going : Option ℕ) (one two : List (Bool × Refusal)) → SameUnless unread (first_of one) (first_of two)
      → SameUnless unread (first_of (unless_going going one)) (first_of (unless_going going two))
  going_same None one two h = h
  going_same (Some last) one two h = inl refl

  head_rules_same : (o : Option Outgoing) (own all : Option Malformation) → (own ≡ None → all ≡ None) → (head : Head) (fields : List Field)
      → SameUnless own (head_rules e (going_of e) o head fields own None) (head_rules e (going_of e) o head fields all None)
  head_rules_same o own all narrows head fields =
      let large : List (Bool × Refusal) = (is_too_large (settings_known e.announced e.peer.settings) fields, refusal.TooLarge (section_size fields)) ∷ [] in
      let later : List (Bool × Refusal) = (not (is_for (other e.side) head), refusal.WrongSide) ∷ large in
      let one : List (Bool × Refusal) = unless_going (going_of e) (unless_malformed own later) in
      let two : List (Bool × Refusal) = unless_going (going_of e) (unless_malformed all later) in
      let order : Bool × Refusal = (not (takes_head (unwrap_or o nothing_sent)), refusal.OutOfOrder) in
      same_open e.closed _ _ (same_behind (not (is_some o)) refusal.NotOpen (order ∷ one) (order ∷ two)
      (same_behind (not (takes_head (unwrap_or o nothing_sent))) refusal.OutOfOrder one two (going_same (going_of e) (unless_malformed own later) (unless_malformed all later) (same_own own all later narrows))))

  heads_same : (own all : Option Malformation) → (own ≡ None → all ≡ None) → (head : Head) (fields : List Field) → SameUnless own (head_judged e id own head fields) (head_judged (plainly e) id all head fields)
  heads_same own all narrows head fields =
      let broken = violation_of_own_head e.side (settings_known e.announced e.peer.settings) (known_of (stream_at e.incoming id)) fields in
      let none : broken_head_at e id fields ≡ None = ap (λ b. if b then option_map malformation_by broken else None) plain_messages in
      subst (λ g. SameUnless own (head_judged e id own head fields) (head_rules e g (stream_at (plainly e).outgoing id) head fields all None)) (sym (going_plain e.announced e.side (last_id e.peer.goaways)))
      (subst (λ o. SameUnless own (head_judged e id own head fields) (head_rules e (going_of e) o head fields all None)) (sym same_out)
      (subst (λ r. SameUnless own (head_rules e (going_of e) (stream_at e.outgoing id) head fields own r) (head_rules e (going_of e) (stream_at e.outgoing id) head fields all None)) (sym none)
      (head_rules_same (stream_at e.outgoing id) own all narrows head fields)))

  trailer_rules_same : (o : Option Outgoing) (own all : Option Malformation) → (own ≡ None → all ≡ None) → (head : Head) (fields : List Field)
      → SameUnless own (trailer_rules e o head fields own None) (trailer_rules e o head fields all None)
  trailer_rules_same o own all narrows head fields =
      let large : List (Bool × Refusal) = (is_too_large (settings_known e.announced e.peer.settings) fields, refusal.TooLarge (section_size fields)) ∷ [] in
      let later : List (Bool × Refusal) = (has_pseudo head, refusal.PseudoInTrailer) ∷ unless_malformed (early_trailer (unwrap_or o nothing_sent).content) large in
      let order : Bool × Refusal = (not (takes_body (unwrap_or o nothing_sent)), refusal.OutOfOrder) in
      same_open e.closed _ _ (same_behind (not (is_some o)) refusal.NotOpen (order ∷ unless_malformed own later) (order ∷ unless_malformed all later)
      (same_behind (not (takes_body (unwrap_or o nothing_sent))) refusal.OutOfOrder (unless_malformed own later) (unless_malformed all later) (same_own own all later narrows)))

  trailers_same : (own all : Option Malformation) → (own ≡ None → all ≡ None) → (head : Head) (fields : List Field) → SameUnless own (trailer_judged e id own head fields) (trailer_judged (plainly e) id all head fields)
  trailers_same own all narrows head fields =
      let none : broken_trailer e.announced fields ≡ None = ap (λ b. if b then option_map malformation_by (violation_of_own_trailer fields) else None) plain_messages in
      subst (λ o. SameUnless own (trailer_judged e id own head fields) (trailer_rules e o head fields all None)) (sym same_out)
      (subst (λ r. SameUnless own (trailer_rules e (stream_at e.outgoing id) head fields own r) (trailer_rules e (stream_at e.outgoing id) head fields all None)) (sym none)
      (trailer_rules_same (stream_at e.outgoing id) own all narrows head fields))

  -- so is a header, and a list
  pub head_same : (head : Head) → SameUnless (broken_protocol e.announced head) (send_head e id head).0 (send_head (plainly e) id head).0
  head_same head = told_same _ _ _ _ _ _ (heads_same (broken_protocol e.announced head) (broken_protocol (plain e.announced) head) (protocol_narrows e.announced head) head (head_fields head))

  pub fields_same : (fields : List Field) → SameUnless (unreadable (takes_any e.announced) fields) (send_fields e id fields).0 (send_fields (plainly e) id fields).0
  fields_same fields = told_same _ _ _ _ _ _ (heads_same (unreadable (takes_any e.announced) fields) (unreadable true fields) (list_narrows (takes_any e.announced) fields) (head_of_fields fields) fields)

  pub trailer_same : (head : Head) → SameUnless (broken_protocol e.announced head) (send_trailer e id head).0 (send_trailer (plainly e) id head).0
  trailer_same head = told_same _ _ _ _ _ _ (trailers_same (broken_protocol e.announced head) (broken_protocol (plain e.announced) head) (protocol_narrows e.announced head) head (head_fields head))

  pub trailer_fields_same : (fields : List Field) → SameUnless (unreadable (takes_any e.announced) fields) (send_trailer_fields e id fields).0 (send_trailer_fields (plainly e) id fields).0
  trailer_fields_same fields = told_same _ _ _ _ _ _ (trailers_same (unreadable (takes_any e.announced) fields) (unreadable true fields) (list_narrows (takes_any e.announced) fields) (head_of_fields fields) fields)

  pub bodies_same : (size : ℕ) → body_refusal (plainly e) id size ≡ body_refusal e id size
  bodies_same size = ap (λ o. body_rules e o size) same_out

  pub ends_same : finish_refusal (plainly e) id ≡ finish_refusal e id
  ends_same = ap (finish_rules e) same_out

-- a request stream of which nothing came is opened
pub opens_as : (e : EndpointHistory) (id : ℕ) (o : Option Incoming) → opened_at (plainly e) id (option_map plain_incoming o) ≡ plainly (opened_at e id o)
opens_as e id (Some i) = refl
opens_as e id None =
    ap (λ (s : Streams Incoming). record (plainly e) { incoming = s; outgoing = set_stream (plainly e).outgoing id nothing_sent }) (set_each plain_incoming e.incoming id nothing_came)
    ∙ ap (λ (t : Streams Outgoing). record (plainly (opened_at e id None)) { outgoing = t }) (set_each plain_outgoing e.outgoing id nothing_sent)

pub opens_alike : (e : EndpointHistory) → RulesPlainly None (open_refusal e) (open_refusal (plainly e))
opens_alike e = Agrees (inl refl)

pub opens_plainly : (e : EndpointHistory) → CallsPlainly e (open_request e) (open_request (plainly e))
opens_plainly e =
    does_plainly (open_refusal e) (open_refusal (plainly e)) e _ _ (opens_alike e)
    (ap (λ (f : EndpointHistory). record f { next_id = e.next_id + 4 }) (opens_as e e.next_id None))
