-- A pull of one request stream: a rule of strict messages judges its message, or it is answered as without strict messages.
use Rattle.std.proofs.Common.{arith, ◌≡◌, ◌⊎◌, inl, inr, ◌≤◌, ℕ, Bool, true, false, if◌then◌else◌, List, [], ◌∷◌, length, refl, subst, sym, Option, Some, None}
use Rattle.std.specs.Prelude.{not, ◌&&◌, ◌==◌, ◌^◌, ◌-◌, nat_lt}
use Rattle.std.specs.List.{concat}
use Rattle.h3_field.specs.Field.{Field}
use Rattle.h3_field.specs.Instruction.{DecoderInstruction}
use Rattle.h3_qpack.specs.DecoderState.{DecoderState}
use Rattle.h3_qpack.specs.DecodedSection.{DecodedSection, Fields, Missing, BadSection, decode_section}
use Rattle.h3_header.specs.Head.{Head, has_pseudo}
use Rattle.h3_header.specs.HeadRead.{HeadRead, IsHead, IsNone, Value, head_by}
use Rattle.h3_messages.specs.Content.{is_exceeded, may_end, takes_trailer}
use Rattle.h3_proto.specs.declared.stream.Side.{Side}
use Rattle.h3_proto.specs.declared.stream.Side.TheVariants.{Client, Server}
use Rattle.h3_frames.specs.ExcessiveFrames.{begins_section, is_excessive_by}
use Rattle.h3_frames.specs.ExcessiveLaws.{none_excessive_by}
use Rattle.h3_frames.specs.Frames.{Front, Whole, Unknown, Refused, Unfinished, frame_by}
use Rattle.h3_frames.specs.Pieces.{chunk_of, first_of}
use Rattle.h3_frames.specs.declared.proto.frame.PayloadLen.{PayloadLen}
use Rattle.h3_frames.specs.declared.proto.frame.Frame.{Frame}
use Rattle.h3_frames.specs.declared.proto.frame.Frame.TheVariants as frame
use Rattle.h3_connection.specs.Announcing.{section_of}
use Rattle.h3_connection.specs.Codes.{excessive_load}
use Rattle.h3_connection.specs.Incoming.{Incoming, is_body}
use Rattle.h3_connection.specs.Pulling.{Pulled, just, connection_fault, malformed, body_of, raw_of, unless_broken, whole_head, whole_trailer, head_or_trailer, judged, read_section, decoded, at_section, at_trailer, at_end, at_frame, framed, next_frame, between_frames, excess, in_message, next_item, pull_stream, in_payload, at_payload, begun_section, begun_payload, left_with, past_section, acknowledgment, is_for, is_client, is_interim, with_content, told_size}
use Rattle.h3_connection.specs.Skipping.{skipped}
use Rattle.h3_connection.specs.StrictMessages.{broken_rule, if_whole}
use Rattle.h3_connection.specs.declared.event.Fault.TheVariants.{Stream}
use Rattle.h3_connection.specs.declared.event.Item.TheVariants as item
use Rattle.h3_connection.specs.declared.event.Malformation.{Malformation}
use Rattle.h3_connection.specs.declared.event.Malformation.TheVariants as malformation
use Rattle.h3_connection.specs.declared.event.Pull.TheVariants as pull
use Rattle.h3_connection.specs.declared.event.StreamFault.{StreamFault}
use Rattle.h3_connection.specs.declared.place.Place.{Place}
use Rattle.h3_connection.specs.StrictConnection.{is_no_session, kinds_of}
use Rattle.h3_connection.specs.declared.place.Place.TheVariants.{BeforeHead, InBody, AfterTrailer, InSession}
use Rattle.h3_connection.specs.declared.setup.Announced.{Announced}
use Rattle.h3_strict.specs.NarrowLaws.{reads_less}
use Rattle.h3_strict.specs.Plainly.{plain, plain_incoming, tells_malformed}

-- the same answer, of a stream without what strict messages know of it
abbrev pub plain_pulled : Pulled → Pulled
plain_pulled p = record p { incoming = plain_incoming p.incoming }

-- It judges, and then the stream waits for no more than this count of insertions.
pub data PullsPlainly (n : ℕ) (p q : Pulled) : Type 0 where
  Judged : tells_malformed false p.answer ≡ true → p.incoming.waits_for ≤ n → PullsPlainly n p q
  Same : q ≡ plain_pulled p → PullsPlainly n p q

least : (n : ℕ) → 0 ≤ n
least n = omega arith

either : (n : ℕ) (b : Bool) (x y v w : Pulled) → PullsPlainly n x v → PullsPlainly n y w → PullsPlainly n (if b then x else y) (if b then v else w)
either n true x y v w h k = h
either n false x y v w h k = k

-- the rule in front is broken, or the answer is that behind it
unless : (n : ℕ) (b : Bool) (x y v : Pulled) → tells_malformed false x.answer ≡ true → x.incoming.waits_for ≤ n → PullsPlainly n y v → PullsPlainly n (if b then x else y) v
unless n true x y v h few k = Judged h few
unless n false x y v h few k = k

where_not : (n : ℕ) (b : Bool) (x y v : Pulled) → PullsPlainly n x v → tells_malformed false y.answer ≡ true → y.incoming.waits_for ≤ n → PullsPlainly n (if b then x else y) v
where_not n true x y v h k few = h
where_not n false x y v h k few = Judged k few

body_plain : (n : ℕ) (i : Incoming) (found : Option (List ℕ) × List (List ℕ)) → PullsPlainly n (body_of i found) (body_of (plain_incoming i) found)
body_plain n i (None, pieces) = Same refl
body_plain n i (Some bytes, pieces) = Same refl

payload_plain : (n : ℕ) (id : ℕ) (i : Incoming) → PullsPlainly n (at_payload id i) (at_payload id (plain_incoming i))
payload_plain n id i =
    unless n (is_exceeded i.content) _ (in_payload i) (in_payload (plain_incoming i)) refl (least n)
    (either n (i.ended && nat_lt (length (concat i.unread)) i.body_left) _ _ _ _ (Same refl) (body_plain n i (chunk_of i.body_left i.unread)))

raw_plain : (n : ℕ) (i : Incoming) (found : Option (List ℕ) × List (List ℕ)) → PullsPlainly n (raw_of i found) (raw_of (plain_incoming i) found)
raw_plain n i (None, pieces) = either n i.ended _ _ _ _ (Same refl) (Same refl)
raw_plain n i (Some bytes, pieces) = Same refl

unbroken_plain : (n : ℕ) (id : ℕ) (i : Incoming) (replies : List DecoderInstruction) (broken : Option Malformation) (p q : Pulled) → PullsPlainly n p q → PullsPlainly n (unless_broken id i replies broken p) q
unbroken_plain n id i replies None p q h = h
unbroken_plain n id i replies (Some why) p q h = Judged refl (least n)

head_plain : (n : ℕ) (side : Side) (id : ℕ) (i : Incoming) (replies : List DecoderInstruction) (broken : Option Malformation) (h : Head)
    → PullsPlainly n (whole_head side id i replies broken h) (whole_head side id (plain_incoming i) replies None h)
head_plain n side id i replies broken h =
    either n (not (is_for side h)) _ _ _ _ (Same refl)
    (unbroken_plain n id i replies broken _ _ (either n (is_client side && is_interim h.status) _ _ _ _ (Same refl) (Same refl)))

trailer_plain : (n : ℕ) (id : ℕ) (i : Incoming) (replies : List DecoderInstruction) (broken : Option Malformation) (h : Head)
    → PullsPlainly n (whole_trailer id i replies broken h) (whole_trailer id (plain_incoming i) replies None h)
trailer_plain n id i replies broken h = either n (has_pseudo h) _ _ _ _ (Same refl) (unbroken_plain n id i replies broken _ _ (Same refl))

section_plain : (n : ℕ) (side : Side) (id : ℕ) (i : Incoming) (replies : List DecoderInstruction) (broken : Option Malformation) (place : Place) (h : Head)
    → PullsPlainly n (head_or_trailer side id i replies broken place h) (head_or_trailer side id (plain_incoming i) replies None place h)
section_plain n side id i replies broken BeforeHead h = head_plain n side id i replies broken h
section_plain n side id i replies broken InBody h = trailer_plain n id i replies broken h
section_plain n side id i replies broken AfterTrailer h = trailer_plain n id i replies broken h
section_plain n side id i replies broken InSession h = trailer_plain n id i replies broken h

judged_plain : (n : ℕ) (side : Side) (id : ℕ) (i : Incoming) (replies : List DecoderInstruction) (broken : Option Malformation) (read : HeadRead)
    → PullsPlainly n (judged side id i replies broken read) (judged side id (plain_incoming i) replies None read)
judged_plain n side id i replies broken (IsNone why) = Same refl
judged_plain n side id i replies broken (IsHead h) = section_plain n side id i replies broken i.place h

module _ (side : Side) (own : Announced) (id : ℕ) (r : DecoderState) where
  read_plain : (n : ℕ) (i : Incoming) (replies : List DecoderInstruction) (fields : List Field) → PullsPlainly n (read_section side own id r i replies fields) (read_section side (plain own) id r (plain_incoming i) replies fields)
  read_plain n i replies fields =
      either n (nat_lt (section_of own) (told_size fields)) _ _ _ _ (Same refl)
      (by_read (reads_less own.choices.extensions.any_protocol fields))
    where
      j : Incoming
      j = with_content side own i fields

      broken : Option Malformation
      broken = if_whole i.content (broken_rule side own i.place fields)

      -- what the end does not read is malformed
      by_read : (head_by own.choices.extensions.any_protocol fields ≡ head_by true fields) ⊎ ((head_by own.choices.extensions.any_protocol fields ≡ IsNone Value) × (own.choices.extensions.any_protocol ≡ false))
          → PullsPlainly n (judged side id j replies broken (head_by own.choices.extensions.any_protocol fields)) (judged side id (plain_incoming j) replies None (head_by true fields))
      by_read (inl same) = subst (λ h. PullsPlainly n (judged side id j replies broken h) (judged side id (plain_incoming j) replies None (head_by true fields))) (sym same) (judged_plain n side id j replies broken (head_by true fields))
      by_read (inr value) = subst (λ h. PullsPlainly n (judged side id j replies broken h) (judged side id (plain_incoming j) replies None (head_by true fields))) (sym value.0) (Judged refl (least n))

  decoded_plain : (n : ℕ) (i : Incoming) (d : DecodedSection) → PullsPlainly n (decoded side own id r i d) (decoded side (plain own) id r (plain_incoming i) d)
  decoded_plain n i (Fields fields count) = read_plain n (past_section i) (acknowledgment id count) fields
  decoded_plain n i (Missing count) = either n (i.waits_for == 0) _ _ _ _ (Same refl) (Same refl)
  decoded_plain n i BadSection = Same refl

  at_plain : (n : ℕ) (i : Incoming) (bytes : List ℕ) → PullsPlainly n (at_section side own id r i bytes) (at_section side (plain own) id r (plain_incoming i) bytes)
  at_plain n i bytes = either n (nat_lt r.table.inserted i.waits_for) _ _ _ _ (Same refl) (decoded_plain n i (decode_section r bytes))

  trailer_at_plain : (n : ℕ) (i : Incoming) (bytes : List ℕ) → i.waits_for ≤ n → PullsPlainly n (at_trailer side own id r i bytes) (at_trailer side (plain own) id r (plain_incoming i) bytes)
  trailer_at_plain n i bytes few = where_not n (takes_trailer i.content) _ _ _ (at_plain n (begun_section i bytes) bytes) refl few

  end_plain : (n : ℕ) (i : Incoming) (place : Place) → PullsPlainly n (at_end side own id r i place) (at_end side (plain own) id r (plain_incoming i) place)
  end_plain n i BeforeHead = Same refl
  end_plain n i InBody = where_not n (may_end i.content) _ _ _ (Same refl) refl (least n)
  end_plain n i AfterTrailer = where_not n (may_end i.content) _ _ _ (Same refl) refl (least n)
  end_plain n i InSession = where_not n (may_end i.content) _ _ _ (Same refl) refl (least n)

  frame_plain : (n : ℕ) (at : Side) (i : Incoming) (place : Place) (f : Frame PayloadLen) → i.waits_for ≤ n → PullsPlainly n (at_frame side own id r at i place f) (at_frame side (plain own) id r at (plain_incoming i) place f)
  frame_plain n Client i BeforeHead (frame.Headers bytes) few = at_plain n (begun_section i bytes) bytes
  frame_plain n Server i BeforeHead (frame.Headers bytes) few = at_plain n (begun_section i bytes) bytes
  frame_plain n Client i InBody (frame.Headers bytes) few = trailer_at_plain n i bytes few
  frame_plain n Server i InBody (frame.Headers bytes) few = trailer_at_plain n i bytes few
  frame_plain n Client i InBody (frame.Data len) few = payload_plain n id (begun_payload i len.0)
  frame_plain n Server i InBody (frame.Data len) few = payload_plain n id (begun_payload i len.0)
  frame_plain n Server i BeforeHead (frame.WebTransportStream session) few = either n (is_no_session own session) _ _ _ _ (Same refl) (Same refl)
  frame_plain n Client i place (frame.PushPromise promise) few = Same refl
  frame_plain n _ i place _ few = Same refl

  framed_plain : (n : ℕ) (i : Incoming) (f : Front) → i.waits_for ≤ n → PullsPlainly n (framed side own id r i f) (framed side (plain own) id r (plain_incoming i) f)
  framed_plain n i (Unfinished least) few = either n i.ended _ _ _ _ (Same refl) (Same refl)
  framed_plain n i (Whole f rest) few = frame_plain n side (left_with i rest) i.place f few
  framed_plain n i (Unknown kind rest) few = Same refl
  framed_plain n i (Refused e) few = Same refl

  next_plain : (n : ℕ) (i : Incoming) (bytes : List ℕ) → i.waits_for ≤ n → PullsPlainly n (next_frame side own id r i bytes) (next_frame side (plain own) id r (plain_incoming i) bytes)
  next_plain n i [] few = either n i.ended _ _ _ _ (end_plain n i i.place) (Same refl)
  next_plain n i (byte ∷ bytes) few = framed_plain n i (frame_by (kinds_of own) (byte ∷ bytes)) few

  excess_told : (i : Incoming) (bytes : List ℕ) → tells_malformed false (excess id i bytes).answer ≡ true
  excess_told i bytes = by_type (begins_section bytes)
    where
      by_type : (b : Bool) → tells_malformed false (if b then malformed id malformation.TooLong i [] else connection_fault excessive_load (record i { unread = [] })).answer ≡ true
      by_type true = refl
      by_type false = refl

  excess_waits : (n : ℕ) (i : Incoming) (bytes : List ℕ) → i.waits_for ≤ n → (excess id i bytes).incoming.waits_for ≤ n
  excess_waits n i bytes few = by_type (begins_section bytes)
    where
      by_type : (b : Bool) → (if b then malformed id malformation.TooLong i [] else connection_fault excessive_load (record i { unread = [] })).incoming.waits_for ≤ n
      by_type true = least n
      by_type false = few

  message_plain : (n : ℕ) (i : Incoming) (section : Option (List ℕ)) → i.waits_for ≤ n → PullsPlainly n (in_message side own id r i section) (in_message side (plain own) id r (plain_incoming i) section)
  message_plain n i (Some bytes) few = at_plain n i bytes
  message_plain n i None few =
      let bytes = skipped (kinds_of own) (is_body i.place) (concat i.unread) in
      either n (nat_lt 0 i.body_left) _ _ _ _ (payload_plain n id i)
      (subst (λ b. PullsPlainly n (between_frames side own id r i) (if b then excess id (plain_incoming i) bytes else next_frame side (plain own) id r (plain_incoming (left_with i bytes)) bytes)) (sym (none_excessive_by (kinds_of own) (2 ^ 62 - 1) bytes refl))
      (unless n (is_excessive_by (kinds_of own) own.choices.unfinished_limit bytes) (excess id i bytes) _ _ (excess_told i bytes) (excess_waits n i bytes few) (next_plain n (left_with i bytes) bytes few)))

  item_plain : (n : ℕ) (i : Incoming) (place : Place) → i.waits_for ≤ n → PullsPlainly n (next_item side own id r i place) (next_item side (plain own) id r (plain_incoming i) place)
  item_plain n i BeforeHead few = message_plain n i i.section few
  item_plain n i InBody few = message_plain n i i.section few
  item_plain n i AfterTrailer few = message_plain n i i.section few
  item_plain n i InSession few = raw_plain n i (first_of i.unread)

  pub pull_plain : (i : Incoming) → PullsPlainly i.waits_for (pull_stream side own id r i) (pull_stream side (plain own) id r (plain_incoming i))
  unfolding pull_stream
  pull_plain i = by_fault i.fault
    where
      by_fault : (f : Option StreamFault) → PullsPlainly i.waits_for
          (elim f [ Some why ↦ just (pull.Fault (Stream why)) i | None ↦ if i.is_over then just (pull.Item item.End) i else next_item side own id r i i.place ])
          (elim f [ Some why ↦ just (pull.Fault (Stream why)) (plain_incoming i) | None ↦ if i.is_over then just (pull.Item item.End) (plain_incoming i) else next_item side (plain own) id r (plain_incoming i) i.place ])
      by_fault (Some why) = Same refl
      by_fault None = either i.waits_for i.is_over _ _ _ _ (Same refl) (item_plain i.waits_for i i.place (omega arith))
