-- A pull of one request stream by a side that judges more: it is answered as without that, or ends the connection, or gives the message up.
use Rattle.std.proofs.Common.{◌≡◌, ◌⊎◌, inl, inr, ℕ, Bool, true, false, if◌then◌else◌, List, [], ◌∷◌, length, refl, subst, sym, Option, Some, None}
use Rattle.std.specs.Prelude.{not, ◌&&◌, ◌==◌, ◌^◌, ◌-◌, nat_lt}
use Rattle.std.specs.List.{concat}
use Rattle.h3_field.specs.Field.{Field}
use Rattle.h3_field.specs.Instruction.{DecoderInstruction}
use Rattle.h3_qpack.specs.DecoderState.{DecoderState}
use Rattle.h3_qpack.specs.DecodedSection.{DecodedSection, Fields, Missing, BadSection, decode_section}
use Rattle.h3_header.specs.Head.{Head, has_pseudo}
use Rattle.h3_header.specs.HeadRead.{HeadRead, IsHead, IsNone, Value, head_by}
use Rattle.h3_messages.specs.Content.{is_exceeded, may_end, takes_trailer}
use Rattle.h3_proto.specs.declared.stream.Side.{Side}
use Rattle.h3_proto.specs.declared.stream.Side.TheVariants.{Client, Server}
use Rattle.h3_frames.specs.ExcessiveFrames.{begins_section, is_excessive_by}
use Rattle.h3_frames.specs.ExcessiveLaws.{none_excessive_by}
use Rattle.h3_frames.specs.Frames.{Front, Whole, Unknown, Refused, Unfinished, frame_by}
use Rattle.h3_frames.specs.Pieces.{chunk_of, first_of}
use Rattle.h3_frames.specs.declared.proto.frame.PayloadLen.{PayloadLen}
use Rattle.h3_frames.specs.declared.proto.frame.Frame.{Frame}
use Rattle.h3_frames.specs.declared.proto.frame.Frame.TheVariants as frame
use Rattle.h3_connection.specs.Announcing.{section_of}
use Rattle.h3_connection.specs.Codes.{excessive_load, frame_unexpected}
use Rattle.h3_connection.specs.Incoming.{Incoming, is_body}
use Rattle.h3_connection.specs.Pulling.{Pulled, just, connection_fault, malformed, body_of, raw_of, unless_broken, whole_head, whole_trailer, head_or_trailer, judged, read_section, decoded, at_section, at_trailer, at_end, at_frame, framed, next_frame, between_frames, excess, in_message, next_item, pull_stream, in_payload, at_payload, begun_section, begun_payload, left_with, past_section, acknowledgment, is_for, is_client, is_interim, malformation_of, with_content, told_size}
use Rattle.h3_connection.specs.Skipping.{skipped}
use Rattle.h3_connection.specs.StrictConnection.{is_no_session, kinds_of}
use Rattle.h3_connection.specs.StrictMessages.{broken_rule, if_whole}
use Rattle.h3_connection.specs.declared.event.Fault.TheVariants.{Connection, Stream}
use Rattle.h3_connection.specs.declared.event.Item.{Item}
use Rattle.h3_connection.specs.declared.event.Item.TheVariants as item
use Rattle.h3_connection.specs.declared.event.Malformation.{Malformation}
use Rattle.h3_connection.specs.declared.event.Malformation.TheVariants as malformation
use Rattle.h3_connection.specs.declared.event.Pull.TheVariants as pull
use Rattle.h3_connection.specs.declared.event.StreamFault.{StreamFault}
use Rattle.h3_connection.specs.declared.event.StreamFault.TheVariants as stream_fault
use Rattle.h3_connection.specs.declared.place.Place.{Place}
use Rattle.h3_connection.specs.declared.place.Place.TheVariants.{BeforeHead, InBody, AfterTrailer, InSession}
use Rattle.h3_connection.specs.declared.setup.Announced.{Announced}
use Rattle.h3_strict.specs.NarrowLaws.{reads_less}
use Rattle.h3_strict.specs.Plainly.{plain, plain_incoming}
use Rattle.h3_strict.proofs.PlainPulls.{plain_pulled}

-- what stays of a stream that is given up
pub record Marks : Type 0 where
  pub ended : Bool
  pub was_reset : Bool
  pub is_over : Bool
  pub fault : Option StreamFault

abbrev pub marks_of : Incoming → Marks
marks_of i = record { ended = i.ended; was_reset = i.was_reset; is_over = i.is_over; fault = i.fault }

-- The message is given up at once, or behind the section that the other pull hands out; or that gives it up too.
pub data Verdict (id : ℕ) (m : Marks) (p q : Pulled) : Type 0 where
  IsSame : q ≡ plain_pulled p → Verdict id m p q
  EndsAll : (code : ℕ) → p.answer ≡ pull.Fault (Connection code) → Verdict id m p q
  AtOnce : (why : Malformation) (j : Incoming) → p ≡ malformed id why j [] → marks_of j ≡ m → Verdict id m p q
  BothGone : (why other : Malformation) (j : Incoming) (replies : List DecoderInstruction) → p ≡ malformed id why j replies → marks_of j ≡ m → q.answer ≡ pull.Fault (Stream (stream_fault.Malformed other)) → Verdict id m p q
  BehindSection : (why : Malformation) (j : Incoming) (it : Item) → p ≡ malformed id why j q.replies → marks_of j ≡ m → q.answer ≡ pull.Item it → marks_of q.incoming ≡ m → Verdict id m p q

either : (id : ℕ) (m : Marks) (b : Bool) (x y v w : Pulled) → Verdict id m x v → Verdict id m y w → Verdict id m (if b then x else y) (if b then v else w)
either id m true x y v w h k = h
either id m false x y v w h k = k

-- the rule in front is broken, or the answer is that behind it
unless : (id : ℕ) (m : Marks) (b : Bool) (x y v : Pulled) → Verdict id m x v → Verdict id m y v → Verdict id m (if b then x else y) v
unless id m true x y v h k = h
unless id m false x y v h k = k

body_told : (id : ℕ) (i : Incoming) (found : Option (List ℕ) × List (List ℕ)) → Verdict id (marks_of i) (body_of i found) (body_of (plain_incoming i) found)
body_told id i (None, pieces) = IsSame refl
body_told id i (Some bytes, pieces) = IsSame refl

payload_told : (id : ℕ) (i : Incoming) → Verdict id (marks_of i) (at_payload id i) (at_payload id (plain_incoming i))
payload_told id i =
    unless id (marks_of i) (is_exceeded i.content) (malformed id malformation.ContentLength i []) (in_payload i) (in_payload (plain_incoming i)) (AtOnce malformation.ContentLength i refl refl)
    (either id (marks_of i) (i.ended && nat_lt (length (concat i.unread)) i.body_left) _ _ _ _ (IsSame refl) (body_told id i (chunk_of i.body_left i.unread)))

raw_told : (id : ℕ) (i : Incoming) (found : Option (List ℕ) × List (List ℕ)) → Verdict id (marks_of i) (raw_of i found) (raw_of (plain_incoming i) found)
raw_told id i (None, pieces) = either id (marks_of i) i.ended _ _ _ _ (IsSame refl) (IsSame refl)
raw_told id i (Some bytes, pieces) = IsSame refl

-- a section that breaks a rule
broken_told : (id : ℕ) (i : Incoming) (replies : List DecoderInstruction) (broken : Option Malformation) (p q : Pulled) (it : Item) → q ≡ plain_pulled p → q.replies ≡ replies → q.answer ≡ pull.Item it → marks_of q.incoming ≡ marks_of i
    → Verdict id (marks_of i) (unless_broken id i replies broken p) q
broken_told id i replies None p q it same said gives marks = IsSame same
broken_told id i replies (Some why) p q it same said gives marks = BehindSection why i it (subst (λ l. malformed id why i replies ≡ malformed id why i l) (sym said) refl) refl gives marks

head_told : (side : Side) (id : ℕ) (i : Incoming) (replies : List DecoderInstruction) (broken : Option Malformation) (h : Head)
    → Verdict id (marks_of i) (whole_head side id i replies broken h) (whole_head side id (plain_incoming i) replies None h)
head_told side id i replies broken h = either id (marks_of i) (not (is_for side h)) _ _ _ _ (IsSame refl) (by_interim (is_client side && is_interim h.status))
  where
    interim : Incoming → Pulled
    interim j = record { answer = pull.Item (item.Interim h); incoming = j; replies = replies }

    final : Incoming → Pulled
    final j = record { answer = pull.Item (item.Head h); incoming = record j { place = InBody }; replies = replies }

    by_interim : (b : Bool) → Verdict id (marks_of i) (unless_broken id i replies broken (if b then interim i else final i)) (if b then interim (plain_incoming i) else final (plain_incoming i))
    by_interim true = broken_told id i replies broken (interim i) (interim (plain_incoming i)) (item.Interim h) refl refl refl refl
    by_interim false = broken_told id i replies broken (final i) (final (plain_incoming i)) (item.Head h) refl refl refl refl

trailer_told : (id : ℕ) (i : Incoming) (replies : List DecoderInstruction) (broken : Option Malformation) (h : Head)
    → Verdict id (marks_of i) (whole_trailer id i replies broken h) (whole_trailer id (plain_incoming i) replies None h)
trailer_told id i replies broken h = either id (marks_of i) (has_pseudo h) _ _ _ _ (IsSame refl) (broken_told id i replies broken _ _ (item.Trailer h) refl refl refl refl)

section_told : (side : Side) (id : ℕ) (i : Incoming) (replies : List DecoderInstruction) (broken : Option Malformation) (place : Place) (h : Head)
    → Verdict id (marks_of i) (head_or_trailer side id i replies broken place h) (head_or_trailer side id (plain_incoming i) replies None place h)
section_told side id i replies broken BeforeHead h = head_told side id i replies broken h
section_told side id i replies broken InBody h = trailer_told id i replies broken h
section_told side id i replies broken AfterTrailer h = trailer_told id i replies broken h
section_told side id i replies broken InSession h = trailer_told id i replies broken h

judged_told : (side : Side) (id : ℕ) (i : Incoming) (replies : List DecoderInstruction) (broken : Option Malformation) (read : HeadRead)
    → Verdict id (marks_of i) (judged side id i replies broken read) (judged side id (plain_incoming i) replies None read)
judged_told side id i replies broken (IsNone why) = IsSame refl
judged_told side id i replies broken (IsHead h) = section_told side id i replies broken i.place h

-- one that the side does not read
unread_told : (side : Side) (id : ℕ) (i : Incoming) (replies : List DecoderInstruction) (read : HeadRead) → Verdict id (marks_of i) (malformed id malformation.Value i replies) (judged side id (plain_incoming i) replies None read)
unread_told side id i replies (IsNone why) = BothGone malformation.Value (malformation_of why) i replies refl refl refl
unread_told side id i replies (IsHead h) = by_place i.place
  where
    by_side : (b c : Bool) → Verdict id (marks_of i) (malformed id malformation.Value i replies)
        (if b then malformed id malformation.WrongSide (plain_incoming i) replies else (
        if c then record { answer = pull.Item (item.Interim h); incoming = plain_incoming i; replies = replies } else
        record { answer = pull.Item (item.Head h); incoming = record (plain_incoming i) { place = InBody }; replies = replies }))
    by_side true c = BothGone malformation.Value malformation.WrongSide i replies refl refl refl
    by_side false true = BehindSection malformation.Value i (item.Interim h) refl refl refl refl
    by_side false false = BehindSection malformation.Value i (item.Head h) refl refl refl refl

    by_pseudo : (b : Bool) → Verdict id (marks_of i) (malformed id malformation.Value i replies)
        (if b then malformed id malformation.PseudoInTrailer (plain_incoming i) replies else record { answer = pull.Item (item.Trailer h); incoming = record (plain_incoming i) { place = AfterTrailer }; replies = replies })
    by_pseudo true = BothGone malformation.Value malformation.PseudoInTrailer i replies refl refl refl
    by_pseudo false = BehindSection malformation.Value i (item.Trailer h) refl refl refl refl

    by_place : (place : Place) → Verdict id (marks_of i) (malformed id malformation.Value i replies) (head_or_trailer side id (plain_incoming i) replies None place h)
    by_place BeforeHead = by_side (not (is_for side h)) (is_client side && is_interim h.status)
    by_place InBody = by_pseudo (has_pseudo h)
    by_place AfterTrailer = by_pseudo (has_pseudo h)
    by_place InSession = by_pseudo (has_pseudo h)

module _ (side : Side) (own : Announced) (id : ℕ) (r : DecoderState) where
  read_told : (i : Incoming) (replies : List DecoderInstruction) (fields : List Field) → Verdict id (marks_of i) (read_section side own id r i replies fields) (read_section side (plain own) id r (plain_incoming i) replies fields)
  read_told i replies fields =
      either id (marks_of i) (nat_lt (section_of own) (told_size fields)) _ _ _ _ (IsSame refl)
      (by_read (reads_less own.choices.extensions.any_protocol fields))
    where
      j : Incoming
      j = with_content side own i fields

      broken : Option Malformation
      broken = if_whole i.content (broken_rule side own i.place fields)

      Told : HeadRead → Type 0
      Told h = Verdict id (marks_of i) (judged side id j replies broken h) (judged side id (plain_incoming j) replies None (head_by true fields))

      by_read : (head_by own.choices.extensions.any_protocol fields ≡ head_by true fields) ⊎ ((head_by own.choices.extensions.any_protocol fields ≡ IsNone Value) × (own.choices.extensions.any_protocol ≡ false)) → Told (head_by own.choices.extensions.any_protocol fields)
      by_read (inl same) = subst Told (sym same) (judged_told side id j replies broken (head_by true fields))
      by_read (inr value) = subst Told (sym value.0) (unread_told side id j replies (head_by true fields))

  decoded_told : (i : Incoming) (d : DecodedSection) → Verdict id (marks_of i) (decoded side own id r i d) (decoded side (plain own) id r (plain_incoming i) d)
  decoded_told i (Fields fields count) = read_told (past_section i) (acknowledgment id count) fields
  decoded_told i (Missing count) = either id (marks_of i) (i.waits_for == 0) _ _ _ _ (IsSame refl) (IsSame refl)
  decoded_told i BadSection = IsSame refl

  at_told : (i : Incoming) (bytes : List ℕ) → Verdict id (marks_of i) (at_section side own id r i bytes) (at_section side (plain own) id r (plain_incoming i) bytes)
  at_told i bytes = either id (marks_of i) (nat_lt r.table.inserted i.waits_for) _ _ _ _ (IsSame refl) (decoded_told i (decode_section r bytes))

  -- a trailer in a tunnel ends the connection
  trailer_at_told : (i : Incoming) (bytes : List ℕ) → Verdict id (marks_of i) (at_trailer side own id r i bytes) (at_trailer side (plain own) id r (plain_incoming i) bytes)
  trailer_at_told i bytes = by_content (takes_trailer i.content)
    where
      next : Pulled
      next = at_section side (plain own) id r (plain_incoming (begun_section i bytes)) bytes

      by_content : (b : Bool) → Verdict id (marks_of i) (if b then at_section side own id r (begun_section i bytes) bytes else connection_fault frame_unexpected i) next
      by_content true = at_told (begun_section i bytes) bytes
      by_content false = EndsAll frame_unexpected refl

  whole_told : (i : Incoming) (b : Bool) → Verdict id (marks_of i) (if b then just (pull.Item item.End) (record i { unread = []; is_over = true }) else malformed id malformation.ContentLength i [])
      (just (pull.Item item.End) (record (plain_incoming i) { unread = []; is_over = true }))
  whole_told i true = IsSame refl
  whole_told i false = AtOnce malformation.ContentLength i refl refl

  end_told : (i : Incoming) (place : Place) → Verdict id (marks_of i) (at_end side own id r i place) (at_end side (plain own) id r (plain_incoming i) place)
  end_told i BeforeHead = IsSame refl
  end_told i InBody = whole_told i (may_end i.content)
  end_told i AfterTrailer = whole_told i (may_end i.content)
  end_told i InSession = whole_told i (may_end i.content)

  frame_told : (at : Side) (i : Incoming) (place : Place) (f : Frame PayloadLen) → Verdict id (marks_of i) (at_frame side own id r at i place f) (at_frame side (plain own) id r at (plain_incoming i) place f)
  frame_told Client i BeforeHead (frame.Headers bytes) = at_told (begun_section i bytes) bytes
  frame_told Server i BeforeHead (frame.Headers bytes) = at_told (begun_section i bytes) bytes
  frame_told Client i InBody (frame.Headers bytes) = trailer_at_told i bytes
  frame_told Server i InBody (frame.Headers bytes) = trailer_at_told i bytes
  frame_told Client i InBody (frame.Data len) = payload_told id (begun_payload i len.0)
  frame_told Server i InBody (frame.Data len) = payload_told id (begun_payload i len.0)
  frame_told Server i BeforeHead (frame.WebTransportStream session) = either id (marks_of i) (is_no_session own session) _ _ _ _ (IsSame refl) (IsSame refl)
  frame_told Client i place (frame.PushPromise promise) = IsSame refl
  frame_told _ i place _ = IsSame refl

  framed_told : (i : Incoming) (f : Front) → Verdict id (marks_of i) (framed side own id r i f) (framed side (plain own) id r (plain_incoming i) f)
  framed_told i (Unfinished least) = either id (marks_of i) i.ended _ _ _ _ (IsSame refl) (IsSame refl)
  framed_told i (Whole f rest) = frame_told side (left_with i rest) i.place f
  framed_told i (Unknown kind rest) = IsSame refl
  framed_told i (Refused e) = IsSame refl

  next_told : (i : Incoming) (bytes : List ℕ) → Verdict id (marks_of i) (next_frame side own id r i bytes) (next_frame side (plain own) id r (plain_incoming i) bytes)
  next_told i [] = either id (marks_of i) i.ended _ _ _ _ (end_told i i.place) (IsSame refl)
  next_told i (byte ∷ bytes) = framed_told i (frame_by (kinds_of own) (byte ∷ bytes))

  excess_told : (i : Incoming) (bytes : List ℕ) (q : Pulled) → Verdict id (marks_of i) (excess id i bytes) q
  excess_told i bytes q = by_type (begins_section bytes)
    where
      by_type : (b : Bool) → Verdict id (marks_of i) (if b then malformed id malformation.TooLong i [] else connection_fault excessive_load (record i { unread = [] })) q
      by_type true = AtOnce malformation.TooLong i refl refl
      by_type false = EndsAll excessive_load refl

  message_told : (i : Incoming) (section : Option (List ℕ)) → Verdict id (marks_of i) (in_message side own id r i section) (in_message side (plain own) id r (plain_incoming i) section)
  message_told i (Some bytes) = at_told i bytes
  message_told i None =
      let bytes = skipped (kinds_of own) (is_body i.place) (concat i.unread) in
      let next = next_frame side (plain own) id r (plain_incoming (left_with i bytes)) bytes in
      either id (marks_of i) (nat_lt 0 i.body_left) _ _ _ _ (payload_told id i)
      (subst (λ b. Verdict id (marks_of i) (between_frames side own id r i) (if b then excess id (plain_incoming i) bytes else next)) (sym (none_excessive_by (kinds_of own) (2 ^ 62 - 1) bytes refl))
      (unless id (marks_of i) (is_excessive_by (kinds_of own) own.choices.unfinished_limit bytes) (excess id i bytes) (next_frame side own id r (left_with i bytes) bytes) next (excess_told i bytes next) (next_told (left_with i bytes) bytes)))

  item_told : (i : Incoming) (place : Place) → Verdict id (marks_of i) (next_item side own id r i place) (next_item side (plain own) id r (plain_incoming i) place)
  item_told i BeforeHead = message_told i i.section
  item_told i InBody = message_told i i.section
  item_told i AfterTrailer = message_told i i.section
  item_told i InSession = raw_told id i (first_of i.unread)

  pub pull_told : (i : Incoming) → Verdict id (marks_of i) (pull_stream side own id r i) (pull_stream side (plain own) id r (plain_incoming i))
  unfolding pull_stream
  pull_told i = by_fault i.fault
    where
      by_fault : (f : Option StreamFault) → Verdict id (marks_of i)
          (elim f [ Some why ↦ just (pull.Fault (Stream why)) i | None ↦ if i.is_over then just (pull.Item item.End) i else next_item side own id r i i.place ])
          (elim f [ Some why ↦ just (pull.Fault (Stream why)) (plain_incoming i) | None ↦ if i.is_over then just (pull.Item item.End) (plain_incoming i) else next_item side (plain own) id r (plain_incoming i) i.place ])
      by_fault (Some why) = IsSame refl
      by_fault None = either id (marks_of i) i.is_over _ _ _ _ (IsSame refl) (item_told i i.place)
