-- Behind a head that a strict endpoint hands out stands the content that its list says.
use Rattle.std.proofs.Common.{◌≡◌, ℕ, Bool, true, false, List, [], ◌∷◌, length, refl, ◌∙◌, ap}
use Rattle.std.specs.Prelude.{Option, Some, None, if◌then◌else◌, ◌==◌, nat_lt, not, ◌&&◌}
use Rattle.std.specs.List.{concat}
use Rattle.h3_field.specs.Field.{Field}
use Rattle.h3_field.specs.Instruction.{DecoderInstruction}
use Rattle.h3_qpack.specs.DecoderState.{DecoderState}
use Rattle.h3_qpack.specs.DecodedSection.{DecodedSection, Fields, Missing, BadSection, decode_section}
use Rattle.h3_header.specs.Head.{Head, has_pseudo}
use Rattle.h3_header.specs.HeadRead.{HeadRead, IsHead, IsNone, head_by}
use Rattle.h3_proto.specs.declared.stream.Side.{Side}
use Rattle.h3_proto.specs.declared.stream.Side.TheVariants.{Client, Server}
use Rattle.h3_frames.specs.ExcessiveFrames.{begins_section, is_excessive_by}
use Rattle.h3_frames.specs.Frames.{Front, Whole, Unknown, Refused, Unfinished, frame_by}
use Rattle.h3_frames.specs.Pieces.{chunk_of, first_of, ending}
use Rattle.h3_frames.specs.declared.proto.frame.PayloadLen.{PayloadLen}
use Rattle.h3_frames.specs.declared.proto.frame.Frame.{Frame}
use Rattle.h3_frames.specs.declared.proto.frame.Frame.TheVariants as frame
use Rattle.h3_connection.specs.Announcing.{section_of}
use Rattle.h3_connection.specs.Incoming.{Incoming, is_body}
use Rattle.h3_connection.specs.Skipping.{skipped}
use Rattle.h3_connection.specs.StrictMessages.{broken_rule, content_read, content_behind, content_at, response_of_head, response_behind, response_at, if_whole}
use Rattle.h3_messages.specs.Content.{is_exceeded, may_end, takes_trailer}
use Rattle.h3_messages.specs.declared.content.Content.{Content}
use Rattle.h3_connection.specs.CountedContent.{HasItsContent, HeadsHaveTheirContent}
use Rattle.h3_connection.specs.Pulling.{Pulled, just, connection_fault, malformed, unless_broken, whole_head, whole_trailer, head_or_trailer, judged, read_section, decoded, at_section, at_trailer, at_end, at_frame, framed, next_frame, in_message, next_item, pull_stream, in_payload, at_payload, body_of, raw_of, begun_section, begun_payload, with_content, left_with, past_section, is_for, is_client, is_interim, told_size, between_frames, excess}
use Rattle.h3_connection.specs.declared.setup.Announced.{Announced}
use Rattle.h3_connection.specs.declared.event.Malformation.{Malformation}
use Rattle.h3_connection.specs.declared.event.Malformation.TheVariants as malformation
use Rattle.h3_connection.specs.declared.event.Pull.TheVariants as pull
use Rattle.h3_connection.specs.declared.event.StreamFault.{StreamFault}
use Rattle.h3_connection.specs.declared.event.Fault.TheVariants as fault
use Rattle.h3_connection.specs.declared.event.Item.TheVariants as item
use Rattle.h3_connection.specs.declared.place.Place.{Place}
use Rattle.h3_connection.specs.declared.place.Place.TheVariants.{BeforeHead, InBody, AfterTrailer, InSession}
use Rattle.h3_connection.specs.StrictConnection.{kinds_of, is_no_session}

module _ (side : Side) (own : Announced) (strict : own.choices.strict_messages ≡ true) (id : ℕ) (r : DecoderState) (awaited : Content) (known : Option Content) where
  abbrev Sets : Pulled → Type 0
  Sets p = HasItsContent side own awaited known p.answer p.incoming

  -- what was known in front of a section, and what is behind it
  abbrev Before : Incoming → Type 0
  Before i = (i.content ≡ awaited) × (i.response ≡ known)

  abbrev Behind : List Field → Incoming → Type 0
  Behind fields i = (i.content ≡ content_read side awaited fields) × (i.response ≡ response_of_head side known fields)

  either : (b : Bool) (x y : Pulled) → Sets x → Sets y → Sets (if b then x else y)
  either true x y h k = h
  either false x y h k = k

  unbroken_sets : (i : Incoming) (replies : List DecoderInstruction) (broken : Option Malformation) (p : Pulled) → Sets p → Sets (unless_broken id i replies broken p)
  unbroken_sets i replies None p h = h
  unbroken_sets i replies (Some why) p h = tt

  head_sets : (i : Incoming) (replies : List DecoderInstruction) (broken : Option Malformation) (h : Head) (fields : List Field) → head_by own.choices.extensions.any_protocol fields ≡ IsHead h → Behind fields i
      → Sets (whole_head side id i replies broken h)
  head_sets i replies broken h fields is content =
      either (not (is_for side h)) _ _ tt
      (unbroken_sets i replies broken _ (either (is_client side && is_interim h.status) (record { answer = pull.Item (item.Interim h); incoming = i; replies = replies })
      (record { answer = pull.Item (item.Head h); incoming = record i { place = InBody }; replies = replies }) tt (fields, is, content.0, refl, content.1)))

  trailer_sets : (i : Incoming) (replies : List DecoderInstruction) (broken : Option Malformation) (h : Head) → Sets (whole_trailer id i replies broken h)
  trailer_sets i replies broken h = either (has_pseudo h) _ _ tt (unbroken_sets i replies broken _ tt)

  section_sets : (i : Incoming) (replies : List DecoderInstruction) (broken : Option Malformation) (place : Place) (fields : List Field) (h : Head) → head_by own.choices.extensions.any_protocol fields ≡ IsHead h
      → (place ≡ BeforeHead → Behind fields i) → Sets (head_or_trailer side id i replies broken place h)
  section_sets i replies broken BeforeHead fields h is content = head_sets i replies broken h fields is (content refl)
  section_sets i replies broken InBody fields h is content = trailer_sets i replies broken h
  section_sets i replies broken AfterTrailer fields h is content = trailer_sets i replies broken h
  section_sets i replies broken InSession fields h is content = trailer_sets i replies broken h

  judged_sets : (i : Incoming) (replies : List DecoderInstruction) (broken : Option Malformation) (fields : List Field) (read : HeadRead) → head_by own.choices.extensions.any_protocol fields ≡ read
      → (i.place ≡ BeforeHead → Behind fields i) → Sets (judged side id i replies broken read)
  judged_sets i replies broken fields (IsNone why) is content = tt
  judged_sets i replies broken fields (IsHead h) is content = section_sets i replies broken i.place fields h is content

  read_sets : (i : Incoming) (replies : List DecoderInstruction) (fields : List Field) → Before i → Sets (read_section side own id r i replies fields)
  read_sets i replies fields same =
      either (nat_lt (section_of own) (told_size fields)) _ _ tt
      (judged_sets (with_content side own i fields) replies (if_whole i.content (broken_rule side own i.place fields)) fields (head_by own.choices.extensions.any_protocol fields) refl
      (λ at. (
        ap (λ place. content_at side own place i.content fields) at ∙ ap (λ b. if b then content_behind side BeforeHead i.content fields else i.content) strict ∙ ap (λ c. content_read side c fields) same.0,
        ap (λ place. response_at side own place i.response fields) at ∙ ap (λ b. if b then response_behind side BeforeHead i.response fields else i.response) strict ∙ ap (λ k. response_of_head side k fields) same.1,
      )))

  decoded_sets : (i : Incoming) (d : DecodedSection) → Before i → Sets (decoded side own id r i d)
  decoded_sets i (Fields fields count) same = read_sets (past_section i) _ fields same
  decoded_sets i (Missing count) same = either (i.waits_for == 0) _ _ tt tt
  decoded_sets i BadSection same = tt

  at_sets : (i : Incoming) (bytes : List ℕ) → Before i → Sets (at_section side own id r i bytes)
  at_sets i bytes same = either (nat_lt r.table.inserted i.waits_for) _ _ tt (decoded_sets i (decode_section r bytes) same)

  body_sets : (i : Incoming) (found : Option (List ℕ) × List (List ℕ)) → Sets (body_of i found)
  body_sets i (None, pieces) = tt
  body_sets i (Some bytes, pieces) = tt

  payload_sets : (i : Incoming) → Sets (in_payload i)
  payload_sets i = either (i.ended && nat_lt (length (concat i.unread)) i.body_left) (connection_fault 0x106 i) (body_of i (chunk_of i.body_left i.unread)) tt (body_sets i (chunk_of i.body_left i.unread))

  content_sets : (i : Incoming) → Sets (at_payload id i)
  content_sets i = either (is_exceeded i.content) (malformed id malformation.ContentLength i []) (in_payload i) tt (payload_sets i)

  raw_sets : (i : Incoming) (found : Option (List ℕ) × List (List ℕ)) → Sets (raw_of i found)
  raw_sets i (None, pieces) = either i.ended (just (pull.Item item.End) (record i { is_over = true })) (just pull.Pending i) tt tt
  raw_sets i (Some bytes, pieces) = tt

  trailer_frame_sets : (i : Incoming) (bytes : List ℕ) → Before i → Sets (at_trailer side own id r i bytes)
  trailer_frame_sets i bytes same = either (takes_trailer i.content) _ (connection_fault 0x105 i) (at_sets (begun_section i bytes) bytes same) tt

  whole_sets : (i : Incoming) → Sets (if may_end i.content then just (pull.Item item.End) (record i { unread = []; is_over = true }) else malformed id malformation.ContentLength i [])
  whole_sets i = either (may_end i.content) (just (pull.Item item.End) (record i { unread = []; is_over = true })) (malformed id malformation.ContentLength i []) tt tt

  end_sets : (i : Incoming) (place : Place) → Sets (at_end side own id r i place)
  end_sets i BeforeHead = tt
  end_sets i InBody = whole_sets i
  end_sets i AfterTrailer = whole_sets i
  end_sets i InSession = whole_sets i

  frame_sets : (side' : Side) (i : Incoming) (place : Place) (f : Frame PayloadLen) → Before i → Sets (at_frame side own id r side' i place f)
  frame_sets Client i BeforeHead (frame.Headers bytes) same = at_sets (begun_section i bytes) bytes same
  frame_sets Server i BeforeHead (frame.Headers bytes) same = at_sets (begun_section i bytes) bytes same
  frame_sets Client i InBody (frame.Headers bytes) same = trailer_frame_sets i bytes same
  frame_sets Server i InBody (frame.Headers bytes) same = trailer_frame_sets i bytes same
  frame_sets Client i InBody (frame.Data len) same = content_sets (begun_payload i len.0)
  frame_sets Server i InBody (frame.Data len) same = content_sets (begun_payload i len.0)
  frame_sets Server i BeforeHead (frame.WebTransportStream session) same = either (is_no_session own session) _ _ tt tt
  frame_sets Client i place (frame.PushPromise promise) same = tt
  frame_sets _ i place _ same = tt

  framed_sets : (i : Incoming) (front : Front) → Before i → Sets (framed side own id r i front)
  framed_sets i (Unfinished least) same = either i.ended _ _ tt tt
  framed_sets i (Whole f rest) same = frame_sets side (left_with i rest) i.place f same
  framed_sets i (Unknown kind rest) same = tt
  framed_sets i (Refused e) same = tt

  next_sets : (i : Incoming) (bytes : List ℕ) → Before i → Sets (next_frame side own id r i bytes)
  next_sets i [] same = either i.ended (at_end side own id r i i.place) (just pull.Pending i) (end_sets i i.place) tt
  next_sets i (byte ∷ bytes) same = framed_sets i (frame_by (kinds_of own) (byte ∷ bytes)) same

  excess_sets : (i : Incoming) (bytes : List ℕ) → Sets (excess id i bytes)
  excess_sets i bytes = either (begins_section bytes) (malformed id malformation.TooLong i []) (connection_fault 0x107 (record i { unread = [] })) tt tt

  message_sets : (i : Incoming) (section : Option (List ℕ)) → Before i → Sets (in_message side own id r i section)
  message_sets i (Some bytes) same = at_sets i bytes same
  message_sets i None same =
      let bytes = skipped (kinds_of own) (is_body i.place) (concat i.unread) in
      let j = record i { unread = ending (length bytes) i.unread } in
      either (nat_lt 0 i.body_left) (at_payload id i) (between_frames side own id r i) (content_sets i)
      (either (is_excessive_by (kinds_of own) own.choices.unfinished_limit bytes) (excess id i bytes) (next_frame side own id r j bytes) (excess_sets i bytes) (next_sets j bytes same))

  item_sets : (i : Incoming) (place : Place) → Before i → Sets (next_item side own id r i place)
  item_sets i InSession same = raw_sets i (first_of i.unread)
  item_sets i BeforeHead same = message_sets i i.section same
  item_sets i InBody same = message_sets i i.section same
  item_sets i AfterTrailer same = message_sets i i.section same

  pull_sets : (i : Incoming) → Before i → Sets (pull_stream side own id r i)
  unfolding pull_stream
  pull_sets i same = by_fault i.fault
    where
      by_fault : (f : Option StreamFault) → Sets (elim f [
        | Some why ↦ just (pull.Fault (fault.Stream why)) i
        | None ↦ if i.is_over then just (pull.Item item.End) i else next_item side own id r i i.place
      ])
      by_fault (Some f) = tt
      by_fault None = either i.is_over (just (pull.Item item.End) i) (next_item side own id r i i.place) tt (item_sets i i.place same)

pub heads_have_their_content : HeadsHaveTheirContent
heads_have_their_content side own id r i strict = pull_sets side own strict id r i.content i.response i (refl, refl)
