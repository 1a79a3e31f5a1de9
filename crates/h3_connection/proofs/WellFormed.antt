-- A strict endpoint hands out no head and no trailer whose list breaks a rule.
use Rattle.std.proofs.Common.{◌≡◌, ℕ, Bool, true, false, List, [], ◌∷◌, length, refl, sym, ◌∙◌, ap}
use Rattle.std.specs.Prelude.{Option, Some, None, option_map, if◌then◌else◌, ◌==◌, nat_lt, not, ◌&&◌}
use Rattle.std.specs.List.{concat}
use Rattle.h3_field.specs.Field.{Field}
use Rattle.h3_field.specs.Instruction.{DecoderInstruction}
use Rattle.h3_qpack.specs.DecoderState.{DecoderState}
use Rattle.h3_qpack.specs.DecodedSection.{DecodedSection, Fields, Missing, BadSection, decode_section}
use Rattle.h3_header.specs.Head.{Head, has_pseudo}
use Rattle.h3_header.specs.HeadRead.{HeadRead, IsHead, IsNone, head_by}
use Rattle.h3_messages.specs.declared.violation.Violation.{Violation}
use Rattle.h3_proto.specs.declared.stream.Side.{Side}
use Rattle.h3_proto.specs.declared.stream.Side.TheVariants.{Client, Server}
use Rattle.h3_frames.specs.ExcessiveFrames.{begins_section, is_excessive_by}
use Rattle.h3_frames.specs.Frames.{Front, Whole, Unknown, Refused, Unfinished, frame_by}
use Rattle.h3_frames.specs.Pieces.{chunk_of, first_of, ending}
use Rattle.h3_frames.specs.declared.proto.frame.PayloadLen.{PayloadLen}
use Rattle.h3_frames.specs.declared.proto.frame.Frame.{Frame}
use Rattle.h3_frames.specs.declared.proto.frame.Frame.TheVariants as frame
use Rattle.h3_connection.specs.Announcing.{section_of}
use Rattle.h3_connection.specs.Incoming.{Incoming, is_body}
use Rattle.h3_connection.specs.Skipping.{skipped}
use Rattle.h3_connection.specs.StrictMessages.{broken_rule, if_whole, malformation_by, violation_at}
use Rattle.h3_messages.specs.Content.{is_exceeded, may_end, takes_trailer}
use Rattle.h3_messages.specs.declared.content.Content.{Content}
use Rattle.h3_connection.specs.StrictPulls.{IsWellFormed, IsWellFormedHead, IsWellFormedTrailer, PullsWellFormed}
use Rattle.h3_connection.specs.Pulling.{Pulled, just, connection_fault, malformed, unless_broken, whole_head, whole_trailer, head_or_trailer, judged, read_section, decoded, at_section, at_trailer, at_end, at_frame, framed, next_frame, in_message, next_item, pull_stream, in_payload, at_payload, body_of, raw_of, begun_section, begun_payload, with_content, left_with, is_for, is_client, is_interim, told_size, between_frames, excess}
use Rattle.h3_connection.specs.declared.setup.Announced.{Announced}
use Rattle.h3_connection.specs.declared.event.Malformation.{Malformation}
use Rattle.h3_connection.specs.declared.event.Malformation.TheVariants as malformation
use Rattle.h3_connection.specs.declared.event.Pull.{Pull}
use Rattle.h3_connection.specs.declared.event.Pull.TheVariants as pull
use Rattle.h3_connection.specs.declared.event.StreamFault.{StreamFault}
use Rattle.h3_connection.specs.declared.event.Fault.TheVariants as fault
use Rattle.h3_connection.specs.declared.event.Item.TheVariants as item
use Rattle.h3_connection.specs.declared.place.Place.{Place}
use Rattle.h3_connection.specs.declared.place.Place.TheVariants.{BeforeHead, InBody, AfterTrailer, InSession}
use Rattle.h3_connection.specs.StrictConnection.{kinds_of, is_no_session}

-- a list breaks no rule where the malformation of its violation is none
no_violation : (v : Option Violation) → option_map malformation_by v ≡ None → v ≡ None
no_violation None e = refl
no_violation (Some v) e = absurd (cc)

module _ (side : Side) (own : Announced) (strict : own.choices.strict_messages ≡ true) (id : ℕ) (r : DecoderState) where
  abbrev Well : Pulled → Type 0
  Well p = IsWellFormed side own p.answer

  either : (b : Bool) (x y : Pulled) → Well x → Well y → Well (if b then x else y)
  either true x y h k = h
  either false x y h k = k

  -- where no rule is told, none is broken
  none_broken : (place : Place) (fields : List Field) → broken_rule side own place fields ≡ None → violation_at side own place fields ≡ None
  none_broken place fields e =
      no_violation (violation_at side own place fields)
      (sym (ap (λ b. let rule : Option Malformation = if b then option_map malformation_by (violation_at side own place fields) else None in rule) strict) ∙ e)

  -- and where that the content is not whole is not told either
  none_told : (content : Content) (broken : Option Malformation) → if_whole content broken ≡ None → broken ≡ None
  none_told content broken = by_end (may_end content)
    where
      by_end : (b : Bool) → ◌≡◌ {A = Option Malformation} (if b then broken else Some malformation.ContentLength) None → broken ≡ None
      by_end true e = e
      by_end false e = absurd (cc)

  unbroken_well : (i : Incoming) (replies : List DecoderInstruction) (broken : Option Malformation) (p : Pulled) → (broken ≡ None → Well p) → Well (unless_broken id i replies broken p)
  unbroken_well i replies None p h = h refl
  unbroken_well i replies (Some why) p h = tt

  head_well : (i : Incoming) (replies : List DecoderInstruction) (broken : Option Malformation) (h : Head) → (broken ≡ None → IsWellFormedHead side own h) → Well (whole_head side id i replies broken h)
  head_well i replies broken h k =
      either (not (is_for side h)) _ _ tt
      (unbroken_well i replies broken _ (λ e. either (is_client side && is_interim h.status) (record { answer = pull.Item (item.Interim h); incoming = i; replies = replies })
      (record { answer = pull.Item (item.Head h); incoming = record i { place = InBody }; replies = replies }) (k e) (k e)))

  trailer_well : (i : Incoming) (replies : List DecoderInstruction) (broken : Option Malformation) (h : Head) → (broken ≡ None → IsWellFormedTrailer own h) → Well (whole_trailer id i replies broken h)
  trailer_well i replies broken h k = either (has_pseudo h) _ _ tt (unbroken_well i replies broken _ k)

  -- the rule that is told where the content stands so
  abbrev rule : Content → Place → List Field → Option Malformation
  rule content place fields = if_whole content (broken_rule side own place fields)

  no_rule : (content : Content) (place : Place) (fields : List Field) → rule content place fields ≡ None → violation_at side own place fields ≡ None
  no_rule content place fields e = none_broken place fields (none_told content (broken_rule side own place fields) e)

  section_well : (i : Incoming) (replies : List DecoderInstruction) (content : Content) (place : Place) (fields : List Field) (h : Head) → head_by own.choices.extensions.any_protocol fields ≡ IsHead h
      → Well (head_or_trailer side id i replies (rule content place fields) place h)
  section_well i replies content BeforeHead fields h is = head_well i replies _ h (λ e. (fields, is, no_rule content BeforeHead fields e))
  section_well i replies content InBody fields h is = trailer_well i replies _ h (λ e. (fields, is, no_rule content InBody fields e))
  section_well i replies content AfterTrailer fields h is = trailer_well i replies _ h (λ e. (fields, is, no_rule content AfterTrailer fields e))
  section_well i replies content InSession fields h is = trailer_well i replies _ h (λ e. (fields, is, no_rule content InSession fields e))

  judged_well : (i : Incoming) (replies : List DecoderInstruction) (content : Content) (fields : List Field) (read : HeadRead) → head_by own.choices.extensions.any_protocol fields ≡ read
      → Well (judged side id i replies (rule content i.place fields) read)
  judged_well i replies _ fields (IsNone why) is = tt
  judged_well i replies expected fields (IsHead h) is = section_well i replies expected i.place fields h is

  read_well : (i : Incoming) (replies : List DecoderInstruction) (fields : List Field) → Well (read_section side own id r i replies fields)
  read_well i replies fields = either (nat_lt (section_of own) (told_size fields)) _ _ tt (judged_well (with_content side own i fields) replies i.content fields (head_by own.choices.extensions.any_protocol fields) refl)

  decoded_well : (i : Incoming) (d : DecodedSection) → Well (decoded side own id r i d)
  decoded_well i (Fields fields count) = read_well _ _ fields
  decoded_well i (Missing count) = either (i.waits_for == 0) _ _ tt tt
  decoded_well i BadSection = tt

  at_well : (i : Incoming) (bytes : List ℕ) → Well (at_section side own id r i bytes)
  at_well i bytes = either (nat_lt r.table.inserted i.waits_for) _ _ tt (decoded_well i (decode_section r bytes))

  body_well : (i : Incoming) (found : Option (List ℕ) × List (List ℕ)) → Well (body_of i found)
  body_well i (None, pieces) = tt
  body_well i (Some bytes, pieces) = tt

  payload_well : (i : Incoming) → Well (in_payload i)
  payload_well i = either (i.ended && nat_lt (length (concat i.unread)) i.body_left) (connection_fault 0x106 i) (body_of i (chunk_of i.body_left i.unread)) tt (body_well i (chunk_of i.body_left i.unread))

  content_well : (i : Incoming) → Well (at_payload id i)
  content_well i = either (is_exceeded i.content) (malformed id malformation.ContentLength i []) (in_payload i) tt (payload_well i)

  raw_well : (i : Incoming) (found : Option (List ℕ) × List (List ℕ)) → Well (raw_of i found)
  raw_well i (None, pieces) = either i.ended (just (pull.Item item.End) (record i { is_over = true })) (just pull.Pending i) tt tt
  raw_well i (Some bytes, pieces) = tt

  trailer_frame_well : (i : Incoming) (bytes : List ℕ) → Well (at_trailer side own id r i bytes)
  trailer_frame_well i bytes = either (takes_trailer i.content) _ (connection_fault 0x105 i) (at_well (begun_section i bytes) bytes) tt

  whole_well : (i : Incoming) → Well (if may_end i.content then just (pull.Item item.End) (record i { unread = []; is_over = true }) else malformed id malformation.ContentLength i [])
  whole_well i = either (may_end i.content) (just (pull.Item item.End) (record i { unread = []; is_over = true })) (malformed id malformation.ContentLength i []) tt tt

  end_well : (i : Incoming) (place : Place) → Well (at_end side own id r i place)
  end_well i BeforeHead = tt
  end_well i InBody = whole_well i
  end_well i AfterTrailer = whole_well i
  end_well i InSession = whole_well i

  frame_well : (side' : Side) (i : Incoming) (place : Place) (f : Frame PayloadLen) → Well (at_frame side own id r side' i place f)
  frame_well Client i BeforeHead (frame.Headers bytes) = at_well (begun_section i bytes) bytes
  frame_well Server i BeforeHead (frame.Headers bytes) = at_well (begun_section i bytes) bytes
  frame_well Client i InBody (frame.Headers bytes) = trailer_frame_well i bytes
  frame_well Server i InBody (frame.Headers bytes) = trailer_frame_well i bytes
  frame_well Client i InBody (frame.Data len) = content_well (begun_payload i len.0)
  frame_well Server i InBody (frame.Data len) = content_well (begun_payload i len.0)
  frame_well Server i BeforeHead (frame.WebTransportStream session) = either (is_no_session own session) _ _ tt tt
  frame_well Client i place (frame.PushPromise promise) = tt
  frame_well _ i place _ = tt

  framed_well : (i : Incoming) (front : Front) → Well (framed side own id r i front)
  framed_well i (Unfinished least) = either i.ended _ _ tt tt
  framed_well i (Whole f rest) = frame_well side (left_with i rest) i.place f
  framed_well i (Unknown kind rest) = tt
  framed_well i (Refused e) = tt

  next_well : (i : Incoming) (bytes : List ℕ) → Well (next_frame side own id r i bytes)
  next_well i [] = either i.ended (at_end side own id r i i.place) (just pull.Pending i) (end_well i i.place) tt
  next_well i (byte ∷ bytes) = framed_well i (frame_by (kinds_of own) (byte ∷ bytes))

  excess_well : (i : Incoming) (bytes : List ℕ) → Well (excess id i bytes)
  excess_well i bytes = either (begins_section bytes) (malformed id malformation.TooLong i []) (connection_fault 0x107 (record i { unread = [] })) tt tt

  message_well : (i : Incoming) (section : Option (List ℕ)) → Well (in_message side own id r i section)
  message_well i (Some bytes) = at_well i bytes
  message_well i None =
      let bytes = skipped (kinds_of own) (is_body i.place) (concat i.unread) in
      let j = record i { unread = ending (length bytes) i.unread } in
      either (nat_lt 0 i.body_left) (at_payload id i) (between_frames side own id r i) (content_well i)
      (either (is_excessive_by (kinds_of own) own.choices.unfinished_limit bytes) (excess id i bytes) (next_frame side own id r j bytes) (excess_well i bytes) (next_well j bytes))

  item_well : (i : Incoming) (place : Place) → Well (next_item side own id r i place)
  item_well i InSession = raw_well i (first_of i.unread)
  item_well i BeforeHead = message_well i i.section
  item_well i InBody = message_well i i.section
  item_well i AfterTrailer = message_well i i.section

  pull_well : (i : Incoming) → Well (pull_stream side own id r i)
  unfolding pull_stream
  pull_well i = by_fault i.fault
    where
      by_fault : (f : Option StreamFault) → Well (elim f [
        | Some why ↦ just (pull.Fault (fault.Stream why)) i
        | None ↦ if i.is_over then just (pull.Item item.End) i else next_item side own id r i i.place
      ])
      by_fault (Some f) = tt
      by_fault None = either i.is_over (just (pull.Item item.End) i) (next_item side own id r i i.place) tt (item_well i i.place)

pub pulls_well_formed : PullsWellFormed
pulls_well_formed side own id r i strict = pull_well side own strict id r i
