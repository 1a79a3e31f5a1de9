-- A pull of a request stream answers its end only where the end came, and then, and only then, the stream is over.
use Rattle.std.proofs.Common.{◌≡◌, ℕ, Bool, true, false, List, [], ◌∷◌, length, refl, sym, ◌∙◌}
use Rattle.std.specs.Prelude.{Option, Some, None, if◌then◌else◌, ◌==◌, nat_lt, not, ◌&&◌}
use Rattle.std.specs.List.{concat}
use Rattle.h3_field.specs.Field.{Field}
use Rattle.h3_field.specs.Instruction.{DecoderInstruction}
use Rattle.h3_qpack.specs.DecoderState.{DecoderState}
use Rattle.h3_qpack.specs.DecodedSection.{DecodedSection, Fields, Missing, BadSection, decode_section}
use Rattle.h3_header.specs.Head.{Head, has_pseudo}
use Rattle.h3_header.specs.HeadRead.{HeadRead, IsHead, IsNone, head_by}
use Rattle.h3_proto.specs.declared.stream.Side.{Side}
use Rattle.h3_proto.specs.declared.stream.Side.TheVariants.{Client, Server}
use Rattle.h3_frames.specs.ExcessiveFrames.{begins_section, is_excessive_by}
use Rattle.h3_frames.specs.Frames.{Front, Whole, Unknown, Refused, Unfinished, frame_by}
use Rattle.h3_frames.specs.Pieces.{chunk_of, first_of, ending}
use Rattle.h3_frames.specs.declared.proto.frame.PayloadLen.{PayloadLen}
use Rattle.h3_frames.specs.declared.proto.frame.Frame.{Frame}
use Rattle.h3_frames.specs.declared.proto.frame.Frame.TheVariants as frame
use Rattle.h3_connection.specs.Announcing.{section_of}
use Rattle.h3_connection.specs.HandedOut.{IsOver}
use Rattle.h3_connection.specs.Incoming.{Incoming, is_body}
use Rattle.h3_connection.specs.Skipping.{skipped}
use Rattle.h3_connection.specs.StrictMessages.{broken_rule, if_whole}
use Rattle.h3_messages.specs.Content.{is_exceeded, may_end, takes_trailer}
use Rattle.h3_connection.specs.Pulling.{Pulled, just, connection_fault, malformed, unless_broken, whole_head, whole_trailer, head_or_trailer, judged, read_section, decoded, at_section, at_trailer, at_end, at_frame, framed, next_frame, in_message, next_item, pull_stream, in_payload, at_payload, body_of, raw_of, begun_section, begun_payload, with_content, left_with, is_for, is_client, is_interim, told_size, between_frames, excess}
use Rattle.h3_connection.specs.declared.setup.Announced.{Announced}
use Rattle.h3_connection.specs.declared.event.Malformation.{Malformation}
use Rattle.h3_connection.specs.declared.event.Malformation.TheVariants as malformation
use Rattle.h3_connection.specs.declared.event.Pull.{Pull}
use Rattle.h3_connection.specs.declared.event.Pull.TheVariants as pull
use Rattle.h3_connection.specs.declared.event.StreamFault.{StreamFault}
use Rattle.h3_connection.specs.declared.event.Fault.TheVariants as fault
use Rattle.h3_connection.specs.declared.event.Item.TheVariants as item
use Rattle.h3_connection.specs.declared.place.Place.{Place}
use Rattle.h3_connection.specs.declared.place.Place.TheVariants.{BeforeHead, InBody, AfterTrailer, InSession}
use Rattle.h3_connection.specs.StrictConnection.{kinds_of, is_no_session}

-- a stream that is over has ended, and no fault
abbrev pub EndedWell : Incoming → Type 0
EndedWell i = i.is_over ≡ true → IsOver i

-- where it answers the end, the stream is over, and it is over in no other way
abbrev pub Ends : Pulled → Type 0
Ends p = (p.answer ≡ pull.Item item.End → IsOver p.incoming) × EndedWell p.incoming

-- another answer
goes : {a : Pull} {i : Incoming} → (a ≡ pull.Item item.End → IsOver i) → i.is_over ≡ false → (a ≡ pull.Item item.End → IsOver i) × (i.is_over ≡ true → IsOver i)
goes other not_over = (other, λ over. absurd (clash (sym not_over ∙ over)))
  where
    clash : false ≡ true → ⊥
    clash x = cc

either : (b : Bool) (x y : Pulled) → Ends x → Ends y → Ends (if b then x else y)
either true x y h k = h
either false x y h k = k

-- by the test itself
given : (b : Bool) (x y : Pulled) → (b ≡ true → Ends x) → Ends y → Ends (if b then x else y)
given true x y h k = h refl
given false x y h k = k

unless_over : (b : Bool) (x y : Pulled) → b ≡ false → Ends y → Ends (if b then x else y)
unless_over true x y not_over h = cc
unless_over false x y not_over h = h

over : (p : Pulled) → p.incoming.fault ≡ None → p.incoming.ended ≡ true → p.incoming.is_over ≡ true → Ends p
over p no_fault ended is_over = let h : IsOver p.incoming = record { over = is_over; ended = ended; no_fault = no_fault } in (λ x. h, λ x. h)

body_ends : (i : Incoming) (found : Option (List ℕ) × List (List ℕ)) → i.is_over ≡ false → Ends (body_of i found)
body_ends i (None, pieces) n = goes (λ x. cc) n
body_ends i (Some bytes, pieces) n = goes (λ x. cc) n

payload_ends : (i : Incoming) → i.is_over ≡ false → Ends (in_payload i)
payload_ends i n = either (i.ended && nat_lt (length (concat i.unread)) i.body_left) (connection_fault 0x106 i) (body_of i (chunk_of i.body_left i.unread)) (goes (λ x. cc) n) (body_ends i (chunk_of i.body_left i.unread) n)

content_ends : (id : ℕ) (i : Incoming) → i.is_over ≡ false → Ends (at_payload id i)
content_ends id i n = either (is_exceeded i.content) (malformed id malformation.ContentLength i []) (in_payload i) (goes (λ x. cc) n) (payload_ends i n)

raw_ends : (i : Incoming) (found : Option (List ℕ) × List (List ℕ)) → i.fault ≡ None → i.is_over ≡ false → Ends (raw_of i found)
raw_ends i (None, pieces) no_fault n = given i.ended (just (pull.Item item.End) (record i { is_over = true })) (just pull.Pending i) (λ ended. over (just (pull.Item item.End) (record i { is_over = true })) no_fault ended refl) (goes (λ x. cc) n)
raw_ends i (Some bytes, pieces) no_fault n = goes (λ x. cc) n

unbroken_ends : (id : ℕ) (i : Incoming) (replies : List DecoderInstruction) (broken : Option Malformation) (p : Pulled) → i.is_over ≡ false → Ends p → Ends (unless_broken id i replies broken p)
unbroken_ends id i replies None p n h = h
unbroken_ends id i replies (Some why) p n h = goes (λ x. cc) n

head_ends : (side : Side) (id : ℕ) (i : Incoming) (replies : List DecoderInstruction) (broken : Option Malformation) (h : Head) → i.is_over ≡ false → Ends (whole_head side id i replies broken h)
head_ends side id i replies broken h n =
    either (not (is_for side h)) _ _ (goes (λ x. cc) n)
    (unbroken_ends id i replies broken _ n (either (is_client side && is_interim h.status) _ _ (goes (λ x. cc) n) (goes (λ x. cc) n)))

trailer_ends : (id : ℕ) (i : Incoming) (replies : List DecoderInstruction) (broken : Option Malformation) (h : Head) → i.is_over ≡ false → Ends (whole_trailer id i replies broken h)
trailer_ends id i replies broken h n = either (has_pseudo h) _ _ (goes (λ x. cc) n) (unbroken_ends id i replies broken _ n (goes (λ x. cc) n))

section_ends : (side : Side) (id : ℕ) (i : Incoming) (replies : List DecoderInstruction) (broken : Option Malformation) (place : Place) (h : Head) → i.is_over ≡ false
    → Ends (head_or_trailer side id i replies broken place h)
section_ends side id i replies broken BeforeHead h n = head_ends side id i replies broken h n
section_ends side id i replies broken InBody h n = trailer_ends id i replies broken h n
section_ends side id i replies broken AfterTrailer h n = trailer_ends id i replies broken h n
section_ends side id i replies broken InSession h n = trailer_ends id i replies broken h n

judged_ends : (side : Side) (id : ℕ) (i : Incoming) (replies : List DecoderInstruction) (broken : Option Malformation) (read : HeadRead) → i.is_over ≡ false → Ends (judged side id i replies broken read)
judged_ends side id i replies broken (IsNone why) n = goes (λ x. cc) n
judged_ends side id i replies broken (IsHead h) n = section_ends side id i replies broken i.place h n

module _ (side : Side) (own : Announced) (id : ℕ) (r : DecoderState) where
  read_ends : (i : Incoming) (replies : List DecoderInstruction) (fields : List Field) → i.is_over ≡ false → Ends (read_section side own id r i replies fields)
  read_ends i replies fields n = either (nat_lt (section_of own) (told_size fields)) _ _ (goes (λ x. cc) n) (judged_ends side id (with_content side own i fields) replies (if_whole i.content (broken_rule side own i.place fields)) (head_by own.choices.extensions.any_protocol fields) n)

  decoded_ends : (i : Incoming) (d : DecodedSection) → i.is_over ≡ false → Ends (decoded side own id r i d)
  decoded_ends i (Fields fields count) n = read_ends _ _ fields n
  decoded_ends i (Missing count) n = either (i.waits_for == 0) _ _ (goes (λ x. cc) n) (goes (λ x. cc) n)
  decoded_ends i BadSection n = goes (λ x. cc) n

  at_ends : (i : Incoming) (bytes : List ℕ) → i.is_over ≡ false → Ends (at_section side own id r i bytes)
  at_ends i bytes n = either (nat_lt r.table.inserted i.waits_for) _ _ (goes (λ x. cc) n) (decoded_ends i (decode_section r bytes) n)

  trailer_frame_ends : (i : Incoming) (bytes : List ℕ) → i.is_over ≡ false → Ends (at_trailer side own id r i bytes)
  trailer_frame_ends i bytes n = either (takes_trailer i.content) _ _ (at_ends (begun_section i bytes) bytes n) (goes (λ x. cc) n)

  whole_ends : (i : Incoming) → i.fault ≡ None → i.ended ≡ true → i.is_over ≡ false
      → Ends (if may_end i.content then just (pull.Item item.End) (record i { unread = []; is_over = true }) else malformed id malformation.ContentLength i [])
  whole_ends i no_fault ended n =
      either (may_end i.content) (just (pull.Item item.End) (record i { unread = []; is_over = true })) (malformed id malformation.ContentLength i [])
      (over (just (pull.Item item.End) (record i { unread = []; is_over = true })) no_fault ended refl) (goes (λ x. cc) n)

  end_ends : (i : Incoming) (place : Place) → i.fault ≡ None → i.ended ≡ true → i.is_over ≡ false → Ends (at_end side own id r i place)
  end_ends i BeforeHead no_fault ended n = goes (λ x. cc) n
  end_ends i InBody no_fault ended n = whole_ends i no_fault ended n
  end_ends i AfterTrailer no_fault ended n = whole_ends i no_fault ended n
  end_ends i InSession no_fault ended n = whole_ends i no_fault ended n

  frame_ends : (side' : Side) (i : Incoming) (place : Place) (f : Frame PayloadLen) → i.is_over ≡ false → Ends (at_frame side own id r side' i place f)
  frame_ends Client i BeforeHead (frame.Headers bytes) n = at_ends (begun_section i bytes) bytes n
  frame_ends Server i BeforeHead (frame.Headers bytes) n = at_ends (begun_section i bytes) bytes n
  frame_ends Client i InBody (frame.Headers bytes) n = trailer_frame_ends i bytes n
  frame_ends Server i InBody (frame.Headers bytes) n = trailer_frame_ends i bytes n
  frame_ends Client i InBody (frame.Data len) n = content_ends id (begun_payload i len.0) n
  frame_ends Server i InBody (frame.Data len) n = content_ends id (begun_payload i len.0) n
  frame_ends Server i BeforeHead (frame.WebTransportStream session) n = either (is_no_session own session) _ _ (goes (λ x. cc) n) (goes (λ x. cc) n)
  frame_ends Client i place (frame.PushPromise promise) n = goes (λ x. cc) n
  frame_ends _ i place _ n = goes (λ x. cc) n

  framed_ends : (i : Incoming) (front : Front) → i.is_over ≡ false → Ends (framed side own id r i front)
  framed_ends i (Unfinished least) n = either i.ended _ _ (goes (λ x. cc) n) (goes (λ x. cc) n)
  framed_ends i (Whole f rest) n = frame_ends side (left_with i rest) i.place f n
  framed_ends i (Unknown kind rest) n = goes (λ x. cc) n
  framed_ends i (Refused e) n = goes (λ x. cc) n

  next_ends : (i : Incoming) (bytes : List ℕ) → i.fault ≡ None → i.is_over ≡ false → Ends (next_frame side own id r i bytes)
  next_ends i [] no_fault n = given i.ended (at_end side own id r i i.place) (just pull.Pending i) (λ ended. end_ends i i.place no_fault ended n) (goes (λ x. cc) n)
  next_ends i (byte ∷ bytes) no_fault n = framed_ends i (frame_by (kinds_of own) (byte ∷ bytes)) n

  excess_ends : (i : Incoming) (bytes : List ℕ) → i.is_over ≡ false → Ends (excess id i bytes)
  excess_ends i bytes n =
      either (begins_section bytes) (malformed id malformation.TooLong i []) (connection_fault 0x107 (record i { unread = [] })) (goes (λ x. cc) n) (goes (λ x. cc) n)

  message_ends : (i : Incoming) (section : Option (List ℕ)) → i.fault ≡ None → i.is_over ≡ false → Ends (in_message side own id r i section)
  message_ends i (Some bytes) no_fault n = at_ends i bytes n
  message_ends i None no_fault n =
      let bytes = skipped (kinds_of own) (is_body i.place) (concat i.unread) in
      let j = record i { unread = ending (length bytes) i.unread } in
      either (nat_lt 0 i.body_left) (at_payload id i) (between_frames side own id r i) (content_ends id i n)
      (either (is_excessive_by (kinds_of own) own.choices.unfinished_limit bytes) (excess id i bytes) (next_frame side own id r j bytes) (excess_ends i bytes n) (next_ends j bytes no_fault n))

  item_ends : (i : Incoming) (place : Place) → i.fault ≡ None → i.is_over ≡ false → Ends (next_item side own id r i place)
  item_ends i InSession no_fault n = raw_ends i (first_of i.unread) no_fault n
  item_ends i BeforeHead no_fault n = message_ends i i.section no_fault n
  item_ends i InBody no_fault n = message_ends i i.section no_fault n
  item_ends i AfterTrailer no_fault n = message_ends i i.section no_fault n

  -- unless it was over already
  pub pull_ends : (i : Incoming) → i.is_over ≡ false → Ends (pull_stream side own id r i)
  unfolding pull_stream
  pull_ends i not_over = by_fault i.fault refl
    where
      by_fault : (f : Option StreamFault) → i.fault ≡ f → Ends (elim f [
        | Some why ↦ just (pull.Fault (fault.Stream why)) i
        | None ↦ if i.is_over then just (pull.Item item.End) i else next_item side own id r i i.place
      ])
      by_fault (Some f) is = goes (λ x. cc) not_over
      by_fault None is = unless_over i.is_over (just (pull.Item item.End) i) (next_item side own id r i i.place) not_over (item_ends i i.place is not_over)
