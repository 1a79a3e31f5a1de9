-- What a pull of one request stream answers: by that stream's receiver and the table alone.
use Rattle.std.specs.Prelude.{ℕ, ◌+◌, ◌-◌, Bool, true, false, not, ◌&&◌, List, [], ◌∷◌, ◌++◌, length, codes, if◌then◌else◌, ◌==◌, nat_lt, nat_le, Option, Some, None}
use Rattle.std.specs.List.{concat}
use Rattle.h3_field.specs.Field.{Field}
use Rattle.h3_field.specs.Instruction.{DecoderInstruction}
use Rattle.h3_field.specs.Instruction.DecoderInstruction.{Acknowledge, CancelStream}
use Rattle.h3_qpack.specs.DecoderState.{DecoderState}
pub use Rattle.h3_qpack.specs.Sizes.{told_size}
use Rattle.h3_qpack.specs.Sizes.{last_value}
use Rattle.h3_header.specs.Head.{Head, is_request, is_response, has_pseudo}
use Rattle.h3_proto.specs.declared.stream.Side.{Side}
use Rattle.h3_proto.specs.declared.stream.Side.TheVariants.{Client, Server}
use Rattle.h3_frames.specs.ExcessiveFrames.{begins_section, is_excessive_by}
use Rattle.h3_frames.specs.Frames.{Front, Whole, Unknown, Refused, Unfinished, frame_by}
use Rattle.h3_frames.specs.Pieces.{first_of, chunk_of, ending}
use Rattle.h3_frames.specs.declared.proto.frame.PayloadLen.{PayloadLen}
use Rattle.h3_frames.specs.declared.proto.frame.Frame.{Frame}
use Rattle.h3_frames.specs.declared.proto.frame.Frame.TheVariants as frame
use Rattle.h3_connection.specs.Announcing.{section_of}
use Rattle.h3_connection.specs.Codes.{frame_unexpected, frame_error, excessive_load, id_error, decompression_failed, refusal_code}
use Rattle.h3_qpack.specs.DecodedSection.{DecodedSection, Fields, Missing, BadSection, decode_section}
use Rattle.h3_header.specs.HeadRead.{HeadRead, HeadRefusal, IsHead, IsNone, Name, Value, TooMany, head_by}
use Rattle.h3_connection.specs.Incoming.{Incoming, given_up, is_body}
use Rattle.h3_connection.specs.declared.place.Place.{Place}
use Rattle.h3_connection.specs.declared.place.Place.TheVariants.{BeforeHead, InBody, AfterTrailer, InSession}
use Rattle.h3_connection.specs.Skipping.{skipped}
use Rattle.h3_connection.specs.StrictConnection.{is_no_session, kinds_of}
use Rattle.h3_connection.specs.StrictMessages.{broken_rule, content_at, large_content_at, response_at, if_whole}
pub use Rattle.h3_messages.specs.Content.{is_digit}
use Rattle.h3_messages.specs.Content.{is_interim_status, left_behind, is_exceeded, may_end, takes_trailer}
use Rattle.h3_connection.specs.declared.setup.Announced.{Announced}
use Rattle.h3_connection.specs.declared.event.Item.TheVariants as item
use Rattle.h3_connection.specs.declared.event.Pull.{Pull}
use Rattle.h3_connection.specs.declared.event.Pull.TheVariants as pull
use Rattle.h3_connection.specs.declared.event.Fault.TheVariants.{Connection, Stream, Memory}
use Rattle.h3_connection.specs.declared.event.StreamFault.TheVariants as stream_fault
use Rattle.h3_connection.specs.declared.event.Malformation.{Malformation}
use Rattle.h3_connection.specs.declared.event.Malformation.TheVariants as malformation

-- an answer, the receiver after it, and what the decoder says to the peer's encoder
pub record Pulled : Type 0 where
  pub answer : Pull
  pub incoming : Incoming
  pub replies : List DecoderInstruction

-- the pull was refused for memory
abbrev pub is_memory : Pull → Bool
is_memory (pull.Fault Memory) = true
is_memory _ = false

abbrev pub just : Pull → Incoming → Pulled
just answer i = record { answer = answer; incoming = i; replies = [] }

abbrev pub connection_fault : ℕ → Incoming → Pulled
connection_fault code i = just (pull.Fault (Connection code)) i

-- RFC 9114 4.1.2: a malformed message ends its stream alone
abbrev pub malformed : ℕ → Malformation → Incoming → List DecoderInstruction → Pulled
malformed id m i replies =
    record {
      answer = pull.Fault (Stream (stream_fault.Malformed m));
      incoming = given_up i (stream_fault.Malformed m);
      replies = replies ++ CancelStream id ∷ [];
    }

-- What is judged of a head or trailer, in order (RFC 9114, sections 4.1.2 and 4.3).
abbrev pub malformation_of : HeadRefusal → Malformation
malformation_of Name = malformation.Name
malformation_of Value = malformation.Value
malformation_of TooMany = malformation.TooMany

-- a server reads requests, and a client responses
abbrev pub is_for : Side → Head → Bool
is_for Client h = is_response h
is_for Server h = is_request h

-- a status from 100 to 199 (RFC 9110, section 15.2)
abbrev pub is_interim : Option ℕ → Bool
is_interim None = false
is_interim (Some status) = nat_le 100 status && nat_le status 199

abbrev pub is_client : Side → Bool
is_client Client = true
is_client Server = false

abbrev pub is_interim_text : Option (List ℕ) → Bool
is_interim_text None = false
is_interim_text (Some text) = is_interim_status text

-- the place behind a section that is too large: a client counts an interim head as such, by its last status
abbrev pub next_place : Side → Place → List Field → Place
next_place Client BeforeHead fields = if is_interim_text (last_value (codes ":status") fields) then BeforeHead else InBody
next_place Server BeforeHead fields = InBody
next_place side InBody fields = AfterTrailer
next_place side place fields = place

-- the rule that a list breaks comes behind what no endpoint takes
abbrev pub unless_broken : ℕ → Incoming → List DecoderInstruction → Option Malformation → Pulled → Pulled
unless_broken id i replies None p = p
unless_broken id i replies (Some why) p = malformed id why i replies

-- RFC 9110 15.2: interim responses, as 103, received
abbrev pub whole_head : Side → ℕ → Incoming → List DecoderInstruction → Option Malformation → Head → Pulled
whole_head side id i replies broken h =
    if not (is_for side h) then malformed id malformation.WrongSide i replies else unless_broken id i replies broken (
    if is_client side && is_interim h.status then record { answer = pull.Item (item.Interim h); incoming = i; replies = replies } else
    record { answer = pull.Item (item.Head h); incoming = record i { place = InBody }; replies = replies })

-- RFC 9114 4.3: pseudo-header fields in a trailer section
abbrev pub whole_trailer : ℕ → Incoming → List DecoderInstruction → Option Malformation → Head → Pulled
whole_trailer id i replies broken h =
    if has_pseudo h then malformed id malformation.PseudoInTrailer i replies else unless_broken id i replies broken
    (record { answer = pull.Item (item.Trailer h); incoming = record i { place = AfterTrailer }; replies = replies })

abbrev pub head_or_trailer : Side → ℕ → Incoming → List DecoderInstruction → Option Malformation → Place → Head → Pulled
head_or_trailer side id i replies broken BeforeHead h = whole_head side id i replies broken h
head_or_trailer side id i replies broken _ h = whole_trailer id i replies broken h

abbrev pub judged : Side → ℕ → Incoming → List DecoderInstruction → Option Malformation → HeadRead → Pulled
judged side id i replies broken (IsNone why) = malformed id (malformation_of why) i replies
judged side id i replies broken (IsHead h) = head_or_trailer side id i replies broken i.place h

-- RFC 9204 2.2.2.1: section acknowledgment, written
abbrev pub acknowledgment : ℕ → ℕ → List DecoderInstruction
acknowledgment id count = if count == 0 then [] else Acknowledge id ∷ []

-- a section that is tried once more counts on, and a new one counts anew
abbrev pub tried : Incoming → Incoming
tried i = record i { tries = if i.waits_for == 0 then 1 else i.tries + 1 }

-- no section is next any more
abbrev pub past_section : Incoming → Incoming
past_section i = record (tried i) { waits_for = 0; section = None }

-- the frame of a section was read, and it was not tried
abbrev pub begun_section : Incoming → List ℕ → Incoming
begun_section i bytes = record i { section = Some bytes; waits_for = 0 }

-- the head of DATA was read, and its payload counts as content
abbrev pub begun_payload : Incoming → ℕ → Incoming
begun_payload i size = record i { body_left = size; content = left_behind i.content size }

-- the head or trailer of these fields was read
abbrev pub with_content : Side → Announced → Incoming → List Field → Incoming
with_content side own i fields =
    record i { content = content_at side own i.place i.content fields; response = response_at side own i.place i.response fields }

-- one of these fields was, which is too large
abbrev pub past_large : Side → Announced → Incoming → List Field → Incoming
past_large side own i fields =
    record i { place = next_place side i.place fields; content = large_content_at side own i.place i.content (last_value (codes ":status") fields) }

-- these bytes are left
abbrev pub left_with : Incoming → List ℕ → Incoming
left_with i bytes = record i { unread = ending (length bytes) i.unread }

-- A frame is longer than what the endpoint takes (RFC 9114, section 10.5), and what came is let go. A field section harms its own message alone,
-- and any other frame is a fault of the connection
abbrev pub excess : ℕ → Incoming → List ℕ → Pulled
excess id i bytes =
    if begins_section bytes then malformed id malformation.TooLong i [] else connection_fault excessive_load (record i { unread = [] })

-- what of a payload is handed out: the first piece, as far as the payload goes
abbrev pub body_of : Incoming → Option (List ℕ) × List (List ℕ) → Pulled
body_of i (None, pieces) = just pull.Pending i
body_of i (Some bytes, pieces) = just (pull.Item (item.Body bytes)) (record i { unread = pieces; body_left = i.body_left - length bytes })

-- the payload that is under way. One that the end cuts short is a fault (RFC 9114, section 7.1)
abbrev pub in_payload : Incoming → Pulled
in_payload i =
    if i.ended && nat_lt (length (concat i.unread)) i.body_left then connection_fault frame_error i else body_of i (chunk_of i.body_left i.unread)

-- inside a payload. One that is longer than the content may be makes the message malformed (RFC 9114, section 4.1.2): none of it is handed out
abbrev pub at_payload : ℕ → Incoming → Pulled
at_payload id i = if is_exceeded i.content then malformed id malformation.ContentLength i [] else in_payload i

-- bytes of a session: whole pieces
abbrev pub raw_of : Incoming → Option (List ℕ) × List (List ℕ) → Pulled
raw_of i (None, pieces) = if i.ended then just (pull.Item item.End) (record i { is_over = true }) else just pull.Pending i
raw_of i (Some bytes, pieces) = just (pull.Item (item.Raw bytes)) (record i { unread = pieces })

abbrev pub raw : Incoming → Pulled
raw i = raw_of i (first_of i.unread)

-- A session of WebTransport stands in the place of a message, and is named by a request stream where the endpoint asks for that
abbrev pub at_session : Announced → Incoming → ℕ → Pulled
at_session own i session =
    if is_no_session own session then connection_fault id_error i else just (pull.Item (item.Session session)) (record i { place = InSession })

module _ (side : Side) (own : Announced) (id : ℕ) (r : DecoderState) where
  -- RFC 9114 4.2.2: size of a section, received
  abbrev pub read_section : Incoming → List DecoderInstruction → List Field → Pulled
  read_section i replies fields =
      if nat_lt (section_of own) (told_size fields)
      then record { answer = pull.Item (item.TooLarge (told_size fields)); incoming = past_large side own i fields; replies = replies }
      else judged side id (with_content side own i fields) replies (if_whole i.content (broken_rule side own i.place fields)) (head_by own.choices.extensions.any_protocol fields)

  -- RFC 9204 2.2.3: a section that cannot be decoded
  -- A section was tried. One that is bad, or that misses entries a second time, is a fault of the connection, and no more tried.
  abbrev pub decoded : Incoming → DecodedSection → Pulled
  decoded i (Fields fields count) = read_section (past_section i) (acknowledgment id count) fields
  decoded i (Missing count) =
      if i.waits_for == 0 then just (pull.Waiting count) (record (tried i) { waits_for = count })
      else connection_fault decompression_failed (past_section i)
  decoded i BadSection = connection_fault decompression_failed (past_section i)

  -- RFC 9204 2.2.1: missing insertions
  -- the section that is next
  abbrev pub at_section : Incoming → List ℕ → Pulled
  at_section i bytes =
      if nat_lt r.table.inserted i.waits_for then just (pull.Waiting i.waits_for) i
      else decoded i (decode_section r bytes)

  -- a section's frame was read
  abbrev pub new_section : Incoming → List ℕ → Pulled
  new_section i bytes = at_section (begun_section i bytes) bytes

  -- a section's frame was read where a trailer may stand: in a tunnel none may (RFC 9114, section 4.4)
  abbrev pub at_trailer : Incoming → List ℕ → Pulled
  at_trailer i bytes = if takes_trailer i.content then new_section i bytes else connection_fault frame_unexpected i

  -- no more bytes came. A message whose content is not whole then is malformed (RFC 9114, section 4.1.2)
  abbrev pub at_end : Incoming → Place → Pulled
  at_end i BeforeHead = malformed id malformation.NoHead i []
  at_end i _ = if may_end i.content then just (pull.Item item.End) (record i { unread = []; is_over = true }) else malformed id malformation.ContentLength i []

  -- RFC 9114 7.2: frames out of place on a request stream
  -- RFC 9114 4.1: DATA before the header section
  -- a frame that was read, at its place (RFC 9114, sections 4.1 and 7.2)
  abbrev pub at_frame : Side → Incoming → Place → Frame PayloadLen → Pulled
  at_frame _ i BeforeHead (frame.Headers bytes) = new_section i bytes
  at_frame _ i InBody (frame.Headers bytes) = at_trailer i bytes
  at_frame _ i InBody (frame.Data len) = at_payload id (begun_payload i len.0)
  at_frame Server i BeforeHead (frame.WebTransportStream session) = at_session own i session
  at_frame Client i place (frame.PushPromise promise) = connection_fault id_error i
  at_frame _ i place _ = connection_fault frame_unexpected i

  -- what stands behind all frames that give nothing
  abbrev pub framed : Incoming → Front → Pulled
  framed i (Unfinished least) = if i.ended then connection_fault frame_error i else just pull.Pending i
  framed i (Whole f rest) = at_frame side (left_with i rest) i.place f
  framed i (Unknown kind rest) = just pull.Pending i
  framed i (Refused e) = connection_fault (refusal_code e) i

  abbrev pub next_frame : Incoming → List ℕ → Pulled
  next_frame i [] = if i.ended then at_end i i.place else just pull.Pending i
  next_frame i (byte ∷ bytes) = framed i (frame_by (kinds_of own) (byte ∷ bytes))

  abbrev pub between_frames : Incoming → Pulled
  between_frames i =
      let bytes = skipped (kinds_of own) (is_body i.place) (concat i.unread) in
      if is_excessive_by (kinds_of own) own.choices.unfinished_limit bytes then excess id i bytes else next_frame (left_with i bytes) bytes

  abbrev pub in_message : Incoming → Option (List ℕ) → Pulled
  in_message i (Some bytes) = at_section i bytes
  in_message i None = if nat_lt 0 i.body_left then at_payload id i else between_frames i

  abbrev pub next_item : Incoming → Place → Pulled
  next_item i InSession = raw i
  next_item i _ = in_message i i.section

  -- What a pull of the stream answers: the fault for which it was given up, its end again, or its next item.
  unfoldable pub pull_stream : Incoming → Pulled
  pull_stream i = elim i.fault [
    | Some fault ↦ just (pull.Fault (Stream fault)) i
    | None ↦ if i.is_over then just (pull.Item item.End) i else next_item i i.place
  ]
