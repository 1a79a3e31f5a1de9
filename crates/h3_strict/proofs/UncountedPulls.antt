-- A pull of a receiver that counts no content, at an end that asks for no strict messages: it counts none after it. Without a limit the pull is
-- answered as at the same end that judges plainly, but for a section that the end does not read.
use Rattle.std.proofs.Common.{◌≡◌, ◌⊎◌, inl, inr, ap, ℕ, Bool, true, false, if◌then◌else◌, List, [], ◌∷◌, length, refl, sym, ◌∙◌, subst, Option, Some, None}
use Rattle.std.specs.Prelude.{not, ◌&&◌, ◌==◌, ◌^◌, ◌-◌, nat_lt}
use Rattle.std.specs.List.{concat}
use Rattle.h3_field.specs.Field.{Field}
use Rattle.h3_field.specs.Instruction.{DecoderInstruction}
use Rattle.h3_qpack.specs.DecoderState.{DecoderState}
use Rattle.h3_qpack.specs.DecodedSection.{BadSection, DecodedSection, Fields, Missing, decode_section}
use Rattle.h3_header.specs.Head.{Head, has_pseudo}
use Rattle.h3_header.specs.HeadRead.{HeadRead, IsHead, IsNone, Value, head_by}
use Rattle.h3_messages.specs.declared.content.Content.TheVariants.{Unsaid}
use Rattle.h3_proto.specs.declared.stream.Side.{Side}
use Rattle.h3_proto.specs.declared.stream.Side.TheVariants.{Client, Server}
use Rattle.h3_frames.specs.ExcessiveFrames.{begins_section, is_excessive_by}
use Rattle.h3_frames.specs.ExcessiveLaws.{none_excessive_by}
use Rattle.h3_frames.specs.Frames.{Front, Refused, Unfinished, Unknown, Whole, frame_by}
use Rattle.h3_frames.specs.Pieces.{chunk_of, first_of}
use Rattle.h3_frames.specs.declared.proto.frame.Frame.{Frame}
use Rattle.h3_frames.specs.declared.proto.frame.Frame.TheVariants as frame
use Rattle.h3_frames.specs.declared.proto.frame.PayloadLen.{PayloadLen}
use Rattle.h3_connection.specs.Announcing.{section_of}
use Rattle.h3_connection.specs.Codes.{excessive_load}
use Rattle.h3_connection.specs.Coming.{decoded_fields, fields_in, fields_next, next_section, section_in, section_of_frame}
use Rattle.h3_connection.specs.Incoming.{Incoming, is_body}
use Rattle.h3_connection.specs.Pulling.{Pulled, acknowledgment, at_end, at_frame, at_payload, at_section, begun_payload, begun_section, between_frames, body_of, connection_fault, decoded, excess, framed, head_or_trailer, in_message, is_client, is_for, is_interim, judged, just, left_with, malformed, next_frame, next_item, past_section, pull_stream, raw_of, read_section, told_size, whole_head, whole_trailer}
use Rattle.h3_connection.specs.Skipping.{skipped}
use Rattle.h3_connection.specs.StrictConnection.{is_no_session, kinds_of}
use Rattle.h3_connection.specs.declared.event.Fault.TheVariants.{Stream}
use Rattle.h3_connection.specs.declared.event.Item.TheVariants as item
use Rattle.h3_connection.specs.declared.event.Malformation.{Malformation}
use Rattle.h3_connection.specs.declared.event.Malformation.TheVariants as malformation
use Rattle.h3_connection.specs.declared.event.Pull.TheVariants as pull
use Rattle.h3_connection.specs.declared.event.StreamFault.{StreamFault}
use Rattle.h3_connection.specs.declared.event.StreamFault.TheVariants.{Malformed}
use Rattle.h3_connection.specs.declared.place.Place.{Place}
use Rattle.h3_connection.specs.declared.place.Place.TheVariants.{AfterTrailer, BeforeHead, InBody, InSession}
use Rattle.h3_connection.specs.declared.setup.Announced.{Announced}
use Rattle.h3_world.specs.Lists.{unread_by}
use Rattle.h3_world.specs.Setup.{TakesAnyLength}
use Rattle.h3_strict.specs.NarrowLaws.{reads_less}
use Rattle.h3_strict.specs.Plainly.{plain, plain_incoming}
use Rattle.h3_strict.specs.PullPlainly.{IsUnread, shows_header}
use Rattle.h3_strict.proofs.PlainPulls.{plain_pulled}

-- the receiver, and what its end announces, where neither counts nor asks
abbrev uncounted : Incoming → Incoming
uncounted i = record i { content = Unsaid }

abbrev loosely : Announced → Announced
loosely own = record own { choices = record own.choices { strict_messages = false } }

-- it finds this section malformed, which the end does not read
pub record FindsUnread (own : Announced) (next : Option (List Field)) (p q : Pulled) : Type 0 where
  pub why : Malformation
  pub unread : IsUnread own next why
  pub told : p.answer ≡ pull.Fault (Stream (Malformed why))
  -- the other one judges the section
  pub shown : shows_header q.answer ≡ true

-- No content is counted after it, and with this it is answered as plainly, or so.
record Alike (any : Type 0) (own : Announced) (next : Option (List Field)) (p q : Pulled) : Type 0 where
  none : p.incoming.content ≡ Unsaid
  same : any → (q ≡ plain_pulled p) ⊎ FindsUnread own next p q

module _ {any : Type 0} {own : Announced} {next : Option (List Field)} where
  either : (b : Bool) (x y v w : Pulled) → Alike any own next x v → Alike any own next y w → Alike any own next (if b then x else y) (if b then v else w)
  either true x y v w h k = h
  either false x y v w h k = k

  body : (i : Incoming) (found : Option (List ℕ) × List (List ℕ)) → Alike any own next (body_of (uncounted i) found) (body_of (plain_incoming i) found)
  body i (None, pieces) = record { none = refl; same = λ a. inl refl }
  body i (Some bytes, pieces) = record { none = refl; same = λ a. inl refl }

  payload : (id : ℕ) (i : Incoming) → Alike any own next (at_payload id (uncounted i)) (at_payload id (plain_incoming i))
  payload id i = either (i.ended && nat_lt (length (concat i.unread)) i.body_left) _ _ _ _ (record { none = refl; same = λ a. inl refl }) (body i (chunk_of i.body_left i.unread))

  raw : (i : Incoming) (found : Option (List ℕ) × List (List ℕ)) → Alike any own next (raw_of (uncounted i) found) (raw_of (plain_incoming i) found)
  raw i (None, pieces) = either i.ended _ _ _ _ (record { none = refl; same = λ a. inl refl }) (record { none = refl; same = λ a. inl refl })
  raw i (Some bytes, pieces) = record { none = refl; same = λ a. inl refl }

  head : (side : Side) (id : ℕ) (i : Incoming) (replies : List DecoderInstruction) (h : Head) → Alike any own next (whole_head side id (uncounted i) replies None h) (whole_head side id (plain_incoming i) replies None h)
  head side id i replies h =
      either (not (is_for side h)) _ _ _ _ (record { none = refl; same = λ a. inl refl })
      (either (is_client side && is_interim h.status) _ _ _ _ (record { none = refl; same = λ a. inl refl }) (record { none = refl; same = λ a. inl refl }))

  trailer : (id : ℕ) (i : Incoming) (replies : List DecoderInstruction) (h : Head) → Alike any own next (whole_trailer id (uncounted i) replies None h) (whole_trailer id (plain_incoming i) replies None h)
  trailer id i replies h = either (has_pseudo h) _ _ _ _ (record { none = refl; same = λ a. inl refl }) (record { none = refl; same = λ a. inl refl })

  section : (side : Side) (id : ℕ) (i : Incoming) (replies : List DecoderInstruction) (place : Place) (h : Head)
      → Alike any own next (head_or_trailer side id (uncounted i) replies None place h) (head_or_trailer side id (plain_incoming i) replies None place h)
  section side id i replies BeforeHead h = head side id i replies h
  section side id i replies InBody h = trailer id i replies h
  section side id i replies AfterTrailer h = trailer id i replies h
  section side id i replies InSession h = trailer id i replies h

  read : (side : Side) (id : ℕ) (i : Incoming) (replies : List DecoderInstruction) (h : HeadRead) → Alike any own next (judged side id (uncounted i) replies None h) (judged side id (plain_incoming i) replies None h)
  read side id i replies (IsNone why) = record { none = refl; same = λ a. inl refl }
  read side id i replies (IsHead h) = section side id i replies i.place h

-- a section that is judged gives a header or a fault
shown : (side : Side) (id : ℕ) (i : Incoming) (replies : List DecoderInstruction) (h : HeadRead) → shows_header (judged side id (plain_incoming i) replies None h).answer ≡ true
shown side id i replies (IsNone why) = refl
shown side id i replies (IsHead h) = by_place i.place
  where
    by_head : (b c : Bool) → shows_header (if b then malformed id malformation.WrongSide (plain_incoming i) replies else (
        if c then record { answer = pull.Item (item.Interim h); incoming = plain_incoming i; replies = replies } else
        record { answer = pull.Item (item.Head h); incoming = record (plain_incoming i) { place = InBody }; replies = replies })).answer ≡ true
    by_head true c = refl
    by_head false true = refl
    by_head false false = refl

    by_trailer : (b : Bool) → shows_header (if b then malformed id malformation.PseudoInTrailer (plain_incoming i) replies else record { answer = pull.Item (item.Trailer h); incoming = record (plain_incoming i) { place = AfterTrailer }; replies = replies }).answer ≡ true
    by_trailer true = refl
    by_trailer false = refl

    by_place : (place : Place) → shows_header (head_or_trailer side id (plain_incoming i) replies None place h).answer ≡ true
    by_place BeforeHead = by_head (not (is_for side h)) (is_client side && is_interim h.status)
    by_place InBody = by_trailer (has_pseudo h)
    by_place AfterTrailer = by_trailer (has_pseudo h)
    by_place InSession = by_trailer (has_pseudo h)

module _ (side : Side) (own : Announced) (id : ℕ) (r : DecoderState) where
  abbrev Same : Option (List Field) → Pulled → Pulled → Type 0
  Same next p q = Alike (TakesAnyLength own) own next p q

  fields_alike : (i : Incoming) (replies : List DecoderInstruction) (fields : List Field) → Same (Some fields) (read_section side (loosely own) id r (uncounted i) replies fields) (read_section side (plain own) id r (plain_incoming i) replies fields)
  fields_alike i replies fields =
      either (nat_lt (section_of own) (told_size fields)) _ _ _ _ (record { none = refl; same = λ a. inl refl }) (by_read (reads_less own.choices.extensions.any_protocol fields))
    where
      Told : HeadRead → Type 0
      Told h = Same (Some fields) (judged side id (uncounted i) replies None h) (judged side id (plain_incoming i) replies None (head_by true fields))

      by_read : (head_by own.choices.extensions.any_protocol fields ≡ head_by true fields) ⊎ ((head_by own.choices.extensions.any_protocol fields ≡ IsNone Value) × (own.choices.extensions.any_protocol ≡ false)) → Told (head_by own.choices.extensions.any_protocol fields)
      by_read (inl same) = subst Told (sym same) (read side id i replies (head_by true fields))
      by_read (inr value) =
          subst Told (sym value.0)
          (record { none = refl; same = λ a. inr (record { why = malformation.Value; unread = (fields, refl, ap unread_by value.0); told = refl; shown = shown side id i replies (head_by true fields) }) })

  decoded_alike : (i : Incoming) (d : DecodedSection) → Same (decoded_fields d) (decoded side (loosely own) id r (uncounted i) d) (decoded side (plain own) id r (plain_incoming i) d)
  decoded_alike i (Fields fields count) = fields_alike (past_section i) (acknowledgment id count) fields
  decoded_alike i (Missing count) = either (i.waits_for == 0) _ _ _ _ (record { none = refl; same = λ a. inl refl }) (record { none = refl; same = λ a. inl refl })
  decoded_alike i BadSection = record { none = refl; same = λ a. inl refl }

  at_alike : (i : Incoming) (bytes : List ℕ) → Same (fields_in r (Some bytes)) (at_section side (loosely own) id r (uncounted i) bytes) (at_section side (plain own) id r (plain_incoming i) bytes)
  at_alike i bytes = either (nat_lt r.table.inserted i.waits_for) _ _ _ _ (record { none = refl; same = λ a. inl refl }) (decoded_alike i (decode_section r bytes))

  end_alike : (next : Option (List Field)) (i : Incoming) (place : Place) → Same next (at_end side (loosely own) id r (uncounted i) place) (at_end side (plain own) id r (plain_incoming i) place)
  end_alike next i BeforeHead = record { none = refl; same = λ a. inl refl }
  end_alike next i InBody = record { none = refl; same = λ a. inl refl }
  end_alike next i AfterTrailer = record { none = refl; same = λ a. inl refl }
  end_alike next i InSession = record { none = refl; same = λ a. inl refl }

  frame_alike : (at : Side) (i : Incoming) (place : Place) (f : Frame PayloadLen) → Same (fields_in r (section_of_frame f)) (at_frame side (loosely own) id r at (uncounted i) place f) (at_frame side (plain own) id r at (plain_incoming i) place f)
  frame_alike Client i BeforeHead (frame.Headers bytes) = at_alike (begun_section i bytes) bytes
  frame_alike Server i BeforeHead (frame.Headers bytes) = at_alike (begun_section i bytes) bytes
  frame_alike Client i InBody (frame.Headers bytes) = at_alike (begun_section i bytes) bytes
  frame_alike Server i InBody (frame.Headers bytes) = at_alike (begun_section i bytes) bytes
  frame_alike Client i InBody (frame.Data len) = payload id (begun_payload i len.0)
  frame_alike Server i InBody (frame.Data len) = payload id (begun_payload i len.0)
  frame_alike Server i BeforeHead (frame.WebTransportStream session) = either (is_no_session own session) _ _ _ _ (record { none = refl; same = λ a. inl refl }) (record { none = refl; same = λ a. inl refl })
  frame_alike Client i place (frame.PushPromise promise) = record { none = refl; same = λ a. inl refl }
  frame_alike _ i place _ = record { none = refl; same = λ a. inl refl }

  framed_alike : (i : Incoming) (f : Front) → Same (fields_in r (section_in f)) (framed side (loosely own) id r (uncounted i) f) (framed side (plain own) id r (plain_incoming i) f)
  framed_alike i (Unfinished least) = either i.ended _ _ _ _ (record { none = refl; same = λ a. inl refl }) (record { none = refl; same = λ a. inl refl })
  framed_alike i (Whole f rest) = frame_alike side (left_with i rest) i.place f
  framed_alike i (Unknown kind rest) = record { none = refl; same = λ a. inl refl }
  framed_alike i (Refused e) = record { none = refl; same = λ a. inl refl }

  next_alike : (i : Incoming) (bytes : List ℕ) → Same (fields_in r (section_in (frame_by (kinds_of own) bytes))) (next_frame side (loosely own) id r (uncounted i) bytes) (next_frame side (plain own) id r (plain_incoming i) bytes)
  next_alike i [] = either i.ended _ _ _ _ (end_alike _ i i.place) (record { none = refl; same = λ a. inl refl })
  next_alike i (byte ∷ bytes) = framed_alike i (frame_by (kinds_of own) (byte ∷ bytes))

  excess_none : (i : Incoming) (b : Bool) → (if b then malformed id malformation.TooLong (uncounted i) [] else connection_fault excessive_load (record (uncounted i) { unread = [] })).incoming.content ≡ Unsaid
  excess_none i true = refl
  excess_none i false = refl

  between_alike : (i : Incoming) → Same (fields_in r (next_section own i None)) (between_frames side (loosely own) id r (uncounted i)) (between_frames side (plain own) id r (plain_incoming i))
  between_alike i = by_limit (is_excessive_by (kinds_of own) own.choices.unfinished_limit bytes) refl
    where
      bytes : List ℕ
      bytes = skipped (kinds_of own) (is_body i.place) (concat i.unread)

      by_limit : (b : Bool) → is_excessive_by (kinds_of own) own.choices.unfinished_limit bytes ≡ b
          → Same (fields_in r (section_in (frame_by (kinds_of own) bytes))) (if b then excess id (uncounted i) bytes else next_frame side (loosely own) id r (uncounted (left_with i bytes)) bytes) (between_frames side (plain own) id r (plain_incoming i))
      by_limit true limited = record {
        none = excess_none i (begins_section bytes);
        same = λ any. absurd (let never : false ≡ true = sym (none_excessive_by (kinds_of own) own.choices.unfinished_limit bytes any) ∙ limited in cc);
      }
      by_limit false limited =
          subst (λ b. Same (fields_in r (section_in (frame_by (kinds_of own) bytes))) (next_frame side (loosely own) id r (uncounted (left_with i bytes)) bytes) (if b then excess id (plain_incoming i) bytes else next_frame side (plain own) id r (plain_incoming (left_with i bytes)) bytes))
          (sym (none_excessive_by (kinds_of own) (2 ^ 62 - 1) bytes refl)) (next_alike (left_with i bytes) bytes)

  message_alike : (i : Incoming) (part : Option (List ℕ)) → Same (fields_in r (next_section own i part)) (in_message side (loosely own) id r (uncounted i) part) (in_message side (plain own) id r (plain_incoming i) part)
  message_alike i (Some bytes) = at_alike i bytes
  message_alike i None = either (nat_lt 0 i.body_left) _ _ _ _ (payload id i) (between_alike i)

  item_alike : (i : Incoming) (place : Place) → Same (fields_next own r i) (next_item side (loosely own) id r (uncounted i) place) (next_item side (plain own) id r (plain_incoming i) place)
  item_alike i BeforeHead = message_alike i i.section
  item_alike i InBody = message_alike i i.section
  item_alike i AfterTrailer = message_alike i i.section
  item_alike i InSession = raw i (first_of i.unread)

  stream_alike : (i : Incoming) → Same (fields_next own r i) (pull_stream side (loosely own) id r (uncounted i)) (pull_stream side (plain own) id r (plain_incoming i))
  unfolding pull_stream
  stream_alike i = by_fault i.fault
    where
      by_fault : (f : Option StreamFault) → Same (fields_next own r i)
          (elim f [ Some why ↦ just (pull.Fault (Stream why)) (uncounted i) | None ↦ if i.is_over then just (pull.Item item.End) (uncounted i) else next_item side (loosely own) id r (uncounted i) i.place ])
          (elim f [ Some why ↦ just (pull.Fault (Stream why)) (plain_incoming i) | None ↦ if i.is_over then just (pull.Item item.End) (plain_incoming i) else next_item side (plain own) id r (plain_incoming i) i.place ])
      by_fault (Some why) = record { none = refl; same = λ a. inl refl }
      by_fault None = either i.is_over _ _ _ _ (record { none = refl; same = λ a. inl refl }) (item_alike i i.place)

  alike : (i : Incoming) → own.choices.strict_messages ≡ false → i.content ≡ Unsaid → Same (fields_next own r i) (pull_stream side own id r i) (pull_stream side (plain own) id r (plain_incoming i))
  alike i loose none =
      subst (λ b. Same (fields_next own r i) (pull_stream side (record own { choices = record own.choices { strict_messages = b } }) id r i) (pull_stream side (plain own) id r (plain_incoming i))) (sym loose)
      (subst (λ c. Same (fields_next own r i) (pull_stream side (loosely own) id r (record i { content = c })) (pull_stream side (plain own) id r (plain_incoming i))) (sym none) (stream_alike i))

  pub pull_uncounted : (i : Incoming) → own.choices.strict_messages ≡ false → i.content ≡ Unsaid → (pull_stream side own id r i).incoming.content ≡ Unsaid
  pull_uncounted i loose none = (alike i loose none).none

  pub pull_same : (i : Incoming) → own.choices.strict_messages ≡ false → TakesAnyLength own → i.content ≡ Unsaid
      → (pull_stream side (plain own) id r (plain_incoming i) ≡ plain_pulled (pull_stream side own id r i)) ⊎ FindsUnread own (fields_next own r i) (pull_stream side own id r i) (pull_stream side (plain own) id r (plain_incoming i))
  pull_same i loose any none = (alike i loose none).same any
