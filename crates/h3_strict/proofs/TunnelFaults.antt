-- Why a pull of one request stream finds a fault of the connection, where the same receiver that judges plainly does not: a trailer stands in a tunnel,
-- or a frame that is no section is too long.
use Rattle.std.proofs.Common.{◌≡◌, ◌⊎◌, inl, inr, ℕ, Bool, true, false, List, [], ◌∷◌, length, refl, sym, ap, ◌∙◌, subst, Option, Some, None, if◌then◌else◌, take}
use Rattle.std.specs.Prelude.{not, ◌&&◌, ◌==◌, ◌^◌, ◌-◌, nat_lt}
use Rattle.std.specs.List.{concat, list_any}
use Rattle.h3_field.specs.Field.{Field}
use Rattle.h3_field.specs.Instruction.{DecoderInstruction}
use Rattle.h3_header.specs.Head.{Head, has_pseudo}
use Rattle.h3_header.specs.HeadRead.{HeadRead, IsHead, IsNone, Value, head_by}
use Rattle.h3_messages.specs.Content.{is_exceeded, may_end, takes_trailer}
use Rattle.h3_proto.specs.declared.stream.Side.{Side}
use Rattle.h3_proto.specs.declared.stream.Side.TheVariants.{Client, Server}
use Rattle.h3_qpack.specs.DecodedSection.{BadSection, DecodedSection, Fields, Missing, decode_section}
use Rattle.h3_qpack.specs.DecoderState.{DecoderState}
use Rattle.h3_qpack.specs.Sizes.{told_size}
use Rattle.h3_frames.specs.ExcessiveFrames.{begins_section, is_excessive_by}
use Rattle.h3_frames.specs.ExcessiveLaws.{none_excessive_by}
use Rattle.h3_frames.specs.Frames.{Front, Refused, Unfinished, Unknown, Whole, frame_by}
use Rattle.h3_frames.specs.Pieces.{chunk_of, first_of}
use Rattle.h3_frames.specs.declared.proto.frame.Frame.{Frame}
use Rattle.h3_frames.specs.declared.proto.frame.Frame.TheVariants as frame
use Rattle.h3_frames.specs.declared.proto.frame.PayloadLen.{PayloadLen}
use Rattle.h3_connection.specs.Announcing.{section_of}
use Rattle.h3_connection.specs.Codes.{excessive_load, frame_unexpected}
use Rattle.h3_connection.specs.Incoming.{Incoming, is_before_head, is_body}
use Rattle.h3_connection.specs.Pulling.{Pulled, acknowledgment, at_end, at_frame, at_payload, at_section, at_trailer, begun_payload, begun_section, between_frames, body_of, connection_fault, decoded, excess, framed, head_or_trailer, in_message, in_payload, is_client, is_for, is_interim, judged, just, left_with, malformed, next_frame, next_item, past_section, pull_stream, raw_of, read_section, unless_broken, with_content}
use Rattle.h3_connection.specs.Skipping.{skipped}
use Rattle.h3_connection.specs.StrictConnection.{is_no_session, kinds_of}
use Rattle.h3_connection.specs.StrictMessages.{broken_rule, if_whole}
use Rattle.h3_connection.specs.declared.event.Fault.TheVariants.{Connection, Stream}
use Rattle.h3_connection.specs.declared.event.Item.{Item}
use Rattle.h3_connection.specs.declared.event.Item.TheVariants as item
use Rattle.h3_connection.specs.declared.event.Malformation.{Malformation}
use Rattle.h3_connection.specs.declared.event.Malformation.TheVariants as malformation
use Rattle.h3_connection.specs.declared.event.Pull.{Pull}
use Rattle.h3_connection.specs.declared.event.Pull.TheVariants as pull
use Rattle.h3_connection.specs.declared.event.StreamFault.{StreamFault}
use Rattle.h3_connection.specs.declared.place.Place.{Place}
use Rattle.h3_connection.specs.declared.place.Place.TheVariants.{AfterTrailer, BeforeHead, InBody, InSession}
use Rattle.h3_connection.specs.declared.setup.Announced.{Announced}
use Rattle.h3_world.specs.Flow.{Flow, Part}
use Rattle.h3_world.specs.Flow.Part.{Body, End, Head as HeadPart, Interim, Trailer}
use Rattle.h3_world.specs.Items.{body_there}
use Rattle.h3_world.specs.Order.{next_part}
use Rattle.h3_world.specs.Pauses.{pause_before}
use Rattle.h3_world.specs.Sound.{IsSoundFlow}
use Rattle.h3_world.specs.World.{Party}
use Rattle.h3_world.specs.declared.event.Answer.TheVariants as answer
use Rattle.h3_headline.specs.PartLaws.{part_at}
use Rattle.h3_headline.specs.Pulling.{ComesTo, HandsOut, Pauses}
use Rattle.h3_headline.specs.Standing.{place_after}
use Rattle.h3_strict.proofs.TunnelParts.{any_at}
use Rattle.h3_strict.specs.NarrowLaws.{reads_less}
use Rattle.h3_strict.specs.Plainly.{plain, plain_incoming}
use Rattle.h3_strict.specs.Tunnels.{trails}

-- it ends the connection
abbrev pub ends_all : Pull → Bool
ends_all (pull.Fault (Connection code)) = true
ends_all _ = false

-- an answer that a section gives behind the head
abbrev pub may_trail : Pull → Bool
may_trail (pull.Waiting count) = true
may_trail (pull.Fault fault) = true
may_trail (pull.Item (item.Trailer h)) = true
may_trail (pull.Item (item.TooLarge size)) = true
may_trail _ = false

-- The answer of one pull beside that of the other: the same, or no such fault, or that of a trailer in a tunnel, or of what is too long.
pub data Why (own : Announced) (i : Incoming) (p q : Pulled) : Type 0 where
  SameAnswer : q.answer ≡ p.answer → Why own i p q
  NoFault : ends_all p.answer ≡ false → Why own i p q
  InTunnel : takes_trailer i.content ≡ false → i.place ≡ InBody → may_trail q.answer ≡ true → Why own i p q
  TooLong : i.fault ≡ None → i.section ≡ None → nat_lt 0 i.body_left ≡ false → is_excessive_by (kinds_of own) own.choices.unfinished_limit (skipped (kinds_of own) (is_body i.place) (concat i.unread)) ≡ true → begins_section (skipped (kinds_of own) (is_body i.place) (concat i.unread)) ≡ false → Why own i p q

-- the same answer, or no such fault
data Plain (p q : Pulled) : Type 0 where
  AnswersSame : q.answer ≡ p.answer → Plain p q
  EndsNone : ends_all p.answer ≡ false → Plain p q

either : (b : Bool) (x y v w : Pulled) → Plain x v → Plain y w → Plain (if b then x else y) (if b then v else w)
either true x y v w h k = h
either false x y v w h k = k

unless : (b : Bool) (x y v : Pulled) → Plain x v → Plain y v → Plain (if b then x else y) v
unless true x y v h k = h
unless false x y v h k = k

both : (P : Pulled → Type 0) (b : Bool) (x y : Pulled) → P x → P y → P (if b then x else y)
both P true x y h k = h
both P false x y h k = k

why : (own : Announced) (i : Incoming) (p q : Pulled) → Plain p q → Why own i p q
why own i p q (AnswersSame same) = SameAnswer same
why own i p q (EndsNone none) = NoFault none

body_why : (i : Incoming) (found : Option (List ℕ) × List (List ℕ)) → Plain (body_of i found) (body_of (plain_incoming i) found)
body_why i (None, pieces) = AnswersSame refl
body_why i (Some bytes, pieces) = AnswersSame refl

payload_why : (id : ℕ) (i : Incoming) → Plain (at_payload id i) (at_payload id (plain_incoming i))
payload_why id i =
    unless (is_exceeded i.content) (malformed id malformation.ContentLength i []) (in_payload i) (in_payload (plain_incoming i)) (EndsNone refl)
    (either (i.ended && nat_lt (length (concat i.unread)) i.body_left) _ _ _ _ (AnswersSame refl) (body_why i (chunk_of i.body_left i.unread)))

raw_why : (i : Incoming) (found : Option (List ℕ) × List (List ℕ)) → Plain (raw_of i found) (raw_of (plain_incoming i) found)
raw_why i (None, pieces) = either i.ended _ _ _ _ (AnswersSame refl) (AnswersSame refl)
raw_why i (Some bytes, pieces) = AnswersSame refl

broken_why : (id : ℕ) (i : Incoming) (replies : List DecoderInstruction) (broken : Option Malformation) (p q : Pulled) → Plain p q → Plain (unless_broken id i replies broken p) q
broken_why id i replies None p q h = h
broken_why id i replies (Some m) p q h = EndsNone refl

head_why : (side : Side) (id : ℕ) (i : Incoming) (replies : List DecoderInstruction) (broken : Option Malformation) (place : Place) (h : Head)
    → Plain (head_or_trailer side id i replies broken place h) (head_or_trailer side id (plain_incoming i) replies None place h)
head_why side id i replies broken BeforeHead h =
    either (not (is_for side h)) _ _ _ _ (AnswersSame refl) (broken_why id i replies broken _ _ (either (is_client side && is_interim h.status) _ _ _ _ (AnswersSame refl) (AnswersSame refl)))
head_why side id i replies broken InBody h = either (has_pseudo h) _ _ _ _ (AnswersSame refl) (broken_why id i replies broken _ _ (AnswersSame refl))
head_why side id i replies broken AfterTrailer h = either (has_pseudo h) _ _ _ _ (AnswersSame refl) (broken_why id i replies broken _ _ (AnswersSame refl))
head_why side id i replies broken InSession h = either (has_pseudo h) _ _ _ _ (AnswersSame refl) (broken_why id i replies broken _ _ (AnswersSame refl))

judged_why : (side : Side) (id : ℕ) (i : Incoming) (replies : List DecoderInstruction) (broken : Option Malformation) (read : HeadRead)
    → Plain (judged side id i replies broken read) (judged side id (plain_incoming i) replies None read)
judged_why side id i replies broken (IsNone m) = AnswersSame refl
judged_why side id i replies broken (IsHead h) = head_why side id i replies broken i.place h

module _ (side : Side) (own : Announced) (id : ℕ) (r : DecoderState) where
  read_why : (i : Incoming) (replies : List DecoderInstruction) (fields : List Field) → Plain (read_section side own id r i replies fields) (read_section side (plain own) id r (plain_incoming i) replies fields)
  read_why i replies fields =
      either (nat_lt (section_of own) (told_size fields)) _ _ _ _ (AnswersSame refl)
      (by_read (reads_less own.choices.extensions.any_protocol fields))
    where
      j : Incoming
      j = with_content side own i fields

      broken : Option Malformation
      broken = if_whole i.content (broken_rule side own i.place fields)

      Told : HeadRead → Type 0
      Told h = Plain (judged side id j replies broken h) (judged side id (plain_incoming j) replies None (head_by true fields))

      by_read : (head_by own.choices.extensions.any_protocol fields ≡ head_by true fields) ⊎ ((head_by own.choices.extensions.any_protocol fields ≡ IsNone Value) × (own.choices.extensions.any_protocol ≡ false)) → Told (head_by own.choices.extensions.any_protocol fields)
      by_read (inl same) = subst Told (sym same) (judged_why side id j replies broken (head_by true fields))
      by_read (inr value) = subst Told (sym value.0) (EndsNone refl)

  decoded_why : (i : Incoming) (d : DecodedSection) → Plain (decoded side own id r i d) (decoded side (plain own) id r (plain_incoming i) d)
  decoded_why i (Fields fields count) = read_why (past_section i) (acknowledgment id count) fields
  decoded_why i (Missing count) = either (i.waits_for == 0) _ _ _ _ (AnswersSame refl) (AnswersSame refl)
  decoded_why i BadSection = AnswersSame refl

  section_why : (i : Incoming) (bytes : List ℕ) → Plain (at_section side own id r i bytes) (at_section side (plain own) id r (plain_incoming i) bytes)
  section_why i bytes = either (nat_lt r.table.inserted i.waits_for) _ _ _ _ (AnswersSame refl) (decoded_why i (decode_section r bytes))

  -- what a section behind the head gives
  trail_judged : (i : Incoming) (replies : List DecoderInstruction) (read : HeadRead) → i.place ≡ InBody → may_trail (judged side id i replies None read).answer ≡ true
  trail_judged i replies (IsNone m) place = refl
  trail_judged i replies (IsHead h) place = ap (λ q. may_trail (head_or_trailer side id i replies None q h).answer) place ∙ both (λ p. may_trail p.answer ≡ true) (has_pseudo h) _ _ refl refl

  trail_decoded : (i : Incoming) (d : DecodedSection) → i.place ≡ InBody → may_trail (decoded side (plain own) id r (plain_incoming i) d).answer ≡ true
  trail_decoded i (Fields fields count) place =
      both (λ p. may_trail p.answer ≡ true) (nat_lt (section_of own) (told_size fields)) _ _ refl
      (trail_judged (with_content side (plain own) (past_section (plain_incoming i)) fields) (acknowledgment id count) (head_by true fields) place)
  trail_decoded i (Missing count) place = both (λ p. may_trail p.answer ≡ true) (i.waits_for == 0) _ _ refl refl
  trail_decoded i BadSection place = refl

  trail_section : (i : Incoming) (bytes : List ℕ) → i.place ≡ InBody → may_trail (at_section side (plain own) id r (plain_incoming i) bytes).answer ≡ true
  trail_section i bytes place = both (λ p. may_trail p.answer ≡ true) (nat_lt r.table.inserted i.waits_for) _ _ refl (trail_decoded i (decode_section r bytes) place)

  end_why : (i : Incoming) (place : Place) → Plain (at_end side own id r i place) (at_end side (plain own) id r (plain_incoming i) place)
  end_why i BeforeHead = AnswersSame refl
  end_why i InBody = unless (may_end i.content) _ _ _ (AnswersSame refl) (EndsNone refl)
  end_why i AfterTrailer = unless (may_end i.content) _ _ _ (AnswersSame refl) (EndsNone refl)
  end_why i InSession = unless (may_end i.content) _ _ _ (AnswersSame refl) (EndsNone refl)

  -- from here on the receiver in view is the first one, of which some bytes were passed
  module _ (first : Incoming) where
    trailer_why : (i : Incoming) (bytes : List ℕ) → i.content ≡ first.content → first.place ≡ InBody → i.place ≡ first.place → Why own first (at_trailer side own id r i bytes) (at_trailer side (plain own) id r (plain_incoming i) bytes)
    trailer_why i bytes content at place = by_content (takes_trailer i.content) refl
      where
        by_content : (b : Bool) → takes_trailer i.content ≡ b
            → Why own first (if b then at_section side own id r (begun_section i bytes) bytes else connection_fault frame_unexpected i) (at_section side (plain own) id r (plain_incoming (begun_section i bytes)) bytes)
        by_content true e = why own first _ _ (section_why (begun_section i bytes) bytes)
        by_content false e = InTunnel (ap takes_trailer (sym content) ∙ e) at (trail_section (begun_section i bytes) bytes (place ∙ at))

    frame_why : (at : Side) (i : Incoming) (place : Place) (f : Frame PayloadLen) → i.content ≡ first.content → i.place ≡ first.place → first.place ≡ place
        → Why own first (at_frame side own id r at i place f) (at_frame side (plain own) id r at (plain_incoming i) place f)
    frame_why Client i BeforeHead (frame.Headers bytes) content same at = why own first _ _ (section_why (begun_section i bytes) bytes)
    frame_why Server i BeforeHead (frame.Headers bytes) content same at = why own first _ _ (section_why (begun_section i bytes) bytes)
    frame_why Client i InBody (frame.Headers bytes) content same at = trailer_why i bytes content at same
    frame_why Server i InBody (frame.Headers bytes) content same at = trailer_why i bytes content at same
    frame_why Client i InBody (frame.Data len) content same at = why own first _ _ (payload_why id (begun_payload i len.0))
    frame_why Server i InBody (frame.Data len) content same at = why own first _ _ (payload_why id (begun_payload i len.0))
    frame_why Server i BeforeHead (frame.WebTransportStream session) content same at = why own first _ _ (either (is_no_session own session) _ _ _ _ (AnswersSame refl) (AnswersSame refl))
    frame_why Client i place (frame.PushPromise promise) content same at = SameAnswer refl
    frame_why _ i place _ content same at = SameAnswer refl

    framed_why : (i : Incoming) (f : Front) → i.content ≡ first.content → i.place ≡ first.place → Why own first (framed side own id r i f) (framed side (plain own) id r (plain_incoming i) f)
    framed_why i (Unfinished least) content place = why own first _ _ (either i.ended _ _ _ _ (AnswersSame refl) (AnswersSame refl))
    framed_why i (Whole f rest) content place = frame_why side (left_with i rest) i.place f content place (sym place)
    framed_why i (Unknown kind rest) content place = SameAnswer refl
    framed_why i (Refused e) content place = SameAnswer refl

    next_why : (i : Incoming) (bytes : List ℕ) → i.content ≡ first.content → i.place ≡ first.place → Why own first (next_frame side own id r i bytes) (next_frame side (plain own) id r (plain_incoming i) bytes)
    next_why i [] content place = why own first _ _ (either i.ended _ _ _ _ (end_why i i.place) (AnswersSame refl))
    next_why i (byte ∷ bytes) content place = framed_why i (frame_by (kinds_of own) (byte ∷ bytes)) content place

    between_why : first.fault ≡ None → first.section ≡ None → nat_lt 0 first.body_left ≡ false → Why own first (between_frames side own id r first) (between_frames side (plain own) id r (plain_incoming first))
    between_why alive none whole =
        let bytes = skipped (kinds_of own) (is_body first.place) (concat first.unread) in
        let next = next_frame side (plain own) id r (plain_incoming (left_with first bytes)) bytes in
        subst (λ b. Why own first (between_frames side own id r first) (if b then excess id (plain_incoming first) bytes else next)) (sym (none_excessive_by (kinds_of own) (2 ^ 62 - 1) bytes refl)) (by_excess (is_excessive_by (kinds_of own) own.choices.unfinished_limit bytes) refl)
      where
        by_type : (q : Pulled) (bytes : List ℕ) → bytes ≡ skipped (kinds_of own) (is_body first.place) (concat first.unread) → is_excessive_by (kinds_of own) own.choices.unfinished_limit bytes ≡ true → (c : Bool) → begins_section bytes ≡ c
            → Why own first (if c then malformed id malformation.TooLong first [] else connection_fault excessive_load (record first { unread = [] })) q
        by_type q bytes is long true e = NoFault refl
        by_type q bytes is long false e = TooLong alive none whole (ap (is_excessive_by (kinds_of own) own.choices.unfinished_limit) (sym is) ∙ long) (ap begins_section (sym is) ∙ e)

        by_excess : (b : Bool) → is_excessive_by (kinds_of own) own.choices.unfinished_limit (skipped (kinds_of own) (is_body first.place) (concat first.unread)) ≡ b
            → (let bytes = skipped (kinds_of own) (is_body first.place) (concat first.unread) in
            Why own first (if b then excess id first bytes else next_frame side own id r (left_with first bytes) bytes) (next_frame side (plain own) id r (plain_incoming (left_with first bytes)) bytes))
        by_excess true e = by_type _ (skipped (kinds_of own) (is_body first.place) (concat first.unread)) refl e (begins_section (skipped (kinds_of own) (is_body first.place) (concat first.unread))) refl
        by_excess false e = next_why (left_with first (skipped (kinds_of own) (is_body first.place) (concat first.unread))) (skipped (kinds_of own) (is_body first.place) (concat first.unread)) refl refl

    -- inside a payload nothing is too long; and else the frames that stand next are in view
    message_why : first.fault ≡ None → (section : Option (List ℕ)) → first.section ≡ section → Why own first (in_message side own id r first section) (in_message side (plain own) id r (plain_incoming first) section)
    message_why alive (Some bytes) is = why own first _ _ (section_why first bytes)
    message_why alive None is = by_left (nat_lt 0 first.body_left) refl
      where
        by_left : (b : Bool) → nat_lt 0 first.body_left ≡ b → Why own first (if b then at_payload id first else between_frames side own id r first) (if b then at_payload id (plain_incoming first) else between_frames side (plain own) id r (plain_incoming first))
        by_left true e = why own first _ _ (payload_why id first)
        by_left false e = between_why alive is e

    item_why : first.fault ≡ None → (place : Place) → Why own first (next_item side own id r first place) (next_item side (plain own) id r (plain_incoming first) place)
    item_why alive BeforeHead = message_why alive first.section refl
    item_why alive InBody = message_why alive first.section refl
    item_why alive AfterTrailer = message_why alive first.section refl
    item_why alive InSession = why own first _ _ (raw_why first (first_of first.unread))

    pub pull_why : Why own first (pull_stream side own id r first) (pull_stream side (plain own) id r (plain_incoming first))
    unfolding pull_stream
    pull_why = by_fault first.fault refl
      where
        by_fault : (f : Option StreamFault) → first.fault ≡ f → Why own first
            (elim f [ Some told ↦ just (pull.Fault (Stream told)) first | None ↦ if first.is_over then just (pull.Item item.End) first else next_item side own id r first first.place ])
            (elim f [ Some told ↦ just (pull.Fault (Stream told)) (plain_incoming first) | None ↦ if first.is_over then just (pull.Item item.End) (plain_incoming first) else next_item side (plain own) id r (plain_incoming first) first.place ])
        by_fault (Some told) e = NoFault refl
        by_fault None e = by_over first.is_over
          where
            by_over : (b : Bool) → Why own first (if b then just (pull.Item item.End) first else next_item side own id r first first.place) (if b then just (pull.Item item.End) (plain_incoming first) else next_item side (plain own) id r (plain_incoming first) first.place)
            by_over true = NoFault refl
            by_over false = item_why e first.place

-- What stands next where the other receiver answers so behind the head: a trailer.
in_front : {X : Type 0} → InBody ≡ BeforeHead → X
in_front e = let k : false ≡ true = ap is_before_head e in absurd (cc)

none_told : (o : Option Pull) (q : Pull) → (o ≡ None) ⊎ (o ≡ Some pull.Pending) → o ≡ Some q → may_trail q ≡ true → ⊥
none_told o q (inl none) is may = let never : None ≡ Some q = sym none ∙ is in cc
none_told o q (inr pends) is may = let same : Some pull.Pending ≡ Some q = sym pends ∙ is in by_same same may
  where
    by_same : {q : Pull} → ◌≡◌ {A = Option Pull} (Some pull.Pending) (Some q) → may_trail q ≡ true → ⊥
    by_same {q} same may = let is : q ≡ pull.Pending = ap (λ o. elim o [ None ↦ pull.Pending | Some x ↦ x ]) (sym same) in let never : false ≡ true = sym (ap may_trail is) ∙ may in cc

pends_or_none : (b : Bool) → ((if b then Some pull.Pending else None) ≡ None) ⊎ ((if b then Some pull.Pending else None) ≡ Some pull.Pending)
pends_or_none true = inr refl
pends_or_none false = inl refl

none_or_pends : (b : Bool) → ((if b then None else Some pull.Pending) ≡ None) ⊎ ((if b then None else Some pull.Pending) ≡ Some pull.Pending)
none_or_pends true = inl refl
none_or_pends false = inr refl

pub trailer_comes : (most id came : ℕ) (p : Party) (f : Flow) (q : Pulled) → IsSoundFlow p f → place_after (take f.parts_out f.sent) ≡ InBody → ComesTo most id f came (next_part f) q → may_trail q.answer ≡ true → list_any trails f.sent ≡ true
trailer_comes most id came p f q sound body comes may = by_part (next_part f) refl comes
  where
    by_part : (o : Option Part) → next_part f ≡ o → ComesTo most id f came o q → list_any trails f.sent ≡ true
    by_part (Some (Trailer s)) next c = any_at trails f.sent f.parts_out (Trailer s) next refl
    by_part (Some (Interim s)) next c = in_front (sym body ∙ (part_at p f (Interim s) sound next).place_is)
    by_part (Some (HeadPart s)) next c = in_front (sym body ∙ (part_at p f (HeadPart s) sound next).place_is)
    by_part None next (Pauses x pause is replies keeps) = absurd (none_told (Some pull.Pending) x (inr refl) pause (ap may_trail (sym is) ∙ may))
    by_part None next (HandsOut x pause come is replies keeps) = absurd come
    by_part (Some (Body bytes end)) next (Pauses x pause is replies keeps) = absurd (none_told _ x (pends_or_none (body_there f bytes end == 0)) pause (ap may_trail (sym is) ∙ may))
    by_part (Some (Body bytes end)) next (HandsOut x pause come is replies keeps) = absurd (let never : false ≡ true = sym (ap (λ y. may_trail (pull.Item y)) come.3) ∙ ap may_trail (sym is) ∙ may in cc)
    by_part (Some End) next (Pauses x pause is replies keeps) = absurd (none_told _ x (none_or_pends f.ended) pause (ap may_trail (sym is) ∙ may))
    by_part (Some End) next (HandsOut x pause come is replies keeps) = absurd (let never : false ≡ true = sym (ap (λ y. may_trail (pull.Item y)) come.1) ∙ ap may_trail (sym is) ∙ may in cc)

-- And it finds no fault.
section_pauses : (a b : Bool) (count : ℕ) (q : Pull) → (if a then Some pull.Pending else (if b then Some (pull.Waiting count) else None)) ≡ Some q → ends_all q ≡ false
section_pauses true b count q h = ap (λ o. elim o [ None ↦ false | Some x ↦ ends_all x ]) (sym h)
section_pauses false true count q h = ap (λ o. elim o [ None ↦ false | Some x ↦ ends_all x ]) (sym h)
section_pauses false false count q h = absurd (cc)

pause_faultless : (f : Flow) (came : ℕ) (part : Option Part) (q : Pull) → pause_before f came part ≡ Some q → ends_all q ≡ false
pause_faultless f came None q h = ap (λ o. elim o [ None ↦ false | Some x ↦ ends_all x ]) (sym h)
pause_faultless f came (Some (Interim s)) q h = section_pauses (nat_lt f.delivered s.own_length) (nat_lt came s.count) s.count q h
pause_faultless f came (Some (HeadPart s)) q h = section_pauses (nat_lt f.delivered s.own_length) (nat_lt came s.count) s.count q h
pause_faultless f came (Some (Trailer s)) q h = section_pauses (nat_lt f.delivered s.own_length) (nat_lt came s.count) s.count q h
pause_faultless f came (Some (Body bytes end)) q h = by_test (body_there f bytes end == 0) h
  where
    by_test : (b : Bool) → (if b then Some pull.Pending else None) ≡ Some q → ends_all q ≡ false
    by_test true h = ap (λ o. elim o [ None ↦ false | Some x ↦ ends_all x ]) (sym h)
    by_test false h = absurd (cc)
pause_faultless f came (Some End) q h = by_test f.ended h
  where
    by_test : (b : Bool) → (if b then None else Some pull.Pending) ≡ Some q → ends_all q ≡ false
    by_test true h = absurd (cc)
    by_test false h = ap (λ o. elim o [ None ↦ false | Some x ↦ ends_all x ]) (sym h)

pub comes_faultless : (most id came : ℕ) (f : Flow) (part : Option Part) (q : Pulled) → ComesTo most id f came part q → ends_all q.answer ≡ false
comes_faultless most id came f part q (Pauses x pause is replies keeps) = ap ends_all is ∙ pause_faultless f came part x pause
comes_faultless most id came f part q (HandsOut x pause come is replies keeps) = ap ends_all is
