-- What a pull leaves of the content that a receiver counts: it begins no tunnel, but where it reads a head.
use Rattle.std.proofs.Common.{◌≡◌, ◌⊎◌, inl, inr, ℕ, ◌-◌, Bool, true, false, List, [], ◌∷◌, length, refl, sym, ap, ◌∙◌, Option, Some, None, if◌then◌else◌}
use Rattle.std.specs.Prelude.{not, ◌&&◌, ◌||◌, ◌==◌, codes, nat_le, nat_lt, slice_index}
use Rattle.std.specs.List.{concat}
use Rattle.h3_field.specs.Field.{Field}
use Rattle.h3_field.specs.Instruction.{DecoderInstruction}
use Rattle.h3_header.specs.Head.{Head, has_pseudo}
use Rattle.h3_header.specs.HeadRead.{HeadRead, IsHead, IsNone, head_by}
use Rattle.h3_messages.specs.Content.{asked_for, content_behind_status, content_expected, content_of_request, content_of_status, is_exceeded, is_interim_status, is_without_content, left_behind, may_end, takes_trailer, until_answered}
use Rattle.h3_messages.specs.Messages.{is_connect, is_length, number_of, value_of}
use Rattle.h3_messages.specs.declared.content.Content.{Content}
use Rattle.h3_messages.specs.declared.content.Content.TheVariants.{Exactly, Exceeded, NoContent, Tunnel, Unanswered, Unsaid}
use Rattle.h3_proto.specs.declared.stream.Side.{Side}
use Rattle.h3_proto.specs.declared.stream.Side.TheVariants.{Client, Server}
use Rattle.h3_qpack.specs.DecodedSection.{BadSection, DecodedSection, Fields, Missing, decode_section}
use Rattle.h3_qpack.specs.DecoderState.{DecoderState}
use Rattle.h3_qpack.specs.Sizes.{last_value, told_size}
use Rattle.h3_frames.specs.ExcessiveFrames.{begins_section, is_excessive_by}
use Rattle.h3_frames.specs.Frames.{Front, Refused, Unfinished, Unknown, Whole, frame_by}
use Rattle.h3_frames.specs.Pieces.{chunk_of, first_of}
use Rattle.h3_frames.specs.declared.proto.frame.Frame.{Frame}
use Rattle.h3_frames.specs.declared.proto.frame.Frame.TheVariants as frame
use Rattle.h3_frames.specs.declared.proto.frame.PayloadLen.{PayloadLen}
use Rattle.h3_connection.specs.Announcing.{section_of}
use Rattle.h3_connection.specs.Incoming.{Incoming, is_before_head, is_body}
use Rattle.h3_connection.specs.Pulling.{Pulled, acknowledgment, at_end, at_frame, at_payload, at_section, at_trailer, begun_payload, begun_section, between_frames, body_of, decoded, framed, head_or_trailer, in_message, in_payload, is_client, is_for, is_interim, judged, just, left_with, malformed, next_frame, next_item, past_section, pull_stream, raw_of, read_section, unless_broken, with_content}
use Rattle.h3_connection.specs.Skipping.{skipped}
use Rattle.h3_connection.specs.StrictConnection.{is_no_session, kinds_of}
use Rattle.h3_connection.specs.StrictMessages.{broken_rule, content_at, content_behind, content_behind_large, if_whole, large_content_at, response_at, response_behind}
use Rattle.h3_connection.specs.declared.event.Fault.TheVariants.{Stream}
use Rattle.h3_connection.specs.declared.event.Item.TheVariants as item
use Rattle.h3_connection.specs.declared.event.Malformation.{Malformation}
use Rattle.h3_connection.specs.declared.event.Malformation.TheVariants as malformation
use Rattle.h3_connection.specs.declared.event.Pull.TheVariants as pull
use Rattle.h3_connection.specs.declared.event.StreamFault.{StreamFault}
use Rattle.h3_connection.specs.declared.place.Place.{Place}
use Rattle.h3_connection.specs.declared.place.Place.TheVariants.{AfterTrailer, BeforeHead, InBody, InSession}
use Rattle.h3_connection.specs.declared.setup.Announced.{Announced}
use Rattle.h3_strict.specs.Tunnels.{is_tunnel, marked, may_be_tunnel, tunnels}

-- The receiver is marked only if the content was, and knows as much of a response.
pub record Stays (side : Side) (before : Content) (known : Option Content) (p : Pulled) : Type 0 where
  pub content : p.incoming.fault ≡ None → marked side p.incoming.content ≡ true → marked side before ≡ true
  pub response : p.incoming.response ≡ known

pub either : (P : Pulled → Type 0) (b : Bool) (x y : Pulled) → P x → P y → P (if b then x else y)
either P true x y h k = h
either P false x y h k = k

-- content that is taken from
pub left_marked : (side : Side) (content : Content) (size : ℕ) → marked side (left_behind content size) ≡ marked side content
left_marked Client Unsaid size = refl
left_marked Server Unsaid size = refl
left_marked Client (Exactly left) size = by_test (nat_le size left)
  where
    by_test : (b : Bool) → marked Client (if b then Exactly (left - size) else Exceeded) ≡ false
    by_test true = refl
    by_test false = refl
left_marked Server (Exactly left) size = by_test (nat_le size left)
  where
    by_test : (b : Bool) → marked Server (if b then Exactly (left - size) else Exceeded) ≡ false
    by_test true = refl
    by_test false = refl
left_marked Client NoContent size = by_test (size == 0)
  where
    by_test : (b : Bool) → marked Client (if b then NoContent else Exceeded) ≡ false
    by_test true = refl
    by_test false = refl
left_marked Server NoContent size = by_test (size == 0)
  where
    by_test : (b : Bool) → marked Server (if b then NoContent else Exceeded) ≡ false
    by_test true = refl
    by_test false = refl
left_marked Client Tunnel size = refl
left_marked Server Tunnel size = refl
left_marked Client Unanswered size = refl
left_marked Server Unanswered size = refl
left_marked Client Exceeded size = refl
left_marked Server Exceeded size = refl

-- Where a section leaves what is counted: behind the head, or at an end that counts nothing.
pub record Leaves (side : Side) (own : Announced) (place : Place) : Type 0 where
  pub content : (c : Content) (fields : List Field) → content_at side own place c fields ≡ c
  pub large : (c : Content) (status : Option (List ℕ)) → large_content_at side own place c status ≡ c
  pub response : (known : Option Content) (fields : List Field) → response_at side own place known fields ≡ known

if_same : {X : Type 0} (b : Bool) (x y : X) → x ≡ y → (if b then x else y) ≡ y
if_same true x y e = e
if_same false x y e = refl

pub leaves_behind : (side : Side) (own : Announced) (place : Place) → is_before_head place ≡ false → Leaves side own place
leaves_behind side own BeforeHead h = absurd (cc)
leaves_behind Client own InBody h = record { content = λ c fields. if_same own.choices.strict_messages c c refl; large = λ c status. if_same own.choices.strict_messages c c refl; response = λ known fields. if_same own.choices.strict_messages known known refl }
leaves_behind Server own InBody h = record { content = λ c fields. if_same own.choices.strict_messages c c refl; large = λ c status. if_same own.choices.strict_messages c c refl; response = λ known fields. if_same own.choices.strict_messages known known refl }
leaves_behind Client own AfterTrailer h = record { content = λ c fields. if_same own.choices.strict_messages c c refl; large = λ c status. if_same own.choices.strict_messages c c refl; response = λ known fields. if_same own.choices.strict_messages known known refl }
leaves_behind Server own AfterTrailer h = record { content = λ c fields. if_same own.choices.strict_messages c c refl; large = λ c status. if_same own.choices.strict_messages c c refl; response = λ known fields. if_same own.choices.strict_messages known known refl }
leaves_behind Client own InSession h = record { content = λ c fields. if_same own.choices.strict_messages c c refl; large = λ c status. if_same own.choices.strict_messages c c refl; response = λ known fields. if_same own.choices.strict_messages known known refl }
leaves_behind Server own InSession h = record { content = λ c fields. if_same own.choices.strict_messages c c refl; large = λ c status. if_same own.choices.strict_messages c c refl; response = λ known fields. if_same own.choices.strict_messages known known refl }

pub leaves_loose : (side : Side) (own : Announced) (place : Place) → own.choices.strict_messages ≡ false → Leaves side own place
leaves_loose side own place loose = record {
  content = λ c fields. ap (λ b. if b then content_behind side place c fields else c) loose;
  large = λ c status. ap (λ b. if b then content_behind_large side place c status else c) loose;
  response = λ known fields. ap (λ b. if b then response_behind side place known fields else known) loose;
}

module _ (side : Side) (before : Content) (known : Option Content) where
  abbrev Stay : Pulled → Type 0
  Stay = Stays side before known

  -- an answer with such a receiver
  pub stays : (p : Pulled) → (marked side p.incoming.content ≡ true → marked side before ≡ true) → p.incoming.response ≡ known → Stays side before known p
  stays p content response = record { content = λ alive. content; response = response }

  gone : (id : ℕ) (why : Malformation) (i : Incoming) (replies : List DecoderInstruction) → i.response ≡ known → Stay (malformed id why i replies)
  gone id why i replies response = record { content = λ alive. absurd (never alive); response = response }
    where
      never : (malformed id why i replies).incoming.fault ≡ None → ⊥
      never e = cc

  module _ (own : Announced) (id : ℕ) (r : DecoderState) where
    body_stays : (i : Incoming) (found : Option (List ℕ) × List (List ℕ)) → (marked side i.content ≡ true → marked side before ≡ true) → i.response ≡ known → Stay (body_of i found)
    body_stays i (None, pieces) h k = stays _ h k
    body_stays i (Some bytes, pieces) h k = stays _ h k

    pub payload_stays : (i : Incoming) → (marked side i.content ≡ true → marked side before ≡ true) → i.response ≡ known → Stay (at_payload id i)
    payload_stays i h k =
        either Stay (is_exceeded i.content) (malformed id malformation.ContentLength i []) (in_payload i) (gone id malformation.ContentLength i [] k)
        (either Stay (i.ended && nat_lt (length (concat i.unread)) i.body_left) _ _ (stays _ h k) (body_stays i (chunk_of i.body_left i.unread) h k))

    raw_stays : (i : Incoming) (found : Option (List ℕ) × List (List ℕ)) → (marked side i.content ≡ true → marked side before ≡ true) → i.response ≡ known → Stay (raw_of i found)
    raw_stays i (None, pieces) h k = either Stay i.ended _ _ (stays _ h k) (stays _ h k)
    raw_stays i (Some bytes, pieces) h k = stays _ h k

    broken_stays : (i : Incoming) (replies : List DecoderInstruction) (broken : Option Malformation) (p : Pulled) → i.response ≡ known → Stay p → Stay (unless_broken id i replies broken p)
    broken_stays i replies None p k h = h
    broken_stays i replies (Some why) p k h = gone id why i replies k

    head_stays : (i : Incoming) (replies : List DecoderInstruction) (broken : Option Malformation) (place : Place) (h : Head) → (marked side i.content ≡ true → marked side before ≡ true) → i.response ≡ known
        → Stay (head_or_trailer side id i replies broken place h)
    head_stays i replies broken BeforeHead h m k =
        either Stay (not (is_for side h)) _ _ (gone id malformation.WrongSide i replies k)
        (broken_stays i replies broken _ k (either Stay (is_client side && is_interim h.status) _ _ (stays _ m k) (stays _ m k)))
    head_stays i replies broken InBody h m k = either Stay (has_pseudo h) _ _ (gone id malformation.PseudoInTrailer i replies k) (broken_stays i replies broken _ k (stays _ m k))
    head_stays i replies broken AfterTrailer h m k = either Stay (has_pseudo h) _ _ (gone id malformation.PseudoInTrailer i replies k) (broken_stays i replies broken _ k (stays _ m k))
    head_stays i replies broken InSession h m k = either Stay (has_pseudo h) _ _ (gone id malformation.PseudoInTrailer i replies k) (broken_stays i replies broken _ k (stays _ m k))

    judged_stays : (i : Incoming) (replies : List DecoderInstruction) (broken : Option Malformation) (read : HeadRead) → (marked side i.content ≡ true → marked side before ≡ true) → i.response ≡ known
        → Stay (judged side id i replies broken read)
    judged_stays i replies broken (IsNone why) m k = gone id _ i replies k
    judged_stays i replies broken (IsHead h) m k = head_stays i replies broken i.place h m k

    -- a section, by what it leaves where it is whole and where it is too large
    pub section_stays : (i : Incoming) (replies : List DecoderInstruction) (fields : List Field) → (marked side (content_at side own i.place i.content fields) ≡ true → marked side before ≡ true)
        → (marked side (large_content_at side own i.place i.content (last_value (codes ":status") fields)) ≡ true → marked side before ≡ true) → response_at side own i.place i.response fields ≡ known → i.response ≡ known
        → Stays side before known (read_section side own id r i replies fields)
    section_stays i replies fields whole large response same =
        either Stay (nat_lt (section_of own) (told_size fields)) _ _ (stays _ large same)
        (judged_stays (with_content side own i fields) replies (if_whole i.content (broken_rule side own i.place fields)) (head_by own.choices.extensions.any_protocol fields) whole response)

  module _ (own : Announced) (id : ℕ) (r : DecoderState) (place : Place) (leaves : Leaves side own place) where
    abbrev Same : Incoming → Type 0
    Same i = (marked side i.content ≡ true → marked side before ≡ true) × (i.response ≡ known) × (i.place ≡ place)

    read_stays : (i : Incoming) (replies : List DecoderInstruction) (fields : List Field) → Same i → Stay (read_section side own id r i replies fields)
    read_stays i replies fields h =
        section_stays own id r i replies fields
        (λ m. h.0 (ap (marked side) (sym (ap (λ p. content_at side own p i.content fields) h.2 ∙ leaves.content i.content fields)) ∙ m))
        (λ m. h.0 (ap (marked side) (sym (ap (λ p. large_content_at side own p i.content (last_value (codes ":status") fields)) h.2 ∙ leaves.large i.content (last_value (codes ":status") fields))) ∙ m))
        (ap (λ p. response_at side own p i.response fields) h.2 ∙ leaves.response i.response fields ∙ h.1) h.1

    decoded_stays : (i : Incoming) (d : DecodedSection) → Same i → Stay (decoded side own id r i d)
    decoded_stays i (Fields fields count) h = read_stays (past_section i) (acknowledgment id count) fields h
    decoded_stays i (Missing count) h = either Stay (i.waits_for == 0) _ _ (stays _ h.0 h.1) (stays _ h.0 h.1)
    decoded_stays i BadSection h = stays _ h.0 h.1

    tried_stays : (i : Incoming) (bytes : List ℕ) → Same i → Stay (at_section side own id r i bytes)
    tried_stays i bytes h = either Stay (nat_lt r.table.inserted i.waits_for) _ _ (stays _ h.0 h.1) (decoded_stays i (decode_section r bytes) h)

    end_stays : (i : Incoming) (at : Place) → Same i → Stay (at_end side own id r i at)
    end_stays i BeforeHead h = gone id malformation.NoHead i [] h.1
    end_stays i InBody h = either Stay (may_end i.content) _ _ (stays _ h.0 h.1) (gone id malformation.ContentLength i [] h.1)
    end_stays i AfterTrailer h = either Stay (may_end i.content) _ _ (stays _ h.0 h.1) (gone id malformation.ContentLength i [] h.1)
    end_stays i InSession h = either Stay (may_end i.content) _ _ (stays _ h.0 h.1) (gone id malformation.ContentLength i [] h.1)

    trailer_stays : (i : Incoming) (bytes : List ℕ) → Same i → Stay (at_trailer side own id r i bytes)
    trailer_stays i bytes h = either Stay (takes_trailer i.content) _ _ (tried_stays (begun_section i bytes) bytes h) (stays _ h.0 h.1)

    data_stays : (i : Incoming) (size : ℕ) → Same i → Stay (at_payload id (begun_payload i size))
    data_stays i size h = payload_stays own id r (begun_payload i size) (λ m. h.0 (sym (left_marked side i.content size) ∙ m)) h.1

    frame_stays : (at : Side) (i : Incoming) (where_at : Place) (f : Frame PayloadLen) → Same i → Stay (at_frame side own id r at i where_at f)
    frame_stays Client i BeforeHead (frame.Headers bytes) h = tried_stays (begun_section i bytes) bytes h
    frame_stays Server i BeforeHead (frame.Headers bytes) h = tried_stays (begun_section i bytes) bytes h
    frame_stays Client i InBody (frame.Headers bytes) h = trailer_stays i bytes h
    frame_stays Server i InBody (frame.Headers bytes) h = trailer_stays i bytes h
    frame_stays Client i InBody (frame.Data len) h = data_stays i len.0 h
    frame_stays Server i InBody (frame.Data len) h = data_stays i len.0 h
    frame_stays Server i BeforeHead (frame.WebTransportStream session) h = either Stay (is_no_session own session) _ _ (stays _ h.0 h.1) (stays _ h.0 h.1)
    frame_stays Client i p (frame.PushPromise promise) h = stays _ h.0 h.1
    frame_stays _ i p _ h = stays _ h.0 h.1

    framed_stays : (i : Incoming) (f : Front) → Same i → Stay (framed side own id r i f)
    framed_stays i (Unfinished least) h = either Stay i.ended _ _ (stays _ h.0 h.1) (stays _ h.0 h.1)
    framed_stays i (Whole f rest) h = frame_stays side (left_with i rest) i.place f h
    framed_stays i (Unknown kind rest) h = stays _ h.0 h.1
    framed_stays i (Refused e) h = stays _ h.0 h.1

    next_stays : (i : Incoming) (bytes : List ℕ) → Same i → Stay (next_frame side own id r i bytes)
    next_stays i [] h = either Stay i.ended _ _ (end_stays i i.place h) (stays _ h.0 h.1)
    next_stays i (byte ∷ bytes) h = framed_stays i (frame_by (kinds_of own) (byte ∷ bytes)) h

    between_stays : (i : Incoming) → Same i → Stay (between_frames side own id r i)
    between_stays i h =
        let bytes = skipped (kinds_of own) (is_body i.place) (concat i.unread) in
        either Stay (is_excessive_by (kinds_of own) own.choices.unfinished_limit bytes) _ _ (either Stay (begins_section bytes) _ _ (gone id malformation.TooLong i [] h.1) (stays _ h.0 h.1)) (next_stays (left_with i bytes) bytes h)

    message_stays : (i : Incoming) (section : Option (List ℕ)) → Same i → Stay (in_message side own id r i section)
    message_stays i (Some bytes) h = tried_stays i bytes h
    message_stays i None h = either Stay (nat_lt 0 i.body_left) _ _ (payload_stays own id r i h.0 h.1) (between_stays i h)

    item_stays : (i : Incoming) (at : Place) → Same i → Stay (next_item side own id r i at)
    item_stays i BeforeHead h = message_stays i i.section h
    item_stays i InBody h = message_stays i i.section h
    item_stays i AfterTrailer h = message_stays i i.section h
    item_stays i InSession h = raw_stays own id r i (first_of i.unread) h.0 h.1

    stream_stays : (i : Incoming) → Same i → Stay (pull_stream side own id r i)
    unfolding pull_stream
    stream_stays i h = by_fault i.fault
      where
        by_fault : (f : Option StreamFault) → Stay (elim f [ Some why ↦ just (pull.Fault (Stream why)) i | None ↦ if i.is_over then just (pull.Item item.End) i else next_item side own id r i i.place ])
        by_fault (Some why) = stays _ h.0 h.1
        by_fault None = either Stay i.is_over _ _ (stays _ h.0 h.1) (item_stays i i.place h)

-- **A pull where sections leave what is counted.**
pub pull_stays : (side : Side) (own : Announced) (id : ℕ) (r : DecoderState) (i : Incoming) → Leaves side own i.place → Stays side i.content i.response (pull_stream side own id r i)
pull_stays side own id r i leaves = stream_stays side i.content i.response own id r i.place leaves i (λ m. m, refl, refl)

-- A section that is read: its content, and what is known of a response.
pub section_marked : (side : Side) (before : Content) (own : Announced) (id : ℕ) (r : DecoderState) (i : Incoming) (replies : List DecoderInstruction) (fields : List Field)
    → (marked side (content_at side own i.place i.content fields) ≡ true → marked side before ≡ true) → (marked side (large_content_at side own i.place i.content (last_value (codes ":status") fields)) ≡ true → marked side before ≡ true)
    → (read_section side own id r i replies fields).incoming.fault ≡ None → marked side (read_section side own id r i replies fields).incoming.content ≡ true → marked side before ≡ true
section_marked side before own id r i replies fields whole large =
    let j = with_content side own i fields in
    either (λ p. p.incoming.fault ≡ None → marked side p.incoming.content ≡ true → marked side before ≡ true) (nat_lt (section_of own) (told_size fields)) _ _ (λ alive. large)
    (judged_stays side before j.response own id r j replies (if_whole i.content (broken_rule side own i.place fields)) (head_by own.choices.extensions.any_protocol fields) whole refl).content

pub section_response : (side : Side) (own : Announced) (id : ℕ) (r : DecoderState) (i : Incoming) (replies : List DecoderInstruction) (fields : List Field)
    → ((read_section side own id r i replies fields).incoming.response ≡ i.response) ⊎ ((read_section side own id r i replies fields).incoming.response ≡ response_at side own i.place i.response fields)
section_response side own id r i replies fields =
    let j = with_content side own i fields in
    either (λ p. (p.incoming.response ≡ i.response) ⊎ (p.incoming.response ≡ response_at side own i.place i.response fields)) (nat_lt (section_of own) (told_size fields)) _ _ (inl refl)
    (inr (judged_stays side j.content j.response own id r j replies (if_whole i.content (broken_rule side own i.place fields)) (head_by own.choices.extensions.any_protocol fields) (λ m. m) refl).response)

-- A response that begins a tunnel: one was awaited.
not_by_status : (status size : List ℕ) → is_tunnel (content_of_status status size) ≡ false
not_by_status status size = by_test (is_without_content status) (is_length size)
  where
    by_test : (b c : Bool) → is_tunnel (if b then NoContent else (if c then Exactly (number_of size) else Unsaid)) ≡ false
    by_test true c = refl
    by_test false true = refl
    by_test false false = refl

expected_tunnel : (content : Content) (status size : List ℕ) → is_tunnel (content_expected (asked_for content) status size) ≡ true → (is_tunnel content ≡ true) × ((slice_index status 0 == 50) ≡ true)
expected_tunnel Tunnel status size h = (refl, by_test (slice_index status 0 == 50) h)
  where
    by_test : (b : Bool) → is_tunnel (if b then Tunnel else content_of_status status size) ≡ true → b ≡ true
    by_test true h = refl
    by_test false h = absurd (let never : false ≡ true = sym (not_by_status status size) ∙ h in cc)
expected_tunnel NoContent status size h = absurd (cc)
expected_tunnel Unsaid status size h = absurd (let never : false ≡ true = sym (not_by_status status size) ∙ h in cc)
expected_tunnel (Exactly left) status size h = absurd (let never : false ≡ true = sym (not_by_status status size) ∙ h in cc)
expected_tunnel Unanswered status size h = absurd (let never : false ≡ true = sym (not_by_status status size) ∙ h in cc)
expected_tunnel Exceeded status size h = absurd (let never : false ≡ true = sym (not_by_status status size) ∙ h in cc)

pub status_tunnel : (content : Content) (status size : List ℕ) → is_tunnel (content_behind_status content status size) ≡ true → (is_tunnel content ≡ true) × (tunnels status ≡ true)
status_tunnel content status size h = by_test (is_interim_status status) h
  where
    by_test : (b : Bool) → is_tunnel (if b then content else content_expected (asked_for content) status size) ≡ true → (is_tunnel content ≡ true) × ((b || (slice_index status 0 == 50)) ≡ true)
    by_test true h = (h, refl)
    by_test false h = expected_tunnel content status size h

-- A request that does.
pub request_tunnel : (fields : List Field) → may_be_tunnel (until_answered (content_of_request fields)) ≡ true → is_connect fields ≡ true
request_tunnel fields h = by_test (is_connect fields) (is_length (value_of (codes "content-length") fields)) h
  where
    by_test : (b c : Bool) → may_be_tunnel (until_answered (if b then Tunnel else (if c then Exactly (number_of (value_of (codes "content-length") fields)) else Unsaid))) ≡ true → b ≡ true
    by_test true c h = refl
    by_test false true h = absurd (cc)
    by_test false false h = absurd (cc)
