-- Of a response to HEAD no content is handed out.
use Rattle.std.proofs.Common.{arith, ◌≡◌, ℕ, ◌-◌, Bool, true, false, List, [], ◌∷◌, length, take, drop, refl, sym, ◌∙◌, ap, subst}
use Rattle.std.specs.Prelude.{Option, Some, None, codes, if◌then◌else◌, ◌==◌, nat_lt, nat_le, not, ◌&&◌}
use Rattle.std.specs.List.{concat}
use Rattle.std.proofs.lemmas.Grind.{common_steps}
use Rattle.h3_field.specs.Field.{Field}
use Rattle.h3_field.specs.Instruction.{DecoderInstruction}
use Rattle.h3_qpack.specs.DecoderState.{DecoderState}
use Rattle.h3_qpack.specs.DecodedSection.{DecodedSection, Fields, Missing, BadSection, decode_section}
use Rattle.h3_qpack.specs.Sizes.{last_value}
use Rattle.h3_header.specs.Head.{Head, head_fields, has_pseudo}
use Rattle.h3_header.specs.HeadRead.{HeadRead, IsHead, IsNone, head_by}
use Rattle.h3_messages.specs.Content.{awaited_by, is_exceeded, is_interim_status, left_behind, may_end, takes_trailer}
use Rattle.h3_messages.specs.Messages.{value_of}
use Rattle.h3_messages.specs.declared.content.Asked.TheVariants as asked_variant
use Rattle.h3_messages.specs.declared.content.Content.{Content}
use Rattle.h3_messages.specs.declared.content.Content.TheVariants.{NoContent, Exceeded}
use Rattle.h3_proto.specs.declared.stream.Side.TheVariants.{Client}
use Rattle.h3_frames.specs.ExcessiveFrames.{begins_section, is_excessive_by}
use Rattle.h3_frames.specs.Frames.{Front, Whole, Unknown, Refused, Unfinished, frame_by}
use Rattle.h3_frames.specs.Pieces.{chunk_of}
use Rattle.h3_frames.specs.declared.proto.frame.PayloadLen.{PayloadLen}
use Rattle.h3_frames.specs.declared.proto.frame.Frame.{Frame}
use Rattle.h3_frames.specs.declared.proto.frame.Frame.TheVariants as frame
use Rattle.h3_connection.specs.Announcing.{section_of}
use Rattle.h3_connection.specs.Endpoint.{EndpointHistory}
use Rattle.h3_connection.specs.Incoming.{Incoming, is_body, having_told, awaits_head}
use Rattle.h3_connection.specs.NoContent.{Awaited, Begins, Comes, Ends, Pulls, HasNoBytes, HandsOutNoContent, RemembersHead}
use Rattle.h3_connection.specs.Skipping.{skipped}
use Rattle.h3_connection.specs.StrictMessages.{broken_rule, content_at, content_behind, content_behind_large, if_whole, large_content_at}
use Rattle.h3_connection.specs.Pulling.{Pulled, just, connection_fault, malformed, unless_broken, whole_head, whole_trailer, head_or_trailer, next_place, judged, with_content, past_large, read_section, decoded, at_section, new_section, at_end, at_frame, framed, next_frame, in_message, next_item, pull_stream, in_payload, at_payload, body_of, begun_section, begun_payload, past_section, left_with, is_for, is_client, is_interim, told_size, between_frames, excess}
use Rattle.h3_connection.specs.Sections.{written_section}
use Rattle.h3_connection.specs.Sending.{appended, asked, counted, does, encoded, fields_cost, head_part, head_refusal, telling_at}
use Rattle.h3_connection.specs.StreamSets.{stream_at}
use Rattle.h3_connection.specs.declared.setup.Announced.{Announced}
use Rattle.h3_connection.specs.declared.event.Malformation.{Malformation}
use Rattle.h3_connection.specs.declared.event.Malformation.TheVariants as malformation
use Rattle.h3_connection.specs.declared.event.Refusal.{Refusal}
use Rattle.h3_connection.specs.declared.event.Pull.{Pull}
use Rattle.h3_connection.specs.declared.event.Pull.TheVariants as pull
use Rattle.h3_connection.specs.declared.event.StreamFault.{StreamFault}
use Rattle.h3_connection.specs.declared.event.Fault.TheVariants as fault
use Rattle.h3_connection.specs.declared.event.Item.TheVariants as item
use Rattle.h3_connection.specs.declared.place.Place.{Place}
use Rattle.h3_connection.specs.declared.place.Place.TheVariants.{BeforeHead, InBody, AfterTrailer, InSession}
use Rattle.h3_connection.proofs.Seen.{at_same}
use Rattle.h3_connection.specs.StrictConnection.{kinds_of}

abbrev is_message : Place → Bool
is_message InSession = false
is_message _ = true

-- a receiver of which nothing is to come
record IsEmpty (i : Incoming) : Type 0 where
  content : i.content ≡ NoContent
  none : i.body_left ≡ 0
  place : is_message i.place ≡ true

abbrev StaysEmpty : Incoming → Type 0
StaysEmpty i = i.fault ≡ None → IsEmpty i

record Fine (p : Pulled) : Type 0 where
  nothing : HasNoBytes p.answer
  after : StaysEmpty p.incoming

either : (b : Bool) (x y : Pulled) → Fine x → Fine y → Fine (if b then x else y)
either true x y h k = h
either false x y h k = k

-- this is left, with an answer that hands nothing out
leaf : (answer : Pull) (i : Incoming) (replies : List DecoderInstruction) → HasNoBytes answer → IsEmpty i → Fine (record { answer = answer; incoming = i; replies = replies })
leaf answer i replies nothing h = record { nothing = nothing; after = λ none. h }

gives_up : (id : ℕ) (m : Malformation) (i : Incoming) (replies : List DecoderInstruction) → Fine (malformed id m i replies)
gives_up id m i replies = record { nothing = tt; after = λ none. absurd (cc) }

-- a payload
no_bytes : (bytes : List ℕ) (left : ℕ) (b : Bool) → nat_le (length bytes) left ≡ b → b ≡ true → left ≡ 0 → bytes ≡ []
no_bytes [] left b is t none = refl
no_bytes (byte ∷ bytes) left b is t none = absurd (grind (arith, common_steps, is, t, none))

none_left : (left size : ℕ) → left ≡ 0 → left - size ≡ 0
none_left left size none = omega (arith, none)

handed : (i : Incoming) (bytes : List ℕ) (pieces : List (List ℕ)) → bytes ≡ [] → IsEmpty i → Fine (body_of i (Some bytes, pieces))
handed i bytes pieces is h = record { nothing = is; after = λ none. record { content = h.content; none = none_left i.body_left (length bytes) h.none; place = h.place } }

chunk_fine : (i : Incoming) (pieces : List (List ℕ)) → IsEmpty i → Fine (body_of i (chunk_of i.body_left pieces))
chunk_fine i [] h = leaf pull.Pending i [] tt h
chunk_fine i (p ∷ pieces) h = by_test (nat_le (length p) i.body_left) refl
  where
    by_test : (b : Bool) → nat_le (length p) i.body_left ≡ b → Fine (body_of i (if b then (Some p, pieces) else (Some (take i.body_left p), drop i.body_left p ∷ pieces)))
    by_test true is = handed i p pieces (no_bytes p i.body_left true is refl h.none) h
    by_test false is = handed i (take i.body_left p) (drop i.body_left p ∷ pieces) (ap (λ n. take n p) h.none) h

content_fine : (id : ℕ) (i : Incoming) → IsEmpty i → Fine (at_payload id i)
content_fine id i h =
    either (is_exceeded i.content) (malformed id malformation.ContentLength i []) (in_payload i) (gives_up id malformation.ContentLength i [])
    (either (i.ended && nat_lt (length (concat i.unread)) i.body_left) (connection_fault 0x106 i) (body_of i (chunk_of i.body_left i.unread)) (leaf _ i [] tt h) (chunk_fine i i.unread h))

is_none : (size : ℕ) → (size == 0) ≡ true → size ≡ 0
is_none size e = grind (arith, common_steps, e)

data_fine : (id : ℕ) (i : Incoming) (size : ℕ) → IsEmpty i → Fine (at_payload id (begun_payload i size))
data_fine id i size h =
    subst (λ c. let j : Incoming = record i { body_left = size; content = left_behind c size } in Fine (at_payload id j)) (sym h.content) (by_test (size == 0) refl)
  where
    by_test : (b : Bool) → (size == 0) ≡ b → let j : Incoming = record i { body_left = size; content = if b then NoContent else Exceeded } in Fine (at_payload id j)
    by_test true is = content_fine id (record i { body_left = size; content = NoContent }) (record { content = refl; none = is_none size is; place = h.place })
    by_test false is = gives_up id malformation.ContentLength (record i { body_left = size; content = Exceeded }) []

-- what a head says of it
still : (interim : Bool) → (if interim then NoContent else NoContent) ≡ NoContent
still true = refl
still false = refl

module _ (own : Announced) (id : ℕ) (r : DecoderState) where
  stays : (place : Place) (expected : Content) (fields : List Field) → expected ≡ NoContent → content_at Client own place expected fields ≡ NoContent
  stays place expected fields none = ap (λ c. content_at Client own place c fields) none ∙ by_choice own.choices.strict_messages
    where
      by_place : (place : Place) → content_behind Client place NoContent fields ≡ NoContent
      by_place BeforeHead = still (is_interim_status (value_of (codes ":status") fields))
      by_place InBody = refl
      by_place AfterTrailer = refl
      by_place InSession = refl

      by_choice : (b : Bool) → (if b then content_behind Client place NoContent fields else NoContent) ≡ NoContent
      by_choice true = by_place place
      by_choice false = refl

  large_stays : (place : Place) (expected : Content) (status : Option (List ℕ)) → expected ≡ NoContent → large_content_at Client own place expected status ≡ NoContent
  large_stays place expected status none = ap (λ c. large_content_at Client own place c status) none ∙ by_choice own.choices.strict_messages
    where
      by_status : (status : Option (List ℕ)) → content_behind_large Client BeforeHead NoContent status ≡ NoContent
      by_status None = refl
      by_status (Some text) = still (is_interim_status text)

      by_place : (place : Place) → content_behind_large Client place NoContent status ≡ NoContent
      by_place BeforeHead = by_status status
      by_place InBody = refl
      by_place AfterTrailer = refl
      by_place InSession = refl

      by_choice : (b : Bool) → (if b then content_behind_large Client place NoContent status else NoContent) ≡ NoContent
      by_choice true = by_place place
      by_choice false = refl

  next_message : (place : Place) (fields : List Field) → is_message place ≡ true → is_message (next_place Client place fields) ≡ true
  next_message BeforeHead fields at = by_interim _
    where
      by_interim : (b : Bool) → is_message (if b then BeforeHead else InBody) ≡ true
      by_interim true = refl
      by_interim false = refl
  next_message InBody fields at = refl
  next_message AfterTrailer fields at = refl
  next_message InSession fields at = at

  unbroken_fine : (i : Incoming) (replies : List DecoderInstruction) (broken : Option Malformation) (p : Pulled) → Fine p → Fine (unless_broken id i replies broken p)
  unbroken_fine i replies None p h = h
  unbroken_fine i replies (Some why) p h = gives_up id why i replies

  head_fine : (i : Incoming) (replies : List DecoderInstruction) (broken : Option Malformation) (h : Head) → IsEmpty i → Fine (whole_head Client id i replies broken h)
  head_fine i replies broken h e =
      either (not (is_for Client h)) _ _ (gives_up id malformation.WrongSide i replies)
      (unbroken_fine i replies broken _ (either (is_client Client && is_interim h.status) (record { answer = pull.Item (item.Interim h); incoming = i; replies = replies })
      (record { answer = pull.Item (item.Head h); incoming = record i { place = InBody }; replies = replies })
      (leaf (pull.Item (item.Interim h)) i replies tt e) (leaf (pull.Item (item.Head h)) (record i { place = InBody }) replies tt (record { content = e.content; none = e.none; place = refl }))))

  trailer_fine : (i : Incoming) (replies : List DecoderInstruction) (broken : Option Malformation) (h : Head) → IsEmpty i → Fine (whole_trailer id i replies broken h)
  trailer_fine i replies broken h e =
      either (has_pseudo h) _ _ (gives_up id malformation.PseudoInTrailer i replies)
      (unbroken_fine i replies broken _ (leaf (pull.Item (item.Trailer h)) (record i { place = AfterTrailer }) replies tt (record { content = e.content; none = e.none; place = refl })))

  section_fine : (i : Incoming) (replies : List DecoderInstruction) (broken : Option Malformation) (place : Place) (h : Head) → IsEmpty i → Fine (head_or_trailer Client id i replies broken place h)
  section_fine i replies broken BeforeHead h e = head_fine i replies broken h e
  section_fine i replies broken InBody h e = trailer_fine i replies broken h e
  section_fine i replies broken AfterTrailer h e = trailer_fine i replies broken h e
  section_fine i replies broken InSession h e = trailer_fine i replies broken h e

  judged_fine : (i : Incoming) (replies : List DecoderInstruction) (broken : Option Malformation) (read : HeadRead) → IsEmpty i → Fine (judged Client id i replies broken read)
  judged_fine i replies broken (IsNone why) e = gives_up id _ i replies
  judged_fine i replies broken (IsHead h) e = section_fine i replies broken i.place h e

  read_fine : (i : Incoming) (replies : List DecoderInstruction) (fields : List Field) → IsEmpty i → Fine (read_section Client own id r i replies fields)
  read_fine i replies fields e =
      either (nat_lt (section_of own) (told_size fields)) _ _
      (leaf (pull.Item (item.TooLarge (told_size fields))) (past_large Client own i fields) replies tt
      (record { content = large_stays i.place i.content (last_value (codes ":status") fields) e.content; none = e.none; place = next_message i.place fields e.place }))
      (judged_fine (with_content Client own i fields) replies (if_whole i.content (broken_rule Client own i.place fields)) (head_by own.choices.extensions.any_protocol fields)
      (record { content = stays i.place i.content fields e.content; none = e.none; place = e.place }))

  past_empty : (i : Incoming) → IsEmpty i → IsEmpty (past_section i)
  past_empty i e = record { content = e.content; none = e.none; place = e.place }

  decoded_fine : (i : Incoming) (d : DecodedSection) → IsEmpty i → Fine (decoded Client own id r i d)
  decoded_fine i (Fields fields count) e = read_fine (past_section i) _ fields (past_empty i e)
  decoded_fine i (Missing count) e =
      either (i.waits_for == 0) _ _ (record { nothing = tt; after = λ none. record { content = e.content; none = e.none; place = e.place } }) (leaf _ (past_section i) [] tt (past_empty i e))
  decoded_fine i BadSection e = leaf _ (past_section i) [] tt (past_empty i e)

  at_fine : (i : Incoming) (bytes : List ℕ) → IsEmpty i → Fine (at_section Client own id r i bytes)
  at_fine i bytes e = either (nat_lt r.table.inserted i.waits_for) _ _ (leaf (pull.Waiting i.waits_for) i [] tt e) (decoded_fine i (decode_section r bytes) e)

  new_fine : (i : Incoming) (bytes : List ℕ) → IsEmpty i → Fine (new_section Client own id r i bytes)
  new_fine i bytes e = at_fine (begun_section i bytes) bytes (record { content = e.content; none = e.none; place = e.place })

  end_fine : (i : Incoming) → IsEmpty i → Fine (if may_end i.content then just (pull.Item item.End) (record i { unread = []; is_over = true }) else malformed id malformation.ContentLength i [])
  end_fine i e =
      either (may_end i.content) (just (pull.Item item.End) (record i { unread = []; is_over = true })) (malformed id malformation.ContentLength i [])
      (leaf (pull.Item item.End) (record i { unread = []; is_over = true }) [] tt (record { content = e.content; none = e.none; place = e.place })) (gives_up id malformation.ContentLength i [])

  at_end_fine : (i : Incoming) (place : Place) → IsEmpty i → Fine (at_end Client own id r i place)
  at_end_fine i BeforeHead e = gives_up id malformation.NoHead i []
  at_end_fine i InBody e = end_fine i e
  at_end_fine i AfterTrailer e = end_fine i e
  at_end_fine i InSession e = end_fine i e

  frame_fine : (i : Incoming) (place : Place) (f : Frame PayloadLen) → IsEmpty i → Fine (at_frame Client own id r Client i place f)
  frame_fine i BeforeHead (frame.Headers bytes) e = new_fine i bytes e
  frame_fine i InBody (frame.Headers bytes) e = either (takes_trailer i.content) _ _ (new_fine i bytes e) (leaf _ i [] tt e)
  frame_fine i InBody (frame.Data len) e = data_fine id i len.0 e
  frame_fine i place (frame.PushPromise promise) e = leaf _ i [] tt e
  frame_fine i place _ e = leaf _ i [] tt e

  framed_fine : (i : Incoming) (front : Front) → IsEmpty i → Fine (framed Client own id r i front)
  framed_fine i (Unfinished least) e = either i.ended _ _ (leaf _ i [] tt e) (leaf _ i [] tt e)
  framed_fine i (Whole f rest) e = frame_fine (left_with i rest) i.place f (record { content = e.content; none = e.none; place = e.place })
  framed_fine i (Unknown kind rest) e = leaf _ i [] tt e
  framed_fine i (Refused why) e = leaf _ i [] tt e

  next_fine : (i : Incoming) (bytes : List ℕ) → IsEmpty i → Fine (next_frame Client own id r i bytes)
  next_fine i [] e = either i.ended _ _ (at_end_fine i i.place e) (leaf _ i [] tt e)
  next_fine i (byte ∷ bytes) e = framed_fine i (frame_by (kinds_of own) (byte ∷ bytes)) e

  excess_fine : (i : Incoming) (bytes : List ℕ) → IsEmpty i → Fine (excess id i bytes)
  excess_fine i bytes e =
      either (begins_section bytes) (malformed id malformation.TooLong i []) (connection_fault 0x107 (record i { unread = [] })) (gives_up id malformation.TooLong i [])
      (leaf _ (record i { unread = [] }) [] tt (record { content = e.content; none = e.none; place = e.place }))

  message_fine : (i : Incoming) (section : Option (List ℕ)) → IsEmpty i → Fine (in_message Client own id r i section)
  message_fine i (Some bytes) e = at_fine i bytes e
  message_fine i None e =
      let bytes = skipped (kinds_of own) (is_body i.place) (concat i.unread) in
      either (nat_lt 0 i.body_left) (at_payload id i) (between_frames Client own id r i) (content_fine id i e)
      (either (is_excessive_by (kinds_of own) own.choices.unfinished_limit bytes) (excess id i bytes) (next_frame Client own id r (left_with i bytes) bytes) (excess_fine i bytes e)
      (next_fine (left_with i bytes) bytes (record { content = e.content; none = e.none; place = e.place })))

  item_fine : (i : Incoming) (place : Place) → is_message place ≡ true → IsEmpty i → Fine (next_item Client own id r i place)
  item_fine i InSession at e = absurd (cc)
  item_fine i BeforeHead at e = message_fine i i.section e
  item_fine i InBody at e = message_fine i i.section e
  item_fine i AfterTrailer at e = message_fine i i.section e

  pull_fine : (i : Incoming) → StaysEmpty i → Fine (pull_stream Client own id r i)
  unfolding pull_stream
  pull_fine i h = by_fault i.fault refl
    where
      by_fault : (f : Option StreamFault) → i.fault ≡ f → Fine (elim f [
        | Some why ↦ just (pull.Fault (fault.Stream why)) i
        | None ↦ if i.is_over then just (pull.Item item.End) i else next_item Client own id r i i.place
      ])
      by_fault (Some why) is = record { nothing = tt; after = h }
      by_fault None is =
          either i.is_over (just (pull.Item item.End) i) (next_item Client own id r i i.place) (record { nothing = tt; after = h }) (item_fine i i.place (h is).place (h is))

stays_empty : (own : Announced) (id : ℕ) (i : Incoming) → Awaited own id i → StaysEmpty i
stays_empty own id i (Begins a) = λ none. record { content = a.content; none = a.none; place = ap is_message a.place }
stays_empty own id i (Comes piece h) = λ none. let e = stays_empty own id _ h none in record { content = e.content; none = e.none; place = e.place }
stays_empty own id i (Ends h) = λ none. let e = stays_empty own id _ h none in record { content = e.content; none = e.none; place = e.place }
stays_empty own id i (Pulls {i = j} r h) = (pull_fine own id r j (stays_empty own id j h)).after

-- **No byte is handed out of it.**
pub hands_out_none : HandsOutNoContent
hands_out_none own id r i h = (pull_fine own id r i (stays_empty own id i h)).nothing

-- what its request asks
head_awaits : (head : Head) → head.method ≡ Some (codes "HEAD") → awaited_by (head_fields head) ≡ NoContent
head_awaits head is = ap (λ m. let h : Head = record head { method = m } in awaited_by (head_fields h)) is

pub remembers_head : RemembersHead
remembers_head e id head i client strict method accepted there awaits = by_refusal (head_refusal e id head) accepted
  where
    plain : EndpointHistory
    plain = counted (appended (encoded e id (head_fields head)) id (head_part head (written_section e.encoder id (head_fields head)))) (fields_cost (head_fields head))

    here : stream_at (asked plain id (head_fields head)).incoming id ≡ Some (record i { content = NoContent })
    here =
        ap (λ b. stream_at (if b then telling_at e.side e.incoming id (head_fields head) (stream_at e.incoming id) else e.incoming) id) strict
        ∙ ap (λ d. stream_at (telling_at d e.incoming id (head_fields head) (stream_at e.incoming id)) id) client
        ∙ ap (λ at. stream_at (telling_at Client e.incoming id (head_fields head) at) id) there
        ∙ at_same e.incoming id (having_told Client i (head_fields head))
        ∙ ap (λ c. let j : Incoming = record i { content = if awaits_head i then c else i.content } in Some j) (head_awaits head method)
        ∙ ap (λ b. let j : Incoming = record i { content = if b then NoContent else i.content } in Some j) awaits

    by_refusal : (r : Option Refusal) → (does r e (asked plain id (head_fields head))).0 ≡ None → stream_at (does r e (asked plain id (head_fields head))).1.incoming id ≡ Some (record i { content = NoContent })
    by_refusal None none = here
    by_refusal (Some r) none = absurd (cc)
