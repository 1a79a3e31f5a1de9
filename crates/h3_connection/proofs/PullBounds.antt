-- A pull tries no section more than twice.
use Rattle.std.proofs.Common.{arith, ◌≡◌, ℕ, Bool, true, false, List, [], ◌∷◌, length, refl, inl, inr}
use Rattle.std.specs.Prelude.{Option, Some, None, if◌then◌else◌, ◌==◌, nat_lt, not, ◌&&◌}
use Rattle.std.proofs.lemmas.Grind.{common_steps}
use Rattle.std.proofs.lemmas.Bool.{cases_eq}
use Rattle.std.specs.List.{concat}
use Rattle.h3_field.specs.Field.{Field}
use Rattle.h3_field.specs.Instruction.{DecoderInstruction}
use Rattle.h3_qpack.specs.DecoderState.{DecoderState}
use Rattle.h3_header.specs.Head.{Head, has_pseudo}
use Rattle.h3_header.specs.HeadRead.{HeadRead, IsHead, IsNone, head_by}
use Rattle.h3_proto.specs.declared.stream.Side.{Side}
use Rattle.h3_proto.specs.declared.stream.Side.TheVariants.{Client, Server}
use Rattle.h3_frames.specs.ExcessiveFrames.{begins_section, is_excessive_by}
use Rattle.h3_frames.specs.Frames.{Front, Whole, Unknown, Refused, Unfinished, frame_by}
use Rattle.h3_frames.specs.Pieces.{chunk_of, first_of, ending}
use Rattle.h3_frames.specs.declared.proto.frame.PayloadLen.{PayloadLen}
use Rattle.h3_frames.specs.declared.proto.frame.Frame.{Frame}
use Rattle.h3_frames.specs.declared.proto.frame.Frame.TheVariants as frame
use Rattle.h3_connection.specs.Bounds.{TriesTwice, WaitsOnce}
use Rattle.h3_connection.specs.Announcing.{section_of}
use Rattle.h3_qpack.specs.DecodedSection.{DecodedSection, Fields, Missing, BadSection, decode_section}
use Rattle.h3_connection.specs.Incoming.{Incoming, is_body}
use Rattle.h3_connection.specs.Skipping.{skipped}
use Rattle.h3_connection.specs.StrictMessages.{broken_rule, if_whole}
use Rattle.h3_messages.specs.Content.{is_exceeded, may_end, takes_trailer}
use Rattle.h3_connection.specs.Pulling.{Pulled, just, connection_fault, malformed, unless_broken, whole_head, whole_trailer, head_or_trailer, judged, read_section, decoded, at_section, new_section, at_trailer, at_end, at_frame, framed, next_frame, in_message, next_item, pull_stream, in_payload, at_payload, body_of, raw_of, tried, past_section, begun_section, begun_payload, with_content, left_with, is_for, is_client, is_interim, told_size, excess}
use Rattle.h3_connection.specs.declared.setup.Announced.{Announced}
use Rattle.h3_connection.specs.declared.event.Malformation.{Malformation}
use Rattle.h3_connection.specs.declared.event.Malformation.TheVariants as malformation
use Rattle.h3_connection.specs.declared.event.Pull.{Pull}
use Rattle.h3_connection.specs.declared.event.Pull.TheVariants as pull
use Rattle.h3_connection.specs.declared.event.StreamFault.{StreamFault}
use Rattle.h3_connection.specs.declared.event.Fault.TheVariants as fault
use Rattle.h3_connection.specs.declared.event.Item.TheVariants as item
use Rattle.h3_connection.specs.declared.place.Place.{Place}
use Rattle.h3_connection.specs.declared.place.Place.TheVariants.{BeforeHead, InBody, AfterTrailer, InSession}
use Rattle.h3_connection.specs.StrictConnection.{kinds_of, is_no_session}

-- the answer closes the connection
abbrev pub is_connection : Pull → Bool
is_connection (pull.Fault (fault.Connection code)) = true
is_connection _ = false

-- before
pub record Ready (i : Incoming) : Type 0 where
  pub tries : TriesTwice i
  pub once : WaitsOnce i

-- after
pub record Good (p : Pulled) : Type 0 where
  pub tries : TriesTwice p.incoming
  pub once : is_connection p.answer ≡ false → WaitsOnce p.incoming

good : (p : Pulled) → Ready p.incoming → Good p
good p h = record { tries = h.tries; once = λ open_still. h.once }

either : (b : Bool) (x y : Pulled) → Good x → Good y → Good (if b then x else y)
either true x y h k = h
either false x y h k = k

faulty : (code : ℕ) (i : Incoming) → TriesTwice i → Good (connection_fault code i)
faulty code i h = record { tries = h; once = λ open_still. cc }

gives_up : (id : ℕ) (m : Malformation) (i : Incoming) (replies : List DecoderInstruction) → Ready i → Good (malformed id m i replies)
gives_up id m i replies h = record { tries = h.tries; once = λ open_still waits. absurd (omega (arith, waits)) }

-- the same counts, with other bytes
abbrev Same : Incoming → Incoming → Type 0
Same i j = (j.tries ≡ i.tries) × (j.waits_for ≡ i.waits_for)

ready_as : (i j : Incoming) → Same i j → Ready i → Ready j
ready_as i j s h = record { tries = rw s.0 h.tries; once = rw (s.0, s.1) h.once }

body_good : (i : Incoming) (found : Option (List ℕ) × List (List ℕ)) → Ready i → Good (body_of i found)
body_good i (None, pieces) h = good _ h
body_good i (Some bytes, pieces) h = good _ (ready_as i _ (refl, refl) h)

payload_good : (i : Incoming) → Ready i → Good (in_payload i)
payload_good i h = either (i.ended && nat_lt (length (concat i.unread)) i.body_left) _ _ (faulty _ i h.tries) (body_good i (chunk_of i.body_left i.unread) h)

content_good : (id : ℕ) (i : Incoming) → Ready i → Good (at_payload id i)
content_good id i h = either (is_exceeded i.content) _ _ (gives_up id malformation.ContentLength i [] h) (payload_good i h)

raw_none : (b : Bool) (i : Incoming) (pieces : List (List ℕ)) → Ready i → Good (if b then just (pull.Item item.End) (record i { is_over = true }) else just pull.Pending i)
raw_none b i pieces h = either b _ _ (good _ (ready_as i _ (refl, refl) h)) (good _ h)

raw_good : (i : Incoming) (found : Option (List ℕ) × List (List ℕ)) → Ready i → Good (raw_of i found)
raw_good i (None, pieces) h = raw_none i.ended i pieces h
raw_good i (Some bytes, pieces) h = good _ (ready_as i _ (refl, refl) h)

unbroken_good : (id : ℕ) (i : Incoming) (replies : List DecoderInstruction) (broken : Option Malformation) (p : Pulled) → Ready i → Good p → Good (unless_broken id i replies broken p)
unbroken_good id i replies None p r g = g
unbroken_good id i replies (Some why) p r g = gives_up id why i replies r

head_good : (side : Side) (id : ℕ) (i : Incoming) (replies : List DecoderInstruction) (broken : Option Malformation) (h : Head) → Ready i → Good (whole_head side id i replies broken h)
head_good side id i replies broken h r =
    either (not (is_for side h)) _ _ (gives_up id _ i replies r)
    (unbroken_good id i replies broken _ r (either (is_client side && is_interim h.status) _ _ (good _ r) (good _ (ready_as i _ (refl, refl) r))))

trailer_good : (id : ℕ) (i : Incoming) (replies : List DecoderInstruction) (broken : Option Malformation) (h : Head) → Ready i → Good (whole_trailer id i replies broken h)
trailer_good id i replies broken h r = either (has_pseudo h) _ _ (gives_up id _ i replies r) (unbroken_good id i replies broken _ r (good _ (ready_as i _ (refl, refl) r)))

section_good : (side : Side) (id : ℕ) (i : Incoming) (replies : List DecoderInstruction) (broken : Option Malformation) (place : Place) (h : Head) → Ready i
    → Good (head_or_trailer side id i replies broken place h)
section_good side id i replies broken BeforeHead h r = head_good side id i replies broken h r
section_good side id i replies broken InBody h r = trailer_good id i replies broken h r
section_good side id i replies broken AfterTrailer h r = trailer_good id i replies broken h r
section_good side id i replies broken InSession h r = trailer_good id i replies broken h r

judged_good : (side : Side) (id : ℕ) (i : Incoming) (replies : List DecoderInstruction) (broken : Option Malformation) (read : HeadRead) → Ready i → Good (judged side id i replies broken read)
judged_good side id i replies broken (IsNone why) r = gives_up id _ i replies r
judged_good side id i replies broken (IsHead h) r = section_good side id i replies broken i.place h r

tried_twice : (i : Incoming) → WaitsOnce i → TriesTwice (tried i)
tried_twice i once = elim (cases_eq i.waits_for 0) [
  | inl is ↦ rw is (omega arith)
  | inr ne ↦
      let more : (i.waits_for == 0) ≡ false = grind (arith, common_steps) in
      let few = once (omega (arith, ne)) in
      rw more (omega (arith, few))
]

tried_first : (i : Incoming) → (i.waits_for == 0) ≡ true → (tried i).tries ≡ 1
tried_first i is = rw is refl

module _ (side : Side) (own : Announced) (id : ℕ) (r : DecoderState) where
  read_good : (i : Incoming) (replies : List DecoderInstruction) (fields : List Field) → Ready i → Good (read_section side own id r i replies fields)
  read_good i replies fields h = either (nat_lt (section_of own) (told_size fields)) _ _ (good _ (ready_as i _ (refl, refl) h)) (judged_good side id (with_content side own i fields) replies (if_whole i.content (broken_rule side own i.place fields)) (head_by own.choices.extensions.any_protocol fields) (ready_as i (with_content side own i fields) (refl, refl) h))

  missing_good : (i : Incoming) (count : ℕ) (first : Bool) → (i.waits_for == 0) ≡ first → Ready i
      → Good (if first then just (pull.Waiting count) (record (tried i) { waits_for = count }) else connection_fault 0x200 (past_section i))
  missing_good i count true is h = good _ (record { tries = tried_twice i h.once; once = λ waits. omega (arith, tried_first i is) })
  missing_good i count false is h = faulty _ (past_section i) (tried_twice i h.once)

  decoded_good : (i : Incoming) (d : DecodedSection) → Ready i → Good (decoded side own id r i d)
  decoded_good i (Fields fields count) h = read_good _ _ fields (record { tries = tried_twice i h.once; once = λ waits. absurd (omega (arith, waits)) })
  decoded_good i (Missing count) h = missing_good i count (i.waits_for == 0) refl h
  decoded_good i BadSection h = faulty _ (past_section i) (tried_twice i h.once)

  at_good : (i : Incoming) (bytes : List ℕ) → Ready i → Good (at_section side own id r i bytes)
  at_good i bytes h = either (nat_lt r.table.inserted i.waits_for) _ _ (good _ h) (decoded_good i (decode_section r bytes) h)

  new_good : (i : Incoming) (bytes : List ℕ) → Ready i → Good (new_section side own id r i bytes)
  new_good i bytes h = at_good (begun_section i bytes) bytes (record { tries = h.tries; once = λ waits. absurd (omega (arith, waits)) })

  trailer_good_at : (i : Incoming) (bytes : List ℕ) → Ready i → Good (at_trailer side own id r i bytes)
  trailer_good_at i bytes h = either (takes_trailer i.content) _ _ (new_good i bytes h) (faulty _ i h.tries)

  whole_good : (i : Incoming) → Ready i → Good (if may_end i.content then just (pull.Item item.End) (record i { unread = []; is_over = true }) else malformed id malformation.ContentLength i [])
  whole_good i h = either (may_end i.content) _ _ (good _ (ready_as i _ (refl, refl) h)) (gives_up id _ i [] h)

  end_good : (i : Incoming) (place : Place) → Ready i → Good (at_end side own id r i place)
  end_good i BeforeHead h = gives_up id _ i [] h
  end_good i InBody h = whole_good i h
  end_good i AfterTrailer h = whole_good i h
  end_good i InSession h = whole_good i h

  frame_good : (side' : Side) (i : Incoming) (place : Place) (f : Frame PayloadLen) → Ready i → Good (at_frame side own id r side' i place f)
  frame_good Client i BeforeHead (frame.Headers bytes) h = new_good i bytes h
  frame_good Server i BeforeHead (frame.Headers bytes) h = new_good i bytes h
  frame_good Client i InBody (frame.Headers bytes) h = trailer_good_at i bytes h
  frame_good Server i InBody (frame.Headers bytes) h = trailer_good_at i bytes h
  frame_good Client i InBody (frame.Data len) h = content_good id (begun_payload i len.0) (ready_as i (begun_payload i len.0) (refl, refl) h)
  frame_good Server i InBody (frame.Data len) h = content_good id (begun_payload i len.0) (ready_as i (begun_payload i len.0) (refl, refl) h)
  frame_good Server i BeforeHead (frame.WebTransportStream session) h = either (is_no_session own session) _ _ (faulty _ i h.tries) (good _ (ready_as i _ (refl, refl) h))
  frame_good Client i place (frame.PushPromise promise) h = faulty _ i h.tries
  frame_good _ i place _ h = faulty _ i h.tries

  framed_good : (i : Incoming) (front : Front) → Ready i → Good (framed side own id r i front)
  framed_good i (Unfinished least) h = either i.ended _ _ (faulty _ i h.tries) (good _ h)
  framed_good i (Whole f rest) h = frame_good side (left_with i rest) i.place f (ready_as i (left_with i rest) (refl, refl) h)
  framed_good i (Unknown kind rest) h = good _ h
  framed_good i (Refused e) h = faulty _ i h.tries

  next_good : (i : Incoming) (bytes : List ℕ) → Ready i → Good (next_frame side own id r i bytes)
  next_good i [] h = either i.ended _ _ (end_good i i.place h) (good _ h)
  next_good i (byte ∷ bytes) h = framed_good i (frame_by (kinds_of own) (byte ∷ bytes)) h

  excess_good : (i : Incoming) (bytes : List ℕ) → Ready i → Good (excess id i bytes)
  excess_good i bytes h =
      either (begins_section bytes) (malformed id malformation.TooLong i []) (connection_fault 0x107 (record i { unread = [] }))
      (gives_up id malformation.TooLong i [] h) (faulty 0x107 (record i { unread = [] }) h.tries)

  message_good : (i : Incoming) (section : Option (List ℕ)) → Ready i → Good (in_message side own id r i section)
  message_good i (Some bytes) h = at_good i bytes h
  message_good i None h =
      let bytes = skipped (kinds_of own) (is_body i.place) (concat i.unread) in
      let j = record i { unread = ending (length bytes) i.unread } in
      either (nat_lt 0 i.body_left) _ _ (content_good id i h)
      (either (is_excessive_by (kinds_of own) own.choices.unfinished_limit bytes) (excess id i bytes) (next_frame side own id r j bytes) (excess_good i bytes h) (next_good j bytes (ready_as i j (refl, refl) h)))

  item_good : (i : Incoming) (place : Place) → Ready i → Good (next_item side own id r i place)
  item_good i InSession h = raw_good i (first_of i.unread) h
  item_good i BeforeHead h = message_good i i.section h
  item_good i InBody h = message_good i i.section h
  item_good i AfterTrailer h = message_good i i.section h

  pub pull_good : (i : Incoming) → Ready i → Good (pull_stream side own id r i)
  unfolding pull_stream
  pull_good i h = by_fault i.fault refl
    where
      over : (b : Bool) → Good (if b then just (pull.Item item.End) i else next_item side own id r i i.place)
      over true = good _ h
      over false = item_good i i.place h

      by_fault : (f : Option StreamFault) → i.fault ≡ f → Good (elim f [ Some why ↦ just (pull.Fault (fault.Stream why)) i | None ↦ if i.is_over then just (pull.Item item.End) i else next_item side own id r i i.place ])
      by_fault (Some f) is = good _ h
      by_fault None is = over i.is_over
