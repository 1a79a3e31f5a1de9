-- Content is handed out as long as its head says.
use Rattle.std.proofs.Common.{arith, ◌≡◌, ℕ, ◌+◌, ◌-◌, ◌≤◌, Bool, true, false, List, [], ◌∷◌, length, take, drop, refl, sym, ◌∙◌, ap, subst}
use Rattle.std.specs.Prelude.{Option, Some, None, is_some, codes, if◌then◌else◌, ◌==◌, nat_lt, nat_le, ◌&&◌}
use Rattle.std.specs.List.{concat}
use Rattle.std.proofs.lemmas.Grind.{common_steps}
use Rattle.std.proofs.lemmas.List.{length-take}
use Rattle.h3_field.specs.Field.{Field}
use Rattle.h3_field.specs.Instruction.{DecoderInstruction}
use Rattle.h3_qpack.specs.DecoderState.{DecoderState}
use Rattle.h3_qpack.specs.DecodedSection.{DecodedSection, Fields, Missing, BadSection, decode_section}
use Rattle.h3_qpack.specs.Sizes.{last_value}
use Rattle.h3_header.specs.Head.{Head, has_pseudo}
use Rattle.h3_header.specs.HeadRead.{HeadRead, IsHead, IsNone, head_by}
use Rattle.h3_messages.specs.Content.{left_behind, is_exceeded, may_end, takes_trailer}
use Rattle.h3_messages.specs.declared.content.Content.{Content}
use Rattle.h3_messages.specs.declared.content.Content.TheVariants.{Unsaid, Exactly, NoContent, Tunnel, Exceeded, Unanswered}
use Rattle.h3_proto.specs.declared.stream.Side.{Side}
use Rattle.h3_proto.specs.declared.stream.Side.TheVariants.{Client, Server}
use Rattle.h3_frames.specs.ExcessiveFrames.{begins_section, is_excessive_by}
use Rattle.h3_frames.specs.Frames.{Front, Whole, Unknown, Refused, Unfinished, frame_by}
use Rattle.h3_frames.specs.Pieces.{chunk_of}
use Rattle.h3_frames.specs.declared.proto.frame.PayloadLen.{PayloadLen}
use Rattle.h3_frames.specs.declared.proto.frame.Frame.{Frame}
use Rattle.h3_frames.specs.declared.proto.frame.Frame.TheVariants as frame
use Rattle.h3_connection.specs.Announcing.{section_of}
use Rattle.h3_connection.specs.CountedContent.{counted_with, HandsOut, Begins, Comes, Ends, Pulls, IsWholeAt, CountsContent}
use Rattle.h3_connection.specs.Incoming.{Incoming, is_body}
use Rattle.h3_connection.specs.Skipping.{skipped}
use Rattle.h3_connection.specs.StrictMessages.{broken_rule, content_behind, content_behind_large, content_at, if_whole, large_content_at}
use Rattle.h3_connection.specs.Pulling.{Pulled, just, connection_fault, malformed, unless_broken, whole_trailer, head_or_trailer, next_place, judged, with_content, past_large, read_section, decoded, at_section, new_section, at_end, at_frame, framed, next_frame, in_message, next_item, pull_stream, in_payload, at_payload, body_of, past_section, begun_section, begun_payload, left_with, told_size, between_frames, excess}
use Rattle.h3_connection.specs.declared.setup.Announced.{Announced}
use Rattle.h3_connection.specs.declared.event.Malformation.{Malformation}
use Rattle.h3_connection.specs.declared.event.Malformation.TheVariants as malformation
use Rattle.h3_connection.specs.declared.event.Pull.TheVariants as pull
use Rattle.h3_connection.specs.declared.event.StreamFault.{StreamFault}
use Rattle.h3_connection.specs.declared.event.Fault.TheVariants as fault
use Rattle.h3_connection.specs.declared.event.Item.TheVariants as item
use Rattle.h3_connection.specs.declared.place.Place.{Place}
use Rattle.h3_connection.specs.declared.place.Place.TheVariants.{BeforeHead, InBody, AfterTrailer, InSession}
use Rattle.h3_connection.specs.StrictConnection.{kinds_of}

abbrev is_behind_head : Place → Bool
is_behind_head InBody = true
is_behind_head AfterTrailer = true
is_behind_head _ = false

-- what is left to come, of a receiver that was not given up, and what was handed out are all
abbrev AreAll : ℕ → ℕ → Option StreamFault → Content → ℕ → Type 0
AreAll all n (Some why) _ left = n ≤ all
AreAll all n None (Exactly more) left = more + left + n ≡ all
AreAll all n None Unsaid left = ⊥
AreAll all n None NoContent left = ⊥
AreAll all n None Tunnel left = ⊥
AreAll all n None Unanswered left = ⊥
AreAll all n None Exceeded left = ⊥

abbrev Counts : ℕ → ℕ → Incoming → Type 0
Counts all n i =
    (is_behind_head i.place ≡ true) × (i.is_over ≡ true → n ≡ all) × (is_some i.section ≡ true → i.body_left ≡ 0) × AreAll all n i.fault i.content i.body_left

-- a receiver that goes on
record Going (all n : ℕ) (i : Incoming) : Type 0 where
  no_fault : i.fault ≡ None
  not_over : i.is_over ≡ false
  place : is_behind_head i.place ≡ true
  more : ℕ
  content : i.content ≡ Exactly more
  sum : more + i.body_left + n ≡ all

never : {A : Type 0} → false ≡ true → A
never h = absurd (cc)

differ : (b : Bool) → b ≡ false → b ≡ true → ⊥
differ false f t = cc
differ true f t = cc

module _ (all n : ℕ) where
  record Fine (p : Pulled) : Type 0 where
    whole : IsWholeAt all n p.answer
    after : Counts all (counted_with n p.answer) p.incoming

  more_of : (why : Option StreamFault) (content : Content) (left : ℕ) → why ≡ None → AreAll all n why content left → (more : ℕ) × (content ≡ Exactly more) × (more + left + n ≡ all)
  more_of (Some why) what left none h = absurd (cc)
  more_of None (Exactly more) left none h = (more, refl, h)
  more_of None Unsaid left none h = absurd h
  more_of None NoContent left none h = absurd h
  more_of None Tunnel left none h = absurd h
  more_of None Unanswered left none h = absurd h
  more_of None Exceeded left none h = absurd h

  going : (i : Incoming) → i.fault ≡ None → i.is_over ≡ false → Counts all n i → Going all n i
  going i none open_still c =
      let k = more_of i.fault i.content i.body_left none c.3 in
      record { no_fault = none; not_over = open_still; place = c.0; more = k.0; content = k.1; sum = k.2 }

  are_all : (m : ℕ) (why : Option StreamFault) (content : Content) (left more : ℕ) → why ≡ None → content ≡ Exactly more → more + left + m ≡ all → AreAll all m why content left
  are_all m why content left more none is sum = subst (λ w. AreAll all m w content left) (sym none) (subst (λ c. AreAll all m None c left) (sym is) sum)

  at_most : (i : Incoming) → Going all n i → n ≤ all
  at_most i h = omega (arith, h.sum)

  counts : (i : Incoming) → (is_some i.section ≡ true → i.body_left ≡ 0) → Going all n i → Counts all n i
  counts i apart h = (h.place, λ over. absurd (differ i.is_over h.not_over over), apart, are_all n i.fault i.content i.body_left h.more h.no_fault h.content h.sum)

  either : (b : Bool) (x y : Pulled) → Fine x → Fine y → Fine (if b then x else y)
  either true x y h k = h
  either false x y h k = k

  given : (b : Bool) (x y : Pulled) → (b ≡ true → Fine x) → Fine y → Fine (if b then x else y)
  given true x y h k = h refl
  given false x y h k = k

  gives_up : (id : ℕ) (m : Malformation) (i : Incoming) (replies : List DecoderInstruction) → is_behind_head i.place ≡ true → i.is_over ≡ false → n ≤ all → Fine (malformed id m i replies)
  gives_up id m i replies place open_still few = record { whole = tt; after = (place, λ over. absurd (differ i.is_over open_still over), λ there. refl, few) }

  -- a payload
  few_of : (k : ℕ) (p : List ℕ) (b : Bool) → nat_le (length p) k ≡ b → b ≡ true → length p ≤ k
  few_of k p b is t = grind (arith, common_steps, is, t)

  handed : (i : Incoming) (bytes : List ℕ) (pieces : List (List ℕ)) → length bytes ≤ i.body_left → i.section ≡ None → Going all n i → Fine (body_of i (Some bytes, pieces))
  handed i bytes pieces few none h = record {
    whole = tt;
    after = (
      h.place,
      λ over. absurd (differ i.is_over h.not_over over),
      λ there. absurd (differ (is_some i.section) (ap is_some none) there),
      are_all (n + length bytes) i.fault i.content (i.body_left - length bytes) h.more h.no_fault h.content (omega (arith, h.sum, few)),
    );
  }

  chunk_fine : (i : Incoming) (pieces : List (List ℕ)) → i.section ≡ None → Going all n i → Fine (body_of i (chunk_of i.body_left pieces))
  chunk_fine i [] none h = record { whole = tt; after = counts i (λ there. absurd (differ (is_some i.section) (ap is_some none) there)) h }
  chunk_fine i (p ∷ pieces) none h = by_test (nat_le (length p) i.body_left) refl
    where
      by_test : (b : Bool) → nat_le (length p) i.body_left ≡ b → Fine (body_of i (if b then (Some p, pieces) else (Some (take i.body_left p), drop i.body_left p ∷ pieces)))
      by_test true is = handed i p pieces (few_of i.body_left p true is refl) none h
      by_test false is = handed i (take i.body_left p) (drop i.body_left p ∷ pieces) (omega (arith, length-take i.body_left p)) none h

  payload_fine : (i : Incoming) → i.section ≡ None → Going all n i → Fine (in_payload i)
  payload_fine i none h =
      either (i.ended && nat_lt (length (concat i.unread)) i.body_left) (connection_fault 0x106 i) (body_of i (chunk_of i.body_left i.unread))
      (record { whole = tt; after = counts i (λ there. absurd (differ (is_some i.section) (ap is_some none) there)) h }) (chunk_fine i i.unread none h)

  content_fine : (id : ℕ) (i : Incoming) → i.section ≡ None → Going all n i → Fine (at_payload id i)
  content_fine id i none h =
      either (is_exceeded i.content) (malformed id malformation.ContentLength i []) (in_payload i) (gives_up id malformation.ContentLength i [] h.place h.not_over (at_most i h)) (payload_fine i none h)

  at_most_is : (a b : ℕ) → nat_le a b ≡ true → a ≤ b
  at_most_is a b e = grind (arith, common_steps, e)

  data_fine : (id : ℕ) (i : Incoming) (size : ℕ) → i.section ≡ None → i.body_left ≡ 0 → Going all n i → Fine (at_payload id (begun_payload i size))
  data_fine id i size none closed h =
      subst (λ c. let j : Incoming = record i { body_left = size; content = left_behind c size } in Fine (at_payload id j)) (sym h.content) (by_test (nat_le size h.more) refl)
    where
      by_test : (b : Bool) → nat_le size h.more ≡ b → let j : Incoming = record i { body_left = size; content = if b then Exactly (h.more - size) else Exceeded } in Fine (at_payload id j)
      by_test true is = content_fine id (record i { body_left = size; content = Exactly (h.more - size) }) none (record {
        no_fault = h.no_fault;
        not_over = h.not_over;
        place = h.place;
        more = h.more - size;
        content = refl;
        sum = omega (arith, h.sum, closed, at_most_is size h.more is);
      })
      by_test false is = gives_up id malformation.ContentLength (record i { body_left = size; content = Exceeded }) [] h.place h.not_over (at_most i h)

  -- the content may end where none of it is left
  none_left : (content : Content) (more : ℕ) → content ≡ Exactly more → may_end content ≡ true → more ≡ 0
  none_left what more is ends = let zero : (more == 0) ≡ true = sym (ap may_end is) ∙ ends in grind (arith, common_steps, zero)

  whole_at : (i : Incoming) → i.body_left ≡ 0 → Going all n i → may_end i.content ≡ true → n ≡ all
  whole_at i closed h ends = omega (arith, h.sum, closed, none_left i.content h.more h.content ends)

  module _ (side : Side) (own : Announced) (id : ℕ) (r : DecoderState) where
    trailer_fine : (i : Incoming) (replies : List DecoderInstruction) (broken : Option Malformation) (h : Head) → i.body_left ≡ 0 → Going all n i → (broken ≡ None → n ≡ all) → Fine (whole_trailer id i replies broken h)
    trailer_fine i replies broken h closed g whole = either (has_pseudo h) _ _ (gives_up id malformation.PseudoInTrailer i replies g.place g.not_over (at_most i g)) (by_rule broken refl)
      where
        by_rule : (rule : Option Malformation) → broken ≡ rule
            → Fine (unless_broken id i replies rule (record { answer = pull.Item (item.Trailer h); incoming = record i { place = AfterTrailer }; replies = replies }))
        by_rule None is = record {
          whole = whole is;
          after = (refl, λ over. absurd (differ i.is_over g.not_over over), λ there. closed, are_all n i.fault i.content i.body_left g.more g.no_fault g.content g.sum);
        }
        by_rule (Some why) is = gives_up id why i replies g.place g.not_over (at_most i g)

    section_fine : (i : Incoming) (replies : List DecoderInstruction) (broken : Option Malformation) (place : Place) (h : Head) → is_behind_head place ≡ true → i.body_left ≡ 0 → Going all n i → (broken ≡ None → n ≡ all)
        → Fine (head_or_trailer side id i replies broken place h)
    section_fine i replies broken BeforeHead h at closed g whole = never at
    section_fine i replies broken InBody h at closed g whole = trailer_fine i replies broken h closed g whole
    section_fine i replies broken AfterTrailer h at closed g whole = trailer_fine i replies broken h closed g whole
    section_fine i replies broken InSession h at closed g whole = never at

    judged_fine : (i : Incoming) (replies : List DecoderInstruction) (broken : Option Malformation) (read : HeadRead) → i.body_left ≡ 0 → Going all n i → (broken ≡ None → n ≡ all) → Fine (judged side id i replies broken read)
    judged_fine i replies broken (IsNone why) closed g whole = gives_up id _ i replies g.place g.not_over (at_most i g)
    judged_fine i replies broken (IsHead h) closed g whole = section_fine i replies broken i.place h g.place closed g whole

    -- a trailer says nothing of the content
    stays : (place : Place) (content : Content) (fields : List Field) → is_behind_head place ≡ true → content_at side own place content fields ≡ content
    stays place content fields at = by_choice own.choices.strict_messages
      where
        by_place : (place : Place) → is_behind_head place ≡ true → content_behind side place content fields ≡ content
        by_place InBody at = refl
        by_place AfterTrailer at = refl
        by_place BeforeHead at = never at
        by_place InSession at = never at

        by_choice : (b : Bool) → (if b then content_behind side place content fields else content) ≡ content
        by_choice true = by_place place at
        by_choice false = refl

    -- nor one that is too large
    large_stays : (s : Side) (place : Place) (content : Content) (status : Option (List ℕ)) → is_behind_head place ≡ true → large_content_at s own place content status ≡ content
    large_stays s place content status at = by_choice own.choices.strict_messages
      where
        by_place : (s : Side) (place : Place) → is_behind_head place ≡ true → content_behind_large s place content status ≡ content
        by_place Client InBody at = refl
        by_place Server InBody at = refl
        by_place Client AfterTrailer at = refl
        by_place Server AfterTrailer at = refl
        by_place s BeforeHead at = never at
        by_place s InSession at = never at

        by_choice : (b : Bool) → (if b then content_behind_large s place content status else content) ≡ content
        by_choice true = by_place s place at
        by_choice false = refl

    next_behind : (s : Side) (place : Place) (fields : List Field) → is_behind_head place ≡ true → is_behind_head (next_place s place fields) ≡ true
    next_behind Client InBody fields at = refl
    next_behind Server InBody fields at = refl
    next_behind Client AfterTrailer fields at = refl
    next_behind Server AfterTrailer fields at = refl
    next_behind s BeforeHead fields at = never at
    next_behind s InSession fields at = never at

    told : (content : Content) (broken : Option Malformation) → if_whole content broken ≡ None → may_end content ≡ true
    told content broken = by_end (may_end content)
      where
        by_end : (b : Bool) → ◌≡◌ {A = Option Malformation} (if b then broken else Some malformation.ContentLength) None → b ≡ true
        by_end true e = refl
        by_end false e = absurd (cc)

    read_fine : (i : Incoming) (replies : List DecoderInstruction) (fields : List Field) → i.body_left ≡ 0 → Going all n i → Fine (read_section side own id r i replies fields)
    read_fine i replies fields closed g =
        either (nat_lt (section_of own) (told_size fields)) _ _
        (record {
          whole = tt;
          after = (
            next_behind side i.place fields g.place,
            λ over. absurd (differ i.is_over g.not_over over),
            λ there. closed,
            are_all n i.fault (past_large side own i fields).content i.body_left g.more g.no_fault (large_stays side i.place i.content (last_value (codes ":status") fields) g.place ∙ g.content) g.sum,
          );
        })
        (judged_fine (with_content side own i fields) replies (if_whole i.content (broken_rule side own i.place fields)) (head_by own.choices.extensions.any_protocol fields) closed
        (record { no_fault = g.no_fault; not_over = g.not_over; place = g.place; more = g.more; content = stays i.place i.content fields g.place ∙ g.content; sum = g.sum })
        (λ none. whole_at i closed g (told i.content (broken_rule side own i.place fields) none)))

    past_going : (i : Incoming) → Going all n i → Going all n (past_section i)
    past_going i g = record { no_fault = g.no_fault; not_over = g.not_over; place = g.place; more = g.more; content = g.content; sum = g.sum }

    -- an answer that hands nothing out, of a receiver with no payload under way
    leaf : (i : Incoming) → i.body_left ≡ 0 → Going all n i → Counts all n i
    leaf i closed g = counts i (λ there. closed) g

    decoded_fine : (i : Incoming) (d : DecodedSection) → i.body_left ≡ 0 → Going all n i → Fine (decoded side own id r i d)
    decoded_fine i (Fields fields count) closed g = read_fine (past_section i) _ fields closed (past_going i g)
    decoded_fine i (Missing count) closed g = either (i.waits_for == 0) _ _ (record { whole = tt; after = leaf i closed g }) (record { whole = tt; after = leaf (past_section i) closed (past_going i g) })
    decoded_fine i BadSection closed g = record { whole = tt; after = leaf (past_section i) closed (past_going i g) }

    at_fine : (i : Incoming) (bytes : List ℕ) → i.body_left ≡ 0 → Going all n i → Fine (at_section side own id r i bytes)
    at_fine i bytes closed g = either (nat_lt r.table.inserted i.waits_for) _ _ (record { whole = tt; after = leaf i closed g }) (decoded_fine i (decode_section r bytes) closed g)

    new_fine : (i : Incoming) (bytes : List ℕ) → i.body_left ≡ 0 → Going all n i → Fine (new_section side own id r i bytes)
    new_fine i bytes closed g =
        at_fine (begun_section i bytes) bytes closed (record { no_fault = g.no_fault; not_over = g.not_over; place = g.place; more = g.more; content = g.content; sum = g.sum })

    whole_fine : (i : Incoming) → i.body_left ≡ 0 → Going all n i
        → Fine (if may_end i.content then just (pull.Item item.End) (record i { unread = []; is_over = true }) else malformed id malformation.ContentLength i [])
    whole_fine i closed g =
        given (may_end i.content) (just (pull.Item item.End) (record i { unread = []; is_over = true })) (malformed id malformation.ContentLength i [])
        (λ ends. record {
          whole = whole_at i closed g ends;
          after = (g.place, λ over. whole_at i closed g ends, λ there. closed, are_all n i.fault i.content i.body_left g.more g.no_fault g.content g.sum);
        })
        (gives_up id malformation.ContentLength i [] g.place g.not_over (at_most i g))

    end_fine : (i : Incoming) (place : Place) → is_behind_head place ≡ true → i.body_left ≡ 0 → Going all n i → Fine (at_end side own id r i place)
    end_fine i BeforeHead at closed g = never at
    end_fine i InSession at closed g = never at
    end_fine i InBody at closed g = whole_fine i closed g
    end_fine i AfterTrailer at closed g = whole_fine i closed g

    frame_fine : (s : Side) (i : Incoming) (place : Place) (f : Frame PayloadLen) → is_behind_head place ≡ true → i.section ≡ None → i.body_left ≡ 0 → Going all n i → Fine (at_frame side own id r s i place f)
    frame_fine Client i BeforeHead (frame.Headers bytes) at none closed g = never at
    frame_fine Server i BeforeHead (frame.Headers bytes) at none closed g = never at
    frame_fine Client i InBody (frame.Headers bytes) at none closed g = either (takes_trailer i.content) _ _ (new_fine i bytes closed g) (record { whole = tt; after = leaf i closed g })
    frame_fine Server i InBody (frame.Headers bytes) at none closed g = either (takes_trailer i.content) _ _ (new_fine i bytes closed g) (record { whole = tt; after = leaf i closed g })
    frame_fine Client i InBody (frame.Data len) at none closed g = data_fine id i len.0 none closed g
    frame_fine Server i InBody (frame.Data len) at none closed g = data_fine id i len.0 none closed g
    frame_fine Server i BeforeHead (frame.WebTransportStream session) at none closed g = never at
    frame_fine Client i place (frame.PushPromise promise) at none closed g = record { whole = tt; after = leaf i closed g }
    frame_fine _ i place _ at none closed g = record { whole = tt; after = leaf i closed g }

    framed_fine : (i : Incoming) (front : Front) → i.section ≡ None → i.body_left ≡ 0 → Going all n i → Fine (framed side own id r i front)
    framed_fine i (Unfinished least) none closed g = either i.ended _ _ (record { whole = tt; after = leaf i closed g }) (record { whole = tt; after = leaf i closed g })
    framed_fine i (Whole f rest) none closed g =
        frame_fine side (left_with i rest) i.place f g.place none closed (record { no_fault = g.no_fault; not_over = g.not_over; place = g.place; more = g.more; content = g.content; sum = g.sum })
    framed_fine i (Unknown kind rest) none closed g = record { whole = tt; after = leaf i closed g }
    framed_fine i (Refused e) none closed g = record { whole = tt; after = leaf i closed g }

    next_fine : (i : Incoming) (bytes : List ℕ) → i.section ≡ None → i.body_left ≡ 0 → Going all n i → Fine (next_frame side own id r i bytes)
    next_fine i [] none closed g = either i.ended _ _ (end_fine i i.place g.place closed g) (record { whole = tt; after = leaf i closed g })
    next_fine i (byte ∷ bytes) none closed g = framed_fine i (frame_by (kinds_of own) (byte ∷ bytes)) none closed g

    not_some : (k : ℕ) → nat_lt 0 k ≡ false → k ≡ 0
    not_some k e = grind (arith, common_steps, e)

    excess_fine : (i : Incoming) (bytes : List ℕ) → i.body_left ≡ 0 → Going all n i → Fine (excess id i bytes)
    excess_fine i bytes closed g =
        either (begins_section bytes) (malformed id malformation.TooLong i []) (connection_fault 0x107 (record i { unread = [] }))
        (gives_up id malformation.TooLong i [] g.place g.not_over (at_most i g))
        (record {
          whole = tt;
          after = leaf (record i { unread = [] }) closed (record { no_fault = g.no_fault; not_over = g.not_over; place = g.place; more = g.more; content = g.content; sum = g.sum });
        })

    message_fine : (i : Incoming) (section : Option (List ℕ)) → i.section ≡ section → (is_some i.section ≡ true → i.body_left ≡ 0) → Going all n i → Fine (in_message side own id r i section)
    message_fine i (Some bytes) is apart g = at_fine i bytes (apart (ap is_some is)) g
    message_fine i None is apart g = by_left (nat_lt 0 i.body_left) refl
      where
        bytes : List ℕ
        bytes = skipped (kinds_of own) (is_body i.place) (concat i.unread)

        by_left : (b : Bool) → nat_lt 0 i.body_left ≡ b → Fine (if b then at_payload id i else between_frames side own id r i)
        by_left true left = content_fine id i is g
        by_left false left =
            either (is_excessive_by (kinds_of own) own.choices.unfinished_limit bytes) (excess id i bytes) (next_frame side own id r (left_with i bytes) bytes) (excess_fine i bytes (not_some i.body_left left) g)
            (next_fine (left_with i bytes) bytes is (not_some i.body_left left) (record { no_fault = g.no_fault; not_over = g.not_over; place = g.place; more = g.more; content = g.content; sum = g.sum }))

    item_fine : (i : Incoming) (place : Place) → is_behind_head place ≡ true → (is_some i.section ≡ true → i.body_left ≡ 0) → Going all n i → Fine (next_item side own id r i place)
    item_fine i InSession at apart g = never at
    item_fine i BeforeHead at apart g = never at
    item_fine i InBody at apart g = message_fine i i.section refl apart g
    item_fine i AfterTrailer at apart g = message_fine i i.section refl apart g

    pull_fine : (i : Incoming) → Counts all n i → Fine (pull_stream side own id r i)
    unfolding pull_stream
    pull_fine i c = by_fault i.fault refl
      where
        over : (b : Bool) → i.is_over ≡ b → i.fault ≡ None → Fine (if b then just (pull.Item item.End) i else next_item side own id r i i.place)
        over true is none = record { whole = c.1 is; after = c }
        over false is none = item_fine i i.place c.0 c.2 (going i none is c)

        by_fault : (f : Option StreamFault) → i.fault ≡ f → Fine (elim f [
          | Some why ↦ just (pull.Fault (fault.Stream why)) i
          | None ↦ if i.is_over then just (pull.Item item.End) i else next_item side own id r i i.place
        ])
        by_fault (Some why) is = record { whole = tt; after = c }
        by_fault None is = over i.is_over refl is

few : (all n : ℕ) (why : Option StreamFault) (content : Content) (left : ℕ) → AreAll all n why content left → n ≤ all
few all n (Some why) what left h = h
few all n None (Exactly more) left h = omega (arith, h)
few all n None Unsaid left h = absurd h
few all n None NoContent left h = absurd h
few all n None Tunnel left h = absurd h
few all n None Unanswered left h = absurd h
few all n None Exceeded left h = absurd h

counted : (side : Side) (own : Announced) (id all n : ℕ) (i : Incoming) → HandsOut side own id all n i → Counts all n i
counted side own id all n i (Begins e) =
    (ap is_behind_head e.place, λ over. absurd (differ i.is_over e.not_over over), λ there. e.none, are_all all 0 0 i.fault i.content i.body_left all e.no_fault e.content (omega (arith, e.none)))
counted side own id all n i (Comes piece h) = counted side own id all _ _ h
counted side own id all n i (Ends h) = counted side own id all _ _ h
counted side own id all n i (Pulls {n = m} {i = j} r h) = (pull_fine all m side own id r j (counted side own id all m j h)).after

-- **As much is handed out as the head says, where the end or a trailer is.**
pub counts_content : CountsContent
counts_content side own id all n r i h =
    let c = counted side own id all n i h in
    (few all n i.fault i.content i.body_left c.3, (pull_fine all n side own id r i c).whole)
