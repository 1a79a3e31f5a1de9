-- What a pull of a strict receiver comes to, where the parts of its flow break no rule: it finds no message malformed, and counts on.
use Rattle.std.proofs.Common.{◌≡◌, inl, inr, ℕ, zero, suc, ◌+◌, ◌-◌, ◌<◌, ◌≤◌, lit<, Bool, true, false, List, [], ◌∷◌, ◌++◌, Option, Some, None, refl, sym, ap, ◌∙◌, subst, take, drop, length, nat_lt, arith, if◌then◌else◌, append_assoc, length-append}
use Rattle.std.specs.Prelude.{◌&&◌, ◌==◌, nat_le, slice_get, unwrap_or}
use Rattle.std.specs.List.{concat, flat_map, fold}
use Rattle.std.proofs.lemmas.Bool.{cases_lt, le-ltb, lt-ltb}
use Rattle.std.proofs.lemmas.Grind.{common_steps}
use Rattle.std.proofs.lemmas.List.{length-drop, length-take}
use Rattle.h3_coding.specs.Encodings.{encoding}
use Rattle.h3_messages.specs.Content.{is_exceeded, left_behind as left_after_data, may_end, takes_trailer}
use Rattle.h3_messages.specs.declared.content.Content.{Content}
use Rattle.h3_proto.specs.declared.stream.Side.{Side}
use Rattle.h3_proto.specs.declared.stream.Side.TheVariants.{Client, Server}
use Rattle.h3_qpack.specs.DecodedSection.{Fields, Missing, decode_section}
use Rattle.h3_qpack.specs.DecoderState.{DecoderState}
use Rattle.h3_frames.specs.Encoded.{frame_encoding, head_encoding}
use Rattle.h3_frames.specs.EncodedLaws.{written_headers}
use Rattle.h3_frames.specs.Frames.{frame_by}
use Rattle.h3_frames.specs.Pieces.{chunk_of}
use Rattle.h3_frames.specs.declared.proto.frame.Frame.TheVariants as frame
use Rattle.h3_connection.specs.Codes.{decompression_failed, frame_error, frame_unexpected}
use Rattle.h3_connection.specs.Incoming.{Incoming, is_before_head}
use Rattle.h3_connection.specs.Pulling.{acknowledgment, at_end, at_frame, at_payload, at_section, begun_payload, begun_section, between_frames, body_of, connection_fault, decoded, in_message, in_payload, just, left_with, malformed, new_section, next_item, past_section, pull_stream, read_section, tried}
use Rattle.h3_connection.specs.declared.event.Fault.TheVariants.{Stream}
use Rattle.h3_connection.specs.declared.event.Item.TheVariants as item
use Rattle.h3_connection.specs.declared.event.Malformation.TheVariants as malformation
use Rattle.h3_connection.specs.declared.event.Pull.{Pull}
use Rattle.h3_connection.specs.declared.event.Pull.TheVariants as pull
use Rattle.h3_connection.specs.declared.place.Place.{Place}
use Rattle.h3_connection.specs.declared.place.Place.TheVariants.{AfterTrailer, BeforeHead, InBody, InSession}
use Rattle.h3_connection.specs.declared.setup.Announced.{Announced}
use Rattle.h3_world.specs.Flow.{Flow, Part, Section, flow_bytes, part_bytes}
use Rattle.h3_world.specs.Flow.Part.{Body, End, Head, Interim, Trailer}
use Rattle.h3_world.specs.Items.{after_item, after_piece}
use Rattle.h3_world.specs.Order.{is_end, is_over, last_part, next_part, section_of_part}
use Rattle.h3_world.specs.Setup.{TakesAnyLength}
use Rattle.h3_world.specs.Sound.{IsSentSection, IsSoundFlow}
use Rattle.h3_world.specs.World.{Party}
use Rattle.h3_headline.specs.Cited.{ListsAreTheirValue}
use Rattle.h3_headline.specs.FrontLaws.{data_front, long_front, short_front, unfinished_data, unfinished_section}
use Rattle.h3_headline.specs.PartLaws.{ended_over, flow_parts, none_left, part_at}
use Rattle.h3_headline.specs.Parts.{IsPartAt, IsPlaceOf}
use Rattle.h3_headline.specs.PulledFlowLaws.{came_is, not_ended, nothing_there, unfinished_waits, whole_frame}
use Rattle.h3_headline.specs.PulledSectionLaws.{head_part, interim_part, trailer_part, tried_plainly}
use Rattle.h3_headline.specs.Pulling.{DecodesNext, GoesOn, IsBefore, IsInMessage, IsReadableNext, IsTriedAs, before_bytes}
use Rattle.h3_headline.specs.ReceivingLaws.{encoding_some}
use Rattle.h3_headline.specs.Standing.{ReadsFlow, ReceivesFlow, StandsBefore, WaitsIn, place_after, place_behind, section_frame}
use Rattle.h3_strict.proofs.StrictSections.{either, head_reads, interim_reads, read_good, trailer_reads}
use Rattle.h3_strict.proofs.UnbrokenLaws.{along_next, ends_too, left_no_more, next_within, not_exceeded, trails_too, unbroken_next}
use Rattle.h3_strict.specs.Plainly.{plain, plain_incoming, tells_malformed}
use Rattle.h3_strict.specs.StrictPull.{Counting, CountsFlow, PullsOn, flow_after, response_after}
use Rattle.h3_strict.specs.Unbroken.{AreUnbroken, CountsAlong, IsUnbroken, SaysNoMore, begun, content_along}
use Rattle.h3_connection.specs.StrictConnection.{kinds_of}

in_front : {X : Type 0} → InBody ≡ BeforeHead → X
in_front e = let k : false ≡ true = ap is_before_head e in absurd (cc)

same_number : (a b : ℕ) → (a == b) ≡ true → a ≡ b
same_number a b e = grind (arith, common_steps, e)

other_number : (a b : ℕ) → (a == b) ≡ false → a ≡ b → ⊥
other_number a b e k = grind (arith, common_steps, e, k)

-- how long all is that was sent
whole_length : (p : Party) (f : Flow) (part : Part) → IsPartAt p f.sent f.parts_out part
    → length (flow_bytes f) ≡ before_bytes f + (length (part_bytes part) + length (flat_map part_bytes (drop (f.parts_out + 1) f.sent)))
whole_length p f part at =
    let rest = flat_map part_bytes (drop (f.parts_out + 1) f.sent) in
    ap length (flow_parts f) ∙ length-append (flat_map part_bytes (take f.parts_out f.sent)) (flat_map part_bytes (drop f.parts_out f.sent))
    ∙ ap (λ n. before_bytes f + n) (ap length at.bytes_behind ∙ length-append (part_bytes part) rest)

-- a message is in no session
stays_in : (place : Place) (part : Part) → IsInMessage place → IsInMessage (place_behind place part)
stays_in place (Interim s) h = h
stays_in place (Head s) h = tt
stays_in place (Body bytes own) h = h
stays_in place (Trailer s) h = tt
stays_in place End h = h

in_message_from : (place : Place) (parts : List Part) → IsInMessage place → IsInMessage (fold place_behind place parts)
in_message_from place [] h = h
in_message_from place (part ∷ parts) h = in_message_from (place_behind place part) parts (stays_in place part h)

same_section : (s t : Section) → ◌≡◌ {A = Option Section} (Some s) (Some t) → s ≡ t
same_section s t e = ap (λ o. unwrap_or o s) e

module _ (lists : ListsAreTheirValue) (side : Side) (own : Announced) (id : ℕ) (r : DecoderState) (strict : own.choices.strict_messages ≡ true) (any : TakesAnyLength own) (awaited : Content) (known : Option Content) where
  -- an answer that hands out nothing and tells nothing of the message
  stays : (f : Flow) (q : Pull) (j : Incoming) → tells_malformed false q ≡ false → flow_after f q ≡ f → response_after q side (next_part f) known ≡ known → Counting side awaited known f j
      → PullsOn side awaited known f (just q j)
  stays f q j quiet same knows h = record { judges_not = quiet; counts = subst (λ g. CountsFlow side awaited g j) (sym same) h.counts; responds = h.response ∙ sym knows }

  counts_alike : (f : Flow) (i x : Incoming) → x.body_left ≡ i.body_left → x.content ≡ i.content → x.response ≡ i.response → Counting side awaited known f i → Counting side awaited known f x
  counts_alike f i x left content response h =
      record {
        counts = subst (λ n. CountsAlong side awaited f.sent f.parts_out n x.content) (sym left) (subst (CountsAlong side awaited f.sent f.parts_out i.body_left) (sym content) h.counts);
        response = response ∙ h.response;
      }

  -- no payload is under way in front of a section
  in_front_of : (f : Flow) (part : Part) (i : Incoming) → next_part f ≡ Some part → ((n : ℕ) (left : List ℕ) → StandsBefore f (suc n) (Some part) left → ⊥) → ReadsFlow f (plain_incoming i) → i.body_left ≡ 0
  in_front_of f part i next none reads = by_left i.body_left _ (subst (λ o. StandsBefore f i.body_left o (section_frame i.section ++ concat i.unread ++ drop f.delivered (flow_bytes f))) next reads.unread)
    where
      by_left : (n : ℕ) (left : List ℕ) → StandsBefore f n (Some part) left → n ≡ 0
      by_left zero left at = refl
      by_left (suc n) left at = absurd (none n left at)

  -- The section at hand, whose fields are read well.
  section_good : (f : Flow) (came : ℕ) (s : Section) (i : Incoming) → Counting side awaited known f i → IsTriedAs came s (decode_section r s.encoded)
      → PullsOn side awaited known f (read_section side own id r (past_section i) (acknowledgment id s.count) s.fields) → PullsOn side awaited known f (at_section side own id r i s.encoded)
  section_good f came s i counts decodes good =
      either (PullsOn side awaited known f) (nat_lt r.table.inserted i.waits_for) _ _ (stays f (pull.Waiting i.waits_for) i refl refl refl counts)
      (subst (PullsOn side awaited known f) (sym (tried_plainly side own id r came s i (decode_section r s.encoded) decodes)) (by_count (nat_le s.count came)))
    where
      by_count : (b : Bool) → PullsOn side awaited known f (decoded side own id r i (if b then Fields s.fields s.count else Missing s.count))
      by_count true = good
      by_count false =
          either (PullsOn side awaited known f) (i.waits_for == 0) (just (pull.Waiting s.count) (record (tried i) { waits_for = s.count })) (connection_fault decompression_failed (past_section i))
          (record { judges_not = refl; counts = counts.counts; responds = counts.response }) (record { judges_not = refl; counts = counts.counts; responds = counts.response })

  -- The fields of the next part are read well.
  next_reads : (p : Party) (f : Flow) (part : Part) (s : Section) (x : Incoming) → IsSoundFlow p f → next_part f ≡ Some part → section_of_part (Some part) ≡ Some s → AreUnbroken side own awaited f.sent
      → IsReadableNext lists side (plain own) id r 0 (Some part) → x.place ≡ place_after (take f.parts_out f.sent) → x.body_left ≡ 0 → Counting side awaited known f x
      → PullsOn side awaited known f (read_section side own id r x (acknowledgment id s.count) s.fields)
  next_reads p f (Interim t) s x sound next is unbroken readable place none counts =
      let fine = unbroken_next side own awaited f.sent f.parts_out (Interim t) unbroken next in
      let at = part_at p f (Interim t) sound next in
      let good = read_good lists side own id r strict awaited known f item.Interim t (Interim t) x (acknowledgment id t.count) (interim_part t) next fine.2 none
      (interim_reads lists side own id r strict awaited known f t x (acknowledgment id t.count) next at.place_is readable fine (place ∙ at.place_is) none counts) in
      subst (λ u. PullsOn side awaited known f (read_section side own id r x (acknowledgment id u.count) u.fields)) (same_section t s is) good
  next_reads p f (Head t) s x sound next is unbroken readable place none counts =
      let fine = unbroken_next side own awaited f.sent f.parts_out (Head t) unbroken next in
      let at = part_at p f (Head t) sound next in
      let good = read_good lists side own id r strict awaited known f item.Head t (Head t) x (acknowledgment id t.count) (head_part t) next fine.2 none
      (head_reads lists side own id r strict awaited known f t x (acknowledgment id t.count) next at.place_is at.place_next readable fine (place ∙ at.place_is) none counts) in
      subst (λ u. PullsOn side awaited known f (read_section side own id r x (acknowledgment id u.count) u.fields)) (same_section t s is) good
  next_reads p f (Trailer t) s x sound next is unbroken readable place none counts =
      let fine = unbroken_next side own awaited f.sent f.parts_out (Trailer t) unbroken next in
      let at = part_at p f (Trailer t) sound next in
      let good = read_good lists side own id r strict awaited known f item.Trailer t (Trailer t) x (acknowledgment id t.count) (trailer_part t) next fine.3 none
      (trailer_reads lists side own id r strict awaited known f t x (acknowledgment id t.count) next at.place_next readable fine (place ∙ at.place_is) none counts) in
      subst (λ u. PullsOn side awaited known f (read_section side own id r x (acknowledgment id u.count) u.fields)) (same_section t s is) good
  next_reads p f (Body bytes own_length) s x sound next is unbroken readable place none counts = cc
  next_reads p f End s x sound next is unbroken readable place none counts = cc

  -- Inside a payload.
  payload_good : (p : Party) (f : Flow) (bytes : List ℕ) (end : ℕ) (i : Incoming) → IsPartAt p f.sent f.parts_out (Body bytes end) → next_part f ≡ Some (Body bytes end)
      → IsUnbroken side own (content_along side awaited (take f.parts_out f.sent)) (Body bytes end)
      → i.body_left ≡ length (drop f.body_out bytes) → 0 < i.body_left → f.body_out ≤ length bytes → SaysNoMore i.content (content_along side awaited (take (f.parts_out + 1) f.sent)) → i.response ≡ known
      → PullsOn side awaited known f (at_payload id i)
  payload_good p f bytes end i at next unbroken size some within says knows =
      let more = along_next side awaited f.sent f.parts_out (Body bytes end) next in
      let fits : is_exceeded i.content ≡ false = not_exceeded i.content _ says (ap is_exceeded more ∙ unbroken) in
      subst (PullsOn side awaited known f) (sym (ap (λ b. if b then malformed id malformation.ContentLength i [] else in_payload i) fits))
      (either (PullsOn side awaited known f) (i.ended && nat_lt (length (concat i.unread)) i.body_left) (connection_fault frame_error i) (body_of i (chunk_of i.body_left i.unread))
      (record { judges_not = refl; counts = inside i.body_left some; responds = knows }) (by_pieces i.unread))
    where
      inside : (n : ℕ) → 0 < n → CountsAlong side awaited f.sent f.parts_out n i.content
      inside zero h = absurd (omega (arith, h))
      inside (suc n) h = record { before = λ e. in_front (sym at.place_is ∙ e); counts = says; within = next_within f.sent f.parts_out (Body bytes end) next }

      behind : CountsAlong side awaited f.sent (f.parts_out + 1) 0 i.content
      behind = record { before = λ e. in_front (sym (at.place_next ∙ at.place_is) ∙ e); counts = says; within = next_within f.sent f.parts_out (Body bytes end) next }

      piece_good : (piece : List ℕ) (pieces : List (List ℕ)) → length piece ≤ i.body_left
          → PullsOn side awaited known f (just (pull.Item (item.Body piece)) (record i { unread = pieces; body_left = i.body_left - length piece }))
      piece_good piece pieces few =
          let after : after_item f (next_part f) (item.Body piece) ≡ after_piece f bytes (length piece) = ap (λ o. after_item f o (item.Body piece)) next in
          record {
            judges_not = refl;
            counts = subst (λ (g : Flow). CountsAlong side awaited g.sent g.parts_out (i.body_left - length piece) i.content) (sym after) (by_size (f.body_out + length piece == length bytes) refl);
            responds = knows;
          }
        where
          by_size : (b : Bool) → (f.body_out + length piece == length bytes) ≡ b
              → (let g : Flow = if b then record f { parts_out = f.parts_out + 1; body_out = 0; waits_for = 0 } else record f { body_out = f.body_out + length piece; waits_for = 0 } in
              CountsAlong side awaited g.sent g.parts_out (i.body_left - length piece) i.content)
          by_size true e =
              let none : i.body_left - length piece ≡ 0 = omega (arith, same_number _ _ e, size, length-drop f.body_out bytes, within) in
              subst (λ n. CountsAlong side awaited f.sent (f.parts_out + 1) n i.content) (sym none) behind
          by_size false e = inside (i.body_left - length piece) (left_some (i.body_left - length piece) refl)
            where
              left_some : (n : ℕ) → i.body_left - length piece ≡ n → 0 < n
              left_some zero none = absurd (other_number _ _ e (omega (arith, none, few, size, length-drop f.body_out bytes, within)))
              left_some (suc n) is = omega arith

      at_most : (a b : ℕ) → nat_le a b ≡ true → a ≤ b
      at_most a b e = grind (arith, common_steps, e)

      by_pieces : (unread : List (List ℕ)) → PullsOn side awaited known f (body_of i (chunk_of i.body_left unread))
      by_pieces [] = record { judges_not = refl; counts = inside i.body_left some; responds = knows }
      by_pieces (q ∷ qs) = by_test (nat_le (length q) i.body_left) refl
        where
          by_test : (b : Bool) → nat_le (length q) i.body_left ≡ b → PullsOn side awaited known f (body_of i (if b then (Some q, qs) else (Some (take i.body_left q), drop i.body_left q ∷ qs)))
          by_test true e = piece_good q qs (at_most (length q) i.body_left e)
          by_test false e = piece_good (take i.body_left q) (drop i.body_left q ∷ qs) (omega (arith, length-take i.body_left q))

  -- In front of a section.
  section_comes : (came : ℕ) (p : Party) (f : Flow) (part : Part) (s : Section) (i : Incoming) → IsBefore p f (plain_incoming i) → IsPartAt p f.sent f.parts_out part → Counting side awaited known f i
      → part_bytes part ≡ frame_encoding 1 s.encoded → IsSentSection p s
      → ((j : Incoming) → j.content ≡ i.content → at_frame side own id r side j i.place (frame.Headers s.encoded) ≡ new_section side own id r j s.encoded)
      → IsTriedAs came s (decode_section r s.encoded)
      → ((x : Incoming) → x.place ≡ i.place → x.body_left ≡ 0 → x.content ≡ i.content → x.response ≡ i.response → PullsOn side awaited known f (read_section side own id r x (acknowledgment id s.count) s.fields))
      → PullsOn side awaited known f (between_frames side own id r i)
  section_comes came p f part s i h at counts bytes sent frames decodes reads = elim (cases_lt (length (concat i.unread)) (length (frame_encoding 1 s.encoded))) [
    | inl short ↦
        let rest = flat_map part_bytes (drop (f.parts_out + 1) f.sent) in
        let all = h.unread ∙ at.bytes_behind ∙ ap (λ l. l ++ rest) bytes in
        let front = short_front (concat i.unread) (drop f.delivered (flow_bytes f)) (frame_encoding 1 s.encoded) rest all (omega (arith, short)) in
        let missing : f.delivered < length (flow_bytes f) = omega (arith, came_is p f (plain_incoming i) h, whole_length p f part at, short, ap length bytes) in
        subst (PullsOn side awaited known f)
        (sym (unfinished_waits side own any id r i (h.on.ended ∙ not_ended p f h.sound missing) (unfinished_section (kinds_of own) s.encoded (concat i.unread) sent.has_length short front)))
        (stays f pull.Pending i refl refl refl counts)
    | inr there ↦
        let rest = flat_map part_bytes (drop (f.parts_out + 1) f.sent) in
        let left = drop (length (frame_encoding 1 s.encoded)) (concat i.unread) in
        let all = h.unread ∙ at.bytes_behind ∙ ap (λ l. l ++ rest) bytes in
        let longer = long_front (concat i.unread) (drop f.delivered (flow_bytes f)) (frame_encoding 1 s.encoded) rest all there in
        let found = ap (frame_by (kinds_of own)) longer.front_is ∙ written_headers (kinds_of own) s.encoded left sent.has_length in
        let x = begun_section (left_with i left) s.encoded in
        let some : 0 < length (frame_encoding 1 s.encoded) = section_bytes s.encoded in
        subst (PullsOn side awaited known f)
        (sym (whole_frame side own any id r i (frame.Headers s.encoded) left found refl (omega (arith, some, there)) ∙ frames (left_with i left) refl))
        (section_good f came s x (counts_alike f i x refl refl refl counts) decodes (reads (past_section x) refl h.body_left refl refl))
  ]
    where
      section_bytes : (bytes : List ℕ) → 0 < length (frame_encoding 1 bytes)
      section_bytes bytes =
          omega (arith, encoding_some 1 (lit< tt), length-append (head_encoding 1 (length bytes)) bytes, length-append (encoding 1) (encoding (length bytes)))

  headers_before_head : (d : Side) (j : Incoming) (bytes : List ℕ) → at_frame side own id r d j BeforeHead (frame.Headers bytes) ≡ new_section side own id r j bytes
  headers_before_head Client j bytes = refl
  headers_before_head Server j bytes = refl

  headers_in_body : (d : Side) (j : Incoming) (bytes : List ℕ) → takes_trailer j.content ≡ true → at_frame side own id r d j InBody (frame.Headers bytes) ≡ new_section side own id r j bytes
  headers_in_body Client j bytes takes = ap (λ b. if b then new_section side own id r j bytes else connection_fault frame_unexpected j) takes
  headers_in_body Server j bytes takes = ap (λ b. if b then new_section side own id r j bytes else connection_fault frame_unexpected j) takes

  data_in_body : (d : Side) (j : Incoming) (size : ℕ) → at_frame side own id r d j InBody (frame.Data (record { 0 = size })) ≡ at_payload id (begun_payload j size)
  data_in_body Client j size = refl
  data_in_body Server j size = refl

  -- In front of a piece of the body.
  body_comes : (p : Party) (f : Flow) (bytes : List ℕ) (end : ℕ) (i : Incoming) → IsBefore p f (plain_incoming i) → IsPartAt p f.sent f.parts_out (Body bytes end) → next_part f ≡ Some (Body bytes end)
      → IsUnbroken side own (content_along side awaited (take f.parts_out f.sent)) (Body bytes end) → Counting side awaited known f i → PullsOn side awaited known f (between_frames side own id r i)
  body_comes p f bytes end i h at next unbroken counts = elim (cases_lt (length (concat i.unread)) (length (head_encoding 0 (length bytes)))) [
    | inl short ↦
        let rest = flat_map part_bytes (drop (f.parts_out + 1) f.sent) in
        let head = head_encoding 0 (length bytes) in
        let all = h.unread ∙ at.bytes_behind ∙ append_assoc head bytes rest in
        let front = short_front (concat i.unread) (drop f.delivered (flow_bytes f)) head (bytes ++ rest) all (omega (arith, short)) in
        let missing : f.delivered < length (flow_bytes f) = omega (arith, came_is p f (plain_incoming i) h, whole_length p f (Body bytes end) at, short, length-append head bytes) in
        subst (PullsOn side awaited known f)
        (sym (unfinished_waits side own any id r i (h.on.ended ∙ not_ended p f h.sound missing) (unfinished_data (kinds_of own) (length bytes) (concat i.unread) at.sent.1 short front)))
        (stays f pull.Pending i refl refl refl counts)
    | inr there ↦
        let rest = flat_map part_bytes (drop (f.parts_out + 1) f.sent) in
        let head = head_encoding 0 (length bytes) in
        let left = drop (length head) (concat i.unread) in
        let all = h.unread ∙ at.bytes_behind ∙ append_assoc head bytes rest in
        let longer = long_front (concat i.unread) (drop f.delivered (flow_bytes f)) head (bytes ++ rest) all there in
        let found = ap (frame_by (kinds_of own)) longer.front_is ∙ data_front (kinds_of own) (length bytes) left at.sent.1 in
        let some : 0 < length head = omega (arith, encoding_some 0 (lit< tt), length-append (encoding 0) (encoding (length bytes))) in
        let full : (length bytes == 0) ≡ false = positive (length bytes) at.sent.0 in
        let whole : drop f.body_out bytes ≡ bytes = ap (λ n. drop n bytes) h.out in
        let said = content_along side awaited (take f.parts_out f.sent) in
        let says : SaysNoMore i.content said = subst (λ n. SaysNoMore i.content (content_along side awaited (take (begun f.parts_out n) f.sent))) h.body_left counts.counts.counts in
        subst (PullsOn side awaited known f)
        (sym (whole_frame side own any id r i (frame.Data (record { 0 = length bytes })) left found full (omega (arith, some, there))
        ∙ ap (λ place. at_frame side own id r side (left_with i left) place (frame.Data (record { 0 = length bytes }))) (h.place ∙ at.place_is) ∙ data_in_body side (left_with i left) (length bytes)))
        (payload_good p f bytes end (begun_payload (left_with i left) (length bytes)) at next unbroken (sym (ap length whole)) at.sent.0 (omega (arith, h.out))
        (subst (SaysNoMore (left_after_data i.content (length bytes))) (sym (along_next side awaited f.sent f.parts_out (Body bytes end) next)) (left_no_more i.content said (length bytes) says)) counts.response)
  ]
    where
      positive : (n : ℕ) → 0 < n → (n == 0) ≡ false
      positive n some = grind (arith, common_steps, some)

  -- Nothing is unread and undelivered.
  nothing_left : (unread left : List ℕ) → unread ++ left ≡ [] → unread ≡ []
  nothing_left [] left e = refl
  nothing_left (b ∷ unread) left e = absurd (omega (arith, ap length e))

  -- In front of the end.
  end_comes : (p : Party) (f : Flow) (i : Incoming) → IsBefore p f (plain_incoming i) → IsPartAt p f.sent f.parts_out End → next_part f ≡ Some End
      → IsUnbroken side own (content_along side awaited (take f.parts_out f.sent)) End → Counting side awaited known f i → PullsOn side awaited known f (between_frames side own id r i)
  end_comes p f i h at next unbroken counts =
      let none = nothing_left (concat i.unread) (drop f.delivered (flow_bytes f)) (h.unread ∙ at.bytes_behind ∙ ap (flat_map part_bytes) (at.last refl)) in
      subst (PullsOn side awaited known f) (sym (nothing_there side own any id r i none))
      (either (PullsOn side awaited known f) i.ended (at_end side own id r i i.place) (just pull.Pending i) (subst (λ place. PullsOn side awaited known f (at_end side own id r i place)) (sym h.place) (at_place (place_after (take f.parts_out f.sent)) at.place_is)) (stays f pull.Pending i refl refl refl counts))
    where
      said : Content
      said = content_along side awaited (take f.parts_out f.sent)

      over : Incoming
      over = record i { unread = []; is_over = true }

      says : SaysNoMore i.content said
      says = subst (λ n. SaysNoMore i.content (content_along side awaited (take (begun f.parts_out n) f.sent))) h.body_left counts.counts.counts

      not_before : (place : Place) → IsPlaceOf End place → place ≡ BeforeHead → ⊥
      not_before place (inl e) k = in_front (sym e ∙ k)
      not_before place (inr e) k = let x : false ≡ true = ap is_before_head (sym e ∙ k) in absurd (cc)

      whole_end : PullsOn side awaited known f (if may_end i.content then just (pull.Item item.End) over else malformed id malformation.ContentLength i [])
      whole_end =
          subst (λ b. PullsOn side awaited known f (if b then just (pull.Item item.End) over else malformed id malformation.ContentLength i [])) (sym (ends_too i.content said says unbroken))
          (record {
            judges_not = refl;
            counts = subst (λ (o : Option Part). CountsFlow side awaited (after_item f o item.End) over) (sym next)
                (subst (λ n. CountsAlong side awaited f.sent (f.parts_out + 1) n i.content) (sym h.body_left)
                (record {
                  before = λ e. absurd (not_before (place_after (take f.parts_out f.sent)) at.place_is (sym at.place_next ∙ e));
                  counts = subst (SaysNoMore i.content) (sym (along_next side awaited f.sent f.parts_out End next)) says;
                  within = next_within f.sent f.parts_out End next;
                }));
            responds = counts.response;
          })

      at_place : (place : Place) → IsPlaceOf End place → PullsOn side awaited known f (at_end side own id r i place)
      at_place place (inl e) = subst (λ q. PullsOn side awaited known f (at_end side own id r i q)) (sym e) whole_end
      at_place place (inr e) = subst (λ q. PullsOn side awaited known f (at_end side own id r i q)) (sym e) whole_end

  -- Behind all that was sent.
  none_comes : (p : Party) (f : Flow) (i : Incoming) → IsBefore p f (plain_incoming i) → next_part f ≡ None → Counting side awaited known f i → PullsOn side awaited known f (between_frames side own id r i)
  none_comes p f i h next counts =
      let none = nothing_left (concat i.unread) (drop f.delivered (flow_bytes f)) (h.unread ∙ ap (flat_map part_bytes) (none_left f.sent f.parts_out next)) in
      subst (PullsOn side awaited known f)
      (sym (nothing_there side own any id r i none ∙ ap (λ b. if b then at_end side own id r i i.place else just pull.Pending i) (h.on.ended ∙ still_open f.ended refl)))
      (stays f pull.Pending i refl refl refl counts)
    where
      finished : (a b : Bool) → (a && b) ≡ true → b ≡ true
      finished true b e = e
      finished false b e = absurd (cc)

      still_open : (b : Bool) → f.ended ≡ b → b ≡ false
      still_open true e =
          let last = finished _ (is_end (last_part f.sent)) (h.sound.ended e).0 in
          let k = ended_over f.sent f.parts_out next h.sound.out last in
          let n : f.parts_out - 1 ≡ k.0 = omega (arith, k.1) in
          let over : is_over f ≡ true = rw (lt-ltb 0 f.parts_out (omega (arith, k.1))) (ap (λ m. is_end (slice_get f.sent m)) n ∙ k.2) in
          absurd (clash over h.on.not_over)
        where
          clash : is_over f ≡ true → is_over f ≡ false → ⊥
          clash a b = grind (arith, common_steps, a, b)
      still_open false e = refl

  -- In front of any part.
  before_comes : (came : ℕ) (p : Party) (f : Flow) (part : Option Part) (i : Incoming) → IsBefore p f (plain_incoming i) → next_part f ≡ part → DecodesNext lists side own id r came part → IsReadableNext lists side (plain own) id r came part
      → AreUnbroken side own awaited f.sent → Counting side awaited known f i → PullsOn side awaited known f (between_frames side own id r i)
  before_comes came p f None i h next decodes readable unbroken counts = none_comes p f i h next counts
  before_comes came p f (Some (Interim s)) i h next decodes readable unbroken counts =
      let at = part_at p f (Interim s) h.sound next in
      section_comes came p f (Interim s) s i h at counts refl at.sent.0
      (λ j same. ap (λ q. at_frame side own id r side j q (frame.Headers s.encoded)) (h.place ∙ at.place_is) ∙ headers_before_head side j s.encoded) decodes
      (λ x place none content response. next_reads p f (Interim s) s x h.sound next refl unbroken readable (place ∙ h.place) none (counts_alike f i x (none ∙ sym h.body_left) content response counts))
  before_comes came p f (Some (Head s)) i h next decodes readable unbroken counts =
      let at = part_at p f (Head s) h.sound next in
      section_comes came p f (Head s) s i h at counts refl at.sent.0
      (λ j same. ap (λ q. at_frame side own id r side j q (frame.Headers s.encoded)) (h.place ∙ at.place_is) ∙ headers_before_head side j s.encoded) decodes
      (λ x place none content response. next_reads p f (Head s) s x h.sound next refl unbroken readable (place ∙ h.place) none (counts_alike f i x (none ∙ sym h.body_left) content response counts))
  before_comes came p f (Some (Body bytes end)) i h next decodes readable unbroken counts =
      body_comes p f bytes end i h (part_at p f (Body bytes end) h.sound next) next (unbroken_next side own awaited f.sent f.parts_out (Body bytes end) unbroken next) counts
  before_comes came p f (Some (Trailer s)) i h next decodes readable unbroken counts =
      let at = part_at p f (Trailer s) h.sound next in
      let fine = unbroken_next side own awaited f.sent f.parts_out (Trailer s) unbroken next in
      let says : SaysNoMore i.content (content_along side awaited (take f.parts_out f.sent)) = subst (λ n. SaysNoMore i.content (content_along side awaited (take (begun f.parts_out n) f.sent))) h.body_left counts.counts.counts in
      section_comes came p f (Trailer s) s i h at counts refl at.sent.0
      (λ j same. ap (λ q. at_frame side own id r side j q (frame.Headers s.encoded)) (h.place ∙ at.place_is) ∙ headers_in_body side j s.encoded (ap takes_trailer same ∙ trails_too i.content _ says fine.1)) decodes
      (λ x place none content response. next_reads p f (Trailer s) s x h.sound next refl unbroken readable (place ∙ h.place) none (counts_alike f i x (none ∙ sym h.body_left) content response counts))
  before_comes came p f (Some End) i h next decodes readable unbroken counts =
      end_comes p f i h (part_at p f End h.sound next) next (unbroken_next side own awaited f.sent f.parts_out End unbroken next) counts

  -- No section is at hand.
  no_section_comes : (came : ℕ) (p : Party) (f : Flow) (i : Incoming) → IsSoundFlow p f → GoesOn f (plain_incoming i) → ReceivesFlow f (plain_incoming i) → ReadsFlow f (plain_incoming i) → i.section ≡ None
      → DecodesNext lists side own id r came (next_part f) → IsReadableNext lists side (plain own) id r came (next_part f) → AreUnbroken side own awaited f.sent → Counting side awaited known f i
      → PullsOn side awaited known f (if nat_lt 0 i.body_left then at_payload id i else between_frames side own id r i)
  no_section_comes came p f i sound on same reads none decodes readable unbroken counts =
      by_left i.body_left refl reads.unread (subst (λ o. WaitsIn f (plain_incoming i) o (section_of_part (next_part f))) none reads.waits)
    where
      unread_of : Option (List ℕ) → List ℕ
      unread_of o = section_frame o ++ concat i.unread ++ drop f.delivered (flow_bytes f)

      by_left : (n : ℕ) → i.body_left ≡ n → StandsBefore f i.body_left (next_part f) (unread_of i.section) → f.waits_for ≡ 0
          → PullsOn side awaited known f (if nat_lt 0 i.body_left then at_payload id i else between_frames side own id r i)
      by_left zero e at waits =
          let front = subst (λ n. StandsBefore f n (next_part f) (unread_of i.section)) e at in
          subst (PullsOn side awaited known f) (sym (ap (λ b. if b then at_payload id i else between_frames side own id r i) (le-ltb 0 i.body_left (omega (arith, e)))))
          (before_comes came p f (next_part f) i (record {
            on = on;
            sound = sound;
            section = none;
            body_left = e;
            out = front.0;
            unread = ap unread_of (sym none) ∙ front.1;
            waits = same.waits_for ∙ waits;
            no_wait = waits;
            pieces = reads.pieces;
            place = reads.place;
            content = refl;
            same = same;
          }) refl decodes readable unbroken counts)
      by_left (suc n) e at waits =
          subst (PullsOn side awaited known f) (sym (ap (λ b. if b then at_payload id i else between_frames side own id r i) (lt-ltb 0 i.body_left (omega (arith, e)))))
          (by_part (next_part f) refl (subst (λ m. StandsBefore f m (next_part f) (unread_of i.section)) e at))
        where
          by_part : (o : Option Part) → next_part f ≡ o → StandsBefore f (suc n) o (unread_of i.section) → PullsOn side awaited known f (at_payload id i)
          by_part None next at = absurd at
          by_part (Some (Interim s)) next at = absurd at
          by_part (Some (Head s)) next at = absurd at
          by_part (Some (Trailer s)) next at = absurd at
          by_part (Some End) next at = absurd at
          by_part (Some (Body bytes end)) next at =
              let part = part_at p f (Body bytes end) sound next in
              payload_good p f bytes end i part next (unbroken_next side own awaited f.sent f.parts_out (Body bytes end) unbroken next) (e ∙ at.0) (omega (arith, e))
              (omega (arith, at.0, length-drop f.body_out bytes))
              (subst (λ m. SaysNoMore i.content (content_along side awaited (take (begun f.parts_out m) f.sent))) e counts.counts.counts) counts.response

  -- A section is at hand, and waits.
  waiting_comes : (came : ℕ) (p : Party) (f : Flow) (part : Option Part) (i : Incoming) (bytes : List ℕ) → IsSoundFlow p f → ReadsFlow f (plain_incoming i) → next_part f ≡ part
      → WaitsIn f (plain_incoming i) (Some bytes) (section_of_part part) → DecodesNext lists side own id r came part → IsReadableNext lists side (plain own) id r came part → AreUnbroken side own awaited f.sent
      → Counting side awaited known f i → PullsOn side awaited known f (at_section side own id r i bytes)
  waiting_comes came p f None i bytes sound reads next waits decodes readable unbroken counts = absurd waits
  waiting_comes came p f (Some (Body x end)) i bytes sound reads next waits decodes readable unbroken counts = absurd waits
  waiting_comes came p f (Some End) i bytes sound reads next waits decodes readable unbroken counts = absurd waits
  waiting_comes came p f (Some (Interim s)) i bytes sound reads next waits decodes readable unbroken counts =
      subst (λ b. PullsOn side awaited known f (at_section side own id r i b)) (sym waits.2) (section_good f came s i counts decodes
      (next_reads p f (Interim s) s (past_section i) sound next refl unbroken readable reads.place (in_front_of f (Interim s) i next (λ n left k. k) reads) (counts_alike f i (past_section i) refl refl refl counts)))
  waiting_comes came p f (Some (Head s)) i bytes sound reads next waits decodes readable unbroken counts =
      subst (λ b. PullsOn side awaited known f (at_section side own id r i b)) (sym waits.2) (section_good f came s i counts decodes
      (next_reads p f (Head s) s (past_section i) sound next refl unbroken readable reads.place (in_front_of f (Head s) i next (λ n left k. k) reads) (counts_alike f i (past_section i) refl refl refl counts)))
  waiting_comes came p f (Some (Trailer s)) i bytes sound reads next waits decodes readable unbroken counts =
      subst (λ b. PullsOn side awaited known f (at_section side own id r i b)) (sym waits.2) (section_good f came s i counts decodes
      (next_reads p f (Trailer s) s (past_section i) sound next refl unbroken readable reads.place (in_front_of f (Trailer s) i next (λ n left k. k) reads) (counts_alike f i (past_section i) refl refl refl counts)))

  next_is : (i : Incoming) (place : Place) → IsInMessage place → next_item side own id r i place ≡ in_message side own id r i i.section
  next_is i BeforeHead h = refl
  next_is i InBody h = refl
  next_is i AfterTrailer h = refl
  next_is i InSession h = absurd h

  goes_on_to : (i : Incoming) → i.fault ≡ None → i.is_over ≡ false → pull_stream side own id r i ≡ next_item side own id r i i.place
  unfolding pull_stream
  goes_on_to i e over = ap (λ o. elim o [
    | Some fault ↦ just (pull.Fault (Stream fault)) i
    | None ↦ if i.is_over then just (pull.Item item.End) i else next_item side own id r i i.place
  ]) e ∙ ap (λ b. if b then just (pull.Item item.End) i else next_item side own id r i i.place) over

  -- **A pull of a flow whose parts break no rule.**
  pub pull_counts : (came : ℕ) (p : Party) (f : Flow) (i : Incoming) → IsSoundFlow p f → ReceivesFlow f (plain_incoming i) → f.fault ≡ None → is_over f ≡ false
      → DecodesNext lists side own id r came (next_part f) → IsReadableNext lists side (plain own) id r came (next_part f) → AreUnbroken side own awaited f.sent → Counting side awaited known f i
      → PullsOn side awaited known f (pull_stream side own id r i)
  pull_counts came p f i sound same alive more decodes readable unbroken counts =
      let reads = same.reads alive in
      let on : GoesOn f (plain_incoming i) = record { alive = alive; fault = same.fault ∙ alive; ended = same.ended; was_reset = same.was_reset; goes_on = same.is_over ∙ more; not_over = more } in
      subst (PullsOn side awaited known f)
      (sym (goes_on_to i on.fault on.goes_on ∙ next_is i i.place (subst IsInMessage (sym reads.place) (in_message_from BeforeHead (take f.parts_out f.sent) tt))))
      (by_section on i.section refl)
    where
      by_section : GoesOn f (plain_incoming i) → (o : Option (List ℕ)) → i.section ≡ o → PullsOn side awaited known f (in_message side own id r i i.section)
      by_section on None e =
          subst (λ o. PullsOn side awaited known f (in_message side own id r i o)) (sym e) (no_section_comes came p f i sound on same (same.reads alive) e decodes readable unbroken counts)
      by_section on (Some bytes) e =
          let reads = same.reads alive in
          subst (λ o. PullsOn side awaited known f (in_message side own id r i o)) (sym e)
          (waiting_comes came p f (next_part f) i bytes sound reads refl (subst (λ o. WaitsIn f (plain_incoming i) o (section_of_part (next_part f))) e reads.waits) decodes readable unbroken counts)
