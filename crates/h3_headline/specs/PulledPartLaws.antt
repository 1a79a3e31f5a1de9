-- What a pull of a request stream comes to: by the part that is next.
use Rattle.std.proofs.Common.{◌≡◌, ◌+◌, ◌-◌, length, take, drop, ap, ◌∙◌, length-append, ℕ, ◌<◌, nat_lt, if◌then◌else◌, Some, None, inl, inr, lit<, Bool, true, false, List, [], ◌∷◌, ◌++◌, refl, sym, subst, arith, Option, append_assoc}
use Rattle.std.specs.List.{flat_map, concat}
use Rattle.h3_world.specs.Flow.{Flow, Part, part_bytes, flow_bytes, Section}
use Rattle.h3_world.specs.World.{Party}
use Rattle.std.proofs.lemmas.Bool.{lt-ltb, cases_lt}
use Rattle.h3_connection.specs.declared.event.Pull.TheVariants as pull
use Rattle.h3_world.specs.Pauses.{section_pause}
use Rattle.std.specs.Prelude.{◌&&◌, ◌==◌, slice_get}
use Rattle.std.proofs.lemmas.Grind.{common_steps}
use Rattle.std.proofs.lemmas.List.{length-drop}
use Rattle.h3_qpack.specs.DecodedSection.{decode_section}
use Rattle.h3_qpack.specs.DecoderState.{DecoderState}
use Rattle.h3_header.specs.Head as header
use Rattle.h3_coding.specs.Encodings.{encoding}
use Rattle.h3_frames.specs.Encoded.{head_encoding, frame_encoding}
use Rattle.h3_frames.specs.EncodedLaws.{written_headers}
use Rattle.h3_frames.specs.Frames.{frame_by}
use Rattle.h3_frames.specs.declared.proto.frame.Frame.TheVariants as frame
use Rattle.h3_proto.specs.declared.stream.Side.{Side}
use Rattle.h3_proto.specs.declared.stream.Side.TheVariants.{Client, Server}
use Rattle.h3_connection.specs.Announcing.{section_of}
use Rattle.h3_messages.specs.Content.{left_behind as left_after_data, may_end, takes_trailer}
use Rattle.h3_messages.specs.declared.content.Content.TheVariants.{Unsaid}
use Rattle.h3_connection.specs.Incoming.{Incoming}
use Rattle.h3_connection.specs.Pulling.{just, malformed, connection_fault, left_with, begun_section, begun_payload, at_payload, new_section, at_end, at_frame, between_frames, past_section, acknowledgment}
use Rattle.h3_connection.specs.declared.event.Item.{Item}
use Rattle.h3_connection.specs.Codes.{frame_unexpected}
use Rattle.h3_connection.specs.declared.event.Item.TheVariants as item
use Rattle.h3_connection.specs.declared.event.Malformation.TheVariants as malformation
use Rattle.h3_connection.specs.declared.place.Place.{Place}
use Rattle.h3_connection.specs.declared.place.Place.TheVariants.{BeforeHead, InBody}
use Rattle.h3_connection.specs.declared.setup.Announced.{Announced}
use Rattle.h3_world.specs.Flow.Part.{Interim, Head, Body, Trailer, End}
use Rattle.h3_world.specs.Items.{body_there}
use Rattle.h3_world.specs.Order.{next_part, is_over, is_end, last_part, section_of_part}
use Rattle.h3_world.specs.Setup.{IsPlain}
use Rattle.h3_world.specs.Sound.{IsSentSection}
use Rattle.h3_headline.specs.Cited.{ListsAreTheirValue}
use Rattle.h3_headline.specs.FrontLaws.{data_front, left_behind, long_front, short_front, unfinished_data, unfinished_section, without_pieces}
use Rattle.h3_headline.specs.PartLaws.{ended_over, flow_parts, none_left, part_at}
use Rattle.h3_headline.specs.Parts.{IsPartAt, IsPlaceOf}
use Rattle.h3_headline.specs.PulledBodyLaws.{payload_comes}
use Rattle.h3_headline.specs.PulledFlowLaws.{all_came, came_is, not_ended, nothing_there, section_there, unfinished_waits, waits_on, whole_frame}
use Rattle.h3_headline.specs.PulledLaws.{receives_on, stands_at}
use Rattle.h3_headline.specs.PulledSectionLaws.{first_try, head_part, interim_part, reads_head, reads_interim, reads_trailer, trailer_part}
use Rattle.h3_headline.specs.Pulling.{ComesTo, DecodesNext, HandsOut, IsBefore, IsReadAs, IsReadableNext, IsSectionPart, IsTriedAs, before_bytes}
use Rattle.h3_headline.specs.ReceivingLaws.{encoding_some}
use Rattle.h3_headline.specs.Standing.{WaitsIn, section_frame}
use Rattle.h3_connection.specs.StrictConnection.{kinds_of}

-- how long all is that was sent
whole_length : (p : Party) (f : Flow) (part : Part) → IsPartAt p f.sent f.parts_out part
    → length (flow_bytes f) ≡ before_bytes f + (length (part_bytes part) + length (flat_map part_bytes (drop (f.parts_out + 1) f.sent)))
whole_length p f part at =
    let rest = flat_map part_bytes (drop (f.parts_out + 1) f.sent) in
    ap length (flow_parts f) ∙ length-append (flat_map part_bytes (take f.parts_out f.sent)) (flat_map part_bytes (drop f.parts_out f.sent))
    ∙ ap (λ n. before_bytes f + n) (ap length at.bytes_behind ∙ length-append (part_bytes part) rest)

-- a section's bytes have not all come
section_pending : (f : Flow) (came : ℕ) (s : Section) → f.delivered < s.own_length → section_pause f came s ≡ Some pull.Pending
section_pending f came s missing = ap (λ b. if b then Some pull.Pending else (if nat_lt came s.count then Some (pull.Waiting s.count) else None)) (lt-ltb f.delivered s.own_length missing)

module _ (lists : ListsAreTheirValue) (side : Side) (announced : Announced) (plain : IsPlain announced) (id : ℕ) (r : DecoderState) (came : ℕ) where
  -- A section is next.
  section_comes : (kind : header.Head → Item) (p : Party) (f : Flow) (part : Part) (s : Section) (i : Incoming) → IsBefore p f i → IsPartAt p f.sent f.parts_out part → next_part f ≡ Some part
      → IsSectionPart kind s part → part_bytes part ≡ frame_encoding 1 s.encoded → IsSentSection p s → s.own_length ≡ before_bytes f + length (part_bytes part)
      → ((j : Incoming) → j.content ≡ Unsaid → at_frame side announced id r side j i.place (frame.Headers s.encoded) ≡ new_section side announced id r j s.encoded)
      → IsTriedAs came s (decode_section r s.encoded)
      → ((x : Incoming) → x.place ≡ i.place → x.content ≡ Unsaid → IsReadAs side announced id r kind part s x (acknowledgment id s.count))
      → ComesTo (section_of announced) id f came (Some part) (between_frames side announced id r i)
  section_comes kind p f part s i h at next is bytes sent own frames decodes reads = elim (cases_lt (length (concat i.unread)) (length (frame_encoding 1 s.encoded))) [
    | inl short ↦
        let rest = flat_map part_bytes (drop (f.parts_out + 1) f.sent) in
        let all = h.unread ∙ at.bytes_behind ∙ ap (λ l. l ++ rest) bytes in
        let front = short_front (concat i.unread) (drop f.delivered (flow_bytes f)) (frame_encoding 1 s.encoded) rest all (omega (arith, short)) in
        let missing : f.delivered < length (flow_bytes f) = omega (arith, came_is p f i h, whole_length p f part at, short, ap length bytes) in
        let few : f.delivered < s.own_length = omega (arith, came_is p f i h, own, short, ap length bytes) in
        subst (ComesTo (section_of announced) id f came (Some part))
        (sym (unfinished_waits side announced plain.1 id r i (h.on.ended ∙ not_ended p f h.sound missing) (unfinished_section (kinds_of announced) s.encoded (concat i.unread) sent.has_length short front)))
        (waits_on (section_of announced) id p f came (Some part) i h (is.pause f came ∙ section_pending f came s few))
    | inr there ↦
        let rest = flat_map part_bytes (drop (f.parts_out + 1) f.sent) in
        let left = drop (length (frame_encoding 1 s.encoded)) (concat i.unread) in
        let all = h.unread ∙ at.bytes_behind ∙ ap (λ l. l ++ rest) bytes in
        let longer = long_front (concat i.unread) (drop f.delivered (flow_bytes f)) (frame_encoding 1 s.encoded) rest all there in
        let found = ap (frame_by (kinds_of announced)) longer.front_is ∙ written_headers (kinds_of announced) s.encoded left sent.has_length in
        let x = begun_section (left_with i left) s.encoded in
        let some : 0 < length (frame_encoding 1 s.encoded) = section_bytes s.encoded in
        subst (ComesTo (section_of announced) id f came (Some part))
        (sym (whole_frame side announced plain.1 id r i (frame.Headers s.encoded) left found refl (omega (arith, some, there)) ∙ frames (left_with i left) h.content))
        (first_try side announced id r kind f came part s x (section_there kind p f part s i h at next is bytes sent own there) refl refl decodes (reads (past_section x) refl h.content))
  ]
    where
      section_bytes : (bytes : List ℕ) → 0 < length (frame_encoding 1 bytes)
      section_bytes bytes =
          omega (arith, encoding_some 1 (lit< tt), length-append (head_encoding 1 (length bytes)) bytes, length-append (encoding 1) (encoding (length bytes)))

  headers_before_head : (d : Side) (j : Incoming) (bytes : List ℕ) → at_frame side announced id r d j BeforeHead (frame.Headers bytes) ≡ new_section side announced id r j bytes
  headers_before_head Client j bytes = refl
  headers_before_head Server j bytes = refl

  headers_in_body : (d : Side) (j : Incoming) (bytes : List ℕ) → j.content ≡ Unsaid → at_frame side announced id r d j InBody (frame.Headers bytes) ≡ new_section side announced id r j bytes
  headers_in_body Client j bytes unsaid = ap (λ c. if takes_trailer c then new_section side announced id r j bytes else connection_fault frame_unexpected j) unsaid
  headers_in_body Server j bytes unsaid = ap (λ c. if takes_trailer c then new_section side announced id r j bytes else connection_fault frame_unexpected j) unsaid

  data_in_body : (d : Side) (j : Incoming) (size : ℕ) → at_frame side announced id r d j InBody (frame.Data (record { 0 = size })) ≡ at_payload id (begun_payload j size)
  data_in_body Client j size = refl
  data_in_body Server j size = refl

  -- A piece of the body is next.
  body_comes : (p : Party) (f : Flow) (bytes : List ℕ) (own : ℕ) (i : Incoming) → IsBefore p f i → IsPartAt p f.sent f.parts_out (Body bytes own) → next_part f ≡ Some (Body bytes own)
      → ComesTo (section_of announced) id f came (Some (Body bytes own)) (between_frames side announced id r i)
  body_comes p f bytes own i h at next = elim (cases_lt (length (concat i.unread)) (length (head_encoding 0 (length bytes)))) [
    | inl short ↦
        let rest = flat_map part_bytes (drop (f.parts_out + 1) f.sent) in
        let head = head_encoding 0 (length bytes) in
        let all = h.unread ∙ at.bytes_behind ∙ append_assoc head bytes rest in
        let front = short_front (concat i.unread) (drop f.delivered (flow_bytes f)) head (bytes ++ rest) all (omega (arith, short)) in
        let missing : f.delivered < length (flow_bytes f) = omega (arith, came_is p f i h, whole_length p f (Body bytes own) at, short, length-append head bytes) in
        let none : body_there f bytes own ≡ 0 = omega (arith, came_is p f i h, at.sent.2, short, length-append head bytes, h.out) in
        subst (ComesTo (section_of announced) id f came (Some (Body bytes own)))
        (sym (unfinished_waits side announced plain.1 id r i (h.on.ended ∙ not_ended p f h.sound missing) (unfinished_data (kinds_of announced) (length bytes) (concat i.unread) at.sent.1 short front)))
        (waits_on (section_of announced) id p f came (Some (Body bytes own)) i h (ap (λ n. if n == 0 then Some pull.Pending else None) none))
    | inr there ↦
        let rest = flat_map part_bytes (drop (f.parts_out + 1) f.sent) in
        let head = head_encoding 0 (length bytes) in
        let left = drop (length head) (concat i.unread) in
        let all = h.unread ∙ at.bytes_behind ∙ append_assoc head bytes rest in
        let longer = long_front (concat i.unread) (drop f.delivered (flow_bytes f)) head (bytes ++ rest) all there in
        let found = ap (frame_by (kinds_of announced)) longer.front_is ∙ data_front (kinds_of announced) (length bytes) left at.sent.1 in
        let x = begun_payload (left_with i left) (length bytes) in
        let some : 0 < length head = omega (arith, encoding_some 0 (lit< tt), length-append (encoding 0) (encoding (length bytes))) in
        let full : (length bytes == 0) ≡ false = positive (length bytes) at.sent.0 in
        let whole : drop f.body_out bytes ≡ bytes = ap (λ n. drop n bytes) h.out in
        let behind = left_behind i head there in
        subst (ComesTo (section_of announced) id f came (Some (Body bytes own)))
        (sym (whole_frame side announced plain.1 id r i (frame.Data (record { 0 = length bytes })) left found full (omega (arith, some, there))
        ∙ ap (λ place. at_frame side announced id r side (left_with i left) place (frame.Data (record { 0 = length bytes }))) (h.place ∙ at.place_is) ∙ data_in_body side (left_with i left) (length bytes)))
        (payload_comes (section_of announced) id f came bytes own x (record {
          on = record { alive = h.on.alive; fault = h.on.fault; ended = h.on.ended; was_reset = h.on.was_reset; goes_on = h.on.goes_on; not_over = h.on.not_over };
          next = next;
          size = sym (ap length whole);
          some = omega (arith, ap length whole, at.sent.0);
          out = omega (arith, h.out);
          unread = ap (λ l. l ++ drop f.delivered (flow_bytes f)) behind ∙ longer.rest_is ∙ ap (λ l. l ++ rest) (sym whole);
          there = omega (arith, came_is p f i h, at.sent.2, length-append head bytes, h.out, ap length behind, length-drop (length head) (concat i.unread), there);
          section = h.section;
          pieces = without_pieces _ i.unread h.pieces;
          place = h.place;
          content = ap (λ c. left_after_data c (length bytes)) h.content;
          place_next = at.place_next;
          waits = h.waits;
          whole = λ e. all_came p f h.sound e;
        }))
  ]
    where
      positive : (n : ℕ) → 0 < n → (n == 0) ≡ false
      positive n some = grind (arith, common_steps, some)

  -- Nothing is unread and undelivered.
  nothing_left : (unread left : List ℕ) → unread ++ left ≡ [] → (unread ≡ []) × (left ≡ [])
  nothing_left [] left e = (refl, e)
  nothing_left (b ∷ unread) left e = absurd (omega (arith, ap length e))

  -- The end is next.
  end_comes : (p : Party) (f : Flow) (i : Incoming) → IsBefore p f i → IsPartAt p f.sent f.parts_out End → next_part f ≡ Some End
      → ComesTo (section_of announced) id f came (Some End) (between_frames side announced id r i)
  end_comes p f i h at next =
      let none = nothing_left (concat i.unread) (drop f.delivered (flow_bytes f)) (h.unread ∙ at.bytes_behind ∙ ap (flat_map part_bytes) (at.last refl)) in
      subst (ComesTo (section_of announced) id f came (Some End)) (sym (nothing_there side announced plain.1 id r i none.0)) (by_end f.ended refl none.1)
    where
      over : (nat_lt 0 (f.parts_out + 1) && is_end (slice_get f.sent (f.parts_out + 1 - 1))) ≡ true
      over =
          let n : f.parts_out + 1 - 1 ≡ f.parts_out = omega arith in
          rw (lt-ltb 0 (f.parts_out + 1) (omega arith)) (ap (λ m. is_end (slice_get f.sent m)) n ∙ ap is_end next)

      whole_end : (if may_end i.content then just (pull.Item item.End) (record i { unread = []; is_over = true }) else malformed id malformation.ContentLength i []) ≡ just (pull.Item item.End) (record i { unread = []; is_over = true })
      whole_end = ap (λ c. if may_end c then just (pull.Item item.End) (record i { unread = []; is_over = true }) else malformed id malformation.ContentLength i []) h.content

      handed_end : (place : Place) → IsPlaceOf End place → at_end side announced id r i place ≡ just (pull.Item item.End) (record i { unread = []; is_over = true })
      handed_end place (inl e) = ap (at_end side announced id r i) e ∙ whole_end
      handed_end place (inr e) = ap (at_end side announced id r i) e ∙ whole_end

      by_end : (b : Bool) → f.ended ≡ b → drop f.delivered (flow_bytes f) ≡ [] → ComesTo (section_of announced) id f came (Some End) (if i.ended then at_end side announced id r i i.place else just pull.Pending i)
      by_end true e gone =
          let g : Flow = record f { parts_out = f.parts_out + 1; waits_for = 0 } in
          let j : Incoming = record i { unread = []; is_over = true } in
          subst (ComesTo (section_of announced) id f came (Some End))
          (sym (ap (λ b. if b then at_end side announced id r i i.place else just pull.Pending i) (h.on.ended ∙ e)
          ∙ handed_end i.place (subst (IsPlaceOf End) (sym h.place) at.place_is)))
          (HandsOut item.End (ap (λ b. if b then None else Some pull.Pending) e) (e, refl) refl refl
          (receives_on f g i j h.on refl refl refl refl refl refl (sym over) h.waits (record {
            unread = stands_at g i.body_left (next_part g) (section_frame i.section ++ [] ++ drop f.delivered (flow_bytes f)) h.body_left h.out
                (ap (λ o. section_frame o ++ [] ++ drop f.delivered (flow_bytes f)) h.section ∙ gone ∙ sym (ap (flat_map part_bytes) (at.last refl)));
            waits = subst (λ o. WaitsIn g j o (section_of_part (next_part g))) (sym h.section) refl;
            pieces = tt;
            place = h.place ∙ sym at.place_next;
            content = h.content;
          })))
      by_end false e gone =
          subst (ComesTo (section_of announced) id f came (Some End))
          (sym (ap (λ b. if b then at_end side announced id r i i.place else just pull.Pending i) (h.on.ended ∙ e)))
          (waits_on (section_of announced) id p f came (Some End) i h (ap (λ b. if b then None else Some pull.Pending) e))

  -- Nothing more was sent.
  none_comes : (p : Party) (f : Flow) (i : Incoming) → IsBefore p f i → next_part f ≡ None → ComesTo (section_of announced) id f came None (between_frames side announced id r i)
  none_comes p f i h next =
      let none = nothing_left (concat i.unread) (drop f.delivered (flow_bytes f)) (h.unread ∙ ap (flat_map part_bytes) (none_left f.sent f.parts_out next)) in
      subst (ComesTo (section_of announced) id f came None)
      (sym (nothing_there side announced plain.1 id r i none.0 ∙ ap (λ b. if b then at_end side announced id r i i.place else just pull.Pending i) (h.on.ended ∙ still_open f.ended refl)))
      (waits_on (section_of announced) id p f came None i h refl)
    where
      finished : (a b : Bool) → (a && b) ≡ true → b ≡ true
      finished true b e = e
      finished false b e = absurd (cc)

      still_open : (b : Bool) → f.ended ≡ b → b ≡ false
      still_open true e =
          let last = finished _ (is_end (last_part f.sent)) (h.sound.ended e).0 in
          let k = ended_over f.sent f.parts_out next h.sound.out last in
          let n : f.parts_out - 1 ≡ k.0 = omega (arith, k.1) in
          let over : is_over f ≡ true = rw (lt-ltb 0 f.parts_out (omega (arith, k.1))) (ap (λ m. is_end (slice_get f.sent m)) n ∙ k.2) in
          absurd (clash over h.on.not_over)
        where
          clash : is_over f ≡ true → is_over f ≡ false → ⊥
          clash a b = grind (arith, common_steps, a, b)
      still_open false e = refl

  -- **In front of a part.**
  pub before_comes : (p : Party) (f : Flow) (part : Option Part) (i : Incoming) → IsBefore p f i → next_part f ≡ part → DecodesNext lists side announced id r came part → IsReadableNext lists side announced id r came part
      → ComesTo (section_of announced) id f came part (between_frames side announced id r i)
  before_comes p f None i h next decodes readable = none_comes p f i h next
  before_comes p f (Some (Interim s)) i h next decodes readable =
      let at = part_at p f (Interim s) h.sound next in
      let place = h.place ∙ at.place_is in
      section_comes item.Interim p f (Interim s) s i h at next (interim_part s) refl at.sent.0 at.sent.1
      (λ j unsaid. ap (λ q. at_frame side announced id r side j q (frame.Headers s.encoded)) place ∙ headers_before_head side j s.encoded) decodes
      (λ x same unsaid. reads_interim lists side announced plain id r s x (acknowledgment id s.count) at.sent.0.small readable (same ∙ place) unsaid)
  before_comes p f (Some (Head s)) i h next decodes readable =
      let at = part_at p f (Head s) h.sound next in
      let place = h.place ∙ at.place_is in
      section_comes item.Head p f (Head s) s i h at next (head_part s) refl at.sent.0 at.sent.1
      (λ j unsaid. ap (λ q. at_frame side announced id r side j q (frame.Headers s.encoded)) place ∙ headers_before_head side j s.encoded) decodes
      (λ x same unsaid. reads_head lists side announced plain id r s x (acknowledgment id s.count) at.sent.0.small readable (same ∙ place) unsaid)
  before_comes p f (Some (Body bytes own)) i h next decodes readable = body_comes p f bytes own i h (part_at p f (Body bytes own) h.sound next) next
  before_comes p f (Some (Trailer s)) i h next decodes readable =
      let at = part_at p f (Trailer s) h.sound next in
      let place = h.place ∙ at.place_is in
      section_comes item.Trailer p f (Trailer s) s i h at next (trailer_part s) refl at.sent.0 at.sent.1
      (λ j unsaid. ap (λ q. at_frame side announced id r side j q (frame.Headers s.encoded)) place ∙ headers_in_body side j s.encoded unsaid) decodes
      (λ x same unsaid. reads_trailer lists side announced plain id r s x (acknowledgment id s.count) at.sent.0.small readable (same ∙ place) unsaid)
  before_comes p f (Some End) i h next decodes readable = end_comes p f i h (part_at p f End h.sound next) next
