-- What a pull of a request stream comes to, wherever its receiver stands.
use Rattle.h3_connection.specs.declared.place.Place.{Place}
use Rattle.h3_world.specs.Flow.{Part, Flow, Section, part_bytes, flow_bytes}
use Rattle.h3_world.specs.Flow.Part.{Interim, Head, Body, Trailer, End}
use Rattle.std.proofs.Common.{List, [], ◌∷◌, ◌≡◌, ◌⊎◌, inl, inr, ℕ, zero, suc, ◌+◌, ◌≤◌, ◌<◌, true, false, ◌++◌, length, take, drop, refl, sym, ap, ◌∙◌, subst, arith, nat_lt, if◌then◌else◌, Option, Some, None, append_assoc, length-append}
use Rattle.std.specs.List.{fold, concat, flat_map}
use Rattle.std.proofs.lemmas.Bool.{lt-ltb, le-ltb}
use Rattle.std.proofs.lemmas.List.{drop_at, length-drop}
use Rattle.h3_qpack.specs.DecodedSection.{decode_section}
use Rattle.h3_qpack.specs.DecoderState.{DecoderState}
use Rattle.h3_header.specs.Head as header
use Rattle.h3_frames.specs.Encoded.{head_encoding, frame_encoding}
use Rattle.h3_proto.specs.declared.stream.Side.{Side}
use Rattle.h3_connection.specs.Announcing.{section_of}
use Rattle.h3_connection.specs.Incoming.{Incoming}
use Rattle.h3_connection.specs.Pulling.{just, at_payload, at_section, between_frames, in_message, next_item, pull_stream, past_section, acknowledgment}
use Rattle.h3_connection.specs.declared.event.Fault.TheVariants.{Stream}
use Rattle.h3_connection.specs.declared.event.Item.{Item}
use Rattle.h3_connection.specs.declared.event.Item.TheVariants as item
use Rattle.h3_connection.specs.declared.event.Pull.TheVariants as pull
use Rattle.h3_connection.specs.declared.event.StreamFault.{StreamFault}
use Rattle.h3_connection.specs.declared.place.Place.TheVariants.{BeforeHead, InBody, AfterTrailer, InSession}
use Rattle.h3_connection.specs.declared.setup.Announced.{Announced}
use Rattle.h3_world.specs.World.{Party}
use Rattle.h3_world.specs.Order.{next_part, is_over, section_of_part}
use Rattle.h3_world.specs.Setup.{IsPlain}
use Rattle.h3_world.specs.Sound.{IsSentSection, IsSoundFlow, WaitsBefore, WaitsForNext}
use Rattle.h3_headline.specs.Cited.{ListsAreTheirValue}
use Rattle.h3_headline.specs.PartLaws.{flow_parts, part_at}
use Rattle.h3_headline.specs.PulledBodyLaws.{payload_comes}
use Rattle.h3_headline.specs.PulledFlowLaws.{all_came}
use Rattle.h3_headline.specs.PulledPartLaws.{before_comes}
use Rattle.h3_headline.specs.PulledSectionLaws.{head_part, interim_part, next_try, reads_head, reads_interim, reads_trailer, trailer_part}
use Rattle.h3_headline.specs.Pulling.{ComesTo, DecodesNext, GoesOn, IsInMessage, IsReadAs, IsReadableNext, IsSectionPart, IsTriedAs}
use Rattle.h3_headline.specs.Standing.{ReadsFlow, ReceivesFlow, StandsBefore, WaitsIn, place_behind, section_frame}

stays_in : (place : Place) (part : Part) → IsInMessage place → IsInMessage (place_behind place part)
stays_in place (Interim s) h = h
stays_in place (Head s) h = tt
stays_in place (Body bytes own) h = h
stays_in place (Trailer s) h = tt
stays_in place End h = h

in_message_from : (place : Place) (parts : List Part) → IsInMessage place → IsInMessage (fold place_behind place parts)
in_message_from place [] h = h
in_message_from place (part ∷ parts) h = in_message_from (place_behind place part) parts (stays_in place part h)

module _ (lists : ListsAreTheirValue) (side : Side) (announced : Announced) (id : ℕ) (r : DecoderState) (came : ℕ) where
  next_is : (i : Incoming) (place : Place) → IsInMessage place → next_item side announced id r i place ≡ in_message side announced id r i i.section
  next_is i BeforeHead h = refl
  next_is i InBody h = refl
  next_is i AfterTrailer h = refl
  next_is i InSession h = absurd h

  -- what the fault or the end makes of it
  given_up_again : (i : Incoming) (fault : StreamFault) → i.fault ≡ Some fault → pull_stream side announced id r i ≡ just (pull.Fault (Stream fault)) i
  unfolding pull_stream
  given_up_again i fault e = ap (λ o. elim o [
    | Some fault ↦ just (pull.Fault (Stream fault)) i
    | None ↦ if i.is_over then just (pull.Item item.End) i else next_item side announced id r i i.place
  ]) e

  over_again : (i : Incoming) → i.fault ≡ None → i.is_over ≡ true → pull_stream side announced id r i ≡ just (pull.Item item.End) i
  unfolding pull_stream
  over_again i e over = ap (λ o. elim o [
    | Some fault ↦ just (pull.Fault (Stream fault)) i
    | None ↦ if i.is_over then just (pull.Item item.End) i else next_item side announced id r i i.place
  ]) e ∙ ap (λ b. if b then just (pull.Item item.End) i else next_item side announced id r i i.place) over

  goes_on_to : (i : Incoming) → i.fault ≡ None → i.is_over ≡ false → pull_stream side announced id r i ≡ next_item side announced id r i i.place
  unfolding pull_stream
  goes_on_to i e over = ap (λ o. elim o [
    | Some fault ↦ just (pull.Fault (Stream fault)) i
    | None ↦ if i.is_over then just (pull.Item item.End) i else next_item side announced id r i i.place
  ]) e ∙ ap (λ b. if b then just (pull.Item item.End) i else next_item side announced id r i i.place) over

  -- no section is there
  no_section_comes : IsPlain announced → (p : Party) (f : Flow) (part : Option Part) (i : Incoming) → IsSoundFlow p f → GoesOn f i → ReceivesFlow f i → ReadsFlow f i → next_part f ≡ part → i.section ≡ None → DecodesNext lists side announced id r came part → IsReadableNext lists side announced id r came part
      → ComesTo (section_of announced) id f came part (if nat_lt 0 i.body_left then at_payload id i else between_frames side announced id r i)
  no_section_comes plain p f part i sound on same reads next none decodes readable = by_left i.body_left refl (subst (λ o. StandsBefore f i.body_left o (unread_of i.section)) next reads.unread) (subst (λ o. WaitsIn f i o (section_of_part (next_part f))) none reads.waits)
    where
      unread_of : Option (List ℕ) → List ℕ
      unread_of o = section_frame o ++ concat i.unread ++ drop f.delivered (flow_bytes f)

      by_left : (n : ℕ) → i.body_left ≡ n → StandsBefore f i.body_left part (unread_of i.section) → f.waits_for ≡ 0
          → ComesTo (section_of announced) id f came part (if nat_lt 0 i.body_left then at_payload id i else between_frames side announced id r i)
      by_left zero e at waits =
          let front = subst (λ n. StandsBefore f n part (unread_of i.section)) e at in
          subst (ComesTo (section_of announced) id f came part) (sym (ap (λ b. if b then at_payload id i else between_frames side announced id r i) (le-ltb 0 i.body_left (omega (arith, e)))))
          (before_comes lists side announced plain id r came p f part i (record {
            on = on;
            sound = sound;
            section = none;
            body_left = e;
            out = front.0;
            unread = ap unread_of (sym none) ∙ front.1;
            waits = same.waits_for ∙ waits;
            no_wait = waits;
            pieces = reads.pieces;
            place = reads.place;
            content = reads.content;
            same = same;
          }) next decodes readable)
      by_left (suc n) e at waits =
          subst (ComesTo (section_of announced) id f came part) (sym (ap (λ b. if b then at_payload id i else between_frames side announced id r i) (lt-ltb 0 i.body_left (omega (arith, e)))))
          (by_part part next (subst (λ m. StandsBefore f m part (unread_of i.section)) e at))
        where
          by_part : (o : Option Part) → next_part f ≡ o → StandsBefore f (suc n) o (unread_of i.section) → ComesTo (section_of announced) id f came o (at_payload id i)
          by_part None next at = absurd at
          by_part (Some (Interim s)) next at = absurd at
          by_part (Some (Head s)) next at = absurd at
          by_part (Some (Trailer s)) next at = absurd at
          by_part (Some End) next at = absurd at
          by_part (Some (Body bytes own)) next at =
              let part = part_at p f (Body bytes own) sound next in
              let rest = flat_map part_bytes (drop (f.parts_out + 1) f.sent) in
              let before = flat_map part_bytes (take f.parts_out f.sent) in
              let left = drop f.body_out bytes in
              let unread : concat i.unread ++ drop f.delivered (flow_bytes f) ≡ left ++ rest = ap unread_of (sym none) ∙ at.1 in
              let size = ap length unread in
              let all : length (flow_bytes f) ≡ length before + length (part_bytes (Body bytes own) ++ rest) =
              ap length (flow_parts f) ∙ length-append before (flat_map part_bytes (drop f.parts_out f.sent)) ∙ ap (λ n. length before + n) (ap length part.bytes_behind) in
              payload_comes (section_of announced) id f came bytes own i (record {
                on = on;
                next = next;
                size = e ∙ at.0;
                some = omega (arith, at.0);
                out = omega (arith, at.0, length-drop f.body_out bytes);
                unread = unread;
                there = omega (
                  arith,
                  size,
                  all,
                  sound.delivered,
                  at.0,
                  part.sent.2,
                  length-drop f.body_out bytes,
                  length-drop f.delivered (flow_bytes f),
                  length-append (concat i.unread) (drop f.delivered (flow_bytes f)),
                  length-append left rest,
                  length-append (part_bytes (Body bytes own)) rest,
                  length-append (head_encoding 0 (length bytes)) bytes,
                );
                section = none;
                pieces = reads.pieces;
                place = reads.place;
                content = reads.content;
                place_next = part.place_next;
                waits = same.waits_for ∙ waits;
                whole = λ e. all_came p f sound e;
              })

  -- A section waited.
  waited : (kind : header.Head → Item) (p : Party) (f : Flow) (part : Part) (s : Section) (i : Incoming) (bytes : List ℕ) → IsSoundFlow p f → GoesOn f i → ReceivesFlow f i → ReadsFlow f i → next_part f ≡ Some part
      → IsSectionPart kind s part → part_bytes part ≡ frame_encoding 1 s.encoded → IsSentSection p s → s.own_length ≤ f.delivered → i.section ≡ Some bytes
      → (f.waits_for ≡ s.count) × (0 < s.count) × (bytes ≡ s.encoded) × (i.tries ≡ 1)
      → ((n : ℕ) (left : List ℕ) → StandsBefore f (suc n) (Some part) left → ⊥)
      → r.table.inserted ≡ came → IsTriedAs came s (decode_section r s.encoded) → IsReadAs side announced id r kind part s (past_section i) (acknowledgment id s.count)
      → ComesTo (section_of announced) id f came (Some part) (at_section side announced id r i bytes)
  waited kind p f part s i bytes sound on same reads next is frame sent own there h not_inside inserted decodes read =
      let at = part_at p f part sound next in
      let rest = flat_map part_bytes (drop (f.parts_out + 1) f.sent) in
      let left = section_frame i.section ++ concat i.unread ++ drop f.delivered (flow_bytes f) in
      let front : flat_map part_bytes (drop f.parts_out f.sent) ≡ frame_encoding 1 s.encoded ++ rest = at.bytes_behind ∙ ap (λ l. l ++ rest) frame in
      let before = in_front i.body_left (subst (λ o. StandsBefore f i.body_left o left) next reads.unread) in
      let all : frame_encoding 1 s.encoded ++ (concat i.unread ++ drop f.delivered (flow_bytes f)) ≡ frame_encoding 1 s.encoded ++ rest =
      sym (append_assoc (frame_encoding 1 s.encoded) (concat i.unread) (drop f.delivered (flow_bytes f)))
      ∙ ap (λ b. frame_encoding 1 b ++ concat i.unread ++ drop f.delivered (flow_bytes f)) (sym h.2)
      ∙ ap (λ o. section_frame o ++ concat i.unread ++ drop f.delivered (flow_bytes f)) (sym there) ∙ before.2 ∙ front in
      subst (λ b. ComesTo (section_of announced) id f came (Some part) (at_section side announced id r i b)) (sym h.2)
      (next_try side announced id r kind f came part s i (record {
        on = on;
        next = next;
        is = is;
        own = own;
        small = sent.small;
        body_left = before.0;
        out = before.1;
        front = front;
        unread = behind (frame_encoding 1 s.encoded) (concat i.unread ++ drop f.delivered (flow_bytes f)) rest all;
        pieces = reads.pieces;
        place = reads.place;
        content = reads.content;
        place_next = at.place_next;
      }) (same.waits_for ∙ h.0) inserted (subst (λ n. ReceivesFlow (record f { waits_for = n }) i) h.0 same) decodes read)
    where
      in_front : (n : ℕ) → StandsBefore f n (Some part) (section_frame i.section ++ concat i.unread ++ drop f.delivered (flow_bytes f))
          → (n ≡ 0) × (f.body_out ≡ 0) × (section_frame i.section ++ concat i.unread ++ drop f.delivered (flow_bytes f) ≡ flat_map part_bytes (drop f.parts_out f.sent))
      in_front zero at = (refl, at.0, at.1)
      in_front (suc n) at = absurd (not_inside n _ at)

      behind : (front some other : List ℕ) → front ++ some ≡ front ++ other → some ≡ other
      behind front some other e = sym (drop_at front some (length front) refl) ∙ ap (drop (length front)) e ∙ drop_at front other (length front) refl

  own_came : (f : Flow) (s : Section) → f.waits_for ≡ s.count → 0 < s.count → (f.waits_for ≡ 0) ⊎ WaitsBefore f s → s.own_length ≤ f.delivered
  own_came f s e some (inl none) = absurd (omega (arith, e, some, none))
  own_came f s e some (inr h) = h.1

  section_comes : IsPlain announced → (p : Party) (f : Flow) (part : Option Part) (i : Incoming) (bytes : List ℕ) → IsSoundFlow p f → GoesOn f i → ReceivesFlow f i → ReadsFlow f i → next_part f ≡ part → i.section ≡ Some bytes
      → r.table.inserted ≡ came → DecodesNext lists side announced id r came part → IsReadableNext lists side announced id r came part
      → WaitsIn f i (Some bytes) (section_of_part part) → (f.waits_for ≡ 0) ⊎ WaitsForNext f part
      → ComesTo (section_of announced) id f came part (at_section side announced id r i bytes)
  section_comes plain p f None i bytes sound on same reads next there inserted decodes readable h w = absurd h
  section_comes plain p f (Some (Body x own)) i bytes sound on same reads next there inserted decodes readable h w = absurd h
  section_comes plain p f (Some End) i bytes sound on same reads next there inserted decodes readable h w = absurd h
  section_comes plain p f (Some (Interim s)) i bytes sound on same reads next there inserted decodes readable h w =
      let at = part_at p f (Interim s) sound next in
      waited item.Interim p f (Interim s) s i bytes sound on same reads next (interim_part s) refl at.sent.0 (own_came f s h.0 h.1 w) there h (λ n left k. k) inserted decodes
      (reads_interim lists side announced plain id r s (past_section i) (acknowledgment id s.count) at.sent.0.small readable (reads.place ∙ at.place_is) reads.content)
  section_comes plain p f (Some (Head s)) i bytes sound on same reads next there inserted decodes readable h w =
      let at = part_at p f (Head s) sound next in
      waited item.Head p f (Head s) s i bytes sound on same reads next (head_part s) refl at.sent.0 (own_came f s h.0 h.1 w) there h (λ n left k. k) inserted decodes
      (reads_head lists side announced plain id r s (past_section i) (acknowledgment id s.count) at.sent.0.small readable (reads.place ∙ at.place_is) reads.content)
  section_comes plain p f (Some (Trailer s)) i bytes sound on same reads next there inserted decodes readable h w =
      let at = part_at p f (Trailer s) sound next in
      waited item.Trailer p f (Trailer s) s i bytes sound on same reads next (trailer_part s) refl at.sent.0 (own_came f s h.0 h.1 w) there h (λ n left k. k) inserted decodes
      (reads_trailer lists side announced plain id r s (past_section i) (acknowledgment id s.count) at.sent.0.small readable (reads.place ∙ at.place_is) reads.content)

  -- **A stream that was not given up and whose end was not handed out.**
  pub stream_comes : IsPlain announced → (p : Party) (f : Flow) (i : Incoming) → IsSoundFlow p f → ReceivesFlow f i → f.fault ≡ None → is_over f ≡ false → r.table.inserted ≡ came
      → DecodesNext lists side announced id r came (next_part f) → IsReadableNext lists side announced id r came (next_part f)
      → ComesTo (section_of announced) id f came (next_part f) (pull_stream side announced id r i)
  stream_comes plain p f i sound same alive more inserted decodes readable =
      let reads = same.reads alive in
      let on : GoesOn f i = record { alive = alive; fault = same.fault ∙ alive; ended = same.ended; was_reset = same.was_reset; goes_on = same.is_over ∙ more; not_over = more } in
      subst (ComesTo (section_of announced) id f came (next_part f))
      (sym (goes_on_to i on.fault on.goes_on ∙ next_is i i.place (subst IsInMessage (sym reads.place) (in_message_from BeforeHead (take f.parts_out f.sent) tt))))
      (by_section i.section refl)
    where
      by_section : (o : Option (List ℕ)) → i.section ≡ o → ComesTo (section_of announced) id f came (next_part f) (in_message side announced id r i i.section)
      by_section None e =
          let reads = same.reads alive in
          let on : GoesOn f i = record { alive = alive; fault = same.fault ∙ alive; ended = same.ended; was_reset = same.was_reset; goes_on = same.is_over ∙ more; not_over = more } in
          subst (λ o. ComesTo (section_of announced) id f came (next_part f) (in_message side announced id r i o)) (sym e)
          (no_section_comes plain p f (next_part f) i sound on same reads refl e decodes readable)
      by_section (Some bytes) e =
          let reads = same.reads alive in
          let on : GoesOn f i = record { alive = alive; fault = same.fault ∙ alive; ended = same.ended; was_reset = same.was_reset; goes_on = same.is_over ∙ more; not_over = more } in
          subst (λ o. ComesTo (section_of announced) id f came (next_part f) (in_message side announced id r i o)) (sym e)
          (section_comes plain p f (next_part f) i bytes sound on same reads refl e inserted decodes readable (subst (λ o. WaitsIn f i o (section_of_part (next_part f))) e reads.waits) sound.waits)

  -- A stream that was given up, or whose end was handed out: nothing changes.
  pub given_up_stays : (f : Flow) (i : Incoming) (fault : StreamFault) → ReceivesFlow f i → f.fault ≡ Some fault → pull_stream side announced id r i ≡ just (pull.Fault (Stream fault)) i
  given_up_stays f i fault same e = given_up_again i fault (same.fault ∙ e)

  pub over_stays : (f : Flow) (i : Incoming) → ReceivesFlow f i → f.fault ≡ None → is_over f ≡ true → pull_stream side announced id r i ≡ just (pull.Item item.End) i
  over_stays f i same e over = over_again i (same.fault ∙ e) (same.is_over ∙ over)
