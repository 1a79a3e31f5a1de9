-- What is handed out of a field section whose frame was read.
use Rattle.std.proofs.Common.{[], refl, ◌≡◌, ◌<◌, ◌^◌, List, arith, ◌+◌, ◌-◌, Bool, true, false, ap, ◌∙◌, nat_lt, Some, ◌++◌, take, drop, sym, ℕ, ◌≤◌, None, if◌then◌else◌, subst, append_assoc}
use Rattle.h3_connection.specs.declared.event.Item.TheVariants as item
use Rattle.h3_world.specs.Flow.{Section, Flow, Part, flow_bytes}
use Rattle.h3_world.specs.Flow.Part.{Interim, Head, Trailer}
use Rattle.h3_field.specs.Field.{Field, section_size}
use Rattle.h3_field.specs.Secret.{guarded}
use Rattle.h3_qpack.specs.Sizes.{told_size, last_value}
use Rattle.std.specs.Prelude.{◌&&◌, slice_get, codes, map, not, Option, option_map, ◌==◌, nat_le}
use Rattle.h3_world.specs.Order.{next_part, is_end, section_of_part}
use Rattle.std.specs.List.{concat}
use Rattle.h3_header.specs.Head as header
use Rattle.h3_connection.specs.Incoming.{Incoming}
use Rattle.h3_connection.specs.declared.event.Item.{Item}
use Rattle.h3_connection.specs.declared.place.Place.{Place}
use Rattle.std.proofs.lemmas.Bool.{le-ltb, lt-ltb, le-leb}
use Rattle.h3_world.specs.Pauses.{section_pause}
use Rattle.h3_connection.specs.declared.event.Pull.TheVariants as pull
use Rattle.std.proofs.lemmas.Grind.{common_steps}
use Rattle.h3_field.specs.Instruction.{DecoderInstruction}
use Rattle.h3_qpack.specs.DecoderState.{DecoderState}
use Rattle.h3_header.specs.HeadRead.{head_by}
use Rattle.h3_header.specs.Reads.{AcceptsAll, head_of_fields}
use Rattle.h3_proto.specs.declared.stream.Side.{Side}
use Rattle.h3_proto.specs.declared.stream.Side.TheVariants.{Client, Server}
use Rattle.h3_connection.specs.Announcing.{section_of}
use Rattle.h3_messages.specs.declared.content.Content.TheVariants.{Unsaid}
use Rattle.h3_connection.specs.StrictMessages.{broken_rule, content_behind, if_whole, malformation_by, violation_at, content_behind_large, response_behind}
use Rattle.h3_connection.specs.Pulling.{Pulled, is_client, is_interim, next_place, judged, with_content, malformed, head_or_trailer, past_large, just, decoded, at_section, acknowledgment, past_section, tried, connection_fault}
use Rattle.h3_connection.specs.Codes.{decompression_failed}
use Rattle.h3_connection.specs.FlagReadLaws.{guarded_sections_read}
use Rattle.h3_connection.specs.declared.event.Malformation.{Malformation}
use Rattle.h3_connection.specs.declared.event.Malformation.TheVariants as malformation
use Rattle.h3_connection.specs.declared.place.Place.TheVariants.{BeforeHead, InBody, AfterTrailer}
use Rattle.h3_connection.specs.declared.setup.Announced.{Announced}
use Rattle.h3_world.specs.Items.{IsSectionItem}
use Rattle.h3_world.specs.Setup.{IsPlain, takes_any}
use Rattle.h3_qpack.specs.DecodedSection.{DecodedSection, Fields, Missing, decode_section}
use Rattle.h3_frames.specs.Encoded.{frame_encoding}
use Rattle.h3_headline.specs.Cited.{ListsAreTheirValue}
use Rattle.h3_headline.specs.PulledLaws.{receives_on, stands_at}
use Rattle.h3_headline.specs.Pulling.{ComesTo, HandsOut, IsAtSection, IsReadAs, IsSectionPart, IsTriedAs, Pauses, behind_section, placed}
use Rattle.h3_headline.specs.Standing.{IsReadableBy, ReceivesFlow, WaitsIn, place_after, place_behind, section_frame}
use Rattle.h3_headline.specs.StatusLaws.{interim_by_last}

pub interim_part : (s : Section) → IsSectionPart item.Interim s (Interim s)
interim_part s = record { replies = λ id. refl; pause = λ f came. refl; after = λ f i. refl; more = refl; section = refl; has_come = λ most f i h. h }

pub head_part : (s : Section) → IsSectionPart item.Head s (Head s)
head_part s = record { replies = λ id. refl; pause = λ f came. refl; after = λ f i. refl; more = refl; section = refl; has_come = λ most f i h. h }

pub trailer_part : (s : Section) → IsSectionPart item.Trailer s (Trailer s)
trailer_part s = record { replies = λ id. refl; pause = λ f came. refl; after = λ f i. refl; more = refl; section = refl; has_come = λ most f i h. h }

told_is : (fields : List Field) → section_size fields < 2 ^ 56 → told_size fields ≡ section_size fields
told_is fields small = omega (arith, small)

over_after : (f : Flow) (part : Part) → next_part f ≡ Some part → is_end (Some part) ≡ false → (nat_lt 0 (f.parts_out + 1) && is_end (slice_get f.sent (f.parts_out + 1 - 1))) ≡ false
over_after f part next more =
    let n : f.parts_out + 1 - 1 ≡ f.parts_out = omega arith in
    not_second (nat_lt 0 (f.parts_out + 1)) _ (ap (λ m. is_end (slice_get f.sent m)) n ∙ ap is_end next ∙ more)
  where
    not_second : (a b : Bool) → b ≡ false → (a && b) ≡ false
    not_second true b e = e
    not_second false b e = refl

receives_behind : (kind : header.Head → Item) (f : Flow) (part : Part) (s : Section) (i : Incoming) (place : Place) → IsAtSection kind f part s i → place ≡ place_behind (place_after (take f.parts_out f.sent)) part
    → ReceivesFlow (behind_section f) (placed i place)
receives_behind kind f part s i place h at =
    let g = behind_section f in
    receives_on f g i (placed i place) h.on refl refl refl refl refl refl (h.on.goes_on ∙ sym (over_after f part h.next h.is.more)) refl (record {
      unread = stands_at g i.body_left (next_part g) (concat i.unread ++ drop f.delivered (flow_bytes f)) h.body_left h.out h.unread;
      waits = refl;
      pieces = h.pieces;
      place = at ∙ sym h.place_next;
      content = h.content;
    })

-- no pause is before it once its insertions came
no_pause : (f : Flow) (came : ℕ) (s : Section) → s.own_length ≤ f.delivered → s.count ≤ came → section_pause f came s ≡ None
no_pause f came s own enough = rw (le-ltb f.delivered s.own_length own, le-ltb came s.count enough) refl

-- and before that the pause is for them
a_pause : (f : Flow) (came : ℕ) (s : Section) → s.own_length ≤ f.delivered → came < s.count → section_pause f came s ≡ Some (pull.Waiting s.count)
a_pause f came s own missing = rw (le-ltb f.delivered s.own_length own, lt-ltb came s.count missing) refl

module _ (lists : ListsAreTheirValue) (side : Side) (announced : Announced) (plain : IsPlain announced) (id : ℕ) (r : DecoderState) where
  -- no rule is asked for
  none_broken : (place : Place) (fields : List Field) → broken_rule side announced place fields ≡ None
  none_broken place fields = ap (λ b. let rule : Option Malformation = if b then option_map malformation_by (violation_at side announced place fields) else None in rule) plain.0

  -- a list that reads as a header is judged by it
  judged_is : (x : Incoming) (replies : List DecoderInstruction) (fields : List Field) → x.content ≡ Unsaid → AcceptsAll (takes_any announced) (header.trailer_head []) fields
      → judged side id (with_content side announced x fields) replies (if_whole x.content (broken_rule side announced x.place fields)) (head_by announced.choices.extensions.any_protocol fields)
      ≡ head_or_trailer side id x replies None x.place (head_of_fields fields)
  judged_is x replies fields unsaid back =
      ap (λ b. let y : Incoming = record x { content = if b then content_behind side x.place x.content fields else x.content; response = if b then response_behind side x.place x.response fields else x.response } in
      judged side id y replies (if_whole x.content (broken_rule side announced x.place fields)) (head_by announced.choices.extensions.any_protocol fields)) plain.0
      ∙ ap (λ c. judged side id x replies (if_whole c (broken_rule side announced x.place fields)) (head_by announced.choices.extensions.any_protocol fields)) unsaid
      ∙ ap (λ b. judged side id x replies b (head_by announced.choices.extensions.any_protocol fields)) (none_broken x.place fields) ∙ ap (judged side id x replies None) (lists announced.choices.extensions.any_protocol fields (head_of_fields fields) (back, refl))

  above : (a b : ℕ) → nat_lt a b ≡ true → a < b
  above a b e = grind (arith, common_steps, e)

  at_most : (a b : ℕ) → nat_lt a b ≡ false → b ≤ a
  at_most a b e = grind (arith, common_steps, e)

  read_by : (kind : header.Head → Item) (part : Part) (s : Section) (x : Incoming) (replies : List DecoderInstruction) → x.content ≡ Unsaid → AcceptsAll (takes_any announced) (header.trailer_head []) s.fields → section_size s.fields < 2 ^ 56
      → next_place side x.place s.fields ≡ place_behind x.place part
      → head_or_trailer side id x replies None x.place (head_of_fields s.fields) ≡ record { answer = pull.Item (kind (head_of_fields s.fields)); incoming = record x { place = place_behind x.place part }; replies = replies }
      → ((size : ℕ) → size ≡ section_size s.fields → section_of announced < section_size s.fields → IsSectionItem kind (section_of announced) s.fields (item.TooLarge size))
      → (section_size s.fields ≤ section_of announced → IsSectionItem kind (section_of announced) s.fields (kind (head_of_fields s.fields)))
      → IsReadAs side announced id r kind part s x replies
  read_by kind part s x replies unsaid back small place head large whole = by_size (nat_lt (section_of announced) (told_size s.fields)) refl
    where
      answer_at : Item → Place → Pulled
      answer_at i place = record { answer = pull.Item i; incoming = record x { place = place }; replies = replies }

      too_large : Incoming → Pulled
      too_large y = record { answer = pull.Item (item.TooLarge (told_size s.fields)); incoming = y; replies = replies }

      status : Option (List ℕ)
      status = last_value (codes ":status") s.fields

      large_is : too_large (past_large side announced x s.fields) ≡ answer_at (item.TooLarge (told_size s.fields)) (next_place side x.place s.fields)
      large_is = ap (λ b. too_large (record x { place = next_place side x.place s.fields; content = if b then content_behind_large side x.place x.content status else x.content })) plain.0

      by_size : (b : Bool) → nat_lt (section_of announced) (told_size s.fields) ≡ b → IsReadAs side announced id r kind part s x replies
      by_size true e = record {
        item_is = item.TooLarge (told_size s.fields);
        reads = ap (λ b. if b then too_large (past_large side announced x s.fields) else judged side id (with_content side announced x s.fields) replies (if_whole x.content (broken_rule side announced x.place s.fields)) (head_by announced.choices.extensions.any_protocol s.fields)) e
            ∙ large_is ∙ ap (answer_at (item.TooLarge (told_size s.fields))) place;
        of_fields = large (told_size s.fields) (told_is s.fields small) (omega (arith, above _ _ e, told_is s.fields small));
      }
      by_size false e = record {
        item_is = kind (head_of_fields s.fields);
        reads = ap (λ b. if b then too_large (past_large side announced x s.fields) else judged side id (with_content side announced x s.fields) replies (if_whole x.content (broken_rule side announced x.place s.fields)) (head_by announced.choices.extensions.any_protocol s.fields)) e
            ∙ judged_is x replies s.fields unsaid back ∙ head;
        of_fields = whole (omega (arith, at_most _ _ e, told_is s.fields small));
      }

  client_is : (b : Bool) → (s : Side) → is_client s ≡ true → s ≡ Client
  client_is b Client e = refl
  client_is b Server e = absurd (cc)

  pub reads_interim : (s : Section) (x : Incoming) (replies : List DecoderInstruction) → section_size s.fields < 2 ^ 56 → IsReadableBy (takes_any announced) side (Interim s) → x.place ≡ BeforeHead → x.content ≡ Unsaid
      → IsReadAs side announced id r item.Interim (Interim s) s x replies
  reads_interim s x replies small readable at unsaid =
      let back = readable.3 in
      let h = head_of_fields s.fields in
      let is : side ≡ Client = client_is true side readable.0 in
      read_by item.Interim (Interim s) s x replies unsaid back small
      (ap (λ p. next_place side p s.fields) at ∙ ap (λ d. next_place d BeforeHead s.fields) is
      ∙ ap (λ b. if b then BeforeHead else InBody) (interim_by_last (takes_any announced) s.fields back ∙ readable.2) ∙ sym at)
      (ap (λ p. head_or_trailer side id x replies None p h) at
      ∙ ap (λ b. if not b then malformed id malformation.WrongSide x replies else (if is_client side && is_interim h.status then item_at (item.Interim h) x else item_at (item.Head h) (record x { place = InBody }))) readable.1
      ∙ ap (λ b. if b && is_interim h.status then item_at (item.Interim h) x else item_at (item.Head h) (record x { place = InBody })) readable.0
      ∙ ap (λ b. if b then item_at (item.Interim h) x else item_at (item.Head h) (record x { place = InBody })) readable.2)
      (λ size e large. (e, large))
      (λ fits. (refl, fits))
    where
      item_at : Item → Incoming → Pulled
      item_at i y = record { answer = pull.Item i; incoming = y; replies = replies }

  pub reads_head : (s : Section) (x : Incoming) (replies : List DecoderInstruction) → section_size s.fields < 2 ^ 56 → IsReadableBy (takes_any announced) side (Head s) → x.place ≡ BeforeHead → x.content ≡ Unsaid
      → IsReadAs side announced id r item.Head (Head s) s x replies
  reads_head s x replies small readable at unsaid =
      let back = readable.2 in
      let h = head_of_fields s.fields in
      read_by item.Head (Head s) s x replies unsaid back small
      (ap (λ p. next_place side p s.fields) at ∙ by_side side readable.1)
      (ap (λ p. head_or_trailer side id x replies None p h) at
      ∙ ap (λ b. if not b then malformed id malformation.WrongSide x replies else (if is_client side && is_interim h.status then item_at (item.Interim h) x else item_at (item.Head h) (record x { place = InBody }))) readable.0
      ∙ ap (λ b. if b then item_at (item.Interim h) x else item_at (item.Head h) (record x { place = InBody })) readable.1)
      (λ size e large. (e, large))
      (λ fits. (refl, fits))
    where
      item_at : Item → Incoming → Pulled
      item_at i y = record { answer = pull.Item i; incoming = y; replies = replies }

      by_side : (d : Side) → (is_client d && is_interim (head_of_fields s.fields).status) ≡ false → next_place d BeforeHead s.fields ≡ InBody
      by_side Client e = ap (λ b. if b then BeforeHead else InBody) (interim_by_last (takes_any announced) s.fields readable.2 ∙ e)
      by_side Server e = refl

  pub reads_trailer : (s : Section) (x : Incoming) (replies : List DecoderInstruction) → section_size s.fields < 2 ^ 56 → IsReadableBy (takes_any announced) side (Trailer s) → x.place ≡ InBody → x.content ≡ Unsaid
      → IsReadAs side announced id r item.Trailer (Trailer s) s x replies
  reads_trailer s x replies small readable at unsaid =
      let back = readable.1 in
      let h = head_of_fields s.fields in
      read_by item.Trailer (Trailer s) s x replies unsaid back small
      (ap (λ p. next_place side p s.fields) at ∙ by_side side)
      (ap (λ p. head_or_trailer side id x replies None p h) at
      ∙ ap (λ b. if b then malformed id malformation.PseudoInTrailer x replies else item_at (item.Trailer h) (record x { place = AfterTrailer })) readable.0)
      (λ size e large. (e, large))
      (λ fits. (refl, fits))
    where
      item_at : Item → Incoming → Pulled
      item_at i y = record { answer = pull.Item i; incoming = y; replies = replies }

      by_side : (d : Side) → next_place d InBody s.fields ≡ AfterTrailer
      by_side Client = refl
      by_side Server = refl

module _ (side : Side) (announced : Announced) (id : ℕ) (r : DecoderState) where
  -- its fields were decoded
  decoded_comes : (kind : header.Head → Item) (f : Flow) (came : ℕ) (part : Part) (s : Section) (i : Incoming) → IsAtSection kind f part s i → s.count ≤ came
      → IsReadAs side announced id r kind part s (past_section i) (acknowledgment id s.count)
      → ComesTo (section_of announced) id f came (Some part) (decoded side announced id r i (Fields s.fields s.count))
  decoded_comes kind f came part s i h enough read =
      subst (ComesTo (section_of announced) id f came (Some part)) (sym read.reads)
      (HandsOut read.item_is (h.is.pause f came ∙ no_pause f came s h.own enough) (h.is.has_come (section_of announced) f read.item_is (h.own, read.of_fields)) refl (sym (h.is.replies id))
      (subst (λ g. ReceivesFlow g (placed i (place_behind i.place part))) (sym (h.is.after f read.item_is))
      (receives_behind kind f part s i (place_behind i.place part) h (ap (λ p. place_behind p part) h.place))))

  enough_is : (a b : ℕ) → nat_le a b ≡ true → a ≤ b
  enough_is a b e = grind (arith, common_steps, e)

  missing_is : (a b : ℕ) → nat_le a b ≡ false → b < a
  missing_is a b e = grind (arith, common_steps, e)

  -- A section that was tried is read as its fields were sent, whichever of them its encoder flagged.
  pub tried_plainly : (came : ℕ) (s : Section) (i : Incoming) (d : DecodedSection) → IsTriedAs came s d
      → decoded side announced id r i d ≡ decoded side announced id r i (if nat_le s.count came then Fields s.fields s.count else Missing s.count)
  tried_plainly came s i d h = ap (decoded side announced id r i) h.is ∙ by_test (nat_le s.count came)
    where
      by_test : (b : Bool) → decoded side announced id r i (if b then Fields (map (guarded h.guards) s.fields) s.count else Missing s.count) ≡ decoded side announced id r i (if b then Fields s.fields s.count else Missing s.count)
      by_test true = guarded_sections_read h.guards side announced id r (past_section i) (acknowledgment id s.count) s.fields
      by_test false = refl

  -- **A section whose frame was read now.**
  pub first_try : (kind : header.Head → Item) (f : Flow) (came : ℕ) (part : Part) (s : Section) (i : Incoming) → IsAtSection kind f part s i → i.section ≡ Some s.encoded → i.waits_for ≡ 0
      → IsTriedAs came s (decode_section r s.encoded)
      → IsReadAs side announced id r kind part s (past_section i) (acknowledgment id s.count)
      → ComesTo (section_of announced) id f came (Some part) (at_section side announced id r i s.encoded)
  first_try kind f came part s i h framed waits decodes read =
      subst (ComesTo (section_of announced) id f came (Some part))
      (sym (ap (λ b. if b then just (pull.Waiting i.waits_for) i else decoded side announced id r i (decode_section r s.encoded)) (le-ltb r.table.inserted i.waits_for (omega (arith, waits)))
      ∙ tried_plainly came s i (decode_section r s.encoded) decodes))
      (by_count (nat_le s.count came) refl)
    where
      by_count : (b : Bool) → nat_le s.count came ≡ b → ComesTo (section_of announced) id f came (Some part) (decoded side announced id r i (if b then Fields s.fields s.count else Missing s.count))
      by_count true e = decoded_comes kind f came part s i h (enough_is s.count came e) read
      by_count false e =
          let g : Flow = record f { waits_for = s.count } in
          let j : Incoming = record (tried i) { waits_for = s.count } in
          let none : (i.waits_for == 0) ≡ true = ap (λ n. n == 0) waits in
          subst (ComesTo (section_of announced) id f came (Some part))
          (sym (ap (λ b. if b then just (pull.Waiting s.count) j else connection_fault decompression_failed (past_section i)) none))
          (Pauses (pull.Waiting s.count) (h.is.pause f came ∙ a_pause f came s h.own (missing_is s.count came e)) refl refl
          (receives_on f g i j h.on refl refl refl refl refl refl (h.on.goes_on ∙ sym h.on.not_over) refl (record {
            unread = stands_at g i.body_left (next_part f) (section_frame i.section ++ concat i.unread ++ drop f.delivered (flow_bytes f)) h.body_left h.out
                (ap (λ o. section_frame o ++ concat i.unread ++ drop f.delivered (flow_bytes f)) framed
                ∙ append_assoc (frame_encoding 1 s.encoded) (concat i.unread) (drop f.delivered (flow_bytes f))
                ∙ ap (λ l. frame_encoding 1 s.encoded ++ l) h.unread ∙ sym h.front);
            waits = subst (λ o. WaitsIn g j o (section_of_part (next_part f))) (sym framed)
                (subst (λ o. WaitsIn g j (Some s.encoded) (section_of_part o)) (sym h.next)
                (subst (WaitsIn g j (Some s.encoded)) (sym h.is.section)
                (refl, omega (arith, missing_is s.count came e), refl, ap (λ b. if b then 1 else i.tries + 1) none)));
            pieces = h.pieces;
            place = h.place;
            content = h.content;
          })))

  -- **A section for whose insertions the last pull waited.**
  pub next_try : (kind : header.Head → Item) (f : Flow) (came : ℕ) (part : Part) (s : Section) (i : Incoming) → IsAtSection kind f part s i → i.waits_for ≡ s.count → r.table.inserted ≡ came
      → ReceivesFlow (record f { waits_for = s.count }) i
      → IsTriedAs came s (decode_section r s.encoded)
      → IsReadAs side announced id r kind part s (past_section i) (acknowledgment id s.count)
      → ComesTo (section_of announced) id f came (Some part) (at_section side announced id r i s.encoded)
  next_try kind f came part s i h waits inserted same decodes read = by_test (nat_lt r.table.inserted i.waits_for) refl
    where
      by_test : (b : Bool) → nat_lt r.table.inserted i.waits_for ≡ b
          → ComesTo (section_of announced) id f came (Some part) (if b then just (pull.Waiting i.waits_for) i else decoded side announced id r i (decode_section r s.encoded))
      by_test true e =
          Pauses (pull.Waiting i.waits_for) (h.is.pause f came ∙ a_pause f came s h.own (omega (arith, above_is _ _ e, waits, inserted)) ∙ ap (λ n. Some (pull.Waiting n)) (sym waits)) refl refl
          (subst (λ n. ReceivesFlow (record f { waits_for = n }) i) (sym waits) same)
        where
          above_is : (a b : ℕ) → nat_lt a b ≡ true → a < b
          above_is a b x = grind (arith, common_steps, x)
      by_test false e =
          let enough : s.count ≤ came = omega (arith, below_is _ _ e, waits, inserted) in
          subst (ComesTo (section_of announced) id f came (Some part))
          (sym (tried_plainly came s i (decode_section r s.encoded) decodes
          ∙ ap (λ b. decoded side announced id r i (if b then Fields s.fields s.count else Missing s.count)) (le-leb s.count came enough)))
          (decoded_comes kind f came part s i h enough read)
        where
          below_is : (a b : ℕ) → nat_lt a b ≡ false → b ≤ a
          below_is a b x = grind (arith, common_steps, x)
