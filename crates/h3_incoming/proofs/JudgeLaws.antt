-- What a field section is at its place.
use Rattle.std.proofs.Common.{◌≡◌, ℕ, ◌<◌, ◌≤◌, false, nat_lt, if◌then◌else◌, List, refl, ap, sym, ◌∙◌, subst}
use Rattle.std.proofs.lemmas.Bool.{lt-ltb, le-ltb}
use Rattle.std.specs.Prelude.{Option, Some, None, IfSome, option_map, codes, Bool}
use Rattle.h3_field.specs.Field.{Field}
use Rattle.h3_field.specs.Instruction.{DecoderInstruction}
use Rattle.h3_qpack.specs.DecoderState.{DecoderState}
use Rattle.h3_header.specs.Head.{Head}
use Rattle.h3_header.specs.HeadRead.{HeadRefusal, IsHead, IsNone, head_by}
use Rattle.h3_proto.specs.declared.stream.Side.{Side}
use Rattle.h3_connection.specs.declared.event.Item.TheVariants as item
use Rattle.h3_connection.specs.declared.event.Malformation.{Malformation}
use Rattle.h3_connection.specs.declared.event.Pull.{Pull}
use Rattle.h3_connection.specs.declared.event.Pull.TheVariants as pull
use Rattle.h3_connection.specs.declared.place.Place.{Place}
use Rattle.h3_connection.specs.declared.setup.Announced.{Announced}
use Rattle.h3_connection.specs.Announcing.{section_of}
use Rattle.h3_messages.specs.declared.content.Content.{Content}
use Rattle.h3_connection.specs.StrictMessages.{broken_rule, if_whole, large_content_at, response_at}
use Rattle.h3_qpack.specs.DecodedSection.{DecodedSection, decode_section}
use Rattle.h3_connection.specs.Incoming.{Incoming}
use Rattle.h3_incoming.specs.Gives.{Gives}
use Rattle.h3_qpack.specs.Sizes.{last_value, told_size, IsBlockWithin}
use Rattle.h3_qpack.specs.declared.block_within.BlockWithin.{BlockWithin}
use Rattle.h3_qpack.specs.declared.block_within.BlockWithin.TheVariants as within
use Rattle.h3_qpack.specs.declared.block_within.SectionSummary.{SectionSummary}
use Rattle.h3_incoming.specs.declared.judge.Judged.{Judged}
use Rattle.h3_incoming.specs.declared.judge.Judged.TheVariants as judge
use Rattle.h3_incoming.specs.Judging.{judged_as}
use Rattle.h3_connection.specs.Pulling.{Pulled, is_memory, malformation_of, malformed, next_place, head_or_trailer, judged, with_content, read_section, decoded, at_section}

-- what is said of the fields that are kept is said of the section
pub judged_within : (j : Judged) (side : Side) (own : Announced) (place : Place) (content : Content) (known : Option Content) (answer : Pull) (block : List Field) (d : SectionSummary) (w : BlockWithin) → w ≡ within.Fields d
    → ((id : ℕ) (r : DecoderState) (i : Incoming) (replies : List DecoderInstruction) → told_size block ≤ section_of own → i.place ≡ place → i.content ≡ content → i.response ≡ known
    → read_section side own id r i replies block ≡ judged_as id i replies answer j)
    → (id : ℕ) (r : DecoderState) (i : Incoming) (replies : List DecoderInstruction) (dyn_ref : Bool) (fields : List Field)
    → IsBlockWithin (section_of own) (codes ":status") dyn_ref fields w block → i.place ≡ place → i.content ≡ content → i.response ≡ known → read_section side own id r i replies fields ≡ judged_as id i replies answer j
judged_within j side own place before known answer block d w is h id r i replies dyn_ref fields k at left told =
    let size = subst (λ x. IsBlockWithin (section_of own) (codes ":status") dyn_ref fields x block) is k in
    subst (λ fs. read_section side own id r i replies fs ≡ judged_as id i replies answer j) size.1 (h id r i replies (subst (λ fs. told_size fs ≤ section_of own) (sym size.1) size.0) at left told)

-- what is made of it overwrites the content
pub judged_behind : (id : ℕ) (i : Incoming) (content : Content) (known : Option Content) (replies : List DecoderInstruction) (answer : Pull) (j : Judged) → judged_as id (record i { content = content; response = known }) replies answer j ≡ judged_as id i replies answer j
judged_behind id i before known replies answer (judge.HandsOut place left told) = refl
judged_behind id i before known replies answer (judge.Malformed why told) = refl

-- why a list is malformed
pub malformed_by : (o : Option HeadRefusal) (m : Malformation) → Some m ≡ option_map malformation_of o → (P : Type 0) → ((why : HeadRefusal) → o ≡ Some why → m ≡ malformation_of why → P) → P
malformed_by (Some why) m is P given = given why refl (cc)
malformed_by None m is P given = absurd (cc)

pub no_refusal : (o : Option HeadRefusal) → None ≡ option_map malformation_of o → o ≡ None
no_refusal (Some why) is = absurd (cc)
no_refusal None is = refl

module _ (side : Side) (own : Announced) (id : ℕ) (r : DecoderState) where
  -- a section that is too large
  abbrev large_as : ℕ → Incoming → Place → Content → Option Content → List DecoderInstruction → Pulled
  large_as size i place content known replies = record { answer = pull.Item (item.TooLarge size); incoming = record i { place = place; content = content; response = known }; replies = replies }

  pub read_large : (i : Incoming) (replies : List DecoderInstruction) (fields : List Field) (place behind : Place) (content expected : Content) (known : Option Content) (size : ℕ) → section_of own < told_size fields
      → size ≡ told_size fields → i.place ≡ place → i.content ≡ content → i.response ≡ known → behind ≡ next_place side place fields → expected ≡ large_content_at side own place content (last_value (codes ":status") fields)
      → read_section side own id r i replies fields ≡ large_as size i behind expected known replies
  read_large i replies fields place behind content expected known size large is at left told next says =
      let status = last_value (codes ":status") fields in
      ap (λ b. if b then large_as (told_size fields) i (next_place side i.place fields) (large_content_at side own i.place i.content status) i.response replies else judged side id (with_content side own i fields) replies (if_whole i.content (broken_rule side own i.place fields)) (head_by own.choices.extensions.any_protocol fields)) (lt-ltb (section_of own) (told_size fields) large)
      ∙ ap (λ n. large_as n i (next_place side i.place fields) (large_content_at side own i.place i.content status) i.response replies) (sym is)
      ∙ ap (λ q. large_as size i (next_place side q fields) (large_content_at side own q i.content status) i.response replies) at
      ∙ ap (λ c. large_as size i (next_place side place fields) (large_content_at side own place c status) i.response replies) left
      ∙ ap (λ q. large_as size i q (large_content_at side own place content status) i.response replies) (sym next) ∙ ap (λ c. large_as size i behind c i.response replies) (sym says)
      ∙ ap (λ k. large_as size i behind expected k replies) told

  -- a section that is small enough, and a head
  pub read_head : (i : Incoming) (replies : List DecoderInstruction) (fields : List Field) (place : Place) (h : Head) → told_size fields ≤ section_of own
      → head_by own.choices.extensions.any_protocol fields ≡ IsHead h → i.place ≡ place → read_section side own id r i replies fields ≡ head_or_trailer side id (with_content side own i fields) replies (if_whole i.content (broken_rule side own place fields)) place h
  read_head i replies fields place h few e at =
      rw (le-ltb (section_of own) (told_size fields) few)
      (ap (judged side id (with_content side own i fields) replies (if_whole i.content (broken_rule side own i.place fields))) e
      ∙ ap (λ q. head_or_trailer side id (with_content side own i fields) replies (if_whole i.content (broken_rule side own q fields)) q h) at)

  -- and one that is no head
  pub read_none : (i : Incoming) (replies : List DecoderInstruction) (fields : List Field) (place : Place) (known response : Option Content) (m : Malformation) (why : HeadRefusal) → told_size fields ≤ section_of own
      → head_by own.choices.extensions.any_protocol fields ≡ IsNone why → m ≡ malformation_of why → i.place ≡ place → i.response ≡ known → response ≡ response_at side own place known fields
      → read_section side own id r i replies fields ≡ malformed id m (record i { response = response }) replies
  read_none i replies fields place known response m why few e is at told says =
      let kept : (with_content side own i fields).response ≡ response =
      ap (λ q. response_at side own q i.response fields) at ∙ ap (λ k. response_at side own place k fields) told ∙ sym says in
      rw (le-ltb (section_of own) (told_size fields) few)
      (ap (judged side id (with_content side own i fields) replies (if_whole i.content (broken_rule side own i.place fields))) e
      ∙ ap (λ n. malformed id n (with_content side own i fields) replies) (sym is)
      ∙ ap (λ k. malformed id m (record i { response = k }) replies) kept)

  pub tried_section : (i : Incoming) (bytes : List ℕ) (section : DecodedSection) → nat_lt r.table.inserted i.waits_for ≡ false → decode_section r bytes ≡ section
      → at_section side own id r i bytes ≡ decoded side own id r i section
  tried_section i bytes section there e = rw there (ap (decoded side own id r i) e)

  pub section_gives : (i : Incoming) (section : Option (List ℕ)) (bytes : List ℕ) (answer : Pull) (new : Incoming) (before after : List ℕ) → section ≡ Some bytes
      → (is_memory answer ≡ false → Gives (at_section side own id r i bytes) answer new before after)
      → IfSome section (λ b. is_memory answer ≡ false → Gives (at_section side own id r i b) answer new before after)
  section_gives i section bytes answer new before after e h =
      subst (λ o. IfSome o (λ b. is_memory answer ≡ false → Gives (at_section side own id r i b) answer new before after)) (sym e) h
