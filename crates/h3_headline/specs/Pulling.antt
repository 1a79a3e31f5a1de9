-- What a pull of a request stream comes to, by where its receiver stands.
use Rattle.std.proofs.Common.{◌≡◌, ℕ, [], Option, Some, None, false, ◌+◌, List, ◌++◌, length, drop, ◌-◌, take, ◌≤◌, ◌<◌, true, ◌^◌, if◌then◌else◌}
use Rattle.h3_connection.specs.Pulling.{Pulled, acknowledgment, past_section, read_section}
use Rattle.h3_connection.specs.declared.event.Item.{Item}
use Rattle.h3_connection.specs.declared.event.Pull.{Pull}
use Rattle.h3_connection.specs.declared.event.Pull.TheVariants as pull
use Rattle.h3_world.specs.Flow.{Flow, Part, part_bytes, flow_bytes, Section}
use Rattle.h3_world.specs.Items.{HasCome, acknowledgment_of, after_item, body_there, SectionHasCome, IsSectionItem}
use Rattle.h3_world.specs.Machine.{count_waited_for}
use Rattle.h3_world.specs.Pauses.{pause_before, section_pause}
use Rattle.h3_connection.specs.Incoming.{Incoming}
use Rattle.h3_world.specs.Order.{is_over, next_part, is_end, section_of_part}
use Rattle.std.specs.List.{AllByRecursion, concat, flat_map}
use Rattle.h3_messages.specs.declared.content.Content.TheVariants.{Unsaid}
use Rattle.h3_world.specs.World.{Party}
use Rattle.h3_world.specs.Sound.{IsSoundFlow}
use Rattle.h3_world.specs.Flow.Part.{Body, Head, Interim, Trailer}
use Rattle.h3_world.specs.Setup.{takes_any}
use Rattle.h3_header.specs.Head as header
use Rattle.h3_field.specs.Field.{section_size}
use Rattle.h3_frames.specs.Encoded.{frame_encoding}
use Rattle.h3_connection.specs.declared.place.Place.{Place}
use Rattle.h3_field.specs.Instruction.{DecoderInstruction}
use Rattle.h3_qpack.specs.DecoderState.{DecoderState}
use Rattle.h3_proto.specs.declared.stream.Side.{Side}
use Rattle.h3_connection.specs.Announcing.{section_of}
use Rattle.h3_connection.specs.declared.setup.Announced.{Announced}
use Rattle.std.specs.Prelude.{Bool, map, nat_le}
use Rattle.h3_field.specs.Secret.{guarded}
use Rattle.h3_qpack.specs.DecodedSection.{DecodedSection, Fields, Missing, decode_section}
use Rattle.h3_connection.specs.declared.place.Place.TheVariants.{InSession}
use Rattle.h3_headline.specs.Cited.{ListsAreTheirValue}
use Rattle.h3_headline.specs.Standing.{HasBytes, IsReadableBy, ReceivesFlow, place_after, place_behind}

-- The pull pauses exactly where it must, or hands out an item that has come; and its receiver keeps what is kept then.
pub data ComesTo (most id : ℕ) (f : Flow) (came : ℕ) (part : Option Part) (p : Pulled) : Type 0 where
  Pauses : (q : Pull) → pause_before f came part ≡ Some q → p.answer ≡ q → p.replies ≡ [] → ReceivesFlow (record f { waits_for = count_waited_for q }) p.incoming
      → ComesTo most id f came part p
  HandsOut : (i : Item) → pause_before f came part ≡ None → HasCome most f part i → p.answer ≡ pull.Item i → p.replies ≡ acknowledgment_of id part → ReceivesFlow (after_item f part i) p.incoming
      → ComesTo most id f came part p

-- What is the same of a receiver whose pull goes on: it was not given up, and its end was not handed out.
pub record GoesOn (f : Flow) (i : Incoming) : Type 0 where
  pub alive : f.fault ≡ None
  pub fault : i.fault ≡ None
  pub ended : i.ended ≡ f.ended
  pub was_reset : i.was_reset ≡ f.reset_came
  pub goes_on : i.is_over ≡ false
  pub not_over : is_over f ≡ false

pub record IsLonger (some more front rest : List ℕ) : Type 0 where
  pub front_is : some ≡ front ++ drop (length front) some
  pub rest_is : drop (length front) some ++ more ≡ rest

-- a receiver that has these bytes unread
abbrev pub with_unread : Incoming → List (List ℕ) → Incoming
with_unread i pieces = record i { unread = pieces }

-- A receiver in front of a part of which no byte was read apart from the others.
pub record IsBefore (p : Party) (f : Flow) (i : Incoming) : Type 0 where
  pub on : GoesOn f i
  pub sound : IsSoundFlow p f
  pub section : i.section ≡ None
  pub body_left : i.body_left ≡ 0
  pub out : f.body_out ≡ 0
  pub unread : concat i.unread ++ drop f.delivered (flow_bytes f) ≡ flat_map part_bytes (drop f.parts_out f.sent)
  pub waits : i.waits_for ≡ 0
  pub no_wait : f.waits_for ≡ 0
  pub pieces : AllByRecursion HasBytes i.unread
  pub place : i.place ≡ place_after (take f.parts_out f.sent)
  pub content : i.content ≡ Unsaid
  pub same : ReceivesFlow f i

abbrev pub before_bytes : Flow → ℕ
before_bytes f = length (flat_map part_bytes (take f.parts_out f.sent))

-- A receiver inside a piece of the body: how much is left of it, what of that came, and what follows.
pub record IsInPiece (f : Flow) (bytes : List ℕ) (own : ℕ) (i : Incoming) : Type 0 where
  pub on : GoesOn f i
  pub next : next_part f ≡ Some (Body bytes own)
  pub size : i.body_left ≡ length (drop f.body_out bytes)
  pub some : 0 < length (drop f.body_out bytes)
  pub out : f.body_out ≤ length bytes
  pub unread : concat i.unread ++ drop f.delivered (flow_bytes f) ≡ drop f.body_out bytes ++ flat_map part_bytes (drop (f.parts_out + 1) f.sent)
  pub there : body_there f bytes own ≡ length (concat i.unread)
  pub section : i.section ≡ None
  pub pieces : AllByRecursion HasBytes i.unread
  pub place : i.place ≡ place_after (take f.parts_out f.sent)
  pub content : i.content ≡ Unsaid
  pub place_next : place_after (take (f.parts_out + 1) f.sent) ≡ place_after (take f.parts_out f.sent)
  pub waits : i.waits_for ≡ 0
  -- once the end came all bytes did
  pub whole : f.ended ≡ true → drop f.delivered (flow_bytes f) ≡ []

-- A front of what is left was handed out.
abbrev pub after_front : Incoming → List ℕ → List (List ℕ) → Incoming
after_front i front pieces = record i { unread = pieces; body_left = i.body_left - length front }

pub record IsFront (i : Incoming) (front : List ℕ) (pieces : List (List ℕ)) : Type 0 where
  pub some : 0 < length front
  pub within : length front ≤ i.body_left
  pub unread : concat i.unread ≡ front ++ concat pieces
  pub kept : AllByRecursion HasBytes pieces

-- the flow behind the section
abbrev pub behind_section : Flow → Flow
behind_section f = record f { parts_out = f.parts_out + 1; waits_for = 0 }

-- The part is this section, which is handed out as such an item.
pub record IsSectionPart (kind : header.Head → Item) (s : Section) (part : Part) : Type 0 where
  pub replies : (id : ℕ) → acknowledgment_of id (Some part) ≡ acknowledgment id s.count
  pub pause : (f : Flow) (came : ℕ) → pause_before f came (Some part) ≡ section_pause f came s
  pub after : (f : Flow) (i : Item) → after_item f (Some part) i ≡ behind_section f
  pub more : is_end (Some part) ≡ false
  pub section : section_of_part (Some part) ≡ Some s
  pub has_come : (most : ℕ) (f : Flow) (i : Item) → SectionHasCome kind most f s i → HasCome most f (Some part) i

-- The section is at hand: its frame was read, and what follows it is unread.
pub record IsAtSection (kind : header.Head → Item) (f : Flow) (part : Part) (s : Section) (i : Incoming) : Type 0 where
  pub on : GoesOn f i
  pub next : next_part f ≡ Some part
  pub is : IsSectionPart kind s part
  pub own : s.own_length ≤ f.delivered
  pub small : section_size s.fields < 2 ^ 56
  pub body_left : i.body_left ≡ 0
  pub out : f.body_out ≡ 0
  pub front : flat_map part_bytes (drop f.parts_out f.sent) ≡ frame_encoding 1 s.encoded ++ flat_map part_bytes (drop (f.parts_out + 1) f.sent)
  pub unread : concat i.unread ++ drop f.delivered (flow_bytes f) ≡ flat_map part_bytes (drop (f.parts_out + 1) f.sent)
  pub pieces : AllByRecursion HasBytes i.unread
  pub place : i.place ≡ place_after (take f.parts_out f.sent)
  pub content : i.content ≡ Unsaid
  pub place_next : place_after (take (f.parts_out + 1) f.sent) ≡ place_behind (place_after (take f.parts_out f.sent)) part

-- its receiver at a place
abbrev pub placed : Incoming → Place → Incoming
placed i place = record (past_section i) { place = place }

-- What a section that was decoded is read as.
pub record IsReadAs (side : Side) (announced : Announced) (id : ℕ) (r : DecoderState) (kind : header.Head → Item) (part : Part) (s : Section) (x : Incoming) (replies : List DecoderInstruction) : Type 0 where
  pub item_is : Item
  pub reads : read_section side announced id r x replies s.fields ≡ record { answer = pull.Item item_is; incoming = record x { place = place_behind x.place part }; replies = replies }
  pub of_fields : IsSectionItem kind (section_of announced) s.fields item_is

-- what the decoder makes of the section: its fields, as the encoder took them, or that it misses insertions
abbrev pub tried_as : Bool → ℕ → Section → DecodedSection
tried_as guards came s = if nat_le s.count came then Fields (map (guarded guards) s.fields) s.count else Missing s.count

-- One of both is made of it.
pub record IsTriedAs (came : ℕ) (s : Section) (d : DecodedSection) : Type 0 where
  pub guards : Bool
  pub is : d ≡ tried_as guards came s

module _ (lists : ListsAreTheirValue) (side : Side) (announced : Announced) (id : ℕ) (r : DecoderState) (came : ℕ) where
  -- what the decoder makes of the section that is next
  abbrev pub DecodesNext : Option Part → Type 0
  DecodesNext (Some (Interim s)) = IsTriedAs came s (decode_section r s.encoded)
  DecodesNext (Some (Head s)) = IsTriedAs came s (decode_section r s.encoded)
  DecodesNext (Some (Trailer s)) = IsTriedAs came s (decode_section r s.encoded)
  DecodesNext _ = Unit {0}

  -- the same where it is known whether the secrets among its fields were guarded
  abbrev pub DecodesNextAs : Bool → Option Part → Type 0
  DecodesNextAs guards (Some (Interim s)) = decode_section r s.encoded ≡ tried_as guards came s
  DecodesNextAs guards (Some (Head s)) = decode_section r s.encoded ≡ tried_as guards came s
  DecodesNextAs guards (Some (Trailer s)) = decode_section r s.encoded ≡ tried_as guards came s
  DecodesNextAs guards _ = Unit {0}

  abbrev pub IsReadableNext : Option Part → Type 0
  IsReadableNext None = Unit {0}
  IsReadableNext (Some part) = IsReadableBy (takes_any announced) side part

-- a message is in no session
abbrev pub IsInMessage : Place → Type 0
IsInMessage InSession = ⊥
IsInMessage _ = Unit {0}
