-- What a section is read as rests on the names and values of its fields alone, whichever flags they came with.
use Rattle.std.proofs.Common.{◌≡◌, ℕ, ◌-◌, ◌^◌, Bool, true, false, ◌&&◌, List, [], ◌∷◌, codes, map, min, nat_lt, if◌then◌else◌, Option, Some, None, refl, ap, ap₂, ◌∙◌}
use Rattle.std.specs.Prelude.{fold, option_map}
use Rattle.h3_field.specs.Field.{Field, flagged, with_flags}
use Rattle.h3_field.specs.Secret.{is_secret, guarded}
use Rattle.h3_field.specs.Instruction.{DecoderInstruction}
use Rattle.h3_qpack.specs.DecoderState.{DecoderState}
use Rattle.h3_qpack.specs.Sizes.{told_size, value_after, last_value}
use Rattle.h3_header.specs.FlagLaws.{flags_are_not_read}
use Rattle.h3_messages.specs.FlagLaws.{requests_alike, responses_alike, trailers_alike, request_content_alike, response_content_alike, awaited_alike}
use Rattle.h3_messages.specs.declared.content.Content.{Content}
use Rattle.h3_proto.specs.declared.stream.Side.{Side}
use Rattle.h3_proto.specs.declared.stream.Side.TheVariants.{Client, Server}
use Rattle.h3_connection.specs.Announcing.{connects, section_of}
use Rattle.h3_connection.specs.FlagLaws.{sizes_alike}
use Rattle.h3_connection.specs.Incoming.{Incoming}
use Rattle.h3_connection.specs.Pulling.{is_interim_text, next_place, judged, read_section}
use Rattle.h3_connection.specs.StrictMessages.{malformation_by, violation_of_head, violation_at, content_behind, response_of_head, response_behind, content_behind_large, if_whole, content_read}
use Rattle.h3_connection.specs.declared.event.Item.TheVariants as item
use Rattle.h3_connection.specs.declared.event.Pull.TheVariants as pull
use Rattle.h3_connection.specs.declared.place.Place.{Place}
use Rattle.h3_connection.specs.declared.place.Place.TheVariants.{BeforeHead, InBody, AfterTrailer, InSession}
use Rattle.h3_connection.specs.declared.setup.Announced.{Announced}
use Rattle.h3_messages.specs.Content.{until_answered}

module _ (flag : Field → Bool) where
  told_alike : (fields : List Field) → told_size (with_flags flag fields) ≡ told_size fields
  told_alike fields = ap (min (2 ^ 64 - 1)) (sizes_alike flag fields)

  last_from : (name : List ℕ) (last : Option (List ℕ)) (fields : List Field) → fold (value_after name) last (with_flags flag fields) ≡ fold (value_after name) last fields
  last_from name last [] = refl
  last_from name last (f ∷ fields) = last_from name (value_after name last f) fields

  last_alike : (name : List ℕ) (fields : List Field) → last_value name (with_flags flag fields) ≡ last_value name fields
  last_alike name fields = last_from name None fields

  places_alike : (side : Side) (place : Place) (fields : List Field) → next_place side place (with_flags flag fields) ≡ next_place side place fields
  places_alike Client BeforeHead fields = ap (λ last. if is_interim_text last then BeforeHead else InBody) (last_alike (codes ":status") fields)
  places_alike Client InBody fields = refl
  places_alike Client AfterTrailer fields = refl
  places_alike Client InSession fields = refl
  places_alike Server BeforeHead fields = refl
  places_alike Server InBody fields = refl
  places_alike Server AfterTrailer fields = refl
  places_alike Server InSession fields = refl

  heads_broken_alike : (side : Side) (own : Announced) (fields : List Field) → violation_of_head side own (with_flags flag fields) ≡ violation_of_head side own fields
  heads_broken_alike Client own fields = responses_alike flag fields
  heads_broken_alike Server own fields = requests_alike flag (connects own) fields

  broken_alike : (side : Side) (own : Announced) (place : Place) (fields : List Field) → violation_at side own place (with_flags flag fields) ≡ violation_at side own place fields
  broken_alike side own BeforeHead fields = heads_broken_alike side own fields
  broken_alike side own InBody fields = trailers_alike flag fields
  broken_alike side own AfterTrailer fields = trailers_alike flag fields
  broken_alike side own InSession fields = trailers_alike flag fields

  contents_read_alike : (side : Side) (before : Content) (fields : List Field) → content_read side before (with_flags flag fields) ≡ content_read side before fields
  contents_read_alike Client before fields = response_content_alike flag before fields
  contents_read_alike Server before fields = ap until_answered (request_content_alike flag fields)

  contents_alike : (side : Side) (place : Place) (before : Content) (fields : List Field) → content_behind side place before (with_flags flag fields) ≡ content_behind side place before fields
  contents_alike side BeforeHead before fields = contents_read_alike side before fields
  contents_alike side InBody before fields = refl
  contents_alike side AfterTrailer before fields = refl
  contents_alike side InSession before fields = refl

  responses_of_head_alike : (side : Side) (known : Option Content) (fields : List Field) → response_of_head side known (with_flags flag fields) ≡ response_of_head side known fields
  responses_of_head_alike Client known fields = refl
  responses_of_head_alike Server known fields = ap (λ c. Some c) (awaited_alike flag fields)

  responses_known_alike : (side : Side) (place : Place) (known : Option Content) (fields : List Field) → response_behind side place known (with_flags flag fields) ≡ response_behind side place known fields
  responses_known_alike side BeforeHead known fields = responses_of_head_alike side known fields
  responses_known_alike side InBody known fields = refl
  responses_known_alike side AfterTrailer known fields = refl
  responses_known_alike side InSession known fields = refl

-- what a pull makes of the fields of a section, its answer and its receiver
pub sections_read_alike : (flag : Field → Bool) (side : Side) (own : Announced) (id : ℕ) (r : DecoderState) (i : Incoming) (replies : List DecoderInstruction) (fields : List Field)
    → read_section side own id r i replies (with_flags flag fields) ≡ read_section side own id r i replies fields
sections_read_alike flag side own id r i replies fields =
    let strict = own.choices.strict_messages in
    λ j.
    if nat_lt (section_of own) (told_alike flag fields j)
    then record {
      answer = pull.Item (item.TooLarge (told_alike flag fields j));
      incoming = record i {
        place = places_alike flag side i.place fields j;
        content = if strict then content_behind_large side i.place i.content (last_alike flag (codes ":status") fields j) else i.content;
      };
      replies = replies;
    }
    else judged side id
    (record i {
      content = if strict then contents_alike flag side i.place i.content fields j else i.content;
      response = if strict then responses_known_alike flag side i.place i.response fields j else i.response;
    })
    replies
    (if_whole i.content (if strict then option_map malformation_by (broken_alike flag side own i.place fields j) else None))
    (flags_are_not_read own.choices.extensions.any_protocol flag fields j)

-- a guarded field has its own flag or that of a secret
guarded_alike : (guards : Bool) (f : Field) → guarded guards f ≡ flagged f (if guards && is_secret f then true else f.never_indexed)
guarded_alike guards f = by_test (guards && is_secret f)
  where
    by_test : (b : Bool) → (if b then flagged f true else f) ≡ flagged f (if b then true else f.never_indexed)
    by_test true = refl
    by_test false = refl

lists_alike : (guards : Bool) (fields : List Field) → map (guarded guards) fields ≡ with_flags (λ f. if guards && is_secret f then true else f.never_indexed) fields
lists_alike guards [] = refl
lists_alike guards (f ∷ fields) = ap₂ (λ g gs. g ∷ gs) (guarded_alike guards f) (lists_alike guards fields)

-- So whether its encoder guarded secrets changes nothing of what is handed out.
pub guarded_sections_read : (guards : Bool) (side : Side) (own : Announced) (id : ℕ) (r : DecoderState) (i : Incoming) (replies : List DecoderInstruction) (fields : List Field)
    → read_section side own id r i replies (map (guarded guards) fields) ≡ read_section side own id r i replies fields
guarded_sections_read guards side own id r i replies fields =
    ap (read_section side own id r i replies) (lists_alike guards fields) ∙ sections_read_alike (λ f. if guards && is_secret f then true else f.never_indexed) side own id r i replies fields
