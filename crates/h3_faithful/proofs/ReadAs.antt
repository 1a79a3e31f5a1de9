-- What is handed out of a message is what its reader reads of it, and all of it is as long.
use Rattle.std.proofs.Common.{◌≡◌, Bool, true, false, suc, List, [], ◌∷◌, if◌then◌else◌, refl, ap, ◌∙◌}
use Rattle.std.specs.Prelude.{◌&&◌, ◌||◌, length, map}
use Rattle.h3_field.specs.Field.{Field, flagged}
use Rattle.h3_field.specs.Secret.{guarded, is_secret}
use Rattle.h3_header.specs.Head.{head_fields}
use Rattle.h3_proto.specs.declared.stream.Side.{Side}
use Rattle.h3_world.specs.Setup.{Setup}
use Rattle.h3_headline.specs.Exactly.{IsAllOf, IsExactly, reader_at}
use Rattle.h3_headline.specs.Messages.{IsFrontOf, MessageContent}
use Rattle.h3_headline.specs.Messages.MessageContent.{Byte, FieldSection, TooLarge}
use Rattle.h3_faithful.specs.Reading.{IsReadAs, with_secrets_flagged}
use Rattle.h3_faithful.proofs.HeaderRead.{header_read}

or_false : (b : Bool) → b ≡ (b || false)
or_false true = refl
or_false false = refl

-- a secret's flag
flag_is : (f : Field) (secret : Bool) → (if secret then flagged f true else f) ≡ record f { never_indexed = f.never_indexed || secret }
flag_is f false = ap (λ b. record f { never_indexed = b }) (or_false f.never_indexed)
flag_is f true = ap (λ b. record f { never_indexed = b }) (always f.never_indexed)
  where
    always : (b : Bool) → true ≡ (b || true)
    always true = refl
    always false = refl

flags_are : (guards : Bool) (fields : List Field) → map (guarded guards) fields ≡ with_secrets_flagged guards fields
flags_are guards [] = refl
flags_are guards (f ∷ fields) = ap (λ g. g ∷ map (guarded guards) fields) (flag_is f (guards && is_secret f)) ∙ ap (λ l. record f { never_indexed = f.never_indexed || guards && is_secret f } ∷ l) (flags_are guards fields)

read_as : (setup : Setup) (side : Side) (c d : MessageContent) → IsExactly (reader_at setup side) c d → IsReadAs setup side c d
read_as setup side (FieldSection kind true given) (FieldSection k l fields) h = (h.0, h.2, h.1 ∙ flags_are (reader_at setup side).guards fields)
read_as setup side (FieldSection kind false given) (FieldSection k l fields) h = (h.0, h.2, h.1 ∙ ap head_fields (header_read fields))
read_as setup side (TooLarge size) (FieldSection k l fields) h = h
read_as setup side (Byte b) (Byte c) h = h
read_as setup side c d h = absurd h

pub front_read : (setup : Setup) (side : Side) (handed all : List MessageContent) → IsFrontOf (IsExactly (reader_at setup side)) handed all → IsFrontOf (IsReadAs setup side) handed all
front_read setup side [] all h = tt
front_read setup side (c ∷ handed) (d ∷ all) h = (read_as setup side c d h.0, front_read setup side handed all h.1)
front_read setup side (c ∷ handed) [] h = h

pub as_long : (R : MessageContent → MessageContent → Type 0) (handed all : List MessageContent) → IsAllOf R handed all → length handed ≡ length all
as_long R [] [] h = refl
as_long R (c ∷ handed) (d ∷ all) h = ap suc (as_long R handed all h.1)
as_long R [] (d ∷ all) h = absurd h
as_long R (c ∷ handed) [] h = absurd h
