-- What is known of a response behind a section that came is what the rules say of its list at its place.
use Rattle.std.proofs.Common.{◌≡◌, Bool, true, false, if◌then◌else◌, List, Option, refl, ap, ◌∙◌}
use Rattle.h3_connection.specs.StrictMessages.{response_behind}
use Rattle.h3_connection.specs.declared.place.Place.{Place}
use Rattle.h3_connection.specs.declared.place.Place.TheVariants.{BeforeHead, InBody, AfterTrailer, InSession}
use Rattle.h3_field.specs.Field.{Field}
use Rattle.h3_incoming.specs.Received.{response_by, section_at}
use Rattle.h3_messages.specs.Judging.{said_by_section}
use Rattle.h3_messages.specs.declared.content.Content.{Content}
use Rattle.h3_messages.specs.declared.said.Said.{Said}
use Rattle.h3_messages.specs.declared.said.Said.TheVariants.{Nothing}
use Rattle.h3_proto.specs.declared.stream.Side.{Side}
use Rattle.h3_proto.specs.declared.stream.Side.TheVariants.{Client, Server}

module _ (fields : List Field) where
  abbrev pub SaidBy : Bool → Side → Place → Said
  SaidBy strict side place = if strict then said_by_section (section_at side place) false fields else Nothing

  response_told : (strict : Bool) (side : Side) (place : Place) (known : Option Content)
      → response_by known (SaidBy strict side place) ≡ (if strict then response_behind side place known fields else known)
  response_told false side place known = refl
  response_told true Client BeforeHead known = refl
  response_told true Server BeforeHead known = refl
  response_told true side InBody known = refl
  response_told true side AfterTrailer known = refl
  response_told true side InSession known = refl

  pub response_is : (strict : Bool) (side : Side) (place : Place) (known : Option Content) (said : Said) → said ≡ SaidBy strict side place
      → response_by known said ≡ (if strict then response_behind side place known fields else known)
  response_is strict side place known said same = ap (response_by known) same ∙ response_told strict side place known
