-- The field for which a list is refused that is to be sent (RFC 9114, sections 4.2, 4.3 and 10.3).
use Rattle.std.specs.Prelude.{◌⊎◌, List, Option, Some}
use Rattle.h3_field.specs.Field.{Field}
use Rattle.h3_header.specs.declared.headers.judge.BadPart.TheVariants as part
use Rattle.h3_messages.specs.InvalidField.{HasInvalidPart, HasSpacedValue}
use Rattle.h3_proto.specs.declared.config.Choices.{Choices}
use Rattle.h3_connection.specs.declared.event.Malformation.TheVariants as malformation
use Rattle.h3_connection.specs.declared.event.Refusal.{Refusal}
use Rattle.h3_connection.specs.declared.event.Refusal.TheVariants as refusal

-- A list that is refused for a name has a first invalid field, and its name is malformed. One that is refused for a value has a first invalid
-- field, and its value is malformed; or none of its fields is invalid, and it has a first one with white space around its value.
abbrev pub NamesField : Option Refusal → Choices → List Field → Type 0
NamesField (Some (refusal.Malformed malformation.Name)) choices fields =
    HasInvalidPart choices.extensions.any_protocol choices.strict_messages fields part.Name
NamesField (Some (refusal.Malformed malformation.Value)) choices fields =
    HasInvalidPart choices.extensions.any_protocol choices.strict_messages fields part.Value
    ⊎ HasSpacedValue choices.extensions.any_protocol choices.strict_messages fields
NamesField _ choices fields = Unit {0}
