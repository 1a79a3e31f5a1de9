-- A list that is refused for a name or a value has a field whose index is told.
use Rattle.std.proofs.Common.{◌≡◌, true, List, Some, ap, inl, inr}
use Rattle.std.specs.Prelude.{is_some}
use Rattle.h3_field.specs.Field.{Field}
use Rattle.h3_proto.specs.declared.config.Choices.{Choices}
use Rattle.h3_messages.specs.InvalidField.{invalid_field}
use Rattle.h3_connection.specs.declared.event.Malformation.TheVariants as malformation
use Rattle.h3_connection.specs.declared.event.Refusal.TheVariants as refusal
use Rattle.h3_session.specs.InvalidFields.{NamesField}

module _ (choices : Choices) (fields : List Field) where
  pub name_is_there : NamesField (Some (refusal.Malformed malformation.Name)) choices fields → is_some (invalid_field choices.extensions.any_protocol choices.strict_messages fields) ≡ true
  name_is_there h = ap is_some h.told

  pub value_is_there : NamesField (Some (refusal.Malformed malformation.Value)) choices fields → is_some (invalid_field choices.extensions.any_protocol choices.strict_messages fields) ≡ true
  value_is_there (inl h) = ap is_some h.told
  value_is_there (inr h) = ap is_some h.told
