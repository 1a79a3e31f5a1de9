-- Which field of a list is invalid by itself, whatever stands beside it (RFC 9114, sections 4.2, 4.3 and 10.3).
use Rattle.std.specs.Prelude.{◌≡◌, ◌<◌, ℕ, Bool, true, false, List, length, take, get_or, All, if◌then◌else◌, Option, Some, None, is_some}
use Rattle.std.specs.List.{position}
use Rattle.std.specs.Option.{option_or}
use Rattle.h3_field.specs.Field.{Field}
use Rattle.h3_header.specs.BadPart.{bad_part}
use Rattle.h3_header.specs.declared.headers.judge.BadPart.{BadPart}
use Rattle.h3_messages.specs.Messages.{has_space_around}

-- its name or its value is in no field
abbrev pub is_invalid : Bool → Field → Bool
is_invalid any f = is_some (bad_part any f)

-- the first such field; in a list with none, the first with white space around its value, if the rules of messages count
abbrev pub invalid_field : Bool → Bool → List Field → Option ℕ
invalid_field any strict fields =
    option_or (position (is_invalid any) fields) (if strict then position has_space_around fields else None)

-- The field of this index is the first that breaks a rule: it does, and each field before it keeps the rule.
pub record IsFirst (keeps breaks : Field → Type 0) (fields : List Field) (index : ℕ) : Type 0 where
  pub inside : index < length fields
  pub before : All keeps (take index fields)
  pub here : (f : Field) → breaks (get_or fields index f)

-- the first invalid field of a list, which is invalid by this part of it
pub record HasInvalidPart (any strict : Bool) (fields : List Field) (bad : BadPart) : Type 0 where
  pub index : ℕ
  pub told : invalid_field any strict fields ≡ Some index
  pub first : IsFirst (λ f. bad_part any f ≡ None) (λ f. bad_part any f ≡ Some bad) fields index

-- the first field with white space around its value, of a list in which no field is invalid
pub record HasSpacedValue (any strict : Bool) (fields : List Field) : Type 0 where
  pub index : ℕ
  pub told : invalid_field any strict fields ≡ Some index
  pub first : IsFirst (λ f. has_space_around f ≡ false) (λ f. has_space_around f ≡ true) fields index
