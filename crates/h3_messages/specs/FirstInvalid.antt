-- What a walk over a list finds first, for the laws on invalid fields.
use Rattle.std.specs.Prelude.{◌≡◌, ℕ, Bool, true, false, ◌&&◌, ◌||◌, List, [], ◌∷◌, Some, None}
use Rattle.std.specs.List.{position_or_len}
use Rattle.h3_field.specs.Field.{Field}
use Rattle.h3_header.specs.BadPart.{bad_part}
use Rattle.h3_header.specs.declared.headers.judge.BadPart.{BadPart}
use Rattle.h3_messages.specs.InvalidField.{is_invalid, IsFirst}
use Rattle.h3_messages.specs.Messages.{has_space_around}
use Rattle.h3_messages.specs.declared.violation.Violation.{Violation}
use Rattle.h3_messages.specs.declared.violation.Violation.TheVariants as violation

-- A test finds a field at an index, and that is the first which breaks a rule.
pub record Finds (test : Field → Bool) (keeps breaks : Field → Type 0) (fields : List Field) : Type 0 where
  pub index : ℕ
  pub at : position_or_len test fields ≡ index
  pub first : IsFirst keeps breaks fields index

-- a field of which this part is malformed
abbrev pub FindsBad : Bool → BadPart → List Field → Type 0
FindsBad any bad = Finds (is_invalid any) (λ f. bad_part any f ≡ None) (λ f. bad_part any f ≡ Some bad)

-- a field with white space around its value
abbrev pub FindsSpaced : List Field → Type 0
FindsSpaced = Finds has_space_around (λ f. has_space_around f ≡ false) (λ f. has_space_around f ≡ true)

-- whether a list of rules has a broken one that is told as a value
abbrev pub is_value : Violation → Bool
is_value violation.Value = true
is_value _ = false

abbrev pub breaks_value : List (Bool × Violation) → Bool
breaks_value [] = false
breaks_value (rule ∷ rules) = (is_value rule.1 && rule.0) || breaks_value rules
