-- What a `HeaderIter` has left.
use Rattle.std.specs.Prelude.{◌≡◌, ℕ, List, [], ◌∷◌, Option, unwrap_or, MatchOption, MatchResult, Result}
use Rattle.std.specs.Option.{option_or}
use Rattle.http_header.specs.FieldValue.{FieldValue}
use Rattle.h3_field.specs.Field.{Field, plain_field}

-- the fields of a map that was taken apart, where a value with no name has the name before it
abbrev pub owned_fields : Option (List ℕ) → List (Option (List ℕ) × FieldValue) → List Field
owned_fields last [] = []
owned_fields last ((name, v) ∷ rest) =
    plain_field (unwrap_or (option_or name last) []) v.bytes ∷ owned_fields (option_or name last) rest

-- a call gives the first field that was left, or memory's refusal in its place
abbrev pub TakesField : {E : Type 0} → List Field → Option (Result Field E) → List Field → Type 0
TakesField old r new =
    MatchOption r ((old ≡ []) × (new ≡ [])) (λ x. MatchResult x (λ f. old ≡ f ∷ new) (λ _. (f : Field) × (old ≡ f ∷ new)))
