-- The sizes and costs of fields.
use Rattle.std.proofs.Common.{arith, ◌≡◌, ◌≤◌, ◌+◌, ◌*◌, List, [], ◌∷◌, length, refl}
use Rattle.std.proofs.lemmas.List.Sums.{sum_by-cons}
use Rattle.h3_field.specs.Field.{Field, field_size, section_size}
use Rattle.h3_connection.specs.Sending.{fields_cost}

section_one : (f : Field) (fields : List Field) → section_size (f ∷ fields) ≡ field_size f + section_size fields
section_one f fields = sum_by-cons field_size f fields

pub cost_is : (fields : List Field) → fields_cost fields ≡ section_size fields + 32 * length fields
cost_is [] = refl
cost_is (f ∷ fields) = omega (arith, cost_is fields, section_one f fields)

pub many_fields : (fields : List Field) → 32 * length fields ≤ section_size fields
many_fields [] = omega arith
many_fields (f ∷ fields) = omega (arith, many_fields fields, section_one f fields)
