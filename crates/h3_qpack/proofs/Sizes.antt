-- Fields that are counted one by one.
use Rattle.std.proofs.Common.{◌≡◌, ℕ, ◌+◌, ◌*◌, ◌-◌, ◌^◌, ◌<◌, min, List, [], ◌∷◌, ◌++◌, length, length-append, Option, Some, None, option_map, refl, sym, ◌∙◌, ap, arith}
use Rattle.std.proofs.lemmas.List.Sums.{sum_by-append, sum_by-cons, fold-append}
use Rattle.h3_field.specs.Field.{Field, field_size, section_size}
use Rattle.h3_field.specs.FieldBlock.{end_to_end}
use Rattle.h3_table.specs.TableState.{TableState}
use Rattle.h3_qpack.specs.DecodedSection.{fields_in}
use Rattle.h3_qpack.specs.Sizes.{told_size, value_after, last_value, counted, counted_on}
use Rattle.h3_qpack.proofs.FieldsIn.{AreRead}

pub size_more : (fields : List Field) (f : Field) → min (told_size fields + field_size f) (2 ^ 64 - 1) ≡ told_size (fields ++ f ∷ [])
size_more fields f = omega (arith, sum_by-append field_size fields (f ∷ []))

last_more : (name : List ℕ) (fields : List Field) (f : Field) → value_after name (last_value name fields) f ≡ last_value name (fields ++ f ∷ [])
last_more name fields f = sym (fold-append (value_after name) None fields (f ∷ []))

pub counted_more : (name : List ℕ) (fields : List Field) (f : Field) → counted_on name (counted name fields) f ≡ counted name (fields ++ f ∷ [])
counted_more name fields f =
    ap (λ n. record { sum = n; last = value_after name (last_value name fields) f }) (size_more fields f)
    ∙ ap (λ x. record { sum = told_size (fields ++ f ∷ []); last = x }) (last_more name fields f)

large_front : (max : ℕ) (fields all more : List Field) → all ≡ fields ++ more → max < told_size fields → max < told_size all
large_front max fields all more is large = rw is (omega (arith, large, sum_by-append field_size fields more))

with_front : (fields all : List Field) (o : Option (List Field)) → option_map (λ more. fields ++ more) o ≡ Some all → (more : List Field) × (all ≡ fields ++ more)
with_front fields all None e = absurd (cc)
with_front fields all (Some more) e = (more, cc)

-- Where a front of the fields passes the limit, all of them do.
pub large_within : (h : TableState) (base : ℕ) (bytes rest : List ℕ) (front all : List Field) (max : ℕ) → AreRead h base bytes front rest → max < told_size front → fields_in h base bytes ≡ Some all → max < told_size all
large_within h base bytes rest front all max read large is = let w = with_front front all (fields_in h base rest) (sym read ∙ is) in large_front max front all w.0 w.1 large

-- the sizes of fields, by their bytes that lie end to end
pub size_end_to_end : (fields : List Field) → length (end_to_end fields) + 32 * length fields ≡ section_size fields
unfolding end_to_end
size_end_to_end [] = refl
size_end_to_end (f ∷ fields) =
    omega (arith, length-append (f.name ++ f.value) (end_to_end fields), length-append f.name f.value, size_end_to_end fields, sum_by-cons field_size f fields)
