-- The size of the fields of a block.
use Rattle.std.proofs.Common.{◌≡◌, ℕ, ◌+◌, ◌*◌, List, [], ◌∷◌, ◌++◌, length, ◌∙◌, ap, arith, length-append}
use Rattle.std.proofs.lemmas.List.{length-map}
use Rattle.std.proofs.lemmas.List.Sums.{sum_by-cons}
use Rattle.h3_field.specs.Field.{Field, field_size, section_size}
use Rattle.h3_field.specs.FieldBlock.{end_to_end, field_at, fields_at, IsBlock}
use Rattle.h3_field.specs.declared.field_block.FieldPlace.{FieldPlace}

end_to_end_size : (fields : List Field) → section_size fields ≡ length (end_to_end fields) + 32 * length fields
unfolding end_to_end
end_to_end_size [] = omega arith
end_to_end_size (f ∷ fields) =
    let size : section_size (f ∷ fields) ≡ (length f.name + length f.value + 32) + section_size fields = sum_by-cons field_size f fields in
    let bytes : length (end_to_end (f ∷ fields)) ≡ length f.name + length f.value + length (end_to_end fields) =
    length-append (f.name ++ f.value) (end_to_end fields) ∙ ap (λ n. n + length (end_to_end fields)) (length-append f.name f.value) in
    let count : length (f ∷ fields) ≡ length fields + 1 = omega arith in
    sums _ _ _ _ _ _ _ _ size bytes count (end_to_end_size fields)
  where
    sums : (size bytes count less rest others name value : ℕ) → size ≡ (name + value + 32) + less → bytes ≡ name + value + rest → count ≡ others + 1 → less ≡ rest + 32 * others
        → size ≡ bytes + 32 * count
    sums size bytes count less rest others name value a b c d = omega (arith, a, b, c, d)

pub block_size : (bytes : List ℕ) (places : List FieldPlace) → IsBlock bytes places → section_size (fields_at bytes places) ≡ length bytes + 32 * length places
block_size bytes places block =
    let whole = ap (λ (l : List ℕ). length l) block.whole in
    let count = length-map places (field_at bytes) in
    omega (arith, end_to_end_size (fields_at bytes places), whole, count)
