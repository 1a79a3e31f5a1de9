-- Fields in bytes of a caller's, one behind another.
use Rattle.std.proofs.Common.{◌≡◌, ℕ, Bool, ◌+◌, ◌≤◌, List, [], ◌∷◌, ◌++◌, take, drop, length, sym, ◌∙◌, ap, arith, append_assoc, length-drop, subst}
use Rattle.std.proofs.Math.Seq.{take-add}
use Rattle.std.proofs.lemmas.List.{drop-drop, length-take-le}
use Rattle.h3_field.specs.FieldBlock.{fields_at, IsBlock, IsNext}
use Rattle.h3_field.specs.declared.field_block.FieldPlace.{FieldPlace}
use Rattle.h3_field.proofs.FieldBlocks.{block_next, fields_next}

-- the place of the next field
abbrev pub next_place : ℕ → ℕ → ℕ → Bool → FieldPlace
next_place end name value flag = record { start = end; middle = end + name; end = end + name + value; never_indexed = flag }

-- the bytes up to the end of the next field
taken : (bytes : List ℕ) (end name value : ℕ)
    → take end bytes ++ (take name (drop end bytes) ++ take value (drop name (drop end bytes))) ≡ take (end + name + value) bytes
taken bytes end name value =
    sym (append_assoc (take end bytes) (take name (drop end bytes)) (take value (drop name (drop end bytes))))
    ∙ (λ i. sym (take-add end name bytes) i ++ take value (drop-drop name end bytes i))
    ∙ sym (take-add (end + name) value bytes)

is_next : (bytes : List ℕ) (end name value : ℕ) (flag : Bool) → end ≤ length bytes → name + value ≤ length (drop end bytes)
    → IsNext (take end bytes) (take name (drop end bytes)) (take value (drop name (drop end bytes))) flag (next_place end name value flag)
is_next bytes end name value flag inside fits =
    let so_far : length (take end bytes) ≡ end = length-take-le end bytes inside in
    let of_name : length (take name (drop end bytes)) ≡ name = length-take-le name (drop end bytes) (omega (arith, fits)) in
    let left : value ≤ length (drop name (drop end bytes)) = simp length-drop (omega (arith, simp length-drop at fits)) in
    let of_value : length (take value (drop name (drop end bytes))) ≡ value = length-take-le value (drop name (drop end bytes)) left in
    record { start = sym so_far; middle = omega (arith, so_far, of_name); end = omega (arith, so_far, of_name, of_value); flag = λ i. flag }

pub block_taken : (bytes : List ℕ) (end name value : ℕ) (flag : Bool) (places : List FieldPlace) → end ≤ length bytes → name + value ≤ length (drop end bytes)
    → IsBlock (take end bytes) places → IsBlock (take (end + name + value) bytes) (places ++ next_place end name value flag ∷ [])
block_taken bytes end name value flag places inside fits block =
    subst (λ (l : List ℕ). IsBlock l (places ++ next_place end name value flag ∷ [])) (taken bytes end name value)
    (block_next _ _ _ flag places (next_place end name value flag) block (is_next bytes end name value flag inside fits))

pub fields_taken : (bytes : List ℕ) (end name value : ℕ) (flag : Bool) (places : List FieldPlace) → end ≤ length bytes → name + value ≤ length (drop end bytes)
    → IsBlock (take end bytes) places → fields_at (take (end + name + value) bytes) (places ++ next_place end name value flag ∷ [])
    ≡ fields_at (take end bytes) places ++ (record { name = take name (drop end bytes); value = take value (drop name (drop end bytes)); never_indexed = flag }) ∷ []
fields_taken bytes end name value flag places inside fits block =
    ap (λ (l : List ℕ). fields_at l (places ++ next_place end name value flag ∷ [])) (sym (taken bytes end name value))
    ∙ fields_next _ _ _ flag places (next_place end name value flag) block (is_next bytes end name value flag inside fits)
