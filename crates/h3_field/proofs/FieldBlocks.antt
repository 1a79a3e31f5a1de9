-- Fields in a block: those that are there stay where bytes are appended, and one more field lies at the end.
use Rattle.std.proofs.Common.{◌≡◌, ℕ, Bool, ◌+◌, ◌-◌, ◌≤◌, List, [], ◌∷◌, ◌++◌, suc, take, drop, length, refl, sym, ◌∙◌, ap, arith, append_assoc, length-append, length-drop}
use Rattle.std.proofs.lemmas.List.{map-append, take-append-le, drop-append-le, take_all, append-nil, take_more}
use Rattle.std.proofs.lemmas.List.Elements.{All-push}
use Rattle.std.specs.List.{All, slice_get}
use Rattle.std.specs.Prelude.{Some}
use Rattle.std.proofs.lemmas.Option.{slice_get_within, get_or_from_slice_get}
use Rattle.h3_field.specs.Field.{Field}
use Rattle.h3_field.specs.FieldBlock.{between, field_at, fields_at, end_to_end, LiesIn, IsBlock, IsNext}
use Rattle.h3_field.specs.declared.field_block.FieldPlace.{FieldPlace}

between_kept : (start end : ℕ) (bytes more : List ℕ) → start ≤ end → end ≤ length bytes → between start end (bytes ++ more) ≡ between start end bytes
between_kept start end bytes more le within =
    let starts : start ≤ length bytes = omega arith in
    let rest : end - start ≤ length (drop start bytes) = simp length-drop (omega arith) in
    ap (take (end - start)) (drop-append-le start bytes more starts) ∙ take-append-le (end - start) (drop start bytes) more rest

pub field_at_kept : (bytes more : List ℕ) (p : FieldPlace) → LiesIn (length bytes) p → field_at (bytes ++ more) p ≡ field_at bytes p
field_at_kept bytes more p l =
    let ends : p.middle ≤ length bytes = omega (arith, l.1, l.2) in
    let name = between_kept p.start p.middle bytes more l.0 ends in
    let value = between_kept p.middle p.end bytes more l.1 l.2 in
    λ i. record { name = name i; value = value i; never_indexed = p.never_indexed }

fields_at_kept : (bytes more : List ℕ) (places : List FieldPlace) → All (LiesIn (length bytes)) places → fields_at (bytes ++ more) places ≡ fields_at bytes places
fields_at_kept bytes more [] all = refl
fields_at_kept bytes more (p ∷ places) all =
    let head = field_at_kept bytes more p (all 0 p (omega (arith))) in
    let tail = fields_at_kept bytes more places (λ k d h. all (suc k) d (omega (arith, h))) in
    λ i. head i ∷ tail i

pub end_to_end_last : (fields : List Field) (f : Field) → end_to_end (fields ++ f ∷ []) ≡ end_to_end fields ++ (f.name ++ f.value)
unfolding end_to_end
end_to_end_last [] f = append-nil (f.name ++ f.value)
end_to_end_last (g ∷ fields) f = ap (λ (l : List ℕ). (g.name ++ g.value) ++ l) (end_to_end_last fields f) ∙ sym (append_assoc (g.name ++ g.value) (end_to_end fields) (f.name ++ f.value))

skipped : (xs ys : List ℕ) → drop (length xs) (xs ++ ys) ≡ ys
skipped [] ys = refl
skipped (x ∷ xs) ys = skipped xs ys

front : (xs ys : List ℕ) → take (length xs) (xs ++ ys) ≡ xs
front [] ys = refl
front (x ∷ xs) ys = ap (λ (l : List ℕ). x ∷ l) (front xs ys)

next_name : (bytes name value : List ℕ) (flag : Bool) (p : FieldPlace) → IsNext bytes name value flag p → between p.start p.middle (bytes ++ (name ++ value)) ≡ name
next_name bytes name value flag p n =
    let count : p.middle - p.start ≡ length name = omega (arith, n.start, n.middle) in
    rw (count, n.start, skipped bytes (name ++ value)) (front name value)

next_value : (bytes name value : List ℕ) (flag : Bool) (p : FieldPlace) → IsNext bytes name value flag p → between p.middle p.end (bytes ++ (name ++ value)) ≡ value
next_value bytes name value flag p n =
    let count : p.end - p.middle ≡ length value = omega (arith, n.end, n.middle) in
    let at : p.middle ≡ length (bytes ++ name) = n.middle ∙ sym (length-append bytes name) in
    rw (count, at, ← append_assoc bytes name value, skipped (bytes ++ name) value) (take_all (length value) value (omega arith))

pub next_field : (bytes name value : List ℕ) (flag : Bool) (p : FieldPlace) → IsNext bytes name value flag p → field_at (bytes ++ (name ++ value)) p ≡ record { name = name; value = value; never_indexed = flag }
next_field bytes name value flag p n =
    let a = next_name bytes name value flag p n in
    let b = next_value bytes name value flag p n in
    let own = n.flag in
    λ i. record { name = a i; value = b i; never_indexed = own i }

pub fields_next : (bytes name value : List ℕ) (flag : Bool) (places : List FieldPlace) (p : FieldPlace) → IsBlock bytes places → IsNext bytes name value flag p
    → fields_at (bytes ++ (name ++ value)) (places ++ p ∷ []) ≡ fields_at bytes places ++ (record { name = name; value = value; never_indexed = flag }) ∷ []
fields_next bytes name value flag places p b n =
    map-append (field_at (bytes ++ (name ++ value))) places (p ∷ [])
    ∙ (λ i. fields_at_kept bytes (name ++ value) places b.within i ++ next_field bytes name value flag p n i ∷ [])

lies_more : (m n : ℕ) (places : List FieldPlace) → m ≤ n → All (LiesIn m) places → All (LiesIn n) places
lies_more m n places le all = λ k d h. let l = all k d h in (l.0, l.1, omega (arith, l.2))

pub block_next : (bytes name value : List ℕ) (flag : Bool) (places : List FieldPlace) (p : FieldPlace) → IsBlock bytes places → IsNext bytes name value flag p
    → IsBlock (bytes ++ (name ++ value)) (places ++ p ∷ [])
block_next bytes name value flag places p b n =
    let more = bytes ++ (name ++ value) in
    let long : length more ≡ length bytes + (length name + length value) = length-append bytes (name ++ value) ∙ ap (λ (k : ℕ). length bytes + k) (length-append name value) in
    record {
      within = All-push (LiesIn (length more)) places p (lies_more (length bytes) (length more) places (omega arith) b.within)
          (omega (arith, n.start, n.middle), omega (arith, n.end, n.middle), omega (arith, n.end));
      whole = ap end_to_end (fields_next bytes name value flag places p b n) ∙ end_to_end_last (fields_at bytes places) (record { name = name; value = value; never_indexed = flag })
          ∙ ap (λ (l : List ℕ). l ++ (name ++ value)) b.whole;
    }

pub no_block : IsBlock [] []
unfolding end_to_end
no_block = record { within = λ k d h. absurd (omega (arith, h)); whole = refl }

-- one more field of a copy
pub one_more : (fields : List Field) (k : ℕ) (f g : Field) → slice_get fields k ≡ Some f → g ≡ f → take (k + 1) fields ≡ take k fields ++ g ∷ []
one_more fields k f g at is =
    take_more fields k f (slice_get_within fields k f at) ∙ ap (λ (x : Field). take k fields ++ x ∷ []) (get_or_from_slice_get fields k f f at ∙ sym is)
