-- A field section in the midst of its writing.
use Rattle.std.proofs.Common.{◌≡◌, ℕ, ◌+◌, ◌-◌, ◌^◌, ◌<◌, min, List, [], ◌∷◌, ◌++◌, length, take, drop, get_or, refl, ap, sym, ◌∙◌, arith, append_assoc, append-nil}
use Rattle.std.proofs.Common.{false, Some}
use Rattle.std.specs.List.{slice_get}
use Rattle.std.proofs.lemmas.Option.{get_or_from_slice_get, slice_get_within}
use Rattle.std.proofs.lemmas.List.{take_more, take_at, take-append-drop}
use Rattle.std.proofs.lemmas.List.Concat.{flat_map-append}
use Rattle.std.proofs.lemmas.List.Sums.{sum_by-append, sum_by-cons}
use Rattle.h3_field.specs.Field.{Field, field_size, section_size}
use Rattle.std.specs.List.{AllByRecursion}
use Rattle.h3_field.specs.ReadBack.{IsFieldOfBytes}
use Rattle.h3_field.specs.Line.{line_bytes}
use Rattle.h3_field.specs.Section.{static_line, static_lines, section_bytes}
use Rattle.h3_field.specs.StaticLines.{static_line_by}
use Rattle.h3_field.specs.StaticLineLaws.{unchosen_line}

one_size : (f : Field) → section_size (f ∷ []) ≡ field_size f
one_size f = omega (arith, sum_by-cons field_size f [])

size_parts : (fields : List Field) (i : ℕ) → section_size fields ≡ section_size (take i fields) + section_size (drop i fields)
size_parts fields i = sym (ap (λ x. section_size x) (take-append-drop i fields)) ∙ sum_by-append field_size (take i fields) (drop i fields)

-- What was appended so far.
pub record Put (start items : List ℕ) (fields : List Field) (index size : ℕ) : Type 0 where
  pub items_are : items ≡ start ++ section_bytes (take index fields)
  pub size_is : size ≡ section_size (take index fields)
  pub bytes : AllByRecursion IsFieldOfBytes (take index fields)

next_size : (fields : List Field) (i : ℕ) (f : Field) → i < length fields → f ≡ get_or fields i f → section_size (take (i + 1) fields) ≡ section_size (take i fields) + field_size f
next_size fields i f lt is =
    let more : take (i + 1) fields ≡ take i fields ++ f ∷ [] = take_more fields i f lt ∙ ap (λ x. take i fields ++ x ∷ []) (sym is) in
    let sum = sum_by-append field_size (take i fields) (f ∷ []) in
    ap (λ x. section_size x) more ∙ sum ∙ ap (λ n. section_size (take i fields) + n) (one_size f)

next_lines : (fields : List Field) (i : ℕ) (f : Field) → i < length fields → f ≡ get_or fields i f → static_lines (take (i + 1) fields) ≡ static_lines (take i fields) ++ line_bytes (static_line f)
next_lines fields i f lt is =
    let more : take (i + 1) fields ≡ take i fields ++ f ∷ [] = take_more fields i f lt ∙ ap (λ x. take i fields ++ x ∷ []) (sym is) in
    ap (λ x. static_lines x) more ∙ flat_map-append (λ g. line_bytes (static_line g)) (take i fields) (f ∷ []) ∙ ap (λ x. static_lines (take i fields) ++ x) (append-nil (line_bytes (static_line f)))

-- a field is within the sum, and so is the sum so far
pub field_within : (fields : List Field) (i : ℕ) (f : Field) (most : ℕ) → i < length fields → f ≡ get_or fields i f → section_size fields < most → section_size (take i fields) + field_size f < most
field_within fields i f most lt is below = omega (arith, next_size fields i f lt is, size_parts fields (i + 1), below)

all_more : (fields : List Field) (f : Field) → AllByRecursion IsFieldOfBytes fields → IsFieldOfBytes f → AllByRecursion IsFieldOfBytes (fields ++ f ∷ [])
all_more [] f all each = (each, tt)
all_more (g ∷ fields) f all each = (all.0, all_more fields f all.1 each)

pub put_more : (start items new : List ℕ) (fields : List Field) (i size own next : ℕ) (f : Field) → Put start items fields i size → i < length fields → f ≡ get_or fields i f → section_size fields < 2 ^ 62 → new ≡ items ++ line_bytes (static_line f) → own ≡ min (2 ^ 64 - 1) (field_size f) → next ≡ size + own → IsFieldOfBytes f → Put start new fields (i + 1) next
put_more start items new fields i size own next f p lt is below e own_is next_is each =
    let within = field_within fields i f (2 ^ 62) lt is below in
    let exact : own ≡ field_size f = omega (arith, own_is, within) in
    let sum = next_size fields i f lt is in
    record {
      items_are = e ∙ ap (λ x. x ++ line_bytes (static_line f)) p.items_are ∙ append_assoc start (section_bytes (take i fields)) (line_bytes (static_line f)) ∙ ap (λ x. start ++ 0 ∷ 0 ∷ x) (sym (next_lines fields i f lt is));
      size_is = omega (arith, next_is, exact, p.size_is, sum);
      bytes = rw (take_more fields i f lt, ← is) (all_more (take i fields) f p.bytes each);
    }

pub put_refused : (start items new : List ℕ) (fields : List Field) (index size : ℕ) → Put start items fields index size → new ≡ items → take (length start) new ≡ start
put_refused start items new fields index size p e = rw (e, p.items_are) (take_at start (section_bytes (take index fields)) (length start) refl)

-- the same of a field that was looked up by its place
pub lent_within : (fields : List Field) (i : ℕ) (f : Field) (most : ℕ) → slice_get fields i ≡ Some f → section_size fields < most → section_size (take i fields) + field_size f < most
lent_within fields i f most at below = field_within fields i f most (slice_get_within fields i f at) (sym (get_or_from_slice_get fields i f f at)) below

pub lent_more : (start items new : List ℕ) (fields : List Field) (i size own next : ℕ) (f : Field) → Put start items fields i size → slice_get fields i ≡ Some f → section_size fields < 2 ^ 62 → new ≡ items ++ line_bytes (static_line_by false f) → own ≡ min (2 ^ 64 - 1) (field_size f) → next ≡ size + own → IsFieldOfBytes f → Put start new fields (i + 1) next
lent_more start items new fields i size own next f p at below e own_is next_is each =
    put_more start items new fields i size own next f p (slice_get_within fields i f at) (sym (get_or_from_slice_get fields i f f at)) below (e ∙ ap (λ l. items ++ line_bytes l) (unchosen_line f)) own_is next_is each
