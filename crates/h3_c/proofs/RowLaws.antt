-- Fields that are written one behind another.
use Rattle.std.proofs.Common.{◌≡◌, ℕ, ◌+◌, ◌-◌, ◌^◌, ◌<◌, ◌≤◌, Bool, true, false, ◌&&◌, List, [], ◌∷◌, ◌++◌, length, take, drop, refl, ap, sym, ◌∙◌, arith, length-append}
use Rattle.std.specs.Prelude.{min, slice_get, Some}
use Rattle.std.specs.List.{list_all}
use Rattle.std.proofs.Math.ListN.{set}
use Rattle.std.proofs.lemmas.Bool.{lt-ltb}
use Rattle.std.proofs.lemmas.List.{append_assoc, drop_more, drop-set-lt, length-set, take_more_set}
use Rattle.std.proofs.lemmas.Option.{get_or_from_slice_get}
use Rattle.std.proofs.lemmas.Grind.{drop_more_same}
use Rattle.h3_field.specs.Field.{Field}
use Rattle.h3_field.specs.FieldBlock.{end_to_end}
use Rattle.h3_c.specs.Rows.{flags_of, is_short, row_len, row_of, size_of, sizes_of}
use Rattle.h3_c.specs.Bits.{bit}
use Rattle.h3_c.specs.declared.fields.FieldSize.{FieldSize}

-- the fields from one on
field_first : (fields : List Field) (i : ℕ) (f : Field) → i < length fields → slice_get fields i ≡ Some f → drop i fields ≡ f ∷ drop (i + 1) fields
field_first fields i f inside is = drop_more fields i f inside ∙ ap (λ g. g ∷ drop (i + 1) fields) (get_or_from_slice_get fields i f f is)

-- Names and values lie in C's buffer as in a block.
pub row_is_end_to_end : (fields : List Field) → row_of fields ≡ end_to_end fields
unfolding end_to_end
row_is_end_to_end [] = refl
row_is_end_to_end (f ∷ fields) = ap (λ l. f.name ++ (f.value ++ l)) (row_is_end_to_end fields) ∙ sym (append_assoc f.name f.value (end_to_end fields))

-- So many bytes a block has.
pub row_len_is : (fields : List Field) (n : ℕ) → n ≡ length (end_to_end fields) → n ≤ 2 ^ 64 - 1 → n ≡ row_len fields
row_len_is fields n is few = all n (length (row_of fields)) (2 ^ 64 - 1) few (is ∙ sym (ap length (row_is_end_to_end fields)))
  where
    all : (n m most : ℕ) → n ≤ most → n ≡ m → n ≡ min m most
    all n m most few is = omega (arith, few, is)

-- The sizes of the fields before one are written.
pub record SizesAt (fields : List Field) (i : ℕ) (sizes before : List FieldSize) : Type 0 where
  pub front : take i sizes ++ sizes_of (drop i fields) ≡ sizes_of fields
  pub rest : drop i sizes ≡ drop i before
  pub len : length sizes ≡ length before

pub sizes_next : (fields : List Field) (i : ℕ) (f : Field) (sizes before : List FieldSize) → i < length fields → slice_get fields i ≡ Some f → length fields ≤ length before
    → SizesAt fields i sizes before → SizesAt fields (i + 1) (set sizes i (size_of f)) before
sizes_next fields i f sizes before inside is few at =
    let there : i < length sizes = omega (arith, inside, few, at.len) in
    let rest = drop (i + 1) fields in
    record {
      front =
          ap (λ l. l ++ sizes_of rest) (take_more_set sizes i (size_of f) there) ∙ append_assoc (take i sizes) (size_of f ∷ []) (sizes_of rest)
          ∙ sym (ap (λ l. take i sizes ++ sizes_of l) (field_first fields i f inside is)) ∙ at.front;
      rest = drop-set-lt (i + 1) sizes i (size_of f) (omega arith) ∙ drop_more_same sizes before i at.rest;
      len = length-set sizes i (size_of f) ∙ at.len;
    }

-- The flags of the fields before one are written.
pub record FlagsAt (fields : List Field) (i : ℕ) (flags before : List ℕ) : Type 0 where
  pub front : take i flags ++ flags_of (drop i fields) ≡ flags_of fields
  pub rest : drop i flags ≡ drop i before
  pub len : length flags ≡ length before

pub flags_next : (fields : List Field) (i : ℕ) (f : Field) (flags before : List ℕ) → i < length fields → slice_get fields i ≡ Some f → i < length flags
    → FlagsAt fields i flags before → FlagsAt fields (i + 1) (set flags i (bit f.never_indexed)) before
flags_next fields i f flags before inside is there at =
    let rest = drop (i + 1) fields in
    record {
      front =
          ap (λ l. l ++ flags_of rest) (take_more_set flags i (bit f.never_indexed) there) ∙ append_assoc (take i flags) (bit f.never_indexed ∷ []) (flags_of rest)
          ∙ sym (ap (λ l. take i flags ++ flags_of l) (field_first fields i f inside is)) ∙ at.front;
      rest = drop-set-lt (i + 1) flags i (bit f.never_indexed) (omega arith) ∙ drop_more_same flags before i at.rest;
      len = length-set flags i (bit f.never_indexed) ∙ at.len;
    }

-- The sizes from one on are short, as all are, where those before it are.
pub short_next : (fields : List Field) (i : ℕ) (f : Field) (all : Bool) → i < length fields → slice_get fields i ≡ Some f → is_short f ≡ true → list_all is_short (drop i fields) ≡ all → list_all is_short (drop (i + 1) fields) ≡ all
short_next fields i f all inside is short before =
    sym (ap (λ b. b && list_all is_short (drop (i + 1) fields)) short) ∙ sym (ap (list_all is_short) (field_first fields i f inside is)) ∙ before

pub short_fails : (fields : List Field) (i : ℕ) (f : Field) (all : Bool) → i < length fields → slice_get fields i ≡ Some f → is_short f ≡ false → list_all is_short (drop i fields) ≡ all → false ≡ all
short_fails fields i f all inside is long before =
    sym (ap (λ b. b && list_all is_short (drop (i + 1) fields)) long) ∙ sym (ap (list_all is_short) (field_first fields i f inside is)) ∙ before

pub is_first_short : (fields : List Field) (i : ℕ) (f : Field) → i < length fields → slice_get fields i ≡ Some f → list_all is_short (drop i fields) ≡ true → (is_short f ≡ true) × (list_all is_short (drop (i + 1) fields) ≡ true)
is_first_short fields i f inside is all = both (is_short f) (list_all is_short (drop (i + 1) fields)) (sym (ap (list_all is_short) (field_first fields i f inside is)) ∙ all)
  where
    both : (a b : Bool) → (a && b) ≡ true → (a ≡ true) × (b ≡ true)
    both true true h = (refl, refl)
    both true false h = absurd (cc)
    both false b h = absurd (cc)

-- No size of a short row is long.
pub short_within : (fields : List Field) (len : ℕ) → row_len fields ≤ len → len < 2 ^ 32 → list_all is_short fields ≡ true
short_within fields len few small = short_row fields (by (length (row_of fields)) len (2 ^ 64 - 1) (omega arith) few small)
  where
    by : (n len most : ℕ) → 2 ^ 32 ≤ most → min n most ≤ len → len < 2 ^ 32 → n < 2 ^ 32
    by n len most large few small = omega (arith, large, few, small)

    both : (a b c : Bool) → a ≡ true → b ≡ true → c ≡ true → ((a && b) && c) ≡ true
    both true true true x y z = refl
    both false b c x y z = absurd (cc)
    both true false c x y z = absurd (cc)
    both true true false x y z = absurd (cc)

    short_row : (fields : List Field) → length (row_of fields) < 2 ^ 32 → list_all is_short fields ≡ true
    short_row [] h = refl
    short_row (f ∷ fields) h =
        let size : length (row_of (f ∷ fields)) ≡ length f.name + (length f.value + length (row_of fields)) =
        length-append f.name (f.value ++ row_of fields) ∙ ap (λ n. length f.name + n) (length-append f.value (row_of fields)) in
        both _ _ _ (lt-ltb (length f.name) (2 ^ 32) (omega (arith, size, h))) (lt-ltb (length f.value) (2 ^ 32) (omega (arith, size, h))) (short_row fields (omega (arith, size, h)))
