-- Fields are cut one by one.
use Rattle.std.proofs.Common.{◌≡◌, ◌<◌, ◌≤◌, ℕ, ◌+◌, Bool, true, false, if◌then◌else◌, List, [], ◌∷◌, ◌++◌, length, drop, append-nil, append_assoc, Option, Some, None, refl, sym, ap, ◌∙◌, subst, arith}
use Rattle.std.specs.Prelude.{◌≢◌, ◌==◌, is_some, nat_lt, slice_index_or, option_map}
use Rattle.std.specs.List.{list_all}
use Rattle.std.proofs.lemmas.Bool.{lt-ltb, le-ltb}
use Rattle.std.proofs.lemmas.List.{drop_all, drop-drop, drop_more}
use Rattle.h3_field.specs.Field.{Field}
use Rattle.h3_c.specs.declared.fields.FieldSize.{FieldSize}
use Rattle.h3_c.specs.Given.{behind, field_at_front, fields_cut, fields_given, first_flag, is_flags}
use Rattle.h3_c.specs.Giving.{RefusesFields}
use Rattle.h3_c.specs.Numbers.{argument, memory}

-- what the fields so far and those of the rest are together
abbrev pub with_rest : List Field → List FieldSize → List ℕ → List ℕ → Option (List Field)
with_rest fields sizes flags rest = option_map (λ more. fields ++ more) (fields_cut sizes flags rest)

mapped_none : (o : Option (List Field)) → option_map (λ more. [] ++ more) o ≡ o
mapped_none None = refl
mapped_none (Some more) = refl

pub start : (sizes : List FieldSize) (flags bytes : List ℕ) → with_rest [] sizes flags bytes ≡ fields_cut sizes flags bytes
start sizes flags bytes = mapped_none (fields_cut sizes flags bytes)

cut_next : (size : FieldSize) (sizes : List FieldSize) (flags rest : List ℕ) → size.name + size.value ≤ length rest
    → fields_cut (size ∷ sizes) flags rest ≡ option_map (λ fields. field_at_front size (first_flag flags) rest ∷ fields) (fields_cut sizes (drop 1 flags) (behind size rest))
unfolding fields_cut
cut_next size sizes flags rest fits = rw (le-ltb (length rest) (size.name + size.value) fits) refl

cut_short : (size : FieldSize) (sizes : List FieldSize) (flags rest : List ℕ) → length rest < size.name + size.value → fields_cut (size ∷ sizes) flags rest ≡ None
unfolding fields_cut
cut_short size sizes flags rest short = rw (lt-ltb (length rest) (size.name + size.value) short) refl

mapped : (fields : List Field) (f : Field) (o : Option (List Field)) → option_map (λ more. (fields ++ f ∷ []) ++ more) o ≡ option_map (λ more. fields ++ more) (option_map (λ more. f ∷ more) o)
mapped fields f None = refl
mapped fields f (Some more) = ap Some (append_assoc fields (f ∷ []) more)

-- the next size
abbrev size_at : List FieldSize → ℕ → FieldSize
size_at sizes at = slice_index_or sizes at (record { name = 0; value = 0 })

here : (sizes : List FieldSize) (at : ℕ) → at < length sizes → drop at sizes ≡ size_at sizes at ∷ drop (at + 1) sizes
here sizes at inside = drop_more sizes at (record { name = 0; value = 0 }) inside

-- the flags behind the next one
more_flags : (flags : List ℕ) (at : ℕ) → drop (at + 1) flags ≡ drop 1 (drop at flags)
more_flags flags at = sym (drop-drop 1 at flags)

pub next : (sizes : List FieldSize) (flags : List ℕ) (at : ℕ) (never : Bool) (fields new : List Field) (rest left : List ℕ) (all : Option (List Field)) → at < length sizes
    → (size_at sizes at).name + (size_at sizes at).value ≤ length rest → never ≡ first_flag (drop at flags) → new ≡ fields ++ field_at_front (size_at sizes at) never rest ∷ []
    → left ≡ behind (size_at sizes at) rest → with_rest fields (drop at sizes) (drop at flags) rest ≡ all → with_rest new (drop (at + 1) sizes) (drop (at + 1) flags) left ≡ all
next sizes flags at never fields new rest left all inside fits is_flag is_new is_left before =
    let size = size_at sizes at in
    let others = drop (at + 1) sizes in
    let f = field_at_front size (first_flag (drop at flags)) rest in
    ap (λ l. with_rest l others (drop (at + 1) flags) left) (is_new ∙ ap (λ b. fields ++ field_at_front size b rest ∷ []) is_flag)
    ∙ ap (λ l. with_rest (fields ++ f ∷ []) others l left) (more_flags flags at)
    ∙ ap (λ l. with_rest (fields ++ f ∷ []) others (drop 1 (drop at flags)) l) is_left
    ∙ mapped fields f (fields_cut others (drop 1 (drop at flags)) (behind size rest))
    ∙ ap (option_map (λ more. fields ++ more)) (sym (cut_next size others (drop at flags) rest fits) ∙ ap (λ l. fields_cut l (drop at flags) rest) (sym (here sizes at inside)))
    ∙ before

none_of : (fields : List Field) (o : Option (List Field)) → o ≡ None → option_map (λ more. fields ++ more) o ≡ None
none_of fields o is = ap (option_map (λ more. fields ++ more)) is

pub short : (sizes : List FieldSize) (flags : List ℕ) (at : ℕ) (fields : List Field) (rest : List ℕ) (all : Option (List Field)) → at < length sizes
    → length rest < (size_at sizes at).name + (size_at sizes at).value → with_rest fields (drop at sizes) (drop at flags) rest ≡ all → RefusesFields all argument
short sizes flags at fields rest all inside less before =
    let none : fields_cut (drop at sizes) (drop at flags) rest ≡ None =
    ap (λ l. fields_cut l (drop at flags) rest) (here sizes at inside) ∙ cut_short (size_at sizes at) (drop (at + 1) sizes) (drop at flags) rest less in
    subst (λ o. RefusesFields o argument) (sym (none_of fields (fields_cut (drop at sizes) (drop at flags) rest) none) ∙ before) refl

-- the sizes are those of the bytes, or are not
still_some : {X Y : Type 0} (f : X → Y) (o : Option X) → is_some (option_map f o) ≡ is_some o
still_some f None = refl
still_some f (Some x) = refl

pub next_is : (sizes : List FieldSize) (at : ℕ) (rest left : List ℕ) (all : Bool) → at < length sizes → (size_at sizes at).name + (size_at sizes at).value ≤ length rest
    → left ≡ behind (size_at sizes at) rest → is_some (fields_cut (drop at sizes) [] rest) ≡ all → is_some (fields_cut (drop (at + 1) sizes) [] left) ≡ all
next_is sizes at rest left all inside fits is_left before =
    let size = size_at sizes at in
    ap (λ l. is_some (fields_cut (drop (at + 1) sizes) [] l)) is_left
    ∙ sym (still_some (λ fields. field_at_front size false rest ∷ fields) (fields_cut (drop (at + 1) sizes) [] (behind size rest)))
    ∙ ap is_some (sym (cut_next size (drop (at + 1) sizes) [] rest fits) ∙ ap (λ l. fields_cut l [] rest) (sym (here sizes at inside)))
    ∙ before

pub short_is : (sizes : List FieldSize) (at : ℕ) (rest : List ℕ) (all : Bool) → at < length sizes → length rest < (size_at sizes at).name + (size_at sizes at).value
    → is_some (fields_cut (drop at sizes) [] rest) ≡ all → false ≡ all
short_is sizes at rest all inside less before =
    sym (ap is_some (ap (λ l. fields_cut l [] rest) (here sizes at inside) ∙ cut_short (size_at sizes at) (drop (at + 1) sizes) [] rest less)) ∙ before

some_first : (b : Bool) (f : Field) (o : Option (List Field)) (fields : List Field) → (if b then None else option_map (λ more. f ∷ more) o) ≡ Some fields → fields ≢ []
some_first true f o fields is none = absurd (cc)
some_first false f None fields is none = absurd (cc)
some_first false f (Some more) fields is none = absurd (let never : f ∷ more ≡ [] = (let same : f ∷ more ≡ fields = cc in same) ∙ none in cc)

some_cut : (sizes : List FieldSize) (flags bytes : List ℕ) (fields : List Field) → 0 < length sizes → fields_cut sizes flags bytes ≡ Some fields → fields ≢ []
unfolding fields_cut
some_cut [] flags bytes fields some is = absurd (omega (arith, some))
some_cut (size ∷ sizes) flags bytes fields some is =
    some_first (nat_lt (length bytes) (size.name + size.value)) (field_at_front size (first_flag flags) bytes) (fields_cut sizes (drop 1 flags) (behind size bytes)) fields is

-- flags change no size
some_if : (b : Bool) (f g : Field) (o p : Option (List Field)) → is_some o ≡ is_some p
    → is_some (if b then None else option_map (λ fields. f ∷ fields) o) ≡ is_some (if b then None else option_map (λ fields. g ∷ fields) p)
some_if true f g o p same = refl
some_if false f g o p same = still_some (λ fields. f ∷ fields) o ∙ same ∙ sym (still_some (λ fields. g ∷ fields) p)

some_of_any : (sizes : List FieldSize) (flags others bytes : List ℕ) → is_some (fields_cut sizes flags bytes) ≡ is_some (fields_cut sizes others bytes)
unfolding fields_cut
some_of_any [] flags others [] = refl
some_of_any [] flags others (byte ∷ bytes) = refl
some_of_any (size ∷ sizes) flags others bytes =
    some_if (nat_lt (length bytes) (size.name + size.value)) _ _ _ _ (some_of_any sizes (drop 1 flags) (drop 1 others) (behind size bytes))

pub lacks : (sizes : List FieldSize) (flags bytes : List ℕ) → 0 < length sizes → is_some (fields_cut sizes [] bytes) ≡ true → RefusesFields (fields_cut sizes flags bytes) memory
lacks sizes flags bytes some is = of (fields_cut sizes flags bytes) refl (some_of_any sizes flags [] bytes ∙ is)
  where
    of : (cut : Option (List Field)) → fields_cut sizes flags bytes ≡ cut → is_some cut ≡ true → RefusesFields cut memory
    of None same is = absurd (cc)
    of (Some fields) same is = (refl, some_cut sizes flags bytes fields some same)

no_cut : (cut : Option (List Field)) → is_some cut ≡ false → RefusesFields cut argument
no_cut None is = refl
no_cut (Some fields) is = absurd (cc)

pub no_sizes : (sizes : List FieldSize) (flags bytes : List ℕ) → is_some (fields_cut sizes [] bytes) ≡ false → RefusesFields (fields_cut sizes flags bytes) argument
no_sizes sizes flags bytes is = no_cut (fields_cut sizes flags bytes) (some_of_any sizes flags [] bytes ∙ is)

cut_none : (flags rest : List ℕ) → rest ≡ [] → fields_cut [] flags rest ≡ Some []
unfolding fields_cut
cut_none flags rest is = ap (fields_cut [] flags) is

cut_more : (flags rest : List ℕ) → 0 < length rest → fields_cut [] flags rest ≡ None
unfolding fields_cut
cut_more flags [] never = absurd (omega (arith, never))
cut_more flags (byte ∷ rest) some = refl

nothing : (rest : List ℕ) → length rest ≤ 0 → rest ≡ []
nothing [] h = refl
nothing (byte ∷ rest) h = absurd (omega (arith, h))

pub whole : (sizes : List FieldSize) (flags : List ℕ) (at : ℕ) (fields : List Field) (rest : List ℕ) (all : Option (List Field)) → length sizes ≤ at → length rest ≤ 0
    → with_rest fields (drop at sizes) (drop at flags) rest ≡ all → all ≡ Some fields
whole sizes flags at fields rest all past none before =
    sym before ∙ ap (option_map (λ more. fields ++ more)) (ap (λ l. fields_cut l (drop at flags) rest) (drop_all at sizes past) ∙ cut_none (drop at flags) rest (nothing rest none))
    ∙ ap Some (append-nil fields)

pub too_many_is : (sizes : List FieldSize) (at : ℕ) (rest : List ℕ) (all : Bool) → length sizes ≤ at → 0 < length rest → is_some (fields_cut (drop at sizes) [] rest) ≡ all → false ≡ all
too_many_is sizes at rest all past some before = sym (ap is_some (ap (λ l. fields_cut l [] rest) (drop_all at sizes past) ∙ cut_more [] rest some)) ∙ before

pub whole_is : (sizes : List FieldSize) (at : ℕ) (rest : List ℕ) (all : Bool) → length sizes ≤ at → length rest ≤ 0 → is_some (fields_cut (drop at sizes) [] rest) ≡ all → true ≡ all
whole_is sizes at rest all past none before = sym (ap is_some (ap (λ l. fields_cut l [] rest) (drop_all at sizes past) ∙ cut_none [] rest (nothing rest none))) ∙ before

pub too_many : (sizes : List FieldSize) (flags : List ℕ) (at : ℕ) (fields : List Field) (rest : List ℕ) (all : Option (List Field)) → length sizes ≤ at → 0 < length rest
    → with_rest fields (drop at sizes) (drop at flags) rest ≡ all → RefusesFields all argument
too_many sizes flags at fields rest all past some before =
    let none : fields_cut (drop at sizes) (drop at flags) rest ≡ None = ap (λ l. fields_cut l (drop at flags) rest) (drop_all at sizes past) ∙ cut_more (drop at flags) rest some in
    subst (λ o. RefusesFields o argument) (sym (none_of fields (fields_cut (drop at sizes) (drop at flags) rest) none) ∙ before) refl

-- The flag at a place,
flag_first : (flags : List ℕ) (at first : ℕ) → at < length flags → slice_index_or flags at 0 ≡ first → first_flag (drop at flags) ≡ (first == 1)
flag_first flags at first inside is = ap first_flag (drop_more flags at 0 inside) ∙ ap (λ n. n == 1) is

pub flag_there : (flags : List ℕ) (at : ℕ) → at < length flags → (slice_index_or flags at 0 == 1) ≡ first_flag (drop at flags)
flag_there flags at inside = sym (flag_first flags at (slice_index_or flags at 0) inside refl)

-- and where there is none.
pub no_flag : (flags : List ℕ) (at : ℕ) → length flags ≤ at → false ≡ first_flag (drop at flags)
no_flag flags at past = sym (ap first_flag (drop_all at flags past))

-- Where a flag is not known, no list is given.
pub all_known : (sizes : List FieldSize) (flags bytes : List ℕ) → list_all is_flags flags ≡ true → fields_cut sizes flags bytes ≡ fields_given sizes flags bytes
all_known sizes flags bytes known = sym (ap (λ b. if b then fields_cut sizes flags bytes else None) known)

pub not_known : (sizes : List FieldSize) (flags bytes : List ℕ) → list_all is_flags flags ≡ false → RefusesFields (fields_given sizes flags bytes) argument
not_known sizes flags bytes unknown = subst (λ b. RefusesFields (if b then fields_cut sizes flags bytes else None) argument) (sym unknown) refl
