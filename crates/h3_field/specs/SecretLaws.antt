-- What guarding changes of a field: the flag of a secret, and nothing else.
use Rattle.std.proofs.Common.{◌≡◌, Bool, true, false, ◌&&◌, ◌||◌, List, [], ◌∷◌, map, length, if◌then◌else◌, refl, ap, arith}
use Rattle.std.proofs.lemmas.List.Sums.{sum_by-cons}
use Rattle.std.specs.List.{AllByRecursion}
use Rattle.h3_field.specs.Field.{Field, flagged, field_size, section_size}
use Rattle.h3_field.specs.ReadBack.{IsFieldOfBytes}
use Rattle.h3_field.specs.Secret.{is_secret, guarded}

name_of : (secret : Bool) (f : Field) → (if secret then flagged f true else f).name ≡ f.name
name_of true f = refl
name_of false f = refl

value_of : (secret : Bool) (f : Field) → (if secret then flagged f true else f).value ≡ f.value
value_of true f = refl
value_of false f = refl

flag_of : (secret : Bool) (f : Field) → (if secret then flagged f true else f).never_indexed ≡ (f.never_indexed || secret)
flag_of true f = or_true f.never_indexed
  where
    or_true : (b : Bool) → true ≡ (b || true)
    or_true true = refl
    or_true false = refl
flag_of false f = or_false f.never_indexed
  where
    or_false : (b : Bool) → b ≡ (b || false)
    or_false true = refl
    or_false false = refl

pub guarded_name : (guards : Bool) (f : Field) → (guarded guards f).name ≡ f.name
guarded_name guards f = name_of (guards && is_secret f) f

pub guarded_value : (guards : Bool) (f : Field) → (guarded guards f).value ≡ f.value
guarded_value guards f = value_of (guards && is_secret f) f

-- the flag is there as before, and of a secret
pub guarded_flag : (guards : Bool) (f : Field) → (guarded guards f).never_indexed ≡ (f.never_indexed || (guards && is_secret f))
guarded_flag guards f = flag_of (guards && is_secret f) f

pub guarded_size : (guards : Bool) (f : Field) → field_size (guarded guards f) ≡ field_size f
guarded_size guards f = omega (arith, ap (λ l. length l) (guarded_name guards f), ap (λ l. length l) (guarded_value guards f))

pub guarded_sizes : (guards : Bool) (fields : List Field) → section_size (map (guarded guards) fields) ≡ section_size fields
guarded_sizes guards [] = refl
guarded_sizes guards (f ∷ fields) =
    omega (arith, sum_by-cons field_size (guarded guards f) (map (guarded guards) fields), sum_by-cons field_size f fields, guarded_size guards f, guarded_sizes guards fields)

bytes_of : (secret : Bool) (f : Field) → IsFieldOfBytes f → IsFieldOfBytes (if secret then flagged f true else f)
bytes_of true f h = h
bytes_of false f h = h

pub guarded_bytes : (guards : Bool) (fields : List Field) → AllByRecursion IsFieldOfBytes fields → AllByRecursion IsFieldOfBytes (map (guarded guards) fields)
guarded_bytes guards [] h = tt
guarded_bytes guards (f ∷ fields) h = (bytes_of (guards && is_secret f) f h.0, guarded_bytes guards fields h.1)

-- with the choice off all stays
pub unguarded : (fields : List Field) → map (guarded false) fields ≡ fields
unguarded [] = refl
unguarded (f ∷ fields) = ap (λ l. f ∷ l) (unguarded fields)
