-- Bytes and fields that are tested to be equal are equal.
use Rattle.std.proofs.Common.{◌≡◌, ℕ, Bool, List, true, false, refl, sym}
use Rattle.std.proofs.lemmas.Bool.{and_parts}
use Rattle.std.specs.Prelude.{bytes_eq}
use Rattle.h3_huffman.specs.PayloadLaws.{bytes_same}
use Rattle.h3_field.specs.Field.{Field, plain_field, flag_eq, text_eq, field_eq}

pub same_bytes : (a b : List ℕ) → bytes_eq a b ≡ true → a ≡ b
same_bytes = bytes_same

same_flag : (a b : Bool) → flag_eq a b ≡ true → a ≡ b
same_flag true true h = refl
same_flag true false h = absurd (cc)
same_flag false true h = absurd (cc)
same_flag false false h = refl

pub same_field : (f g : Field) → field_eq f g ≡ true → f ≡ g
same_field f g h =
    let both = and_parts (flag_eq f.never_indexed g.never_indexed) (text_eq f g) h in
    let e = and_parts (bytes_eq f.name g.name) (bytes_eq f.value g.value) both.1 in
    let n = bytes_same f.name g.name e.0 in
    let v = bytes_same f.value g.value e.1 in
    let flag = same_flag f.never_indexed g.never_indexed both.0 in
    λ i. record { name = n i; value = v i; never_indexed = flag i }

-- a field without the flag is that of its name and value
pub plain_is : (f : Field) → f.never_indexed ≡ false → plain_field f.name f.value ≡ f
plain_is f h = let flag = sym h in λ i. record { name = f.name; value = f.value; never_indexed = flag i }
