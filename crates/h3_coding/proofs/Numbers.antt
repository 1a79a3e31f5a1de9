-- What the bytes of a list are worth.
use Rattle.std.proofs.Common.{◌≡◌, ℕ, ◌+◌, ◌*◌, ◌^◌, ◌<◌, ◌≤◌, List, [], ◌∷◌, ◌++◌, length, take, drop, get_or, arith, length-append, lit<, sym, ◌∙◌, ap}
use Rattle.std.specs.List.{AllByRecursion}
use Rattle.std.proofs.lemmas.Grind.{pow_more}
use Rattle.std.proofs.lemmas.List.{take_more, drop_more}
use Rattle.std.proofs.Math.Nat.{pow-le-pow_right}
use Rattle.h3_coding.specs.Encodings.{big_endian, IsByte}

-- one more byte at the end
pub number_of_push : (xs : List ℕ) (b : ℕ) → big_endian (xs ++ b ∷ []) ≡ big_endian xs * 256 + b
number_of_push [] b = omega arith
number_of_push (x ∷ xs) b =
    rw (length-append xs (b ∷ []), pow_more 256 (length xs), number_of_push xs b) (omega arith)

pub each_push : (xs : List ℕ) (b : ℕ) → AllByRecursion IsByte xs → b < 256 → AllByRecursion IsByte (xs ++ b ∷ [])
each_push [] b h k = (k, tt)
each_push (x ∷ xs) b h k = (h.0, each_push xs b h.1 k)

-- what is left of 62 bits has room for one more byte
pub room_for_byte : (n i : ℕ) → n < 64 * 256 ^ i → i < 7 → n < 64 * 256 ^ 6
room_for_byte n i h k =
    let few : i ≤ 6 = omega arith in
    let le : 256 ^ i ≤ 256 ^ 6 = pow-le-pow_right (lit< tt) few in
    omega arith

-- what one more byte of a list is
front_byte : (all : List ℕ) (i b : ℕ) → i < length all → b ≡ get_or (drop i all) 0 0 → take (i + 1) all ≡ take i all ++ b ∷ []
front_byte all i b h e =
    let at : get_or (drop i all) 0 0 ≡ get_or all i 0 = rw (drop_more all i 0 h) in
    take_more all i 0 h ∙ ap (λ x. take i all ++ x ∷ []) (sym (e ∙ at))

pub next_number : (first : ℕ) (all : List ℕ) (i number b : ℕ) → i < length all → b ≡ get_or (drop i all) 0 0 → number ≡ big_endian (first ∷ take i all) → number * 256 + b ≡ big_endian (first ∷ take (i + 1) all)
next_number first all i number b h e k =
    rw (k, front_byte all i b h e) (sym (number_of_push (first ∷ take i all) b))

pub next_bytes : (all : List ℕ) (i b : ℕ) → i < length all → b ≡ get_or (drop i all) 0 0 → b < 256 → AllByRecursion IsByte (take i all) → AllByRecursion IsByte (take (i + 1) all)
next_bytes all i b h e k each = rw (front_byte all i b h e) (each_push (take i all) b each k)

pub next_below : (number i b : ℕ) → number < 64 * 256 ^ i → b < 256 → number * 256 + b < 64 * 256 ^ (i + 1)
next_below number i b h k = rw (pow_more 256 i) (omega arith)
