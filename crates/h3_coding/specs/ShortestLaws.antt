-- The shortest encoding, by how large the number is.
use Rattle.std.proofs.Common.{◌≡◌, ℕ, ◌*◌, ◌^◌, ◌<◌, ◌≤◌, ◌%◌, [], ◌∷◌, bit_or, arith, refl}
use Rattle.std.specs.Int.{w16, w32, w64, to_be_bytes}
use Rattle.std.proofs.lemmas.Bool.{lt-ltb, le-ltb}
use Rattle.std.proofs.lemmas.Nat.{or_shifted}
use Rattle.h3_coding.specs.Encodings.{encoding}

pub encoding_one : (x : ℕ) → x < 2 ^ 6 → encoding x ≡ x ∷ []
unfolding encoding
encoding_one x h =
    let small : x % 256 ≡ x = omega arith in
    rw (lt-ltb x 64 h, small) refl

pub encoding_two : (x : ℕ) → 2 ^ 6 ≤ x → x < 2 ^ 14 → encoding x ≡ to_be_bytes w16 (bit_or (2 ^ 14) x)
unfolding encoding
encoding_two x h k = rw (le-ltb x 64 h, lt-ltb x (2 ^ 14) k, or_shifted 1 14 x k) refl

pub encoding_four : (x : ℕ) → 2 ^ 14 ≤ x → x < 2 ^ 30 → encoding x ≡ to_be_bytes w32 (bit_or (2 * 2 ^ 30) x)
unfolding encoding
encoding_four x h k =
    let past : 2 ^ 6 ≤ x = omega arith in
    rw (le-ltb x 64 past, le-ltb x (2 ^ 14) h, lt-ltb x (2 ^ 30) k, or_shifted 2 30 x k) refl

pub encoding_eight : (x : ℕ) → 2 ^ 30 ≤ x → x < 2 ^ 62 → encoding x ≡ to_be_bytes w64 (bit_or (3 * 2 ^ 62) x)
unfolding encoding
encoding_eight x h k =
    let past : 2 ^ 6 ≤ x = omega arith in
    let past' : 2 ^ 14 ≤ x = omega arith in
    rw (le-ltb x 64 past, le-ltb x (2 ^ 14) past', le-ltb x (2 ^ 30) h, or_shifted 3 62 x k) refl
