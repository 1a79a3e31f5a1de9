-- The low bits of a number, as a list.
use Rattle.std.proofs.Common.{◌≡◌, ℕ, zero, suc, ◌+◌, ◌*◌, ◌-◌, ◌/◌, ◌%◌, ◌^◌, ◌<◌, ◌≤◌, List, [], ◌∷◌, ◌++◌, length, replicate, refl, ap, sym, ◌∙◌, arith, append_assoc, append-nil, length-append}
use Rattle.std.proofs.Common.{bit_or}
use Rattle.std.proofs.lemmas.Nat.{shr-shr, pow_pos, pow-add, field_of, mod-pow-add, or_shifted, shr_high, mod_low, shl-shr, mod_below}
use Rattle.std.proofs.lemmas.List.{replicate_more, same_from_push}
use Rattle.std.proofs.Math.Nat.{add-zero, mul-mod_left}
use Rattle.h3_huffman.specs.Huffman.{bits}

pub length-bits : (count n : ℕ) → length (bits count n) ≡ count
unfolding bits
length-bits zero n = refl
length-bits (suc count) n = rw (length-append (bits count (n / 2)) (n % 2 ∷ []), length-bits count (n / 2)) (omega arith)

pub half_shr : (n b : ℕ) → n / 2 / 2 ^ b ≡ n / 2 ^ suc b
half_shr n b =
    let e : n / 2 ^ 1 / 2 ^ b ≡ n / 2 ^ (1 + b) = shr-shr n 1 b in
    let k : 1 + b ≡ suc b = omega arith in
    rw k at e

-- the high ones, then the low ones
pub bits-add : (a b n : ℕ) → bits (a + b) n ≡ bits a (n / 2 ^ b) ++ bits b n
unfolding bits
bits-add a zero n =
    let e : a + 0 ≡ a = omega arith in
    let one : n / 1 ≡ n = omega arith in
    simp (e, one, append-nil)
bits-add a (suc b) n =
    let e : a + suc b ≡ suc (a + b) = omega arith in
    let ih = bits-add a b (n / 2) in
    rw (e, ih, half_shr n b, append_assoc) refl

-- higher bits are left out
pub bits-mod : (k more n : ℕ) → bits k (n % 2 ^ (k + more)) ≡ bits k n
unfolding bits
bits-mod zero more n = refl
bits-mod (suc k) more n =
    let e : suc k + more ≡ (k + more) + 1 = omega arith in
    let high : n % 2 ^ ((k + more) + 1) / 2 ^ 1 ≡ n / 2 ^ 1 % 2 ^ (k + more) = field_of n (k + more) 1 in
    let parts : n % 2 ^ ((k + more) + 1) ≡ (n / 2 ^ 1 % 2 ^ (k + more)) * 2 ^ 1 + n % 2 ^ 1 = mod-pow-add n (k + more) 1 in
    let low : n % 2 ^ ((k + more) + 1) % 2 ≡ n % 2 = omega (arith, parts) in
    rw (e, high, low, bits-mod k more (n / 2)) refl

-- a number's low bits alone count
pub bits-low : (k w n : ℕ) → k ≤ w → bits k (n % 2 ^ w) ≡ bits k n
bits-low k w n h =
    let e : k + (w - k) ≡ w = omega arith in
    rw (← e) (bits-mod k (w - k) n)

-- new bits behind those that are there
pub bits-join : (k m acc new : ℕ) → new < 2 ^ m → bits (k + m) (acc * 2 ^ m + new) ≡ bits k acc ++ bits m new
bits-join k m acc new h =
    let whole = bits-add k m (acc * 2 ^ m + new) in
    let low : bits m ((acc * 2 ^ m + new) % 2 ^ m) ≡ bits m (acc * 2 ^ m + new) = bits-low m m (acc * 2 ^ m + new) (omega arith) in
    whole ∙ rw (shr_high acc m new h, ← low, mod_low acc m new h) refl

-- `acc << m | new`, while it has room
pub bits-shift_in : (k m acc new : ℕ) → new < 2 ^ m → k + m ≤ 64 → bits (k + m) (bit_or (acc * 2 ^ m % 2 ^ 64) new) ≡ bits k acc ++ bits m new
bits-shift_in k m acc new h room =
    let width : (64 - m) + m ≡ 64 = omega arith in
    let parts : acc * 2 ^ m % 2 ^ ((64 - m) + m) ≡ (acc * 2 ^ m / 2 ^ m % 2 ^ (64 - m)) * 2 ^ m + acc * 2 ^ m % 2 ^ m = mod-pow-add (acc * 2 ^ m) (64 - m) m in
    let whole : acc * 2 ^ m / 2 ^ m ≡ acc = shl-shr acc m in
    let none : acc * 2 ^ m % 2 ^ m ≡ 0 = mul-mod_left acc (2 ^ m) in
    let shifted : acc * 2 ^ m % 2 ^ 64 ≡ acc % 2 ^ (64 - m) * 2 ^ m = rw (whole, none, width) at parts ∙ add-zero _ in
    let kept : bits k (acc % 2 ^ (64 - m)) ≡ bits k acc = bits-low k (64 - m) acc (omega arith) in
    let joined = bits-join k m (acc % 2 ^ (64 - m)) new h in
    rw (shifted, or_shifted (acc % 2 ^ (64 - m)) m new h) (rw kept at joined)

-- what the bits at the front spell
pub bits-front : (count acc m l : ℕ) (x : List ℕ) → m ≤ count → l ≤ m → bits m (acc / 2 ^ (count - m) % 2 ^ m) ≡ x ++ bits (m - l) (acc / 2 ^ (count - m) % 2 ^ m) → bits count acc ≡ x ++ bits (count - l) acc
bits-front count acc m l x enough within e =
    let d = count - m in
    let high = acc / 2 ^ d in
    let split : m + d ≡ count = omega arith in
    let rest : (m - l) + d ≡ count - l = omega arith in
    let whole : bits (m + d) acc ≡ bits m high ++ bits d acc = bits-add m d acc in
    let after : bits ((m - l) + d) acc ≡ bits (m - l) high ++ bits d acc = bits-add (m - l) d acc in
    let low : bits m (high % 2 ^ m) ≡ bits m high = bits-low m m high (omega arith) in
    let low' : bits (m - l) (high % 2 ^ m) ≡ bits (m - l) high = bits-low (m - l) m high (omega arith) in
    let front : bits m high ≡ x ++ bits (m - l) high = sym low ∙ e ∙ ap (λ y. x ++ y) low' in
    rw (split, front, append_assoc) at whole ∙ ap (λ y. x ++ y) (rw rest at (sym after))

pub bits_of_ones : bits 32 4294967295 ≡ replicate 32 1
unfolding bits
bits_of_ones = refl

-- ones alone are the greatest number
pub ones_from : (k n : ℕ) → bits k n ≡ replicate k 1 → n % 2 ^ k ≡ 2 ^ k - 1
unfolding bits
ones_from zero n h = omega arith
ones_from (suc k) n h =
    let push = replicate_more {X = ℕ} k 1 in
    let next : k + 1 ≡ suc k = omega arith in
    let same = same_from_push (bits k (n / 2)) (replicate k 1) (n % 2) 1 (h ∙ sym (rw next at push)) in
    let ih = ones_from k (n / 2) same.0 in
    let parts : n % 2 ^ (k + 1) ≡ (n / 2 ^ 1 % 2 ^ k) * 2 ^ 1 + n % 2 ^ 1 = mod-pow-add n k 1 in
    let parts' : n % 2 ^ suc k ≡ (n / 2 % 2 ^ k) * 2 + n % 2 = rw next at parts in
    let more : 2 ^ suc k ≡ 2 ^ k * 2 = rw next at (pow-add 2 k 1) in
    let pos = pow_pos k in
    omega (arith, parts', ih, same.1, more, pos)

pub ones_to : (k n : ℕ) → n % 2 ^ k ≡ 2 ^ k - 1 → bits k n ≡ replicate k 1
unfolding bits
ones_to zero n h = refl
ones_to (suc k) n h =
    let push = replicate_more {X = ℕ} k 1 in
    let next : k + 1 ≡ suc k = omega arith in
    let parts : n % 2 ^ (k + 1) ≡ (n / 2 ^ 1 % 2 ^ k) * 2 ^ 1 + n % 2 ^ 1 = mod-pow-add n k 1 in
    let parts' : n % 2 ^ suc k ≡ (n / 2 % 2 ^ k) * 2 + n % 2 = rw next at parts in
    let more : 2 ^ suc k ≡ 2 ^ k * 2 = rw next at (pow-add 2 k 1) in
    let below : n / 2 % 2 ^ k < 2 ^ k = mod_below (n / 2) (2 ^ k) (pow_pos k) in
    let one : n % 2 ≡ 1 = omega (arith, parts', h, more, below) in
    let high : n / 2 % 2 ^ k ≡ 2 ^ k - 1 = omega (arith, parts', h, more, below) in
    rw (ones_to k (n / 2) high, one) (rw next at push)
