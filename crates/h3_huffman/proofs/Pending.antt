-- Bits that are pending at the high end of a number.
use Rattle.std.proofs.Common.{◌≡◌, ℕ, ◌+◌, ◌*◌, ◌-◌, ◌/◌, ◌%◌, ◌^◌, ◌<◌, ◌≤◌, List, ◌++◌, length, take, get_or, flat_map, refl, ap, sym, ◌∙◌, arith, bit_or, mul_assoc, add-mul, lit<}
use Rattle.std.specs.Int.{w32, to_be_bytes}
use Rattle.std.proofs.Math.Nat.{add-zero, mod-eq_of_lt, mul-mod_left}
use Rattle.std.proofs.lemmas.Nat.{pow_pos, pow-add, shr-shr, shl-shr, shl_whole, shl_below, shr_below, or_shifted, mul-add-lt, mod-pow-add, mod_below}
use Rattle.h3_huffman.specs.Huffman.{bits, huffman, code_word}
use Rattle.h3_huffman.specs.Writing.{Written, IsHighWord, IsPending}
use Rattle.h3_huffman.proofs.Bits.{bits-low}
use Rattle.h3_huffman.proofs.Writing.{begin, add_word, move_word}

pub none_pending : (plain out : List ℕ) → length (huffman plain) ≤ length out → IsPending plain out 0 0 0 0
none_pending plain out h = record { value = 0; high = refl; below = lit< tt; standing = begin plain out h }

-- `acc | number >> count`, where `acc` ends at `count`, and the word of `len` bits at the high end of `number`
pub put_behind : (value count len word number : ℕ) → count + len ≤ 64 → word < 2 ^ len → number ≡ word * 2 ^ (64 - len) →
    bit_or (value * 2 ^ (64 - count)) (number / 2 ^ count) ≡ (value * 2 ^ len + word) * 2 ^ (64 - (count + len))
put_behind value count len word number fits below high =
    let more = 64 - (count + len) in
    let room : len + more ≡ 64 - count = omega arith in
    let apart : more + count ≡ 64 - len = omega arith in
    let power : 2 ^ (len + more) ≡ 2 ^ len * 2 ^ more = pow-add 2 len more in
    let split : 2 ^ (more + count) ≡ 2 ^ more * 2 ^ count = pow-add 2 more count in
    let whole : word * 2 ^ (64 - len) ≡ word * 2 ^ more * 2 ^ count = ap (λ x. word * x) (rw apart at split) ∙ sym (mul_assoc word (2 ^ more) (2 ^ count)) in
    let moved : number / 2 ^ count ≡ word * 2 ^ more = ap (λ x. x / 2 ^ count) (high ∙ whole) ∙ shl-shr (word * 2 ^ more) count in
    let low : word * 2 ^ more < 2 ^ (64 - count) = rw room at (shl_below word len more below) in
    let shifted : value * 2 ^ (64 - count) ≡ value * 2 ^ len * 2 ^ more = ap (λ x. value * x) (rw room at power) ∙ sym (mul_assoc value (2 ^ len) (2 ^ more)) in
    rw moved (or_shifted value (64 - count) (word * 2 ^ more) low ∙ ap (λ x. x + word * 2 ^ more) shifted ∙ sym (add-mul (value * 2 ^ len) word (2 ^ more)))

-- the word of the byte at `index`, which is the one before `next`
pub add_at : (plain out : List ℕ) (index next acc count written number len : ℕ) → next ≡ index + 1 → IsPending plain out index acc count written → count + len ≤ 64 → index < length plain → len ≡ length (code_word (get_or plain index 0)) →
    IsHighWord (get_or plain index 0) number → IsPending plain out next (bit_or acc (number / 2 ^ count)) (count + len) written
add_at plain out index next acc count written number len e p fits there is w =
    let size = length (code_word (get_or plain index 0)) in
    let power : 2 ^ (size + count) ≡ 2 ^ size * 2 ^ count = pow-add 2 size count in
    let turn : size + count ≡ count + size = omega arith in
    let few : p.value * 2 ^ size + w.value < 2 ^ (count + size) = rw turn at (rw (← power) at (mul-add-lt p.value (2 ^ size) w.value (2 ^ count) p.below w.below)) in
    rw (e, is) (record {
      value = p.value * 2 ^ size + w.value;
      high = ap (λ x. bit_or x (number / 2 ^ count)) p.high ∙ put_behind p.value count size w.value number (rw is at fits) w.below w.high;
      below = few;
      standing = add_word plain out index p.value count written w.value p.standing there w.word w.below;
    })

-- the low bits of what is pending are all that counts
pub low_alone : (plain out : List ℕ) (index acc count written : ℕ) → Written plain out index acc count written → Written plain out index (acc % 2 ^ count) count written
low_alone plain out index acc count written w =
    record {
      parts = ap (λ x. flat_map (bits 8) (take written out) ++ x) (bits-low count count acc (omega arith)) ∙ w.parts;
      within = w.within;
      room = w.room;
      bytes = w.bytes;
    }

-- what is pending behind the first bits
pub rest_high : (value count left : ℕ) → left ≤ count → count ≤ 64 → value * 2 ^ (64 - count) * 2 ^ (count - left) % 2 ^ 64 ≡ value % 2 ^ left * 2 ^ (64 - left)
rest_high value count left many fits =
    let more = 64 - left in
    let width : (64 - count) + (count - left) ≡ more = omega arith in
    let all : left + more ≡ 64 = omega arith in
    let power : 2 ^ ((64 - count) + (count - left)) ≡ 2 ^ (64 - count) * 2 ^ (count - left) = pow-add 2 (64 - count) (count - left) in
    let whole : value * 2 ^ (64 - count) * 2 ^ (count - left) ≡ value * 2 ^ more = mul_assoc value (2 ^ (64 - count)) (2 ^ (count - left)) ∙ ap (λ x. value * x) (sym power ∙ ap (λ x. 2 ^ x) width) in
    let parts : value * 2 ^ more % 2 ^ (left + more) ≡ (value * 2 ^ more / 2 ^ more % 2 ^ left) * 2 ^ more + value * 2 ^ more % 2 ^ more = mod-pow-add (value * 2 ^ more) left more in
    let back : value * 2 ^ more / 2 ^ more ≡ value = shl-shr value more in
    let none : value * 2 ^ more % 2 ^ more ≡ 0 = mul-mod_left value (2 ^ more) in
    rw whole (rw (back, none, all) at parts ∙ add-zero _)

-- the first whole bytes of the pending bits
pub front_high : (value count left k : ℕ) → count ≡ 8 * k + left → count ≤ 64 → value * 2 ^ (64 - count) / 2 ^ (64 - 8 * k) ≡ value / 2 ^ left
front_high value count left k size fits =
    let parts : (64 - count) + left ≡ 64 - 8 * k = omega (arith, size, fits) in
    let split : value * 2 ^ (64 - count) / 2 ^ (64 - count) / 2 ^ left ≡ value * 2 ^ (64 - count) / 2 ^ ((64 - count) + left) = shr-shr (value * 2 ^ (64 - count)) (64 - count) left in
    sym (rw parts at split) ∙ ap (λ x. x / 2 ^ left) (shl-shr value (64 - count))

-- four bytes go out
pub move_high : (plain out new : List ℕ) (index acc count written : ℕ) → IsPending plain out index acc count written → 32 ≤ count → count ≤ 64 → written + 4 ≤ length new → length new ≡ length out →
    take (written + 4) new ≡ take written out ++ to_be_bytes w32 (acc / 2 ^ 32) →
    IsPending plain new index (acc * 2 ^ 32 % 2 ^ 64) (count - 32) (written + 4)
move_high plain out new index acc count written p many fits inside same put =
    let word : acc / 2 ^ 32 ≡ p.value / 2 ^ (count - 32) = ap (λ x. x / 2 ^ 32) p.high ∙ front_high p.value count (count - 32) 4 (omega (arith, many)) fits in
    let four_bytes : count - (count - 32) ≡ 32 = omega (arith, many) in
    let rest : p.value * 2 ^ (64 - count) * 2 ^ 32 % 2 ^ 64 ≡ p.value % 2 ^ (count - 32) * 2 ^ (64 - (count - 32)) = rw four_bytes at (rest_high p.value count (count - 32) (omega arith) fits) in
    let width : 32 + (count - 32) ≡ count = omega arith in
    let short : p.value / 2 ^ (count - 32) < 2 ^ 32 = shr_below p.value 32 (count - 32) (rw width p.below) in
    let four : acc / 2 ^ 32 ≡ p.value / 2 ^ (count - 32) % 2 ^ 32 = word ∙ sym (mod-eq_of_lt short) in
    let moved = move_word plain out new index p.value count written p.standing many inside same (rw four at put) in
    record {
      value = p.value % 2 ^ (count - 32);
      high = ap (λ x. x * 2 ^ 32 % 2 ^ 64) p.high ∙ rest;
      below = mod_below p.value (2 ^ (count - 32)) (pow_pos (count - 32));
      standing = low_alone plain new index p.value (count - 32) (written + 4) moved;
    }

-- fewer than 32 bits, at the high end of 32
pub high_half : (value count : ℕ) → count ≤ 32 → value < 2 ^ count → value * 2 ^ (64 - count) / 2 ^ 32 ≡ value * 2 ^ (32 - count) % 2 ^ 64
high_half value count few below =
    let parts : (32 - count) + 32 ≡ 64 - count = omega arith in
    let power : 2 ^ ((32 - count) + 32) ≡ 2 ^ (32 - count) * 2 ^ 32 = pow-add 2 (32 - count) 32 in
    let shifted : value * 2 ^ (64 - count) ≡ value * 2 ^ (32 - count) * 2 ^ 32 = ap (λ x. value * x) (rw parts at power) ∙ sym (mul_assoc value (2 ^ (32 - count)) (2 ^ 32)) in
    let whole : value * 2 ^ (32 - count) % 2 ^ 64 ≡ value * 2 ^ (32 - count) = shl_whole value count (32 - count) 64 below (omega arith) in
    ap (λ x. x / 2 ^ 32) shifted ∙ shl-shr (value * 2 ^ (32 - count)) 32 ∙ sym whole

-- the number that they spell
pub low_half : (value count : ℕ) → count ≤ 32 → value < 2 ^ count → value * 2 ^ (64 - count) / 2 ^ 32 / 2 ^ (32 - count) ≡ value
low_half value count few below =
    let whole : value * 2 ^ (32 - count) % 2 ^ 64 ≡ value * 2 ^ (32 - count) = shl_whole value count (32 - count) 64 below (omega arith) in
    ap (λ x. x / 2 ^ (32 - count)) (high_half value count few below ∙ whole) ∙ shl-shr value (32 - count)
