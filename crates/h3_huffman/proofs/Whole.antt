-- The whole bytes of what is pending, of which eight are written at once.
use Rattle.std.proofs.Common.{◌≡◌, ℕ, zero, suc, ◌+◌, ◌*◌, ◌-◌, ◌/◌, ◌%◌, ◌^◌, ◌<◌, ◌≤◌, List, [], ◌∷◌, ◌++◌, length, take, drop, get_or, refl, ap, sym, ◌∙◌, arith, append-nil, flat_map, bit_or, mul_assoc, add-mul, lit≤}
use Rattle.std.specs.Int.{w64, to_be_bytes}
use Rattle.std.specs.List.{AllByRecursion}
use Rattle.std.proofs.lemmas.List.{take-append-drop, length-take-le}
use Rattle.std.proofs.lemmas.List.Concat.{flat_map-append}
use Rattle.std.proofs.lemmas.Nat.{pow_pos, pow-add, shr-shr, shl-shr, shl_below, shr_below, or_shifted, mod_below, mod_low, mul-add-lt}
use Rattle.std.proofs.Math.Nat.{mul-add-div_right}
use Rattle.std.proofs.Math.Pow.{mod-mod-pow}
use Rattle.std.proofs.Math.Seq.{take-append_seam, take-append-add}
use Rattle.h3_huffman.specs.Huffman.{bits, code_word}
use Rattle.h3_huffman.specs.Payload.{IsByte}
use Rattle.h3_huffman.specs.Writing.{Written, IsHighWord, IsPending}
use Rattle.h3_huffman.proofs.Bits.{bits-add, bits-low, length-bits}
use Rattle.h3_huffman.proofs.Writing.{add_word, move_out, length-payload_bytes}
use Rattle.h3_huffman.proofs.Pending.{put_behind, low_alone, front_high, rest_high}
use Rattle.h3_huffman.proofs.WritingFront.{take_within}

pub eight_bits : (n : ℕ) → flat_map (bits 8) (to_be_bytes w64 n) ≡ bits 64 n
eight_bits n =
    let a : bits 8 (n / 2 ^ 56 % 2 ^ 8) ≡ bits 8 (n / 2 ^ 56) = bits-low 8 8 (n / 2 ^ 56) (lit≤ tt) in
    let b : bits 8 (n / 2 ^ 48 % 2 ^ 8) ≡ bits 8 (n / 2 ^ 48) = bits-low 8 8 (n / 2 ^ 48) (lit≤ tt) in
    let c : bits 8 (n / 2 ^ 40 % 2 ^ 8) ≡ bits 8 (n / 2 ^ 40) = bits-low 8 8 (n / 2 ^ 40) (lit≤ tt) in
    let d : bits 8 (n / 2 ^ 32 % 2 ^ 8) ≡ bits 8 (n / 2 ^ 32) = bits-low 8 8 (n / 2 ^ 32) (lit≤ tt) in
    let e : bits 8 (n / 2 ^ 24 % 2 ^ 8) ≡ bits 8 (n / 2 ^ 24) = bits-low 8 8 (n / 2 ^ 24) (lit≤ tt) in
    let f : bits 8 (n / 2 ^ 16 % 2 ^ 8) ≡ bits 8 (n / 2 ^ 16) = bits-low 8 8 (n / 2 ^ 16) (lit≤ tt) in
    let g : bits 8 (n / 2 ^ 8 % 2 ^ 8) ≡ bits 8 (n / 2 ^ 8) = bits-low 8 8 (n / 2 ^ 8) (lit≤ tt) in
    let h : bits 8 (n % 2 ^ 8) ≡ bits 8 n = bits-low 8 8 n (lit≤ tt) in
    let s : bits (8 + 56) n ≡ bits 8 (n / 2 ^ 56) ++ bits 56 n = bits-add 8 56 n in
    let t : bits (8 + 48) n ≡ bits 8 (n / 2 ^ 48) ++ bits 48 n = bits-add 8 48 n in
    let u : bits (8 + 40) n ≡ bits 8 (n / 2 ^ 40) ++ bits 40 n = bits-add 8 40 n in
    let v : bits (8 + 32) n ≡ bits 8 (n / 2 ^ 32) ++ bits 32 n = bits-add 8 32 n in
    let w : bits (8 + 24) n ≡ bits 8 (n / 2 ^ 24) ++ bits 24 n = bits-add 8 24 n in
    let x : bits (8 + 16) n ≡ bits 8 (n / 2 ^ 16) ++ bits 16 n = bits-add 8 16 n in
    let y : bits (8 + 8) n ≡ bits 8 (n / 2 ^ 8) ++ bits 8 n = bits-add 8 8 n in
    rw (a, b, c, d, e, f, g, h, s, t, u, v, w, x, y, append-nil) refl

pub eight_below : (n : ℕ) → AllByRecursion IsByte (to_be_bytes w64 n)
eight_below n = (omega arith, (omega arith, (omega arith, (omega arith, (omega arith, (omega arith, (omega arith, (omega arith, tt))))))))

-- fronts of one length
pub fronts_same : (a b c d : List ℕ) → length a ≡ length c → a ++ b ≡ c ++ d → a ≡ c
fronts_same a b c d same e =
    sym (take-append_seam a b) ∙ ap (λ x. take (length a) x) e ∙ ap (λ k. take k (c ++ d)) same ∙ take-append_seam c d

pub All-front : (P : ℕ → Type 0) (k : ℕ) (xs : List ℕ) → AllByRecursion P xs → AllByRecursion P (take k xs)
All-front P zero xs h = tt
All-front P (suc k) [] h = tt
All-front P (suc k) (x ∷ xs) h = (h.0, All-front P k xs h.1)

-- the first bytes of a number of 64 bits
pub front_bits : (n k : ℕ) → k ≤ 8 → flat_map (bits 8) (take k (to_be_bytes w64 n)) ≡ bits (8 * k) (n / 2 ^ (64 - 8 * k))
front_bits n k few =
    let bytes = to_be_bytes w64 n in
    let eight : length bytes ≡ 8 = refl in
    let width : 8 * k + (64 - 8 * k) ≡ 64 = omega arith in
    let split : bits (8 * k + (64 - 8 * k)) n ≡ bits (8 * k) (n / 2 ^ (64 - 8 * k)) ++ bits (64 - 8 * k) n = bits-add (8 * k) (64 - 8 * k) n in
    let parts : flat_map (bits 8) (take k bytes) ++ flat_map (bits 8) (drop k bytes) ≡ bits (8 * k) (n / 2 ^ (64 - 8 * k)) ++ bits (64 - 8 * k) n =
    sym (flat_map-append (bits 8) (take k bytes) (drop k bytes)) ∙ ap (λ x. flat_map (bits 8) x) (take-append-drop k bytes) ∙ eight_bits n ∙ rw width at split in
    let size : length (flat_map (bits 8) (take k bytes)) ≡ length (bits (8 * k) (n / 2 ^ (64 - 8 * k))) =
    length-payload_bytes (take k bytes) ∙ ap (λ x. 8 * x) (length-take-le k bytes (omega (arith, eight, few))) ∙ sym (length-bits (8 * k) (n / 2 ^ (64 - 8 * k))) in
    fronts_same (flat_map (bits 8) (take k bytes)) (flat_map (bits 8) (drop k bytes)) (bits (8 * k) (n / 2 ^ (64 - 8 * k))) (bits (64 - 8 * k) n) size parts

-- whole bytes go out: the first ones of the eight that are written
pub move_whole : (plain out new : List ℕ) (index acc count written number left k : ℕ) → Written plain out index acc count written → count ≡ 8 * k + left → k ≤ 8 → number / 2 ^ (64 - 8 * k) ≡ acc / 2 ^ left →
    written + 8 ≤ length new → length new ≡ length out → take (written + 8) new ≡ take written out ++ to_be_bytes w64 number → Written plain new index (acc % 2 ^ left) left (written + k)
move_whole plain out new index acc count written number left k w size few front fits same put =
    let bytes = to_be_bytes w64 number in
    let done : length (take written out) ≡ written = length-take-le written out w.within in
    let cut : take (written + k) new ≡ take (written + k) (take written out ++ bytes) = take_within (written + k) (written + 8) new _ (omega (arith, few)) put in
    let parted : take (length (take written out) + k) (take written out ++ bytes) ≡ take written out ++ take k bytes = take-append-add (take written out) bytes k in
    let spelled : flat_map (bits 8) (take k bytes) ≡ bits (8 * k) (acc / 2 ^ left) = front_bits number k few ∙ ap (λ x. bits (8 * k) x) front in
    let split : bits count acc ≡ flat_map (bits 8) (take k bytes) ++ bits left acc = rw size (bits-add (8 * k) left acc ∙ ap (λ x. x ++ bits left acc) (sym spelled)) in
    low_alone plain new index acc left (written + k) (move_out plain out new (take k bytes) index acc count left written (written + k) w (cut ∙ rw done at parted) split (omega (arith, few, fits)) same (All-front IsByte k bytes (eight_below number)))

-- words behind what is pending, whose last bits may not fit
pub front_joined : (value count word len left k : ℕ) → count ≤ 64 → len ≤ 64 → word < 2 ^ len → count + len ≡ 8 * k + left → k ≤ 8 → left ≤ len →
    bit_or (value * 2 ^ (64 - count)) (word * 2 ^ (64 - len) / 2 ^ count) / 2 ^ (64 - 8 * k) ≡ (value * 2 ^ len + word) / 2 ^ left
front_joined value count word len left k few fits below size most least =
    let high = word * 2 ^ (64 - len) in
    let behind = high / 2 ^ count in
    let whole = value * 2 ^ len + word in
    let full : len + (64 - len) ≡ 64 = omega arith in
    let full' : (64 - count) + count ≡ 64 = omega arith in
    let word_fits : high < 2 ^ 64 = rw full at (shl_below word len (64 - len) below) in
    let low : behind < 2 ^ (64 - count) = shr_below high (64 - count) count (rw full' word_fits) in
    let joined : bit_or (value * 2 ^ (64 - count)) behind ≡ value * 2 ^ (64 - count) + behind = or_shifted value (64 - count) behind low in
    let power : 2 ^ ((64 - count) + count) ≡ 2 ^ (64 - count) * 2 ^ count = pow-add 2 (64 - count) count in
    let power' : 2 ^ (len + (64 - len)) ≡ 2 ^ len * 2 ^ (64 - len) = pow-add 2 len (64 - len) in
    let same : value * 2 ^ (64 - count) * 2 ^ count ≡ value * 2 ^ len * 2 ^ (64 - len) =
    mul_assoc value (2 ^ (64 - count)) (2 ^ count) ∙ ap (λ x. value * x) (sym power ∙ ap (λ x. 2 ^ x) (full' ∙ sym full) ∙ power') ∙ sym (mul_assoc value (2 ^ len) (2 ^ (64 - len))) in
    let shifted : value * 2 ^ (64 - count) + behind ≡ whole * 2 ^ (64 - len) / 2 ^ count =
    sym (mul-add-div_right (pow_pos count) (value * 2 ^ (64 - count)) high) ∙ ap (λ x. (x + high) / 2 ^ count) same ∙ ap (λ x. x / 2 ^ count) (sym (add-mul (value * 2 ^ len) word (2 ^ (64 - len)))) in
    let parts : count + (64 - 8 * k) ≡ (64 - len) + left = omega (arith, size, most, least, few, fits) in
    let down : whole * 2 ^ (64 - len) / 2 ^ count / 2 ^ (64 - 8 * k) ≡ whole * 2 ^ (64 - len) / 2 ^ (count + (64 - 8 * k)) = shr-shr (whole * 2 ^ (64 - len)) count (64 - 8 * k) in
    let down' : whole * 2 ^ (64 - len) / 2 ^ (64 - len) / 2 ^ left ≡ whole * 2 ^ (64 - len) / 2 ^ ((64 - len) + left) = shr-shr (whole * 2 ^ (64 - len)) (64 - len) left in
    ap (λ x. x / 2 ^ (64 - 8 * k)) (joined ∙ shifted) ∙ rw parts at down ∙ sym down' ∙ ap (λ x. x / 2 ^ left) (shl-shr whole (64 - len))

-- what is behind the last words, of them alone
pub rest_of_last : (value word len left : ℕ) → word < 2 ^ len → left ≤ len → (value * 2 ^ len + word) % 2 ^ left ≡ word % 2 ^ left
rest_of_last value word len left below least =
    let parts : (len - left) + left ≡ len = omega arith in
    let low : (value * 2 ^ len + word) % 2 ^ len ≡ word = mod_low value len word below in
    let cut : (value * 2 ^ len + word) % 2 ^ ((len - left) + left) % 2 ^ left ≡ (value * 2 ^ len + word) % 2 ^ left = mod-mod-pow (value * 2 ^ len + word) (len - left) left in
    sym (rw parts at cut) ∙ ap (λ x. x % 2 ^ left) low

-- the whole bytes of what is pending go out
pub flush_whole : (plain out new : List ℕ) (index acc count written : ℕ) → IsPending plain out index acc count written → count < 64 → written + 8 ≤ length new → length new ≡ length out →
    take (written + 8) new ≡ take written out ++ to_be_bytes w64 acc → IsPending plain new index (acc * 2 ^ (count - count % 8) % 2 ^ 64) (count % 8) (written + count / 8)
flush_whole plain out new index acc count written p few fits same put =
    let k = count / 8 in
    let left = count % 8 in
    let size : count ≡ 8 * k + left = omega arith in
    record {
      value = p.value % 2 ^ left;
      high = ap (λ x. x * 2 ^ (count - left) % 2 ^ 64) p.high ∙ rest_high p.value count left (omega arith) (omega (arith, few));
      below = mod_below p.value (2 ^ left) (pow_pos left);
      standing = move_whole plain out new index p.value count written acc left k p.standing size (omega (arith, few)) (ap (λ x. x / 2 ^ (64 - 8 * k)) p.high ∙ front_high p.value count left k size (omega (arith, few))) fits same put;
    }

-- one word behind another, before both go behind what is pending
pub words_joined : (value one two len1 len2 : ℕ) → (value * 2 ^ len1 + one) * 2 ^ len2 + two ≡ value * 2 ^ (len1 + len2) + (one * 2 ^ len2 + two)
words_joined value one two len1 len2 =
    let power : 2 ^ (len1 + len2) ≡ 2 ^ len1 * 2 ^ len2 = pow-add 2 len1 len2 in
    let spread : (value * 2 ^ len1 + one) * 2 ^ len2 ≡ value * 2 ^ len1 * 2 ^ len2 + one * 2 ^ len2 = add-mul (value * 2 ^ len1) one (2 ^ len2) in
    let whole : value * 2 ^ len1 * 2 ^ len2 ≡ value * 2 ^ (len1 + len2) = mul_assoc value (2 ^ len1) (2 ^ len2) ∙ ap (λ x. value * x) (sym power) in
    omega (arith, spread, whole)

-- two words go behind what is pending, and the whole bytes go out
pub put_both : (plain out new : List ℕ) (index acc count written one two len1 len2 both : ℕ) → IsPending plain out index acc count written → count < 8 → index + 2 ≤ length plain →
    len1 ≡ length (code_word (get_or plain index 0)) → IsHighWord (get_or plain index 0) one → len2 ≡ length (code_word (get_or plain (index + 1) 0)) → IsHighWord (get_or plain (index + 1) 0) two →
    5 ≤ len1 → len1 ≤ 30 → 5 ≤ len2 → len2 ≤ 30 → both ≡ bit_or one (two / 2 ^ len1) → written + 8 ≤ length new → length new ≡ length out →
    take (written + 8) new ≡ take written out ++ to_be_bytes w64 (bit_or acc (both / 2 ^ count)) →
    IsPending plain new (index + 2) (both * 2 ^ ((len1 + len2) - (count + (len1 + len2)) % 8) % 2 ^ 64) ((count + (len1 + len2)) % 8) (written + (count + (len1 + len2)) / 8)
put_both plain out new index acc count written one two len1 len2 both p few there is1 w1 is2 w2 least1 most1 least2 most2 is fits same put =
    let len = len1 + len2 in
    let k = (count + len) / 8 in
    let left = (count + len) % 8 in
    let size : count + len ≡ 8 * k + left = omega arith in
    let word = w1.value * 2 ^ len2 + w2.value in
    let below1 : w1.value < 2 ^ len1 = rw is1 w1.below in
    let below2 : w2.value < 2 ^ len2 = rw is2 w2.below in
    let high1 : one ≡ w1.value * 2 ^ (64 - len1) = rw is1 w1.high in
    let high2 : two ≡ w2.value * 2 ^ (64 - len2) = rw is2 w2.high in
    let joined : both ≡ word * 2 ^ (64 - len) = is ∙ ap (λ x. bit_or x (two / 2 ^ len1)) high1 ∙ put_behind w1.value len1 len2 w2.value two (omega (arith, most1, most2)) below2 high2 in
    let power : 2 ^ (len2 + len1) ≡ 2 ^ len2 * 2 ^ len1 = pow-add 2 len2 len1 in
    let turn : len2 + len1 ≡ len = omega arith in
    let below : word < 2 ^ len = rw turn at (rw (← power) at (mul-add-lt w1.value (2 ^ len2) w2.value (2 ^ len1) below1 below2)) in
    let first : Written plain out (index + 1) (p.value * 2 ^ len1 + w1.value) (count + len1) written = rw is1 (add_word plain out index p.value count written w1.value p.standing (omega (arith, there)) w1.word w1.below) in
    let second : Written plain out (index + 1 + 1) ((p.value * 2 ^ len1 + w1.value) * 2 ^ len2 + w2.value) (count + len1 + len2) written =
    rw is2 (add_word plain out (index + 1) (p.value * 2 ^ len1 + w1.value) (count + len1) written w2.value first (omega (arith, there)) w2.word w2.below) in
    let value : (p.value * 2 ^ len1 + w1.value) * 2 ^ len2 + w2.value ≡ p.value * 2 ^ len + word = words_joined p.value w1.value w2.value len1 len2 in
    let next : index + 1 + 1 ≡ index + 2 = omega arith in
    let total : count + len1 + len2 ≡ count + len = omega arith in
    let all : Written plain out (index + 2) (p.value * 2 ^ len + word) (count + len) written = rw (next, value, total) at second in
    let front : bit_or acc (both / 2 ^ count) / 2 ^ (64 - 8 * k) ≡ (p.value * 2 ^ len + word) / 2 ^ left =
    ap (λ x. bit_or x (both / 2 ^ count) / 2 ^ (64 - 8 * k)) p.high ∙ ap (λ x. bit_or (p.value * 2 ^ (64 - count)) (x / 2 ^ count) / 2 ^ (64 - 8 * k)) joined
    ∙ front_joined p.value count word len left k (omega (arith, few)) (omega (arith, most1, most2)) below size (omega (arith, few, most1, most2)) (omega (arith, least1, least2)) in
    let rest = rest_of_last p.value word len left below (omega (arith, least1, least2)) in
    record {
      value = (p.value * 2 ^ len + word) % 2 ^ left;
      high = ap (λ x. x * 2 ^ (len - left) % 2 ^ 64) joined ∙ rest_high word len left (omega (arith, least1, least2)) (omega (arith, most1, most2)) ∙ ap (λ x. x * 2 ^ (64 - left)) (sym rest);
      below = mod_below (p.value * 2 ^ len + word) (2 ^ left) (pow_pos left);
      standing = move_whole plain out new (index + 2) (p.value * 2 ^ len + word) (count + len) written (bit_or acc (both / 2 ^ count)) left k all size (omega (arith, few, most1, most2)) front fits same put;
    }
