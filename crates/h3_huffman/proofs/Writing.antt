-- A payload in the midst of its writing.
use Rattle.std.proofs.Common.{◌≡◌, ℕ, zero, suc, ◌+◌, ◌*◌, ◌-◌, ◌/◌, ◌%◌, ◌^◌, ◌<◌, ◌≤◌, List, [], ◌∷◌, ◌++◌, length, take, drop, get_or, set, replicate, refl, ap, sym, ◌∙◌, arith, append_assoc, append-nil, length-append, flat_map, bit_or, lit≤}
use Rattle.std.specs.Int.{w32, to_be_bytes}
use Rattle.std.specs.List.{AllByRecursion}
use Rattle.std.proofs.lemmas.Bool.{and_parts, ltb-true, leb-true, eqb-true}
use Rattle.std.proofs.lemmas.List.{take_more, take_more_set, take_all, length-set, take-append-drop, length-take-le}
use Rattle.std.proofs.lemmas.List.Concat.{flat_map-append}
use Rattle.std.proofs.lemmas.Nat.{pow_pos, pow-add}
use Rattle.h3_huffman.specs.Huffman.{bits, octets, huffman, code_word}
use Rattle.h3_huffman.specs.Payload.{IsByte}
use Rattle.h3_huffman.specs.Tables.{is_word, low_word, IsWord}
use Rattle.h3_huffman.specs.Writing.{Written}
use Rattle.h3_huffman.specs.declared.byte_words.TheConstants.{WORDS, WORD_LENGTHS}
use Rattle.h3_huffman.proofs.Computed.{bytes_hold}
use Rattle.h3_huffman.specs.PayloadLaws.{all_from_at, bytes_same, All-append}
use Rattle.h3_huffman.proofs.Bits.{bits-join, bits-shift_in, length-bits, bits-add, bits-low, ones_to}
use Rattle.h3_huffman.proofs.Payloads.{octets_byte, octets_pad, octets_nil}

pub word_is : (byte : ℕ) → byte < 256 → IsWord byte (get_or WORDS byte 0) (get_or WORD_LENGTHS byte 0)
word_is byte h =
    let c = and_parts _ _ (all_from_at (is_word WORDS WORD_LENGTHS) 0 256 byte bytes_hold (omega arith) (omega arith)) in
    let a = and_parts _ _ c.0 in
    let high = and_parts _ _ c.1 in
    let low = and_parts _ _ high.0 in
    let sizes = and_parts _ _ a.0 in
    record {
      len = eqb-true _ _ sizes.0;
      least = leb-true _ _ sizes.1;
      most = leb-true _ _ a.1;
      word = record { value = low_word byte (get_or WORDS byte 0); high = eqb-true _ _ high.1; word = bytes_same _ _ low.0; below = ltb-true _ _ low.1 };
    }

-- how many bytes some bits make
pub length-octets : (r : List ℕ) → length (octets r) ≡ (length r + 7) / 8
unfolding octets
length-octets [] = refl
length-octets (a ∷ []) = refl
length-octets (a ∷ b ∷ []) = refl
length-octets (a ∷ b ∷ c ∷ []) = refl
length-octets (a ∷ b ∷ c ∷ d ∷ []) = refl
length-octets (a ∷ b ∷ c ∷ d ∷ e ∷ []) = refl
length-octets (a ∷ b ∷ c ∷ d ∷ e ∷ f ∷ []) = refl
length-octets (a ∷ b ∷ c ∷ d ∷ e ∷ f ∷ g ∷ []) = refl
length-octets (a ∷ b ∷ c ∷ d ∷ e ∷ f ∷ g ∷ h ∷ rest) = let more = length-octets rest in omega (arith, more)

pub length-huffman : (plain : List ℕ) → length (huffman plain) ≡ (length (flat_map code_word plain) + 7) / 8
unfolding huffman
length-huffman plain = length-octets (flat_map code_word plain)

pub huffman_length : (plain : List ℕ) (count : ℕ) → count ≡ length (flat_map code_word plain) → (count + 7) / 8 ≡ length (huffman plain)
huffman_length plain count e = rw e (sym (length-huffman plain))

-- one byte's word more
pub words_more : (plain : List ℕ) (i : ℕ) → i < length plain → flat_map code_word (take (i + 1) plain) ≡ flat_map code_word (take i plain) ++ code_word (get_or plain i 0)
words_more plain i h =
    ap (λ x. flat_map code_word x) (take_more plain i 0 h) ∙ flat_map-append code_word (take i plain) (get_or plain i 0 ∷ []) ∙ ap (λ x. flat_map code_word (take i plain) ++ x) (append-nil (code_word (get_or plain i 0)))

pub words_within : (plain : List ℕ) (i : ℕ) → length (flat_map code_word (take i plain)) ≤ length (flat_map code_word plain)
words_within plain i =
    let parts : flat_map code_word plain ≡ flat_map code_word (take i plain) ++ flat_map code_word (drop i plain) = sym (ap (λ x. flat_map code_word x) (take-append-drop i plain)) ∙ flat_map-append code_word (take i plain) (drop i plain) in
    omega (arith, length-append (flat_map code_word (take i plain)) (flat_map code_word (drop i plain)), ap (λ x. length x) parts)

pub length-payload_bytes : (xs : List ℕ) → length (flat_map (bits 8) xs) ≡ 8 * length xs
length-payload_bytes [] = refl
length-payload_bytes (x ∷ xs) = rw (length-append (bits 8 x) (flat_map (bits 8) xs), length-bits 8 x, length-payload_bytes xs) (omega arith)

pub sum_of : (plain out : List ℕ) (index acc count written : ℕ) → Written plain out index acc count written → (8 * written + count ≡ length (flat_map code_word (take index plain))) × (8 * written + count ≤ 8 * length (huffman plain)) × (8 * written + count ≤ 8 * length out)
sum_of plain out index acc count written w =
    let len : 8 * written + count ≡ length (flat_map code_word (take index plain)) =
    omega (arith, length-append (flat_map (bits 8) (take written out)) (bits count acc), length-bits count acc, length-payload_bytes (take written out), length-take-le written out w.within, ap (λ x. length x) w.parts) in
    let within : 8 * written + count ≤ 8 * length (huffman plain) = omega (arith, len, words_within plain index, length-huffman plain) in
    (len, within, omega (arith, within, w.room))

pub begin : (plain out : List ℕ) → length (huffman plain) ≤ length out → Written plain out 0 0 0 0
unfolding bits
begin plain out h = record { parts = refl; within = omega arith; room = h; bytes = tt }

-- one word more
pub add_word : (plain out : List ℕ) (index acc count written word : ℕ) → Written plain out index acc count written → index < length plain →
    bits (length (code_word (get_or plain index 0))) word ≡ code_word (get_or plain index 0) → word < 2 ^ length (code_word (get_or plain index 0)) →
    Written plain out (index + 1) (acc * 2 ^ length (code_word (get_or plain index 0)) + word) (count + length (code_word (get_or plain index 0))) written
add_word plain out index acc count written word w there is below =
    let byte = get_or plain index 0 in
    let len = length (code_word byte) in
    let more : bits (count + len) (acc * 2 ^ len + word) ≡ bits count acc ++ code_word byte = bits-join count len acc word below ∙ ap (λ x. bits count acc ++ x) is in
    record {
      parts = ap (λ x. flat_map (bits 8) (take written out) ++ x) more ∙ sym (append_assoc (flat_map (bits 8) (take written out)) (bits count acc) (code_word byte)) ∙ ap (λ x. x ++ code_word byte) w.parts ∙ sym (words_more plain index there);
      within = w.within;
      room = w.room;
      bytes = w.bytes;
    }

-- some bytes more
pub move_out : (plain out new bytes : List ℕ) (index acc count left written place : ℕ) → Written plain out index acc count written → take place new ≡ take written out ++ bytes → bits count acc ≡ flat_map (bits 8) bytes ++ bits left acc → place ≤ length new → length new ≡ length out → AllByRecursion IsByte bytes →
    Written plain new index acc left place
move_out plain out new bytes index acc count left written place w put split fits same small =
    let done = flat_map (bits 8) (take written out) in
    let all : flat_map (bits 8) (take place new) ≡ done ++ flat_map (bits 8) bytes = ap (λ x. flat_map (bits 8) x) put ∙ flat_map-append (bits 8) (take written out) bytes in
    record {
      parts = ap (λ x. x ++ bits left acc) all ∙ append_assoc done (flat_map (bits 8) bytes) (bits left acc) ∙ ap (λ x. done ++ x) (sym split) ∙ w.parts;
      within = fits;
      room = omega (arith, same, w.room);
      bytes = rw put (All-append IsByte (take written out) bytes w.bytes small);
    }

pub byte_split : (acc count : ℕ) → bits (count + 8) acc ≡ flat_map (bits 8) (acc / 2 ^ count % 256 ∷ []) ++ bits count acc
byte_split acc count =
    let whole : bits (8 + count) acc ≡ bits 8 (acc / 2 ^ count) ++ bits count acc = bits-add 8 count acc in
    let low : bits 8 (acc / 2 ^ count % 2 ^ 8) ≡ bits 8 (acc / 2 ^ count) = bits-low 8 8 (acc / 2 ^ count) (lit≤ tt) in
    let turn : 8 + count ≡ count + 8 = omega arith in
    rw turn at whole ∙ ap (λ x. x ++ bits count acc) (sym low ∙ sym (append-nil (bits 8 (acc / 2 ^ count % 256))))

pub be_bits : (n : ℕ) → flat_map (bits 8) (to_be_bytes w32 n) ≡ bits 32 n
be_bits n =
    let a : bits 8 (n / 16777216 % 2 ^ 8) ≡ bits 8 (n / 16777216) = bits-low 8 8 (n / 16777216) (lit≤ tt) in
    let b : bits 8 (n / 65536 % 2 ^ 8) ≡ bits 8 (n / 65536) = bits-low 8 8 (n / 65536) (lit≤ tt) in
    let c : bits 8 (n / 256 % 2 ^ 8) ≡ bits 8 (n / 256) = bits-low 8 8 (n / 256) (lit≤ tt) in
    let d : bits 8 (n % 2 ^ 8) ≡ bits 8 n = bits-low 8 8 n (lit≤ tt) in
    let x : bits (8 + 24) n ≡ bits 8 (n / 2 ^ 24) ++ bits 24 n = bits-add 8 24 n in
    let y : bits (8 + 16) n ≡ bits 8 (n / 2 ^ 16) ++ bits 16 n = bits-add 8 16 n in
    let z : bits (8 + 8) n ≡ bits 8 (n / 2 ^ 8) ++ bits 8 n = bits-add 8 8 n in
    rw (a, b, c, d, x, y, z, append-nil) refl

pub word_split : (acc count : ℕ) → bits (count + 32) acc ≡ flat_map (bits 8) (to_be_bytes w32 (acc / 2 ^ count % 2 ^ 32)) ++ bits count acc
word_split acc count =
    let whole : bits (32 + count) acc ≡ bits 32 (acc / 2 ^ count) ++ bits count acc = bits-add 32 count acc in
    let low : bits 32 (acc / 2 ^ count % 2 ^ 32) ≡ bits 32 (acc / 2 ^ count) = bits-low 32 32 (acc / 2 ^ count) (lit≤ tt) in
    let turn : 32 + count ≡ count + 32 = omega arith in
    rw turn at whole ∙ ap (λ x. x ++ bits count acc) (sym low ∙ sym (be_bits (acc / 2 ^ count % 2 ^ 32)))

pub byte_below : (acc count : ℕ) → AllByRecursion IsByte (acc / 2 ^ count % 256 ∷ [])
byte_below acc count = (omega arith, tt)

pub word_below : (n : ℕ) → AllByRecursion IsByte (to_be_bytes w32 n)
word_below n = (omega arith, (omega arith, (omega arith, (omega arith, tt))))

-- four bytes go out
pub move_word : (plain out new : List ℕ) (index acc count written : ℕ) → Written plain out index acc count written → 32 ≤ count → written + 4 ≤ length new → length new ≡ length out → take (written + 4) new ≡ take written out ++ to_be_bytes w32 (acc / 2 ^ (count - 32) % 2 ^ 32) →
    Written plain new index acc (count - 32) (written + 4)
move_word plain out new index acc count written w many fits same put =
    let e : (count - 32) + 32 ≡ count = omega arith in
    let split = rw e at (word_split acc (count - 32)) in
    move_out plain out new (to_be_bytes w32 (acc / 2 ^ (count - 32) % 2 ^ 32)) index acc count (count - 32) written (written + 4) w put split fits same (word_below (acc / 2 ^ (count - 32) % 2 ^ 32))

-- one byte goes out
pub move_byte : (plain out : List ℕ) (index acc count written : ℕ) → Written plain out index acc count written → 8 ≤ count → written < length out →
    Written plain (set out written (acc / 2 ^ (count - 8) % 256)) index acc (count - 8) (written + 1)
move_byte plain out index acc count written w many fits =
    let e : (count - 8) + 8 ≡ count = omega arith in
    let split = rw e at (byte_split acc (count - 8)) in
    let same = length-set out written (acc / 2 ^ (count - 8) % 256) in
    move_out plain out (set out written (acc / 2 ^ (count - 8) % 256)) (acc / 2 ^ (count - 8) % 256 ∷ []) index acc count (count - 8) written (written + 1) w (take_more_set out written (acc / 2 ^ (count - 8) % 256) fits) split (omega (arith, same)) same (byte_below acc (count - 8))

-- bytes, then pending bits
pub octets_bytes : (bs r : List ℕ) → AllByRecursion IsByte bs → octets (flat_map (bits 8) bs ++ r) ≡ bs ++ octets r
octets_bytes [] r h = refl
octets_bytes (b ∷ bs) r h =
    ap (λ x. octets x) (append_assoc (bits 8 b) (flat_map (bits 8) bs) r) ∙ octets_byte b (flat_map (bits 8) bs ++ r) h.0 ∙ ap (λ x. b ∷ x) (octets_bytes bs r h.1)

pub ones_tail : (count : ℕ) → 0 < count → count < 8 → (255 / 2 ^ count ≡ 2 ^ (8 - count) - 1) × ((2 ^ (8 - count) - 1) % 2 ^ (8 - count) ≡ 2 ^ (8 - count) - 1)
ones_tail zero h k = absurd (omega arith)
ones_tail (suc zero) h k = (refl, refl)
ones_tail (suc (suc zero)) h k = (refl, refl)
ones_tail (suc (suc (suc zero))) h k = (refl, refl)
ones_tail (suc (suc (suc (suc zero)))) h k = (refl, refl)
ones_tail (suc (suc (suc (suc (suc zero))))) h k = (refl, refl)
ones_tail (suc (suc (suc (suc (suc (suc zero)))))) h k = (refl, refl)
ones_tail (suc (suc (suc (suc (suc (suc (suc zero))))))) h k = (refl, refl)
ones_tail (suc (suc (suc (suc (suc (suc (suc (suc c)))))))) h k = absurd (omega arith)

-- the last byte, filled up with ones
pub last_byte : (acc count : ℕ) → 0 < count → count < 8 → octets (bits count acc) ≡ bit_or (acc * 2 ^ (8 - count) % 2 ^ 64) (255 / 2 ^ count) % 256 ∷ []
last_byte acc count some few =
    let more = 8 - count in
    let split : count + more ≡ 8 = omega arith in
    let power : 2 ^ (more + count) ≡ 2 ^ more * 2 ^ count = pow-add 2 more count in
    let turn : more + count ≡ 8 = omega arith in
    let full : 2 ^ more * 2 ^ count ≡ 256 = sym power ∙ ap (λ k. 2 ^ k) turn in
    let ones : 255 / 2 ^ count ≡ 2 ^ more - 1 = (ones_tail count some few).0 in
    let below : 255 / 2 ^ count < 2 ^ more = omega (arith, ones, pow_pos more) in
    let n = bit_or (acc * 2 ^ more % 2 ^ 64) (255 / 2 ^ count) in
    let filled : bits more (255 / 2 ^ count) ≡ replicate more 1 = rw ones (ones_to more (2 ^ more - 1) (ones_tail count some few).1) in
    let joined : bits (count + more) n ≡ bits count acc ++ replicate more 1 = bits-shift_in count more acc (255 / 2 ^ count) below (omega arith) ∙ ap (λ x. bits count acc ++ x) filled in
    let low : bits 8 (n % 2 ^ 8) ≡ bits 8 n = bits-low 8 8 n (lit≤ tt) in
    let whole : bits 8 (n % 256) ≡ bits count acc ++ replicate more 1 = low ∙ rw split at joined in
    let pad : octets (bits count acc ++ replicate more 1) ≡ octets (bits count acc) = octets_pad (bits count acc) more 1 (omega arith) (omega (arith, length-bits count acc)) in
    let one : octets (bits 8 (n % 256) ++ []) ≡ n % 256 ∷ [] = octets_byte (n % 256) [] (omega arith) ∙ ap (λ x. n % 256 ∷ x) octets_nil in
    sym pad ∙ ap (λ x. octets x) (sym whole ∙ sym (append-nil (bits 8 (n % 256)))) ∙ one

pub finished : (plain out : List ℕ) (acc written byte : ℕ) (count : ℕ) → Written plain out (length plain) acc count written → length out ≡ length (huffman plain) → 0 < count → count < 8 → byte ≡ bit_or (acc * 2 ^ (8 - count) % 2 ^ 64) (255 / 2 ^ count) % 256 →
    (written < length out) × (set out written byte ≡ huffman plain)
unfolding huffman
finished plain out acc written byte count w exact some few is =
    let sums = sum_of plain out (length plain) acc count written w in
    let whole : take (length plain) plain ≡ plain = take_all (length plain) plain (omega arith) in
    let sizes : length out ≡ written + 1 = omega (arith, sums.0, exact, length-huffman plain, ap (λ x. length (flat_map code_word x)) whole) in
    let made : octets (flat_map code_word plain) ≡ take written out ++ byte ∷ [] =
    ap (λ x. octets (flat_map code_word x)) (sym whole) ∙ ap (λ x. octets x) (sym w.parts) ∙ octets_bytes (take written out) (bits count acc) w.bytes ∙ ap (λ x. take written out ++ x) (last_byte acc count some few ∙ ap (λ x. x ∷ []) (sym is)) in
    let room : written < length out = omega (arith, sizes) in
    let set_all : take (written + 1) (set out written byte) ≡ set out written byte = take_all (written + 1) (set out written byte) (omega (arith, sizes, length-set out written byte)) in
    (room, sym set_all ∙ take_more_set out written byte room ∙ sym made)

pub finished_whole : (plain out : List ℕ) (acc written : ℕ) → Written plain out (length plain) acc 0 written → length out ≡ length (huffman plain) → out ≡ huffman plain
unfolding huffman bits
finished_whole plain out acc written w exact =
    let sums = sum_of plain out (length plain) acc 0 written w in
    let whole : take (length plain) plain ≡ plain = take_all (length plain) plain (omega arith) in
    let sizes : length out ≡ written = omega (arith, sums.0, exact, length-huffman plain, ap (λ x. length (flat_map code_word x)) whole) in
    let made : octets (flat_map code_word plain) ≡ take written out =
    ap (λ x. octets (flat_map code_word x)) (sym whole) ∙ ap (λ x. octets x) (sym w.parts) ∙ octets_bytes (take written out) (bits 0 acc) w.bytes ∙ ap (λ x. take written out ++ x) octets_nil ∙ append-nil (take written out) in
    let all : take written out ≡ out = take_all written out (omega (arith, sizes)) in
    sym all ∙ sym made
