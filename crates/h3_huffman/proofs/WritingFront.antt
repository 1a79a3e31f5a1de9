-- The last bits of a payload, written four bytes at once.
use Rattle.std.proofs.Common.{◌≡◌, ℕ, zero, suc, ◌+◌, ◌*◌, ◌-◌, ◌/◌, ◌%◌, ◌^◌, ◌<◌, ◌≤◌, List, [], ◌∷◌, ◌++◌, length, take, get_or, replicate, refl, ap, sym, ◌∙◌, arith, append_assoc, length-append, flat_map, bit_or, lit≤}
use Rattle.std.specs.Int.{w32, to_be_bytes}
use Rattle.std.specs.List.{AllByRecursion}
use Rattle.std.proofs.lemmas.List.{take_all, take-take, replicate-append-replicate, length-replicate, length-take-le}
use Rattle.std.proofs.lemmas.Nat.Bits.{ones_shr}
use Rattle.std.proofs.Math.Nat.{mod-eq_of_lt}
use Rattle.std.proofs.Math.Pow.{ones_lt}
use Rattle.std.proofs.Math.Seq.{take-append-add}
use Rattle.h3_huffman.specs.Huffman.{bits, bits_value, octets, huffman, code_word}
use Rattle.h3_huffman.specs.Payload.{IsByte}
use Rattle.h3_huffman.specs.PayloadLaws.{All_from}
use Rattle.h3_huffman.specs.Writing.{Written}
use Rattle.h3_huffman.proofs.Bits.{bits-shift_in, length-bits, bits-low, ones_to}
use Rattle.h3_huffman.proofs.Payloads.{octets_pad, payload_octets}
use Rattle.h3_huffman.proofs.Writing.{word_is, length-huffman, be_bits, word_below, octets_bytes, sum_of}

-- A word has at most thirty bits.
pub words_most : (plain : List ℕ) → AllByRecursion IsByte plain → length (flat_map code_word plain) ≤ 30 * length plain
words_most [] h = omega arith
words_most (byte ∷ plain) h =
    let w = word_is byte h.0 in
    omega (arith, length-append (code_word byte) (flat_map code_word plain), words_most plain h.1, w.len, w.most)

pub huffman_most : (plain : List ℕ) → AllByRecursion IsByte plain → length (huffman plain) ≤ 4 * length plain
huffman_most plain h = omega (arith, words_most plain h, length-huffman plain)

-- The bytes of bits that make whole bytes do not look at what follows.
pub octets_whole : (x y : List ℕ) (k : ℕ) → length x ≡ 8 * k → take k (octets (x ++ y)) ≡ octets x
unfolding octets
octets_whole [] y k e = let none : k ≡ 0 = omega arith in rw none refl
octets_whole (a ∷ []) y k e = absurd (omega arith)
octets_whole (a ∷ b ∷ []) y k e = absurd (omega arith)
octets_whole (a ∷ b ∷ c ∷ []) y k e = absurd (omega arith)
octets_whole (a ∷ b ∷ c ∷ d ∷ []) y k e = absurd (omega arith)
octets_whole (a ∷ b ∷ c ∷ d ∷ f ∷ []) y k e = absurd (omega arith)
octets_whole (a ∷ b ∷ c ∷ d ∷ f ∷ g ∷ []) y k e = absurd (omega arith)
octets_whole (a ∷ b ∷ c ∷ d ∷ f ∷ g ∷ h ∷ []) y k e = absurd (omega arith)
octets_whole (a ∷ b ∷ c ∷ d ∷ f ∷ g ∷ h ∷ i ∷ rest) y zero e = absurd (omega arith)
octets_whole (a ∷ b ∷ c ∷ d ∷ f ∷ g ∷ h ∷ i ∷ rest) y (suc k) e = ap (λ x. bits_value (a ∷ b ∷ c ∷ d ∷ f ∷ g ∷ h ∷ i ∷ []) ∷ x) (octets_whole rest y k (omega arith))

-- Four bytes that begin with some bits, and have ones behind them.
pub last_word : (acc count word : ℕ) → count < 32 → word ≡ bit_or (acc * 2 ^ (32 - count) % 2 ^ 64) (4294967295 / 2 ^ count) % 2 ^ 32 →
    take ((count + 7) / 8) (to_be_bytes w32 word) ≡ octets (bits count acc)
last_word acc count word few is =
    let more = 32 - count in
    let whole = (count + 7) / 8 in
    let pad = 8 * whole - count in
    let behind = 32 - 8 * whole in
    let n = bit_or (acc * 2 ^ more % 2 ^ 64) (4294967295 / 2 ^ count) in
    let ones : 4294967295 / 2 ^ count ≡ 2 ^ more - 1 = ones_shr 32 count (omega arith) in
    let below : 4294967295 / 2 ^ count < 2 ^ more = rw ones (ones_lt more) in
    let filled : bits more (4294967295 / 2 ^ count) ≡ replicate more 1 = rw ones (ones_to more (2 ^ more - 1) (mod-eq_of_lt (ones_lt more))) in
    let width : count + more ≡ 32 = omega arith in
    let joined : bits (count + more) n ≡ bits count acc ++ replicate more 1 = bits-shift_in count more acc (4294967295 / 2 ^ count) below (omega arith) ∙ ap (λ x. bits count acc ++ x) filled in
    let low : bits 32 (n % 2 ^ 32) ≡ bits 32 n = bits-low 32 32 n (lit≤ tt) in
    let spelled : bits 32 word ≡ bits count acc ++ replicate more 1 = rw is (low ∙ rw width at joined) in
    let parts : pad + behind ≡ more = omega arith in
    let split : replicate more 1 ≡ replicate pad 1 ++ replicate behind 1 = rw (← parts) (sym (replicate-append-replicate pad behind 1)) in
    let front = bits count acc ++ replicate pad 1 in
    let all_bits : bits 32 word ≡ front ++ replicate behind 1 = spelled ∙ ap (λ x. bits count acc ++ x) split ∙ sym (append_assoc (bits count acc) (replicate pad 1) (replicate behind 1)) in
    let bytes : to_be_bytes w32 word ≡ octets (front ++ replicate behind 1) = sym (payload_octets (to_be_bytes w32 word) (word_below word)) ∙ ap (λ x. octets x) (be_bits word ∙ all_bits) in
    let size : length (bits count acc) + pad ≡ 8 * whole = omega (arith, length-bits count acc) in
    let size_front : length front ≡ 8 * whole = omega (arith, size, length-append (bits count acc) (replicate pad 1), length-replicate {A = ℕ} pad 1) in
    ap (λ x. take whole x) bytes ∙ octets_whole front (replicate behind 1) whole size_front ∙ octets_pad (bits count acc) pad whole (omega arith) size

-- a front of a front
pub take_within : (i j : ℕ) (xs ys : List ℕ) → i ≤ j → take j xs ≡ ys → take i xs ≡ take i ys
take_within i j xs ys h e = sym (take-take i j xs h) ∙ ap (λ x. take i x) e

pub finished_front : (plain out new : List ℕ) (acc count written word : ℕ) → Written plain out (length plain) acc count written → count < 32 → word ≡ bit_or (acc * 2 ^ (32 - count) % 2 ^ 64) (4294967295 / 2 ^ count) % 2 ^ 32 →
    take (written + 4) new ≡ take written out ++ to_be_bytes w32 word → take (written + (count + 7) / 8) new ≡ huffman plain
unfolding huffman
finished_front plain out new acc count written word w few is put =
    let whole = (count + 7) / 8 in
    let all : take (length plain) plain ≡ plain = take_all (length plain) plain (omega arith) in
    let size : length (take written out) ≡ written = length-take-le written out w.within in
    let cut : take (written + whole) new ≡ take (written + whole) (take written out ++ to_be_bytes w32 word) = take_within (written + whole) (written + 4) new _ (omega arith) put in
    let parted : take (length (take written out) + whole) (take written out ++ to_be_bytes w32 word) ≡ take written out ++ take whole (to_be_bytes w32 word) = take-append-add (take written out) (to_be_bytes w32 word) whole in
    let last = last_word acc count word few is in
    let made : octets (flat_map code_word plain) ≡ take written out ++ octets (bits count acc) =
    ap (λ x. octets (flat_map code_word x)) (sym all) ∙ ap (λ x. octets x) (sym w.parts) ∙ octets_bytes (take written out) (bits count acc) w.bytes in
    cut ∙ rw size at parted ∙ ap (λ x. take written out ++ x) last ∙ sym made

pub front_length : (plain out : List ℕ) (acc count written : ℕ) → Written plain out (length plain) acc count written → written + (count + 7) / 8 ≡ length (huffman plain)
front_length plain out acc count written w =
    let all : take (length plain) plain ≡ plain = take_all (length plain) plain (omega arith) in
    omega (arith, (sum_of plain out (length plain) acc count written w).0, length-huffman plain, ap (λ x. length (flat_map code_word x)) all)

-- The words of the bytes before a place leave room for those behind them.
pub front_most : (plain : List ℕ) (index : ℕ) → AllByRecursion IsByte plain → length (flat_map code_word (take index plain)) ≤ 30 * index
front_most plain zero h = omega arith
front_most [] (suc index) h = omega arith
front_most (byte ∷ plain) (suc index) h =
    let w = word_is byte h.0 in
    omega (arith, length-append (code_word byte) (flat_map code_word (take index plain)), front_most plain index h.1, w.len, w.most)

pub room_behind : (plain out : List ℕ) (index acc count written : ℕ) → Written plain out index acc count written → ((k : ℕ) → get_or plain k 0 < 256) → 8 * written + count ≤ 30 * index
room_behind plain out index acc count written w bytes =
    omega (arith, (sum_of plain out index acc count written w).0, front_most plain index (All_from plain bytes))
