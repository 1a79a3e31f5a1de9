-- The bits of a payload.
use Rattle.std.proofs.Common.{◌≡◌, ℕ, ◌+◌, ◌*◌, ◌-◌, ◌^◌, ◌<◌, ◌≤◌, List, [], ◌∷◌, ◌++◌, length, drop, get_or, replicate, refl, ap, ◌∙◌, arith, append_assoc, length-append, flat_map}
use Rattle.std.proofs.lemmas.List.{drop_more}
use Rattle.std.specs.List.{AllByRecursion}
use Rattle.std.specs.Int.{w32, from_be_bytes}
use Rattle.h3_huffman.specs.Huffman.{bits, octets, bits_value}
use Rattle.h3_huffman.specs.Payload.{IsByte}
use Rattle.h3_huffman.proofs.Bits.{bits-join, length-bits}

pub four_bits : (a b c d : ℕ) → b < 256 → c < 256 → d < 256 → bits 32 (from_be_bytes w32 (a ∷ b ∷ c ∷ d ∷ [])) ≡ bits 8 a ++ bits 8 b ++ bits 8 c ++ bits 8 d
four_bits a b c d hb hc hd =
    let e : from_be_bytes w32 (a ∷ b ∷ c ∷ d ∷ []) ≡ ((a * 2 ^ 8 + b) * 2 ^ 8 + c) * 2 ^ 8 + d = omega arith in
    rw (e, bits-join 24 8 ((a * 2 ^ 8 + b) * 2 ^ 8 + c) d hd, bits-join 16 8 (a * 2 ^ 8 + b) c hc, bits-join 8 8 a b hb) refl

-- one more byte
pub next_byte : (p : List ℕ) (i : ℕ) → i < length p → flat_map (bits 8) (drop i p) ≡ bits 8 (get_or p i 0) ++ flat_map (bits 8) (drop (i + 1) p)
next_byte p i h = ap (λ x. flat_map (bits 8) x) (drop_more p i 0 h)

pub next_word : (p : List ℕ) (i word : ℕ) → i + 4 ≤ length p → get_or p (i + 1) 0 < 256 → get_or p (i + 2) 0 < 256 → get_or p (i + 3) 0 < 256 → word ≡ from_be_bytes w32 (get_or p i 0 ∷ get_or p (i + 1) 0 ∷ get_or p (i + 2) 0 ∷ get_or p (i + 3) 0 ∷ []) → flat_map (bits 8) (drop i p) ≡ bits 32 word ++ flat_map (bits 8) (drop (i + 4) p)
next_word p i word h hb hc hd e =
    let one = next_byte p i (omega arith) in
    let two = next_byte p (i + 1) (omega arith) in
    let three = next_byte p (i + 1 + 1) (omega arith) in
    let four = next_byte p (i + 1 + 1 + 1) (omega arith) in
    let e2 : i + 1 + 1 ≡ i + 2 = omega arith in
    let e3 : i + 1 + 1 + 1 ≡ i + 3 = omega arith in
    let e4 : i + 1 + 1 + 1 + 1 ≡ i + 4 = omega arith in
    let three' = rw (e3, e2) at three in
    let four' = rw (e4, e3) at four in
    let two' = rw e2 at two in
    rw (e, four_bits _ _ _ _ hb hc hd) (simp (one, two', three', four', append_assoc))

pub octets_nil : octets [] ≡ []
unfolding octets
octets_nil = refl

pub octets_byte : (b : ℕ) (r : List ℕ) → b < 256 → octets (bits 8 b ++ r) ≡ b ∷ octets r
unfolding bits octets
octets_byte b r h =
    let e : bits_value (bits 8 b) ≡ b = omega arith in
    ap (λ x. x ∷ octets r) e

-- fewer than eight ones that fill up a byte add nothing
pub octets_pad : (x : List ℕ) (j m : ℕ) → j < 8 → length x + j ≡ 8 * m → octets (x ++ replicate j 1) ≡ octets x
unfolding octets
octets_pad [] j m h e =
    let none : j ≡ 0 = omega arith in
    rw none refl
octets_pad (a ∷ []) j m lt eq = let some : j ≡ 7 = omega arith in rw some refl
octets_pad (a ∷ b ∷ []) j m lt eq = let some : j ≡ 6 = omega arith in rw some refl
octets_pad (a ∷ b ∷ c ∷ []) j m lt eq = let some : j ≡ 5 = omega arith in rw some refl
octets_pad (a ∷ b ∷ c ∷ d ∷ []) j m lt eq = let some : j ≡ 4 = omega arith in rw some refl
octets_pad (a ∷ b ∷ c ∷ d ∷ e ∷ []) j m lt eq = let some : j ≡ 3 = omega arith in rw some refl
octets_pad (a ∷ b ∷ c ∷ d ∷ e ∷ f ∷ []) j m lt eq = let some : j ≡ 2 = omega arith in rw some refl
octets_pad (a ∷ b ∷ c ∷ d ∷ e ∷ f ∷ g ∷ []) j m lt eq = let some : j ≡ 1 = omega arith in rw some refl
octets_pad (a ∷ b ∷ c ∷ d ∷ e ∷ f ∷ g ∷ h ∷ rest) j m lt eq =
    ap (λ x. bits_value (a ∷ b ∷ c ∷ d ∷ e ∷ f ∷ g ∷ h ∷ []) ∷ x) (octets_pad rest j (m - 1) lt (omega arith))

pub payload_octets : (p : List ℕ) → AllByRecursion IsByte p → octets (flat_map (bits 8) p) ≡ p
payload_octets [] h = octets_nil
payload_octets (b ∷ p) h = octets_byte b (flat_map (bits 8) p) h.0 ∙ ap (λ x. b ∷ x) (payload_octets p h.1)

pub length-payload : (p : List ℕ) → length (flat_map (bits 8) p) ≡ 8 * length p
length-payload [] = refl
length-payload (b ∷ p) = rw (length-append (bits 8 b) (flat_map (bits 8) p), length-bits 8 b, length-payload p) (omega arith)
