-- The bits of a string's Huffman encoding: the words of its symbols, and fewer than eight ones.
use Rattle.std.proofs.Common.{◌≡◌, ℕ, zero, suc, ◌+◌, ◌*◌, ◌/◌, ◌%◌, ◌<◌, ◌≤◌, Bool, true, bytes_eq, nat_eq, List, [], ◌∷◌, ◌++◌, get_or, replicate, refl, ap, ◌∙◌, arith, append-nil, flat_map, inl, inr, lit<}
use Rattle.std.specs.List.{AllByRecursion, list_all}
use Rattle.std.proofs.lemmas.Bool.{and_parts, ltb-true, eqb-true, cases_eq}
use Rattle.h3_huffman.specs.Huffman.{bits, octets, bits_value, huffman, code_word}
use Rattle.h3_huffman.specs.Payload.{IsByte, IsBit}
use Rattle.h3_huffman.specs.Tree.{code_tree}
use Rattle.h3_huffman.specs.Tables.{is_bit, are_words, all_from}

pub all_from_at : (p : ℕ → Bool) (first count k : ℕ) → all_from p first count ≡ true → first ≤ k → k < first + count → p k ≡ true
all_from_at p first zero k h low high = absurd (omega arith)
all_from_at p first (suc count) k h low high =
    let parts = and_parts (p first) (all_from p (first + 1) count) h in
    elim (cases_eq k first) [
      | inl same ↦ rw same parts.0
      | inr other ↦ all_from_at p (first + 1) count k parts.1 (omega arith) (omega arith)
    ]

pub bytes_same : (a b : List ℕ) → bytes_eq a b ≡ true → a ≡ b
bytes_same [] [] h = refl
bytes_same [] (y ∷ ys) h = absurd (cc)
bytes_same (x ∷ xs) [] h = absurd (cc)
bytes_same (x ∷ xs) (y ∷ ys) h =
    let parts = and_parts (nat_eq x y) (bytes_eq xs ys) h in
    let first = eqb-true x y parts.0 in
    let rest = bytes_same xs ys parts.1 in
    rw (first, rest) refl

pub words_hold : are_words code_tree ≡ true
unfolding bits code_word
words_hold = refl

-- eight bits and their byte
pub two_div : (n b : ℕ) → b < 2 → (2 * n + b) / 2 ≡ n
two_div n b h = omega arith

pub two_mod : (n b : ℕ) → b < 2 → (2 * n + b) % 2 ≡ b
two_mod n b h = omega arith

pub bits_octet : (a b c d e f g h : ℕ) → a < 2 → b < 2 → c < 2 → d < 2 → e < 2 → f < 2 → g < 2 → h < 2 → bits 8 (bits_value (a ∷ b ∷ c ∷ d ∷ e ∷ f ∷ g ∷ h ∷ [])) ≡ a ∷ b ∷ c ∷ d ∷ e ∷ f ∷ g ∷ h ∷ []
unfolding bits
bits_octet a b c d e f g h ha hb hc hd he hf hg hh =
    let n1 = 2 * 0 + a in
    let n2 = 2 * n1 + b in
    let n3 = 2 * n2 + c in
    let n4 = 2 * n3 + d in
    let n5 = 2 * n4 + e in
    let n6 = 2 * n5 + f in
    let n7 = 2 * n6 + g in
    let n8 = 2 * n7 + h in
    rw (
      two_div n7 h hh,
      two_div n6 g hg,
      two_div n5 f hf,
      two_div n4 e he,
      two_div n3 d hd,
      two_div n2 c hc,
      two_div n1 b hb,
      two_mod n7 h hh,
      two_mod n6 g hg,
      two_mod n5 f hf,
      two_mod n4 e he,
      two_mod n3 d hd,
      two_mod n2 c hc,
      two_mod n1 b hb,
      two_mod 0 a ha,
    ) refl

-- the bytes of some bits have these bits, and ones up to a whole byte
pub octets_fill : (r : List ℕ) → AllByRecursion IsBit r → (j : ℕ) × (j < 8) × (flat_map (bits 8) (octets r) ≡ r ++ replicate j 1)
unfolding octets
octets_fill [] p = (0, lit< tt, refl)
octets_fill (a ∷ []) p = (7, lit< tt, append-nil _ ∙ bits_octet a 1 1 1 1 1 1 1 p.0 (lit< tt) (lit< tt) (lit< tt) (lit< tt) (lit< tt) (lit< tt) (lit< tt))
octets_fill (a ∷ b ∷ []) p = (6, lit< tt, append-nil _ ∙ bits_octet a b 1 1 1 1 1 1 p.0 p.1.0 (lit< tt) (lit< tt) (lit< tt) (lit< tt) (lit< tt) (lit< tt))
octets_fill (a ∷ b ∷ c ∷ []) p = (5, lit< tt, append-nil _ ∙ bits_octet a b c 1 1 1 1 1 p.0 p.1.0 p.1.1.0 (lit< tt) (lit< tt) (lit< tt) (lit< tt) (lit< tt))
octets_fill (a ∷ b ∷ c ∷ d ∷ []) p = (4, lit< tt, append-nil _ ∙ bits_octet a b c d 1 1 1 1 p.0 p.1.0 p.1.1.0 p.1.1.1.0 (lit< tt) (lit< tt) (lit< tt) (lit< tt))
octets_fill (a ∷ b ∷ c ∷ d ∷ e ∷ []) p = (3, lit< tt, append-nil _ ∙ bits_octet a b c d e 1 1 1 p.0 p.1.0 p.1.1.0 p.1.1.1.0 p.1.1.1.1.0 (lit< tt) (lit< tt) (lit< tt))
octets_fill (a ∷ b ∷ c ∷ d ∷ e ∷ f ∷ []) p = (2, lit< tt, append-nil _ ∙ bits_octet a b c d e f 1 1 p.0 p.1.0 p.1.1.0 p.1.1.1.0 p.1.1.1.1.0 p.1.1.1.1.1.0 (lit< tt) (lit< tt))
octets_fill (a ∷ b ∷ c ∷ d ∷ e ∷ f ∷ g ∷ []) p = (1, lit< tt, append-nil _ ∙ bits_octet a b c d e f g 1 p.0 p.1.0 p.1.1.0 p.1.1.1.0 p.1.1.1.1.0 p.1.1.1.1.1.0 p.1.1.1.1.1.1.0 (lit< tt))
octets_fill (a ∷ b ∷ c ∷ d ∷ e ∷ f ∷ g ∷ h ∷ rest) p =
    let more = octets_fill rest p.1.1.1.1.1.1.1.1 in
    let first = bits_octet a b c d e f g h p.0 p.1.0 p.1.1.0 p.1.1.1.0 p.1.1.1.1.0 p.1.1.1.1.1.0 p.1.1.1.1.1.1.0 p.1.1.1.1.1.1.1.0 in
    (more.0, more.1, ap (λ x. x ++ flat_map (bits 8) (octets rest)) first ∙ ap (λ x. a ∷ b ∷ c ∷ d ∷ e ∷ f ∷ g ∷ h ∷ x) more.2)

pub All-append : (P : ℕ → Type 0) (xs ys : List ℕ) → AllByRecursion P xs → AllByRecursion P ys → AllByRecursion P (xs ++ ys)
All-append P [] ys p q = q
All-append P (x ∷ xs) ys p q = (p.0, All-append P xs ys p.1 q)

All_bits : (xs : List ℕ) → list_all is_bit xs ≡ true → AllByRecursion IsBit xs
All_bits [] h = tt
All_bits (x ∷ xs) h =
    let parts = and_parts (is_bit x) (list_all is_bit xs) h in
    (ltb-true x 2 parts.0, All_bits xs parts.1)

word_bits : (symbol : ℕ) → symbol < 257 → AllByRecursion IsBit (code_word symbol)
word_bits symbol h =
    All_bits (code_word symbol) (all_from_at (λ s. list_all is_bit (code_word s)) 0 257 symbol (and_parts _ _ words_hold).0 (omega arith) (omega arith))

code_bits : (plain : List ℕ) → AllByRecursion IsByte plain → AllByRecursion IsBit (flat_map code_word plain)
code_bits [] h = tt
code_bits (x ∷ xs) h = All-append IsBit (code_word x) (flat_map code_word xs) (word_bits x (omega (arith, h.0))) (code_bits xs h.1)

-- the bits of a payload are the words and fewer than eight ones
pub huffman_bits : (plain : List ℕ) → AllByRecursion IsByte plain → (j : ℕ) × (j < 8) × (flat_map (bits 8) (huffman plain) ≡ flat_map code_word plain ++ replicate j 1)
unfolding huffman
huffman_bits plain h = octets_fill (flat_map code_word plain) (code_bits plain h)

pub All_from : (xs : List ℕ) → ((k : ℕ) → get_or xs k 0 < 256) → AllByRecursion IsByte xs
All_from [] h = tt
All_from (x ∷ xs) h = (h 0, All_from xs (λ k. h (suc k)))
