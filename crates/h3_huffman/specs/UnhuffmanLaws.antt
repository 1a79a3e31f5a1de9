-- A Huffman encoding is that of its value, and of no other string.
use Rattle.std.proofs.Common.{◌≡◌, ℕ, zero, suc, ◌+◌, ◌<◌, ◌≤◌, Bool, true, false, ◌&&◌, bytes_eq, List, [], ◌∷◌, ◌++◌, length, replicate, flat_map, if◌then◌else◌, Option, Some, None, refl, ap, sym, ◌∙◌, subst, arith, append_assoc, length-append}
use Rattle.std.specs.List.{AllByRecursion, list_all}
use Rattle.std.proofs.lemmas.Bool.{and_parts, ltb-true, lt-ltb, leb-true, eqb-true}
use Rattle.h3_huffman.specs.Huffman.{bits, huffman, code_word}
use Rattle.h3_huffman.specs.Payload.{IsByte}
use Rattle.h3_huffman.specs.Tree.{Tree, Empty, Leaf, Fork, code_tree}
use Rattle.h3_huffman.specs.Tables.{all_from}
use Rattle.h3_huffman.specs.PayloadLaws.{all_from_at, bytes_same, huffman_bits}
use Rattle.h3_huffman.specs.Unhuffman.{first_symbol, then_symbols, symbols_in, is_byte, payload_bits, symbols_of, if_encoded, unhuffman}
use Rattle.h3_huffman.specs.Leading.{is_followed_to, leads_there, leads_nowhere, first_or, rest_or}

words_follow : all_from leads_there 0 256 ≡ true
unfolding code_word bits
words_follow = refl

pads_lead_nowhere : all_from (λ k. leads_nowhere (first_symbol code_tree (replicate k 1))) 0 8 ≡ true
unfolding code_word bits
pads_lead_nowhere = refl

first_symbol-append : (t : Tree) (x y : List ℕ) (symbol : ℕ) → first_symbol t x ≡ Some (symbol, []) → first_symbol t (x ++ y) ≡ Some (symbol, y)
first_symbol-append (Leaf s) [] y symbol e = let same : s ≡ symbol = ap first_or e in rw same refl
first_symbol-append (Leaf s) (b ∷ x) y symbol e = let none : b ∷ x ≡ [] = ap rest_or e in absurd (cc)
first_symbol-append Empty x y symbol e = absurd (cc)
first_symbol-append (Fork left right) [] y symbol e = absurd (cc)
first_symbol-append (Fork left right) (zero ∷ x) y symbol e = first_symbol-append left x y symbol e
first_symbol-append (Fork left right) (suc n ∷ x) y symbol e = first_symbol-append right x y symbol e

followed : (symbol : ℕ) (found : Option (ℕ × List ℕ)) → is_followed_to symbol found ≡ true → found ≡ Some (symbol, [])
followed symbol None e = absurd (cc)
followed symbol (Some (s, [])) e = let same = eqb-true s symbol e in rw same refl
followed symbol (Some (s, b ∷ bs)) e = absurd (cc)

leads_to : (symbol : ℕ) → symbol < 256 → leads_there symbol ≡ true
leads_to symbol h = all_from_at leads_there 0 256 symbol words_follow (omega arith) (omega arith)

word_follows : (symbol : ℕ) (y : List ℕ) → symbol < 256 → first_symbol code_tree (code_word symbol ++ y) ≡ Some (symbol, y)
word_follows symbol y h =
    first_symbol-append code_tree (code_word symbol) y symbol (followed symbol (first_symbol code_tree (code_word symbol)) (and_parts _ _ (leads_to symbol h)).0)

word_is_some : (symbol : ℕ) → symbol < 256 → 1 ≤ length (code_word symbol)
word_is_some symbol h = leb-true _ _ (and_parts _ _ (leads_to symbol h)).1

nowhere : (found : Option (ℕ × List ℕ)) → leads_nowhere found ≡ true → found ≡ None
nowhere None e = refl
nowhere (Some p) e = absurd (cc)

pad_follows : (k : ℕ) → k < 8 → first_symbol code_tree (replicate k 1) ≡ None
pad_follows k h = nowhere _ (all_from_at (λ n. leads_nowhere (first_symbol code_tree (replicate n 1))) 0 8 k pads_lead_nowhere (omega arith) (omega arith))

no_symbols : (most k : ℕ) → k < 8 → symbols_in most (replicate k 1) ≡ []
no_symbols zero k h = refl
no_symbols (suc most) k h = ap (λ f. then_symbols f (symbols_in most)) (pad_follows k h)

symbols_are : (most : ℕ) (plain : List ℕ) (k : ℕ) → AllByRecursion IsByte plain → k < 8 → length plain ≤ most → symbols_in most (flat_map code_word plain ++ replicate k 1) ≡ plain
symbols_are most [] k h few fits = no_symbols most k few
symbols_are zero (a ∷ plain) k h few fits = absurd (omega (arith, fits))
symbols_are (suc most) (a ∷ plain) k h few fits =
    ap (λ x. symbols_in (suc most) x) (append_assoc (code_word a) (flat_map code_word plain) (replicate k 1))
    ∙ ap (λ f. then_symbols f (symbols_in most)) (word_follows a (flat_map code_word plain ++ replicate k 1) h.0)
    ∙ ap (λ l. a ∷ l) (symbols_are most plain k h.1 few (omega (arith, fits)))

few_symbols : (plain : List ℕ) → AllByRecursion IsByte plain → length plain ≤ length (flat_map code_word plain)
few_symbols [] h = omega arith
few_symbols (a ∷ plain) h =
    omega (arith, word_is_some a h.0, few_symbols plain h.1, length-append (code_word a) (flat_map code_word plain))

pub all_bytes : (plain : List ℕ) → AllByRecursion IsByte plain → list_all is_byte plain ≡ true
all_bytes [] h = refl
all_bytes (a ∷ plain) h = rw (lt-ltb a 256 h.0, all_bytes plain h.1) refl

pub each_byte : (plain : List ℕ) → list_all is_byte plain ≡ true → AllByRecursion IsByte plain
each_byte [] e = tt
each_byte (a ∷ plain) e = let parts = and_parts (is_byte a) (list_all is_byte plain) e in (ltb-true a 256 parts.0, each_byte plain parts.1)

same_bytes : (xs : List ℕ) → bytes_eq xs xs ≡ true
same_bytes [] = refl
same_bytes (x ∷ xs) = grind (arith, same_bytes xs)

symbols_of_huffman : (plain : List ℕ) → AllByRecursion IsByte plain → symbols_of (huffman plain) ≡ plain
symbols_of_huffman plain h =
    let b = huffman_bits plain h in
    let few = few_symbols plain h in
    let all : length (payload_bits (huffman plain)) ≡ length (flat_map code_word plain) + length (replicate b.0 1) =
    ap (λ l. length l) b.2 ∙ length-append (flat_map code_word plain) (replicate b.0 1) in
    ap (λ l. symbols_in (length (payload_bits (huffman plain))) l) b.2
    ∙ symbols_are (length (payload_bits (huffman plain))) plain b.0 h b.1 (omega (arith, few, all))

-- the encoding of a string is that string's
pub unhuffman_some : (plain : List ℕ) → AllByRecursion IsByte plain → unhuffman (huffman plain) ≡ Some plain
unfolding unhuffman
unhuffman_some plain h =
    ap (λ l. if_encoded (huffman plain) l) (symbols_of_huffman plain h)
    ∙ ap (λ b. if b && bytes_eq (huffman plain) (huffman plain) then Some plain else None) (all_bytes plain h)
    ∙ ap (λ b. if b then Some plain else None) (same_bytes (huffman plain))

pub encoded_is : (b : Bool) (found plain : List ℕ) → (if b then Some found else None) ≡ Some plain → (b ≡ true) × (found ≡ plain)
encoded_is true found plain e = (refl, cc)
encoded_is false found plain e = absurd (cc)

-- and of no other
pub unhuffman_is : (payload plain : List ℕ) → unhuffman payload ≡ Some plain → AllByRecursion IsByte plain × (payload ≡ huffman plain)
unfolding unhuffman
unhuffman_is payload plain e =
    let c = encoded_is _ (symbols_of payload) plain e in
    let parts = and_parts _ _ c.0 in (
      subst (λ l. AllByRecursion IsByte l) c.1 (each_byte _ parts.0),
      sym (bytes_same _ _ parts.1) ∙ ap (λ l. huffman l) c.1,
    )

some_same : (s t : List ℕ) → Some s ≡ Some t → s ≡ t
some_same s t e = cc

-- no two strings have one encoding
pub huffman_one : (s t : List ℕ) → AllByRecursion IsByte s → AllByRecursion IsByte t → huffman s ≡ huffman t → s ≡ t
huffman_one s t p q e = some_same s t (sym (unhuffman_some s p) ∙ ap (λ l. unhuffman l) e ∙ unhuffman_some t q)
