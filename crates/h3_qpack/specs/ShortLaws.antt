-- How long strings and integers are as they are written.
use Rattle.std.proofs.Common.{ℕ, zero, suc, ◌+◌, ◌*◌, ◌-◌, ◌/◌, ◌%◌, ◌^◌, ◌≤◌, Bool, true, false, List, [], ◌∷◌, length, refl, sym, subst, arith, length-append, nat_lt, if◌then◌else◌, Option, Some, None, option_map, unwrap_or, ◌≡◌}
use Rattle.std.specs.Prelude.{flat_map, position, nat_eq}
use Rattle.h3_huffman.specs.Huffman.{huffman, octets, code_word, bits, word_from, symbols_by_length}
use Rattle.h3_field.specs.Integer.{groups, ones, prefixed}
use Rattle.h3_field.specs.StringLiteral.{Text, coded, bit_h, text_bytes, string_literal}
use Rattle.h3_field.specs.LengthLaws.{shortest_within}
use Rattle.h3_qpack.specs.ShortRows.{RowsWithin}

groups_few : (most n : ℕ) → length (groups most n) ≤ most
groups_few zero n = omega arith
groups_few (suc most) n = by_test (nat_lt n 128) (groups_few most (n / 128))
  where
    by_test : (b : Bool) → length (groups most (n / 128)) ≤ most → length (if b then n ∷ [] else (128 + n % 128) ∷ groups most (n / 128)) ≤ suc most
    by_test true rest = omega arith
    by_test false rest = omega (arith, rest)

-- at most ten bytes (RFC 9204, section 4.1.1)
pub prefixed_short : (size flags n : ℕ) → length (prefixed size flags n) ≤ 10
prefixed_short size flags n = by_test (nat_lt n (ones size))
  where
    by_test : (b : Bool) → length (if b then (flags * 2 ^ size + n) ∷ [] else (flags * 2 ^ size + ones size) ∷ groups 9 (n - ones size)) ≤ 10
    by_test true = omega arith
    by_test false = omega (arith, groups_few 9 (n - ones size))

-- a property of what is chosen, by whether there is a choice
chosen : {X Y : Type 0} (P : Y → Type 0) (o : Option X) (g : X → Y) (y : Y) → ((x : X) → P (g x)) → P y → P (unwrap_or (option_map g o) y)
chosen P None g y some none = none
chosen P (Some x) g y some none = some x

bits_count : (count n : ℕ) → length (bits count n) ≡ count
unfolding bits
bits_count zero n = refl
bits_count (suc count) n = omega (arith, length-append (bits count (n / 2)) ((n % 2) ∷ []), bits_count count (n / 2))

word_within : (most next before : ℕ) (rows : List (ℕ × List ℕ)) (symbol : ℕ) → RowsWithin most rows → length (word_from next before rows symbol) ≤ most
word_within most next before [] symbol within = omega arith
word_within most next before ((len, symbols) ∷ rows) symbol within =
    chosen (λ word. length word ≤ most) (position (nat_eq symbol) symbols) _ _ (λ place. omega (arith, bits_count len (next * 2 ^ (len - before) + place), within.0))
    (word_within most (next * 2 ^ (len - before) + length symbols) len rows symbol within.1)

rows_are : RowsWithin 30 symbols_by_length
rows_are =
    (omega arith, (omega arith, (omega arith, (omega arith, (omega arith, (omega arith, (omega arith, (omega arith, (omega arith, (omega arith, (omega arith, (omega arith, (omega arith, (omega arith, (omega arith, (omega arith, (omega arith, (omega arith, (omega arith, (omega arith, (omega arith, tt)))))))))))))))))))))

word_short : (symbol : ℕ) → length (code_word symbol) ≤ 30
unfolding code_word
word_short symbol = word_within 30 0 0 symbols_by_length symbol rows_are

words_short : (plain : List ℕ) → length (flat_map code_word plain) ≤ 30 * length plain
words_short [] = omega arith
words_short (c ∷ cs) = omega (arith, words_short cs, word_short c, length-append (code_word c) (flat_map code_word cs))

-- eight bits a byte, and the last byte is filled up
octets_few : (r : List ℕ) → 8 * length (octets r) ≤ length r + 7
unfolding octets
octets_few [] = omega arith
octets_few (a ∷ []) = omega arith
octets_few (a ∷ b ∷ []) = omega arith
octets_few (a ∷ b ∷ c ∷ []) = omega arith
octets_few (a ∷ b ∷ c ∷ d ∷ []) = omega arith
octets_few (a ∷ b ∷ c ∷ d ∷ e ∷ []) = omega arith
octets_few (a ∷ b ∷ c ∷ d ∷ e ∷ f ∷ []) = omega arith
octets_few (a ∷ b ∷ c ∷ d ∷ e ∷ f ∷ g ∷ []) = omega arith
octets_few (a ∷ b ∷ c ∷ d ∷ e ∷ f ∷ g ∷ h ∷ rest) = omega (arith, octets_few rest)

-- a code word has at most thirty bits (RFC 7541, appendix B)
huffman_short : (plain : List ℕ) → length (huffman plain) ≤ 4 * length plain
unfolding huffman
huffman_short plain = omega (arith, octets_few (flat_map code_word plain), words_short plain)

bytes_short : (text : Text) → length (text_bytes text) ≤ 4 * length text.bytes
bytes_short text = by_code text.is_huffman
  where
    by_code : (h : Bool) → length (if h then huffman text.bytes else text.bytes) ≤ 4 * length text.bytes
    by_code true = huffman_short text.bytes
    by_code false = omega arith

-- however it is coded
pub string_short : (size flags : ℕ) (text : Text) → length (string_literal size flags text) ≤ 10 + 4 * length text.bytes
string_short size flags text =
    let p = prefixed (size - 1) (2 * flags + bit_h text.is_huffman) (length (text_bytes text)) in
    omega (arith, bytes_short text, prefixed_short (size - 1) (2 * flags + bit_h text.is_huffman) (length (text_bytes text)), length-append p (text_bytes text))

-- where the shorter of both is chosen
pub shortest_short : (size flags : ℕ) (shortest : Bool) (plain : List ℕ) → shortest ≡ true → length (string_literal size flags (coded shortest plain)) ≤ length plain + 10
shortest_short size flags shortest plain e = subst (λ b. length (string_literal size flags (coded b plain)) ≤ length plain + 10) (sym e) (shortest_within size flags plain)
