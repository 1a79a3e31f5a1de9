-- Streams by their bits.
use Rattle.std.proofs.Common.{◌≡◌, ◌≢◌, ◌<◌, ◌≤◌, ℕ, zero, suc, ◌+◌, ◌*◌, ◌/◌, ◌%◌, ◌^◌, Bool, true, false, ◌||◌, ◌&&◌, List, [], ◌∷◌, length, filter, cond, refl, sym, ◌∙◌, ap, subst, arith, nat_lt, bit_and, bit_or, w64}
use Rattle.std.specs.Prelude.{◌==◌}
use Rattle.std.specs.List.{list_any, range_with_len}
use Rattle.std.specs.Int.{bit_at}
use Rattle.std.specs.Ordering.{nat_cmp, match_ordering}
use Rattle.std.specs.declared.cmp.Ordering.{Ordering}
use Rattle.std.specs.declared.cmp.Ordering.TheVariants.{Less, Equal, Greater}
use Rattle.std.specs.BTreeSet.{insert_key}
use Rattle.std.proofs.lemmas.Grind.{common_steps}
use Rattle.std.proofs.lemmas.Map.Views.{any-filter_same}
use Rattle.std.proofs.lemmas.Nat.Bits.{bit_at-zero, bit_at_set_same, bit_at_set_other, shr_and_one}
use Rattle.h3_table.specs.StreamSet.{word_of, place_of, is_in, streams_in}
use Rattle.h3_table.specs.Words.{HaveSameWords, IsOneWord}

same : (a b : ℕ) → (a == b) ≡ true → a ≡ b
same a b e = grind (arith, common_steps)

itself : (n : ℕ) → (n == n) ≡ true
itself n = grind (arith, common_steps)

apart : (a b : ℕ) → (a == b) ≡ false → a ≢ b
apart a b e is = let both : false ≡ true = sym e ∙ ap (λ m. a == m) (sym is) ∙ itself a in cc

-- a number in a row is found there
numbered : (q a n : ℕ) → a ≤ q → q < a + n → list_any (λ other. other == q) (range_with_len a n) ≡ true
numbered q a zero le lt = absurd (omega (arith, le, lt))
numbered q a (suc n) le lt = by_test (a == q) refl (λ more. numbered q (a + 1) n more (omega (arith, lt)))
  where
    by_test : (t : Bool) → (a == q) ≡ t → (a + 1 ≤ q → list_any (λ other. other == q) (range_with_len (a + 1) n) ≡ true) → (t || list_any (λ other. other == q) (range_with_len (a + 1) n)) ≡ true
    by_test true e later = refl
    by_test false e later = let ne = apart a q e in later (omega (arith, le, ne))

and_true : (b : Bool) → (b && true) ≡ b
and_true true = refl
and_true false = refl

-- a number is among those that pass the test where it passes
found_in : (p : ℕ → Bool) (q most : ℕ) → q < most → p q ≡ list_any (λ other. other == q) (filter p (range_with_len 0 most))
found_in p q most lt =
    sym (any-filter_same (λ other. other == q) p (p q) (λ k e. ap p (same k q e)) (range_with_len 0 most)
    ∙ ap (λ b. p q && b) (numbered q 0 most (omega arith) (omega (arith, lt))) ∙ and_true (p q))

-- tests that agree from a number on
alike : (p r : ℕ → Bool) (a n : ℕ) → ((q : ℕ) → a ≤ q → r q ≡ p q) → filter r (range_with_len a n) ≡ filter p (range_with_len a n)
alike p r a zero h = refl
alike p r a (suc n) h = rw (h a (omega arith)) (by_test (p a) (alike p r (a + 1) n (λ q le. h q (omega (arith, le)))))
  where
    by_test : (b : Bool) → filter r (range_with_len (a + 1) n) ≡ filter p (range_with_len (a + 1) n)
        → cond b (a ∷ filter r (range_with_len (a + 1) n)) (filter r (range_with_len (a + 1) n)) ≡ cond b (a ∷ filter p (range_with_len (a + 1) n)) (filter p (range_with_len (a + 1) n))
    by_test true e = ap (λ qs. a ∷ qs) e
    by_test false e = e

below : (a b : ℕ) → a < b → nat_cmp a b ≡ Less
below a b lt = let less : nat_lt a b ≡ true = grind (arith, common_steps) in rw less refl

equal : (a : ℕ) → nat_cmp a a ≡ Equal
equal a = let no : nat_lt a a ≡ false = grind (arith, common_steps) in rw (no, itself a) refl

above : (a b : ℕ) → b < a → nat_cmp a b ≡ Greater
above a b lt =
    let no : nat_lt a b ≡ false = grind (arith, common_steps) in
    let other : (a == b) ≡ false = grind (arith, common_steps) in
    rw (no, other) refl

-- a number goes in front of greater ones
in_front : (p : ℕ → Bool) (q a n : ℕ) → q < a → insert_key nat_cmp (filter p (range_with_len a n)) q ≡ q ∷ filter p (range_with_len a n)
in_front p q a zero lt = refl
in_front p q a (suc n) lt = by_test (p a) (in_front p q (a + 1) n (omega (arith, lt)))
  where
    by_test : (b : Bool) → insert_key nat_cmp (filter p (range_with_len (a + 1) n)) q ≡ q ∷ filter p (range_with_len (a + 1) n)
        → insert_key nat_cmp (cond b (a ∷ filter p (range_with_len (a + 1) n)) (filter p (range_with_len (a + 1) n))) q
        ≡ q ∷ cond b (a ∷ filter p (range_with_len (a + 1) n)) (filter p (range_with_len (a + 1) n))
    by_test true e = rw (below q a lt) refl
    by_test false e = e

-- r passes q, and otherwise what p passes
abbrev PassesMore : (p r : ℕ → Bool) → ℕ → Type 0
PassesMore p r q = (r q ≡ true) × ((other : ℕ) → other ≢ q → r other ≡ p other)

-- the first number passes too
first_more : (p r : ℕ → Bool) (a n : ℕ) → PassesMore p r a → filter r (range_with_len a (suc n)) ≡ insert_key nat_cmp (filter p (range_with_len a (suc n))) a
first_more p r a n more =
    rw more.0 (ap (λ qs. a ∷ qs) (alike p r (a + 1) n (λ q le. more.1 q (λ e. omega (arith, le, e)))) ∙ sym (by_test (p a)))
  where
    by_test : (b : Bool) → insert_key nat_cmp (cond b (a ∷ filter p (range_with_len (a + 1) n)) (filter p (range_with_len (a + 1) n))) a ≡ a ∷ filter p (range_with_len (a + 1) n)
    by_test true = rw (equal a) refl
    by_test false = in_front p a (a + 1) n (omega arith)

-- one number more passes
one_more : (p r : ℕ → Bool) (q a n : ℕ) → a ≤ q → q < a + n → PassesMore p r q → filter r (range_with_len a n) ≡ insert_key nat_cmp (filter p (range_with_len a n)) q
one_more p r q a zero le lt more = absurd (omega (arith, le, lt))
one_more p r q a (suc n) le lt more = by_test (a == q) refl (λ less. one_more p r q (a + 1) n (omega (arith, less)) (omega (arith, lt)) more)
  where
    by_pass : (b : Bool) → a < q → filter r (range_with_len (a + 1) n) ≡ insert_key nat_cmp (filter p (range_with_len (a + 1) n)) q
        → cond b (a ∷ filter r (range_with_len (a + 1) n)) (filter r (range_with_len (a + 1) n))
        ≡ insert_key nat_cmp (cond b (a ∷ filter p (range_with_len (a + 1) n)) (filter p (range_with_len (a + 1) n))) q
    by_pass true less e = rw (above q a less) (ap (λ qs. a ∷ qs) e)
    by_pass false less e = e

    by_test : (t : Bool) → (a == q) ≡ t → (a < q → filter r (range_with_len (a + 1) n) ≡ insert_key nat_cmp (filter p (range_with_len (a + 1) n)) q)
        → filter r (range_with_len a (suc n)) ≡ insert_key nat_cmp (filter p (range_with_len a (suc n))) q
    by_test true e later =
        let is = same a q e in
        subst (λ k. filter r (range_with_len a (suc n)) ≡ insert_key nat_cmp (filter p (range_with_len a (suc n))) k) is (first_more p r a n (subst (PassesMore p r) (sym is) more))
    by_test false e later =
        let ne = apart a q e in
        let less : a < q = omega (arith, le, ne) in
        rw (more.1 a ne) (by_pass (p a) less (later less))

level : (a b : ℕ) → nat_cmp a b ≡ Equal → a ≡ b
level a b e = by_tests (nat_lt a b) (a == b) refl e
  where
    by_tests : (less is : Bool) → (a == b) ≡ is → cond less Less (cond is Equal Greater) ≡ Equal → a ≡ b
    by_tests true is f h = absurd (cc)
    by_tests false true f h = same a b f
    by_tests false false f h = absurd (cc)

-- a number that is put in is one more, and none is lost
one_longer : (xs : List ℕ) (k : ℕ) → list_any (λ other. other == k) xs ≡ false → length (insert_key nat_cmp xs k) ≡ suc (length xs)
one_longer [] k lacks = refl
one_longer (x ∷ xs) k lacks = by_order (nat_cmp k x) refl (by_test (x == k) refl lacks) (one_longer xs k)
  where
    by_test : (b : Bool) → (x == k) ≡ b → (b || list_any (λ other. other == k) xs) ≡ false → (x ≢ k) × (list_any (λ other. other == k) xs ≡ false)
    by_test true e never = absurd (cc)
    by_test false e none = (apart x k e, none)

    by_order : (r : Ordering) → nat_cmp k x ≡ r → (x ≢ k) × (list_any (λ other. other == k) xs ≡ false)
        → (list_any (λ other. other == k) xs ≡ false → length (insert_key nat_cmp xs k) ≡ suc (length xs))
        → length (match_ordering r (k ∷ x ∷ xs) (x ∷ xs) (x ∷ insert_key nat_cmp xs k)) ≡ suc (suc (length xs))
    by_order Less e h later = refl
    by_order Equal e h later = absurd (h.0 (sym (level k x e)))
    by_order Greater e h later = ap (λ n. suc n) (later h.1)

no_shorter : (xs : List ℕ) (k : ℕ) → length xs ≤ length (insert_key nat_cmp xs k)
no_shorter [] k = omega arith
no_shorter (x ∷ xs) k = by_order (nat_cmp k x) (no_shorter xs k)
  where
    by_order : (r : Ordering) → length xs ≤ length (insert_key nat_cmp xs k) → suc (length xs) ≤ length (match_ordering r (k ∷ x ∷ xs) (x ∷ xs) (x ∷ insert_key nat_cmp xs k))
    by_order Less h = omega arith
    by_order Equal h = omega arith
    by_order Greater h = omega (arith, h)

none_pass : (a n : ℕ) → [] ≡ filter (λ q. false) (range_with_len a n)
none_pass a zero = refl
none_pass a (suc n) = none_pass (a + 1) n

no_bit : (stream word : ℕ) → word ≡ 0 → (bit_at word (place_of stream) == 1) ≡ false
no_bit stream word is = rw (is, bit_at-zero (place_of stream)) refl

-- words that are the same at each number have the same streams
pub same_streams : (words later : ℕ → ℕ) → HaveSameWords words later → streams_in later ≡ streams_in words
unfolding streams_in
same_streams words later same = alike (is_in words) (is_in later) 0 (2 ^ 64) (λ q le. ap (λ w. bit_at w (place_of q) == 1) (same (word_of q)))

-- no stream where each word is 0
pub none_in : (words : ℕ → ℕ) → ((number : ℕ) → words number ≡ 0) → [] ≡ streams_in words
unfolding streams_in
none_in words none = none_pass 0 (2 ^ 64) ∙ sym (alike (λ q. false) (is_in words) 0 (2 ^ 64) (λ q le. no_bit q (words (word_of q)) (none (word_of q))))

-- a stream has its bit where it is among them
found : (words : ℕ → ℕ) (stream : ℕ) → stream < 2 ^ 64 → is_in words stream ≡ list_any (λ other. other == stream) (streams_in words)
unfolding streams_in
found words stream few = found_in (is_in words) stream (2 ^ 64) few

-- the bit that is read in a word
pub read : (words : ℕ → ℕ) (stream number place word : ℕ) → stream < 2 ^ 64 → number ≡ word_of stream → place ≡ place_of stream → word ≡ words number
    → (bit_and (word / 2 ^ place) 1 == 1) ≡ list_any (λ other. other == stream) (streams_in words)
read words stream number place word few of_word of_place is =
    ap (λ b. b == 1) (shr_and_one word place) ∙ ap (λ k. bit_at word k == 1) of_place ∙ ap (λ w. bit_at w (place_of stream) == 1) (is ∙ ap words of_word) ∙ found words stream few

-- no stream of a word that is not there
pub not_found : (words : ℕ → ℕ) (stream number : ℕ) → stream < 2 ^ 64 → number ≡ word_of stream → words number ≡ 0 → list_any (λ other. other == stream) (streams_in words) ≡ false
not_found words stream number few of_word is = sym (found words stream few) ∙ no_bit stream (words (word_of stream)) (ap words (sym of_word) ∙ is)

pub none_of_word : (words : ℕ → ℕ) (stream number : ℕ) → number ≡ word_of stream → words number ≡ 0 → list_any (λ other. word_of other == word_of stream) (streams_in words) ≡ false
unfolding streams_in
none_of_word words stream number of_word is =
    any-filter_same (λ other. word_of other == word_of stream) (is_in words) false
    (λ other e. no_bit other (words (word_of other)) (ap words (same (word_of other) (word_of stream) e ∙ sym of_word) ∙ is)) (range_with_len 0 (2 ^ 64))

-- a stream is told by its word and its place
told : (a b : ℕ) → word_of a ≡ word_of b → place_of a ≡ place_of b → a ≡ b
told a b of_word of_place = omega (arith, of_word, of_place)

-- The word has the bit at the place, and otherwise those of the other.
abbrev IsOneBit : (word later place : ℕ) → Type 0
IsOneBit word later place = (bit_at later place ≡ 1) × ((i : ℕ) → i ≢ place → bit_at later i ≡ bit_at word i)

-- one bit more is one stream more
put : (words later : ℕ → ℕ) (stream word : ℕ) → stream < 2 ^ 64 → IsOneWord (word_of stream) word words later → IsOneBit (words (word_of stream)) word (place_of stream)
    → streams_in later ≡ insert_key nat_cmp (streams_in words) stream
unfolding streams_in
put words later stream word few words_are bits_are = one_more (is_in words) (is_in later) stream 0 (2 ^ 64) (omega arith) (omega (arith, few)) (own, others)
  where
    own : is_in later stream ≡ true
    own = rw (words_are.own, bits_are.0) refl

    others : (other : ℕ) → other ≢ stream → is_in later other ≡ is_in words other
    others other ne = by_test (word_of other == word_of stream) refl
      where
        by_test : (t : Bool) → (word_of other == word_of stream) ≡ t → is_in later other ≡ is_in words other
        by_test false e = ap (λ w. bit_at w (place_of other) == 1) (words_are.others (word_of other) (apart (word_of other) (word_of stream) e))
        by_test true e =
            let of_word = same (word_of other) (word_of stream) e in
            let far : place_of other ≢ place_of stream = λ of_place. ne (told other stream of_word of_place) in
            ap (λ k. bit_at (later k) (place_of other) == 1) of_word
            ∙ ap (λ w. bit_at w (place_of other) == 1) words_are.own
            ∙ ap (λ b. b == 1) (bits_are.1 (place_of other) far)
            ∙ ap (λ k. bit_at (words k) (place_of other) == 1) (sym of_word)

-- the bit of a stream is added to its word
pub added : (words later : ℕ → ℕ) (stream number bit : ℕ) → stream < 2 ^ 64 → number ≡ word_of stream → bit ≡ 1 * 2 ^ place_of stream % 2 ^ 64
    → IsOneWord number (bit_or (words number) bit) words later → streams_in later ≡ insert_key nat_cmp (streams_in words) stream
added words later stream number bit few of_word bit_is is =
    let within : place_of stream < 64 = omega arith in
    let whole = ap (λ b. bit_or (words (word_of stream)) b) bit_is in
    put words later stream (bit_or (words (word_of stream)) bit) few (subst (λ k. IsOneWord k (bit_or (words k) bit) words later) of_word is)
    (subst (λ w. IsOneBit (words (word_of stream)) w (place_of stream)) (sym whole)
    (bit_at_set_same w64 (words (word_of stream)) (place_of stream) within, bit_at_set_other w64 (words (word_of stream)) (place_of stream) within))

-- the bit of a stream is the first of its word
pub put_first : (words between later : ℕ → ℕ) (stream number bit : ℕ) → stream < 2 ^ 64 → number ≡ word_of stream → bit ≡ 1 * 2 ^ place_of stream % 2 ^ 64 → HaveSameWords words between → words number ≡ 0
    → IsOneWord number bit between later → streams_in later ≡ insert_key nat_cmp (streams_in words) stream
put_first words between later stream number bit few of_word bit_is same none is =
    let alone : bit_or (between number) bit ≡ bit = ap (λ w. bit_or w bit) (same number ∙ none) in
    added between later stream number bit few of_word bit_is (subst (λ w. IsOneWord number w between later) (sym alone) is) ∙ ap (λ (ss : List ℕ). insert_key nat_cmp ss stream) (same_streams words between same)

-- What is at most as many as the streams is so with one stream more, and with a stream that was not there it may be one more.
pub still_few : (before after : List ℕ) (stream count now : ℕ) → after ≡ insert_key nat_cmp before stream → count ≤ length before → now ≤ count → now ≤ length after
still_few before after stream count now is few same = omega (arith, few, same, no_shorter before stream, ap length is)

pub one_more_few : (before after : List ℕ) (stream count more : ℕ) → after ≡ insert_key nat_cmp before stream → list_any (λ other. other == stream) before ≡ false → count ≤ length before → more ≤ count + 1
    → more ≤ length after
one_more_few before after stream count more is lacks few adds = omega (arith, few, adds, one_longer before stream lacks, ap length is)
