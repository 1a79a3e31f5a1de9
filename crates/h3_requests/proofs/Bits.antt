-- Streams by their bits.
use Rattle.std.proofs.Common.{arith, ◌≡◌, ◌≢◌, ◌<◌, ℕ, ◌*◌, ◌/◌, ◌%◌, ◌^◌, Bool, true, false, ◌&&◌, refl, sym, ◌∙◌, ap, subst, bit_and, bit_or, w64}
use Rattle.std.specs.Prelude.{◌==◌}
use Rattle.std.specs.Int.{bit_at, bit_not}
use Rattle.std.proofs.lemmas.Grind.{common_steps}
use Rattle.std.proofs.lemmas.Nat.Bits.{bit_at_set_same, bit_at_set_other, bit_at_clear_same, bit_at_clear_other}
use Rattle.h3_requests.specs.Waiting.{is_in, HaveSameWords, IsOneTest, IsOneWord}

-- one bit of a word is this, and the others are as before
abbrev IsOneBit : (word later place bit : ℕ) → Type 0
IsOneBit word later place bit = (bit_at later place ≡ bit) × ((i : ℕ) → i < 64 → i ≢ place → bit_at later i ≡ bit_at word i)

-- a stream is told by its word and its place
told : (a b : ℕ) → a % 4 ≡ 0 → b % 4 ≡ 0 → a / 256 ≡ b / 256 → a / 4 % 64 ≡ b / 4 % 64 → a ≡ b
told a b of_a of_b of_word of_place = omega (arith, of_a, of_b, of_word, of_place)

four : (id : ℕ) → (id % 4 == 0) ≡ true → id % 4 ≡ 0
four id h = grind (arith, common_steps, h)

-- one bit that changes changes one stream
one_bit : (words later : ℕ → ℕ) (id word bit : ℕ) → id % 4 ≡ 0 → IsOneWord (id / 256) word words later → IsOneBit (words (id / 256)) word (id / 4 % 64) bit → IsOneTest id (bit == 1) (is_in words) (is_in later)
one_bit words later id word bit of_id words_are bits_are = record { own = own; others = others }
  where
    own : is_in later id ≡ (bit == 1)
    own = rw (of_id, words_are.own, bits_are.0) refl

    others : (q : ℕ) → q ≢ id → is_in later q ≡ is_in words q
    others q ne = by_kind (q % 4 == 0) refl
      where
        by_word : (t : Bool) → (q / 256 == id / 256) ≡ t → q % 4 ≡ 0 → (bit_at (later (q / 256)) (q / 4 % 64) == 1) ≡ (bit_at (words (q / 256)) (q / 4 % 64) == 1)
        by_word false e of_q = let differs : q / 256 ≢ id / 256 = grind (arith, common_steps, e) in ap (λ w. bit_at w (q / 4 % 64) == 1) (words_are.others (q / 256) differs)
        by_word true e of_q =
            let of_word : q / 256 ≡ id / 256 = grind (arith, common_steps, e) in
            let far : q / 4 % 64 ≢ id / 4 % 64 = λ of_place. ne (told q id of_q of_id of_word of_place) in
            let within : q / 4 % 64 < 64 = omega arith in
            ap (λ k. bit_at (later k) (q / 4 % 64) == 1) of_word
            ∙ ap (λ w. bit_at w (q / 4 % 64) == 1) words_are.own
            ∙ ap (λ b. b == 1) (bits_are.1 (q / 4 % 64) within far)
            ∙ ap (λ k. bit_at (words k) (q / 4 % 64) == 1) (sym of_word)

        by_kind : (t : Bool) → (q % 4 == 0) ≡ t → (t && (bit_at (later (q / 256)) (q / 4 % 64) == 1)) ≡ (t && (bit_at (words (q / 256)) (q / 4 % 64) == 1))
        by_kind false e = refl
        by_kind true e = by_word (q / 256 == id / 256) refl (four q e)

-- its bit is set
pub set_in : (words later : ℕ → ℕ) (stream number bit id : ℕ) → stream ≡ id → id % 4 ≡ 0 → number ≡ stream / 256 → bit ≡ 1 * 2 ^ (stream / 4 % 64) % 2 ^ 64 → IsOneWord number (bit_or (words number) bit) words later
    → IsOneTest id true (is_in words) (is_in later)
set_in words later stream number bit id of_stream of_id of_word of_bit is =
    let within : id / 4 % 64 < 64 = omega arith in
    let there : number ≡ id / 256 = of_word ∙ ap (λ s. s / 256) of_stream in
    let here : bit ≡ 1 * 2 ^ (id / 4 % 64) % 2 ^ 64 = of_bit ∙ ap (λ s. 1 * 2 ^ (s / 4 % 64) % 2 ^ 64) of_stream in
    one_bit words later id (bit_or (words (id / 256)) (1 * 2 ^ (id / 4 % 64) % 2 ^ 64)) 1 of_id
    (subst (λ b. IsOneWord (id / 256) (bit_or (words (id / 256)) b) words later) here (subst (λ n. IsOneWord n (bit_or (words n) bit) words later) there is))
    (bit_at_set_same w64 (words (id / 256)) (id / 4 % 64) within, λ i few ne. bit_at_set_other w64 (words (id / 256)) (id / 4 % 64) within i ne)

-- or cleared
pub cleared_in : (words later : ℕ → ℕ) (stream number bit id : ℕ) → stream ≡ id → id % 4 ≡ 0 → number ≡ stream / 256 → bit ≡ 1 * 2 ^ (stream / 4 % 64) % 2 ^ 64
    → IsOneWord number (bit_and (words number) (bit_not w64 bit)) words later → IsOneTest id false (is_in words) (is_in later)
cleared_in words later stream number bit id of_stream of_id of_word of_bit is =
    let within : id / 4 % 64 < 64 = omega arith in
    let there : number ≡ id / 256 = of_word ∙ ap (λ s. s / 256) of_stream in
    let here : bit ≡ 1 * 2 ^ (id / 4 % 64) % 2 ^ 64 = of_bit ∙ ap (λ s. 1 * 2 ^ (s / 4 % 64) % 2 ^ 64) of_stream in
    one_bit words later id (bit_and (words (id / 256)) (bit_not w64 (1 * 2 ^ (id / 4 % 64) % 2 ^ 64))) 0 of_id
    (subst (λ b. IsOneWord (id / 256) (bit_and (words (id / 256)) (bit_not w64 b)) words later) here (subst (λ n. IsOneWord n (bit_and (words n) (bit_not w64 bit)) words later) there is))
    (bit_at_clear_same w64 (words (id / 256)) (id / 4 % 64) within, bit_at_clear_other w64 (words (id / 256)) (id / 4 % 64) within)

-- no bit changes
pub same_in : (words later : ℕ → ℕ) → HaveSameWords words later → (q : ℕ) → is_in later q ≡ is_in words q
same_in words later same q = ap (λ w. (q % 4 == 0) && (bit_at w (q / 4 % 64) == 1)) (same (q / 256))

both : (a b : Bool) → (a && b) ≡ true → (a ≡ true) × (b ≡ true)
both true b h = (refl, h)
both false b h = absurd (cc)

-- a stream with a bit is a request stream, and its word is there
pub of_request : (words : ℕ → ℕ) (id : ℕ) → is_in words id ≡ true → id % 4 ≡ 0
of_request words id h = four id (both _ _ h).0

pub of_number : (stream id : ℕ) → stream ≡ id → stream % 4 ≡ 0 → id % 4 ≡ 0
of_number stream id of_stream h = ap (λ s. s % 4) (sym of_stream) ∙ h
