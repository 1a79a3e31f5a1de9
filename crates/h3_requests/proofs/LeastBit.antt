-- The first stream from an id on that has its bit.
use Rattle.std.proofs.Common.{arith, ◌≡◌, ◌<◌, ◌≤◌, ℕ, ◌+◌, ◌-◌, ◌*◌, ◌/◌, ◌%◌, ◌^◌, Bool, true, false, ◌&&◌, refl, sym, ◌∙◌, ap, subst, w64}
use Rattle.std.specs.Prelude.{◌==◌, nat_lt, Option, Some, None, IfSome, IfNone}
use Rattle.std.specs.Int.{bit_at, trailing_zeros}
use Rattle.std.proofs.lemmas.Grind.{common_steps}
use Rattle.std.proofs.lemmas.Nat.{pow-add}
use Rattle.std.proofs.lemmas.Nat.Bits.{bit_at-zero, bit_at-trailing_zeros, bit_at_above}
use Rattle.std.proofs.Math.Nat.{div-div-eq-div-mul}
use Rattle.h3_requests.specs.FirstWord.{IsFirstWord}
use Rattle.h3_requests.specs.Waiting.{is_in}
use Rattle.h3_connection.specs.NextWaiting.{IsLeast}

-- a bit of a shifted word
shifted : (n place i : ℕ) → bit_at (n / 2 ^ place) i ≡ bit_at n (place + i)
shifted n place i = ap (λ m. m % 2) (div-div-eq-div-mul n (2 ^ place) (2 ^ i) ∙ ap (λ k. n / k) (sym (pow-add 2 place i)))

-- a word that has no bits from a place on
clear_from : (n place i : ℕ) → n / 2 ^ place ≡ 0 → place ≤ i → bit_at n i ≡ 0
clear_from n place i none from =
    let e : place + (i - place) ≡ i = omega (arith, from) in
    ap (bit_at n) (sym e) ∙ sym (shifted n place (i - place)) ∙ ap (λ m. bit_at m (i - place)) none ∙ bit_at-zero (i - place)

-- the lowest bit of a shifted word lies in the word
pub lies_in : (n place : ℕ) → 0 < n / 2 ^ place → n / 2 ^ place < 2 ^ 64 → n < 2 ^ 64 → place + trailing_zeros w64 (n / 2 ^ place) < 64
lies_in n place some few within = by_order (nat_lt (place + trailing_zeros w64 (n / 2 ^ place)) 64) refl
  where
    one : bit_at n (place + trailing_zeros w64 (n / 2 ^ place)) ≡ 1
    one = sym (shifted n place (trailing_zeros w64 (n / 2 ^ place))) ∙ (bit_at-trailing_zeros w64 (n / 2 ^ place) some few).1

    by_order : (b : Bool) → nat_lt (place + trailing_zeros w64 (n / 2 ^ place)) 64 ≡ b → place + trailing_zeros w64 (n / 2 ^ place) < 64
    by_order true e = grind (arith, common_steps, e)
    by_order false e =
        let past : 64 ≤ place + trailing_zeros w64 (n / 2 ^ place) = grind (arith, common_steps, e) in
        let wrong : 1 ≡ 0 = sym one ∙ bit_at_above n 64 (place + trailing_zeros w64 (n / 2 ^ place)) within past in
        absurd (omega (arith, wrong))

-- a stream whose bit is 0 is not in
out : (words : ℕ → ℕ) (q : ℕ) → bit_at (words (q / 256)) (q / 4 % 64) ≡ 0 → is_in words q ≡ false
out words q none = rw none (by_kind (q % 4 == 0))
  where
    by_kind : (b : Bool) → (b && false) ≡ false
    by_kind true = refl
    by_kind false = refl

-- only ids that are four apart are in
odd : (words : ℕ → ℕ) (q : ℕ) → (q % 4 == 0) ≡ false → is_in words q ≡ false
odd words q e = rw e refl

at_place : (words : ℕ → ℕ) (at number place : ℕ) → at ≡ number * 256 + place * 4 → place < 64 → bit_at (words number) place ≡ 1 → is_in words at ≡ true
at_place words at number place is within one =
    let of_kind : at % 4 ≡ 0 = omega (arith, is) in
    let of_word : at / 256 ≡ number = omega (arith, is, within) in
    let of_place : at / 4 % 64 ≡ place = omega (arith, is, within) in
    rw (of_kind, of_word, of_place, one) refl

-- the first of all, where it is the id of a stream
pub least_of : (words : ℕ → ℕ) (from at : ℕ) (found : Option ℕ) → from ≤ at → is_in words at ≡ true → ((q : ℕ) → from ≤ q → q < at → is_in words q ≡ false) → IfSome found (λ id. (id ≡ at) × (id < 2 ^ 62))
    → IfNone found (2 ^ 62 ≤ at) → IsLeast (λ q. is_in words q && nat_lt q (2 ^ 62)) from found
least_of words from at (Some id) there in_ before some none =
    let within : nat_lt id (2 ^ 62) ≡ true = grind (arith, common_steps, some.1) in (
      omega (arith, there, some.0),
      rw (within, some.0, in_) refl,
      λ q far less. rw (before q far (omega (arith, less, some.0))) refl,
    )
least_of words from at None there in_ before some none = λ q far. by_order q far (nat_lt q at) refl
  where
    and_false : (b : Bool) → (b && false) ≡ false
    and_false true = refl
    and_false false = refl

    by_order : (q : ℕ) → from ≤ q → (b : Bool) → nat_lt q at ≡ b → (is_in words q && nat_lt q (2 ^ 62)) ≡ false
    by_order q far true e = let less : q < at = grind (arith, common_steps, e) in rw (before q far less) refl
    by_order q far false e =
        let past : nat_lt q (2 ^ 62) ≡ false = grind (arith, common_steps, e, none) in
        rw past (and_false (is_in words q))

-- it is in the word of the first id
pub first_here : (words : ℕ → ℕ) (from word here place number : ℕ) (found : Option ℕ) → number ≡ (from + 3) / 4 / 64 → place ≡ (from + 3) / 4 % 64 → word ≡ words number → word < 2 ^ 64 → here ≡ word / 2 ^ place → 0 < here → here < 2 ^ 64
    → IfSome found (λ id. (id ≡ number * 256 + (place + trailing_zeros w64 here) * 4) × (id < 2 ^ 62)) → IfNone found (2 ^ 62 ≤ number * 256 + (place + trailing_zeros w64 here) * 4)
    → IsLeast (λ q. is_in words q && nat_lt q (2 ^ 62)) from found
first_here words from word here place number found of_number of_place of_word fits of_here some few is none =
    least_of words from at found far in_ before is none
  where
    t : ℕ
    t = trailing_zeros w64 here

    at : ℕ
    at = number * 256 + (place + t) * 4

    lowest : (trailing_zeros w64 here < 64) × (bit_at here (trailing_zeros w64 here) ≡ 1) × ((i : ℕ) → i < trailing_zeros w64 here → bit_at here i ≡ 0)
    lowest = bit_at-trailing_zeros w64 here some few

    inside : place + t < 64
    inside = subst (λ h. 0 < h → h < 2 ^ 64 → place + trailing_zeros w64 h < 64) (sym of_here) (λ s f. lies_in word place s f fits) some few

    bit_there : (i : ℕ) → bit_at (words number) (place + i) ≡ bit_at here i
    bit_there i = ap (λ w. bit_at w (place + i)) (sym of_word) ∙ sym (shifted word place i) ∙ ap (λ h. bit_at h i) (sym of_here)

    far : from ≤ at
    far = omega (arith, of_number, of_place)

    in_ : is_in words at ≡ true
    in_ = at_place words at number (place + t) refl inside (bit_there t ∙ lowest.1)

    before : (q : ℕ) → from ≤ q → q < at → is_in words q ≡ false
    before q more less = by_kind (q % 4 == 0) refl
      where
        by_kind : (b : Bool) → (q % 4 == 0) ≡ b → is_in words q ≡ false
        by_kind false e = odd words q e
        by_kind true e =
            let of_kind : q % 4 ≡ 0 = grind (arith, common_steps, e) in
            let same : q / 256 ≡ number = omega (arith, of_kind, more, less, of_number, of_place, inside) in
            let i : ℕ = q / 4 % 64 - place in
            let split : q / 4 % 64 ≡ place + i = omega (arith, of_kind, more, less, of_number, of_place, inside) in
            let low : i < t = omega (arith, of_kind, more, less, of_number, of_place, inside) in
            out words q (ap (λ n. bit_at (words n) (q / 4 % 64)) same ∙ ap (bit_at (words number)) split ∙ bit_there i ∙ lowest.2 i low)

-- or in a later one
pub first_later : (words : ℕ → ℕ) (from word here place number later bits : ℕ) (found : Option ℕ) → number ≡ (from + 3) / 4 / 64 → place ≡ (from + 3) / 4 % 64 → word ≡ words number → here ≡ word / 2 ^ place → here ≡ 0
    → IsFirstWord words (number + 1) (Some (later, bits))
    → IfSome found (λ id. (id ≡ later * 256 + trailing_zeros w64 bits * 4) × (id < 2 ^ 62)) → IfNone found (2 ^ 62 ≤ later * 256 + trailing_zeros w64 bits * 4)
    → IsLeast (λ q. is_in words q && nat_lt q (2 ^ 62)) from found
first_later words from word here place number later bits found of_number of_place of_word of_here nothing first is none =
    least_of words from at found far in_ before is none
  where
    t : ℕ
    t = trailing_zeros w64 bits

    at : ℕ
    at = later * 256 + t * 4

    lowest : (trailing_zeros w64 bits < 64) × (bit_at bits (trailing_zeros w64 bits) ≡ 1) × ((i : ℕ) → i < trailing_zeros w64 bits → bit_at bits i ≡ 0)
    lowest = bit_at-trailing_zeros w64 bits first.2 first.3

    far : from ≤ at
    far = omega (arith, of_number, of_place, first.0)

    in_ : is_in words at ≡ true
    in_ = at_place words at later t refl lowest.0 (ap (λ w. bit_at w t) first.1 ∙ lowest.1)

    before : (q : ℕ) → from ≤ q → q < at → is_in words q ≡ false
    before q more less = by_kind (q % 4 == 0) refl
      where
        by_word : q % 4 ≡ 0 → (a : Bool) → nat_lt number (q / 256) ≡ a → (b : Bool) → nat_lt (q / 256) later ≡ b → is_in words q ≡ false
        by_word of_kind false e b f =
            let same : q / 256 ≡ number = grind (arith, common_steps, e, of_kind, more, of_number, of_place) in
            let from_place : place ≤ q / 4 % 64 = omega (arith, of_kind, more, of_number, of_place, same) in
            out words q (ap (λ n. bit_at (words n) (q / 4 % 64)) same ∙ ap (λ w. bit_at w (q / 4 % 64)) (sym of_word) ∙ clear_from word place (q / 4 % 64) (sym of_here ∙ nothing) from_place)
        by_word of_kind true e true f =
            let past : number + 1 ≤ q / 256 = grind (arith, common_steps, e) in
            let short : q / 256 < later = grind (arith, common_steps, f) in
            out words q (ap (λ w. bit_at w (q / 4 % 64)) (first.4 (q / 256) past short) ∙ bit_at-zero (q / 4 % 64))
        by_word of_kind true e false f =
            let reached : later ≤ q / 256 = grind (arith, common_steps, f) in
            let same : q / 256 ≡ later = omega (arith, reached, less, lowest.0) in
            let low : q / 4 % 64 < t = omega (arith, same, less, of_kind) in
            out words q (ap (λ n. bit_at (words n) (q / 4 % 64)) same ∙ ap (λ w. bit_at w (q / 4 % 64)) first.1 ∙ lowest.2 (q / 4 % 64) low)

        by_kind : (b : Bool) → (q % 4 == 0) ≡ b → is_in words q ≡ false
        by_kind false e = odd words q e
        by_kind true e = let of_kind : q % 4 ≡ 0 = grind (arith, common_steps, e) in by_word of_kind (nat_lt number (q / 256)) refl (nat_lt (q / 256) later) refl

-- or nowhere
pub none_later : (words : ℕ → ℕ) (from word here place number : ℕ) → number ≡ (from + 3) / 4 / 64 → place ≡ (from + 3) / 4 % 64 → word ≡ words number → here ≡ word / 2 ^ place → here ≡ 0
    → IsFirstWord words (number + 1) None → IsLeast (λ q. is_in words q && nat_lt q (2 ^ 62)) from None
none_later words from word here place number of_number of_place of_word of_here nothing first = λ q more. by_kind q more (q % 4 == 0) refl
  where
    by_word : (q : ℕ) → from ≤ q → q % 4 ≡ 0 → (a : Bool) → nat_lt number (q / 256) ≡ a → is_in words q ≡ false
    by_word q more of_kind false e =
        let same : q / 256 ≡ number = grind (arith, common_steps, e, of_kind, more, of_number, of_place) in
        let from_place : place ≤ q / 4 % 64 = omega (arith, of_kind, more, of_number, of_place, same) in
        out words q (ap (λ n. bit_at (words n) (q / 4 % 64)) same ∙ ap (λ w. bit_at w (q / 4 % 64)) (sym of_word) ∙ clear_from word place (q / 4 % 64) (sym of_here ∙ nothing) from_place)
    by_word q more of_kind true e =
        let past : number + 1 ≤ q / 256 = grind (arith, common_steps, e) in
        out words q (ap (λ w. bit_at w (q / 4 % 64)) (first (q / 256) past) ∙ bit_at-zero (q / 4 % 64))

    by_kind : (q : ℕ) → from ≤ q → (b : Bool) → (q % 4 == 0) ≡ b → (is_in words q && nat_lt q (2 ^ 62)) ≡ false
    by_kind q more false e = rw (odd words q e) refl
    by_kind q more true e = let of_kind : q % 4 ≡ 0 = grind (arith, common_steps, e) in rw (by_word q more of_kind (nat_lt number (q / 256)) refl) refl
