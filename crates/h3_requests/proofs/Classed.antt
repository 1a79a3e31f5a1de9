-- Streams of classes by their bits: the words of a class stand behind those of the class before.
use Rattle.std.proofs.Common.{arith, ◌≡◌, ◌≢◌, ◌<◌, ◌≤◌, ℕ, suc, ◌+◌, ◌-◌, ◌*◌, ◌/◌, ◌%◌, ◌^◌, Bool, true, false, if◌then◌else◌, ◌&&◌, ◌||◌, refl, sym, ◌∙◌, ap, subst, bit_and, bit_or, w64}
use Rattle.std.specs.Prelude.{◌==◌, nat_lt, Option, Some, None, Result, Ok, Err, OnOk, OnErr}
use Rattle.std.specs.Int.{bit_at, bit_not}
use Rattle.std.proofs.lemmas.Grind.{common_steps}
use Rattle.h3_requests.specs.FirstWord.{IsFirstWord}
use Rattle.h3_requests.specs.Lesser.{lesser_of}
use Rattle.h3_requests.specs.LesserLaws.{least_either}
use Rattle.h3_requests.specs.Waiting.{is_any_below, is_in, word_at_number, words_in, HaveSameWords, IsOnePlace, IsOneTest, IsOneWord, KeepsOtherPlaces, PutIf}
use Rattle.h3_requests.proofs.Bits.{cleared_in, of_number, of_request, same_in, set_in}
use Rattle.h3_connection.specs.NextWaiting.{IsLeast}
use Rattle.h3_connection.specs.NextWaitingLaws.{least_same}

-- whether a stream of a class has its bit
abbrev pub passes : (ℕ → ℕ) → ℕ → ℕ → Bool
passes words c q = is_in (words_in words c) q && nat_lt q (2 ^ 62)

itself : (n : ℕ) → (n == n) ≡ true
itself n = grind (arith, common_steps)

same : (a b : ℕ) → (a == b) ≡ true → a ≡ b
same a b e = grind (arith, common_steps)

apart : (a b : ℕ) → (a == b) ≡ false → a ≢ b
apart a b e = grind (arith, common_steps)

-- words of two classes have different numbers
other_number : (c class n m : ℕ) → c ≢ class → n < 2 ^ 54 → m < 2 ^ 54 → word_at_number c n ≢ word_at_number class m
other_number c class n m differs few less is = absurd (omega (arith, differs, few, less, is))

-- one word of all is one of its class,
of_class : (words later : ℕ → ℕ) (class n word : ℕ) → IsOneWord (word_at_number class n) word words later → IsOneWord n word (words_in words class) (words_in later class)
of_class words later class n word h = record { own = h.own; others = λ m differs. h.others (word_at_number class m) (λ is. differs (omega (arith, is))) }

-- and none of another
of_other : (words later : ℕ → ℕ) (c class id q word : ℕ) → c ≢ class → id < 2 ^ 62 → q < 2 ^ 62 → IsOneWord (word_at_number class (id / 256)) word words later → is_in (words_in later c) q ≡ is_in (words_in words c) q
of_other words later c class id q word differs few less h =
    ap (λ w. (q % 4 == 0) && (bit_at w (q / 4 % 64) == 1))
    (h.others (word_at_number c (q / 256)) (other_number c class (q / 256) (id / 256) differs (omega (arith, less)) (omega (arith, few))))

and_true : (b : Bool) → (b && true) ≡ b
and_true true = refl
and_true false = refl

and_false : (b : Bool) → (b && false) ≡ false
and_false true = refl
and_false false = refl

-- one bit that changes changes one stream of one class
one_place : (words later : ℕ → ℕ) (class id word : ℕ) (is : Bool) → id < 2 ^ 62 → IsOneWord (word_at_number class (id / 256)) word words later
    → IsOneTest id is (is_in (words_in words class)) (is_in (words_in later class)) → IsOnePlace class id is (passes words) (passes later)
one_place words later class id word is few h one c q = by_class (c == class) refl (q == id) refl
  where
    within : nat_lt id (2 ^ 62) ≡ true
    within = grind (arith, common_steps, few)

    by_class : (b : Bool) → (c == class) ≡ b → (d : Bool) → (q == id) ≡ d → passes later c q ≡ (if b && d then is else passes words c q)
    by_class true e true f = rw (same c class e, same q id f) (ap (λ b. b && nat_lt id (2 ^ 62)) one.own ∙ rw within (and_true is))
    by_class true e false f = rw (same c class e) (ap (λ b. b && nat_lt q (2 ^ 62)) (one.others q (apart q id f)))
    by_class false e d f = by_most (nat_lt q (2 ^ 62)) refl
      where
        by_most : (m : Bool) → nat_lt q (2 ^ 62) ≡ m → (is_in (words_in later c) q && m) ≡ (is_in (words_in words c) q && m)
        by_most true m = ap (λ b. b && true) (of_other words later c class id q word (apart c class e) few (grind (arith, common_steps, m)) h)
        by_most false m = and_false (is_in (words_in later c) q) ∙ sym (and_false (is_in (words_in words c) q))

-- a bit is set
pub set_place : (words later : ℕ → ℕ) (class stream number bit id : ℕ) → stream ≡ id → stream < 2 ^ 62 → stream % 4 ≡ 0 → number ≡ word_at_number class (stream / 256) → bit ≡ 1 * 2 ^ (stream / 4 % 64) % 2 ^ 64
    → IsOneWord number (bit_or (words number) bit) words later → IsOnePlace class id true (passes words) (passes later)
set_place words later class stream number bit id of_stream few of_id of_word of_bit h =
    let there : number ≡ word_at_number class (id / 256) = of_word ∙ ap (λ s. word_at_number class (s / 256)) of_stream in
    let here : IsOneWord (word_at_number class (id / 256)) (bit_or (words (word_at_number class (id / 256))) bit) words later = subst (λ n. IsOneWord n (bit_or (words n) bit) words later) there h in
    one_place words later class id (bit_or (words (word_at_number class (id / 256))) bit) true (subst (λ s. s < 2 ^ 62) of_stream few) here
    (set_in (words_in words class) (words_in later class) id (id / 256) bit id refl (of_number stream id of_stream of_id) refl (of_bit ∙ ap (λ s. 1 * 2 ^ (s / 4 % 64) % 2 ^ 64) of_stream)
    (of_class words later class (id / 256) (bit_or (words (word_at_number class (id / 256))) bit) here))

-- or cleared
pub clear_place : (words later : ℕ → ℕ) (class stream number bit id : ℕ) → stream ≡ id → stream < 2 ^ 62 → stream % 4 ≡ 0 → number ≡ word_at_number class (stream / 256) → bit ≡ 1 * 2 ^ (stream / 4 % 64) % 2 ^ 64
    → IsOneWord number (bit_and (words number) (bit_not w64 bit)) words later → IsOnePlace class id false (passes words) (passes later)
clear_place words later class stream number bit id of_stream few of_id of_word of_bit h =
    let there : number ≡ word_at_number class (id / 256) = of_word ∙ ap (λ s. word_at_number class (s / 256)) of_stream in
    let here : IsOneWord (word_at_number class (id / 256)) (bit_and (words (word_at_number class (id / 256))) (bit_not w64 bit)) words later = subst (λ n. IsOneWord n (bit_and (words n) (bit_not w64 bit)) words later) there h in
    one_place words later class id (bit_and (words (word_at_number class (id / 256))) (bit_not w64 bit)) false (subst (λ s. s < 2 ^ 62) of_stream few) here
    (cleared_in (words_in words class) (words_in later class) id (id / 256) bit id refl (of_number stream id of_stream of_id) refl (of_bit ∙ ap (λ s. 1 * 2 ^ (s / 4 % 64) % 2 ^ 64) of_stream)
    (of_class words later class (id / 256) (bit_and (words (word_at_number class (id / 256))) (bit_not w64 bit)) here))

-- no bit changes
pub same_places : (words later : ℕ → ℕ) → HaveSameWords words later → (c q : ℕ) → passes later c q ≡ passes words c q
same_places words later h c q = ap (λ b. b && nat_lt q (2 ^ 62)) (same_in (words_in words c) (words_in later c) (λ n. h (word_at_number c n)) q)

-- the others have the places that they had
pub others_keep : (class id : ℕ) (is : Bool) (before after : ℕ → ℕ → Bool) → IsOnePlace class id is before after → KeepsOtherPlaces class id before after
others_keep class id is before after h c q differs = h c q ∙ ap (λ b. if b then is else before c q) differs

-- what passes passes still, where one more does
pub still : (class id : ℕ) (before after : ℕ → ℕ → Bool) → IsOnePlace class id true before after → (c q : ℕ) → before c q ≡ true → after c q ≡ true
still class id before after h c q was = h c q ∙ by_test ((c == class) && (q == id))
  where
    by_test : (b : Bool) → (if b then true else before c q) ≡ true
    by_test true = refl
    by_test false = was

-- the one that is set passes
pub own : (class id : ℕ) (is : Bool) (before after : ℕ → ℕ → Bool) → IsOnePlace class id is before after → after class id ≡ is
own class id is before after h = h class id ∙ rw (itself class, itself id) refl

-- where memory was there for a place the stream has one,
pub placed_if : {T E : Type 0} (r : Result T E) (words later : ℕ → ℕ) (class stream number bit id : ℕ) → stream ≡ id → stream < 2 ^ 62 → stream % 4 ≡ 0 → number ≡ word_at_number class (stream / 256)
    → bit ≡ 1 * 2 ^ (stream / 4 % 64) % 2 ^ 64 → OnOk r (IsOneWord number (bit_or (words number) bit) words later) → OnOk r (passes later class id ≡ true)
placed_if (Ok t) words later class stream number bit id of_stream few of_id of_word of_bit ok = own class id true (passes words) (passes later) (set_place words later class stream number bit id of_stream few of_id of_word of_bit ok)
placed_if (Err e) words later class stream number bit id of_stream few of_id of_word of_bit ok = tt

-- and those that had one have it still
pub still_if : {T E : Type 0} (r : Result T E) (words later : ℕ → ℕ) (class stream number bit id : ℕ) → stream ≡ id → stream < 2 ^ 62 → stream % 4 ≡ 0 → number ≡ word_at_number class (stream / 256)
    → bit ≡ 1 * 2 ^ (stream / 4 % 64) % 2 ^ 64 → OnOk r (IsOneWord number (bit_or (words number) bit) words later) → OnErr r (HaveSameWords words later)
    → (c q : ℕ) → passes words c q ≡ true → passes later c q ≡ true
still_if (Ok t) words later class stream number bit id of_stream few of_id of_word of_bit ok err =
    still class id (passes words) (passes later) (set_place words later class stream number bit id of_stream few of_id of_word of_bit ok)
still_if (Err e) words later class stream number bit id of_stream few of_id of_word of_bit ok err = λ c q h. same_places words later err c q ∙ h

-- a stream with a bit is a request stream, and its word is there
pub of_stream : (words : ℕ → ℕ) (class id : ℕ) → passes words class id ≡ true → id % 4 ≡ 0
of_stream words class id h = of_request (words_in words class) id (both _ _ h)
  where
    both : (a b : Bool) → (a && b) ≡ true → a ≡ true
    both true b h = refl
    both false b h = absurd (cc)

-- the first word of all from a number of a class on is the first of that class
pub first_of_class : (words : ℕ → ℕ) (class n : ℕ) (found : ℕ × ℕ) → IsFirstWord words (word_at_number class n) (Some found)
    → IsFirstWord (words_in words class) n (Some (found.0 - class * (2 ^ 54 + 1), found.1))
first_of_class words class n found h =
    let back : word_at_number class (found.0 - class * (2 ^ 54 + 1)) ≡ found.0 = omega (arith, h.0) in
    (omega (arith, h.0), ap words back ∙ h.1, h.2, h.3, λ q more less. h.4 (word_at_number class q) (omega (arith, more)) (omega (arith, less, h.0)))

pub none_of_class : (words : ℕ → ℕ) (class n : ℕ) → IsFirstWord words (word_at_number class n) None → IsFirstWord (words_in words class) n None
none_of_class words class n h = λ q more. h (word_at_number class q) (omega (arith, more))

-- there is no stream from 2^62 on
pub past_all : (words : ℕ → ℕ) (class from : ℕ) → 2 ^ 54 ≤ (from + 3) / 4 / 64 → IsLeast (passes words class) from None
past_all words class from past = λ q more. by_kind q more (q % 4 == 0) refl
  where
    by_kind : (q : ℕ) → from ≤ q → (b : Bool) → (q % 4 == 0) ≡ b → passes words class q ≡ false
    by_kind q more false e = rw e refl
    by_kind q more true e =
        let of_kind : q % 4 ≡ 0 = same (q % 4) 0 e in
        let far : 2 ^ 62 ≤ q = omega (arith, of_kind, more, past) in
        let late : nat_lt q (2 ^ 62) ≡ false = grind (arith, common_steps, far) in
        rw late (and_false (is_in (words_in words class) q))

-- nothing waits in the classes below this one
abbrev pub NoneBelow : (ℕ → ℕ → Bool) → ℕ → Type 0
NoneBelow waits from = (class q : ℕ) → class < from → waits class q ≡ false

-- of the classes below one more
any_next : (waits : ℕ → ℕ → Bool) (class q : ℕ) → is_any_below (class + 1) waits q ≡ (is_any_below class waits q || waits class q)
any_next waits class q = let next : class + 1 ≡ suc class = omega arith in ap (λ n. is_any_below n waits q) next

pub least_next : (waits : ℕ → ℕ → Bool) (class from : ℕ) (first found : Option ℕ) → IsLeast (is_any_below class waits) from first → IsLeast (waits class) from found
    → IsLeast (is_any_below (class + 1) waits) from (lesser_of first found)
least_next waits class from first found h k =
    least_same (λ q. is_any_below class waits q || waits class q) (is_any_below (class + 1) waits) from (lesser_of first found) (λ q. any_next waits class q)
    (least_either (is_any_below class waits) (waits class) from first found h k)

-- it was put, or nothing was
pub put_true : (class id : ℕ) (is : Bool) (before after : ℕ → ℕ → Bool) → is ≡ true → IsOnePlace class id true before after → PutIf class id is before after
put_true class id is before after so h c q = h c q ∙ ap (λ i. if (c == class) && (q == id) then i || before c q else before c q) (sym so)

pub put_false : (class id : ℕ) (is : Bool) (before : ℕ → ℕ → Bool) → is ≡ false → PutIf class id is before before
put_false class id is before so c q = sym (ap (λ i. if (c == class) && (q == id) then i || before c q else before c q) so ∙ by_test ((c == class) && (q == id)))
  where
    by_test : (b : Bool) → (if b then before c q else before c q) ≡ before c q
    by_test true = refl
    by_test false = refl
