-- What holds of the encodings of numbers.
use Rattle.std.proofs.Common.{◌≡◌, ℕ, ◌+◌, ◌-◌, ◌*◌, ◌/◌, ◌%◌, ◌^◌, ◌<◌, ◌≤◌, List, [], ◌∷◌, ◌++◌, length, take, arith, lit<, sym, ◌∙◌, ap, refl, zero, suc, length-append, add-one, inl, inr, lit≤}
use Rattle.std.specs.List.{AllByRecursion}
use Rattle.std.specs.Int.{w16, w32, w64, to_be_bytes, bytes_high_first}
use Rattle.std.proofs.lemmas.List.{take_at}
use Rattle.std.proofs.lemmas.Nat.{mul-add-lt, pow_pos, same_from_place, mod_below, or_shifted, pow_below, from_be_bytes-to_be_bytes_2, from_be_bytes-to_be_bytes_4, from_be_bytes-to_be_bytes_8}
use Rattle.std.proofs.lemmas.Grind.{pow_more}
use Rattle.std.proofs.lemmas.Bool.{cases_lt}
use Rattle.h3_coding.specs.Encodings.{big_endian, IsByte, IsForm, IsEncoding, one, two, four, eight, IsUnfinished, empty, short, encoding, IsShortest}
use Rattle.h3_coding.specs.ShortestLaws.{encoding_one, encoding_two, encoding_four, encoding_eight}
use Rattle.h3_coding.specs.Opened.{Opened}

pub big_endian_below : (xs : List ℕ) → AllByRecursion IsByte xs → big_endian xs < 256 ^ length xs
big_endian_below [] h = omega arith
big_endian_below (x ∷ xs) h =
    let at : 256 ^ suc (length xs) ≡ 256 ^ length xs * 256 = rw (← add-one (length xs)) (pow_more 256 (length xs)) in
    rw at (mul-add-lt x (256 ^ length xs) (big_endian xs) 256 h.0 (big_endian_below xs h.1))

opened_at : (k v first : ℕ) (rest : List ℕ) → k < 4 → IsForm k (2 ^ k) v (first ∷ rest) → (first / 64 ≡ k) × (length rest ≡ 2 ^ k - 1) × (v ≡ first % 64 * 256 ^ length rest + big_endian rest)
opened_at zero v first rest h f =
    let len : length rest ≡ 0 = omega arith in
    let low = rw len at (big_endian_below rest f.each.1) in
    let worth = rw len at f.worth in
    (omega arith, len, rw len (omega arith))
opened_at (suc zero) v first rest h f =
    let len : length rest ≡ 1 = omega arith in
    let low = rw len at (big_endian_below rest f.each.1) in
    let worth = rw len at f.worth in
    (omega arith, len, rw len (omega arith))
opened_at (suc (suc zero)) v first rest h f =
    let len : length rest ≡ 3 = omega arith in
    let low = rw len at (big_endian_below rest f.each.1) in
    let worth = rw len at f.worth in
    (omega arith, len, rw len (omega arith))
opened_at (suc (suc (suc zero))) v first rest h f =
    let len : length rest ≡ 7 = omega arith in
    let low = rw len at (big_endian_below rest f.each.1) in
    let worth = rw len at f.worth in
    (omega arith, len, rw len (omega arith))
opened_at (suc (suc (suc (suc k)))) v first rest h f = absurd (omega arith)

opened_form : (k v : ℕ) (bytes : List ℕ) → k < 4 → IsForm k (2 ^ k) v bytes → Opened v bytes
opened_form k v [] h f = absurd (omega (arith, f.count, pow_pos k))
opened_form k v (first ∷ rest) h f =
    let parts = opened_at k v first rest h f in
    record { first = first; rest = rest; is = refl; count = rw parts.0 parts.1; value = parts.2 }

pub opened : (v : ℕ) (bytes : List ℕ) → IsEncoding v bytes → Opened v bytes
opened v bytes (one f) = opened_form 0 v bytes (lit< tt) f
opened v bytes (two f) = opened_form 1 v bytes (lit< tt) f
opened v bytes (four f) = opened_form 2 v bytes (lit< tt) f
opened v bytes (eight f) = opened_form 3 v bytes (lit< tt) f

-- No encoding of a number begins an encoding of another.
pub one_encoding : (v w : ℕ) (t u r s : List ℕ) → IsEncoding v t → IsEncoding w u → t ++ r ≡ u ++ s → (v ≡ w) × (t ≡ u)
one_encoding v w t u r s p q e =
    let a = opened v t p in
    let b = opened w u q in
    let joined : (a.first ∷ a.rest) ++ r ≡ (b.first ∷ b.rest) ++ s = rw (a.is, b.is) at e in
    let firsts : a.first ≡ b.first = cc in
    let rests : a.rest ++ r ≡ b.rest ++ s = cc in
    let counts : length b.rest ≡ length a.rest = b.count ∙ ap (λ x. 2 ^ (x / 64) - 1) (sym firsts) ∙ sym a.count in
    let same : a.rest ≡ b.rest = sym (take_at a.rest r (length a.rest) refl) ∙ ap (λ x. take (length a.rest) x) rests ∙ take_at b.rest s (length a.rest) counts in
    (a.value ∙ rw (firsts, same) (sym b.value), a.is ∙ rw (firsts, same) (sym b.is))

-- What begins with an encoding is not unfinished.
pub finished : (v : ℕ) (t r left : List ℕ) (count : ℕ) → IsEncoding v t → IsUnfinished (t ++ r) count left → ⊥
finished v t r left count p (empty e k l) =
    let a = opened v t p in
    let joined : (a.first ∷ a.rest) ++ r ≡ [] = rw a.is at e in
    cc
finished v t r left count p (short first byte e k few) =
    let a = opened v t p in
    let joined : (a.first ∷ a.rest) ++ r ≡ first ∷ left = rw a.is at e in
    let firsts : a.first ≡ first = cc in
    let lengths = ap (λ x. length (x ++ r)) a.is in
    let count' : count ≡ a.first / 64 = rw firsts k in
    let few' : length (t ++ r) < 2 ^ (a.first / 64) = rw (← count') few in
    omega (arith, length-append a.rest r, a.count, lengths, few', pow_pos (a.first / 64))

-- Lists of one length that are worth the same are the same.
pub same_bytes : (xs ys : List ℕ) → AllByRecursion IsByte xs → AllByRecursion IsByte ys → length xs ≡ length ys → big_endian xs ≡ big_endian ys → xs ≡ ys
same_bytes [] [] h k len e = refl
same_bytes [] (y ∷ ys) h k len e = absurd (omega (arith, len))
same_bytes (x ∷ xs) [] h k len e = absurd (omega (arith, len))
same_bytes (x ∷ xs) (y ∷ ys) h k len e =
    let len' : length xs ≡ length ys = omega (arith, len) in
    let e' : x * 256 ^ length xs + big_endian xs ≡ y * 256 ^ length xs + big_endian ys = rw len' (rw len' at e) in
    let below : big_endian ys < 256 ^ length xs = rw len' (big_endian_below ys k.1) in
    let parts = same_from_place x (big_endian xs) y (big_endian ys) (256 ^ length xs) (big_endian_below xs h.1) below e' in
    let tails = same_bytes xs ys h.1 k.1 len' parts.1 in
    rw (parts.0, tails) refl

worth_two : (n : ℕ) → n < 2 ^ 16 → big_endian (to_be_bytes w16 n) ≡ n
worth_two n h = omega (arith, from_be_bytes-to_be_bytes_2 n h)

worth_four : (n : ℕ) → n < 2 ^ 32 → big_endian (to_be_bytes w32 n) ≡ n
worth_four n h = omega (arith, from_be_bytes-to_be_bytes_4 n h)

worth_eight : (n : ℕ) → n < 2 ^ 64 → big_endian (to_be_bytes w64 n) ≡ n
worth_eight n h = omega (arith, from_be_bytes-to_be_bytes_8 n h)

each_byte : (k n : ℕ) → AllByRecursion IsByte (bytes_high_first k n)
each_byte zero n = tt
each_byte (suc zero) n = (omega arith, tt)
each_byte (suc (suc k)) n = (mod_below (n / 256 ^ suc k) 256 (lit< tt), each_byte (suc k) n)

encoding_below_one : (v : ℕ) → v < 2 ^ 6 → IsEncoding v (encoding v)
encoding_below_one v h =
    let byte : v < 256 = omega arith in
    rw (encoding_one v h) (one (record { count = refl; each = (byte, tt); below = h; worth = omega arith }))

encoding_below_two : (v : ℕ) → 2 ^ 6 ≤ v → v < 2 ^ 14 → IsEncoding v (encoding v)
encoding_below_two v h k =
    let at : encoding v ≡ to_be_bytes w16 (2 ^ 14 + v) = rw (encoding_two v h k, or_shifted 1 14 v k) refl in
    let fits : 2 ^ 14 + v < 2 ^ 16 = omega arith in
    rw at (two (record { count = refl; each = each_byte 2 (2 ^ 14 + v); below = k; worth = omega (arith, worth_two (2 ^ 14 + v) fits) }))

encoding_below_four : (v : ℕ) → 2 ^ 14 ≤ v → v < 2 ^ 30 → IsEncoding v (encoding v)
encoding_below_four v h k =
    let at : encoding v ≡ to_be_bytes w32 (2 * 2 ^ 30 + v) = rw (encoding_four v h k, or_shifted 2 30 v k) refl in
    let fits : 2 * 2 ^ 30 + v < 2 ^ 32 = omega arith in
    rw at (four (record { count = refl; each = each_byte 4 (2 * 2 ^ 30 + v); below = k; worth = omega (arith, worth_four (2 * 2 ^ 30 + v) fits) }))

encoding_below_eight : (v : ℕ) → 2 ^ 30 ≤ v → v < 2 ^ 62 → IsEncoding v (encoding v)
encoding_below_eight v h k =
    let at : encoding v ≡ to_be_bytes w64 (3 * 2 ^ 62 + v) = rw (encoding_eight v h k, or_shifted 3 62 v k) refl in
    let fits : 3 * 2 ^ 62 + v < 2 ^ 64 = omega arith in
    rw at (eight (record { count = refl; each = each_byte 8 (3 * 2 ^ 62 + v); below = k; worth = omega (arith, worth_eight (3 * 2 ^ 62 + v) fits) }))

-- The encoding is an encoding.
pub encoding_is_valid : (v : ℕ) → v < 2 ^ 62 → IsEncoding v (encoding v)
encoding_is_valid v h = elim (cases_lt v (2 ^ 6)) [
  | inl k ↦ encoding_below_one v k
  | inr k ↦ elim (cases_lt v (2 ^ 14)) [
    | inl l ↦ encoding_below_two v k l
    | inr l ↦ elim (cases_lt v (2 ^ 30)) [ inl m ↦ encoding_below_four v l m | inr m ↦ encoding_below_eight v m h ]
  ]
]

-- It has at most as many bytes as any encoding.
length_below_two : (v : ℕ) → v < 2 ^ 14 → length (encoding v) ≤ 2
length_below_two v h = elim (cases_lt v (2 ^ 6)) [ inl k ↦ rw (encoding_one v k) (lit≤ tt) | inr k ↦ rw (encoding_two v k h) (lit≤ tt) ]

length_below_four : (v : ℕ) → v < 2 ^ 30 → length (encoding v) ≤ 4
length_below_four v h = elim (cases_lt v (2 ^ 14)) [
  | inl k ↦ let few = length_below_two v k in omega arith
  | inr k ↦ rw (encoding_four v k h) (lit≤ tt)
]

length_below_eight : (v : ℕ) → v < 2 ^ 62 → length (encoding v) ≤ 8
length_below_eight v h = elim (cases_lt v (2 ^ 30)) [
  | inl k ↦ let few = length_below_four v k in omega arith
  | inr k ↦ rw (encoding_eight v k h) (lit≤ tt)
]

pub shortest : (v : ℕ) (octets : List ℕ) → IsEncoding v octets → length (encoding v) ≤ length octets
shortest v octets (one f) = rw (f.count, encoding_one v f.below) (lit≤ tt)
shortest v octets (two f) = rw f.count (length_below_two v f.below)
shortest v octets (four f) = rw f.count (length_below_four v f.below)
shortest v octets (eight f) = rw f.count (length_below_eight v f.below)

-- The number of an encoding's form.
form_of : (v : ℕ) (bytes : List ℕ) → IsEncoding v bytes → (k : ℕ) × IsForm k (2 ^ k) v bytes
form_of v bytes (one f) = (0, f)
form_of v bytes (two f) = (1, f)
form_of v bytes (four f) = (2, f)
form_of v bytes (eight f) = (3, f)

same_power : (k j : ℕ) → 2 ^ k ≡ 2 ^ j → k ≡ j
same_power k j e = elim (cases_lt k j) [
  | inl h ↦ absurd (omega (arith, pow_below k j h))
  | inr h ↦ elim (cases_lt j k) [ inl l ↦ absurd (omega (arith, pow_below j k l)) | inr l ↦ omega arith ]
]

-- Encodings of one number and one length are the same.
pub one_of_length : (v : ℕ) (t u : List ℕ) → IsEncoding v t → IsEncoding v u → length t ≡ length u → t ≡ u
one_of_length v t u p q e =
    let a = form_of v t p in
    let b = form_of v u q in
    let forms : a.0 ≡ b.0 = same_power a.0 b.0 (sym a.1.count ∙ e ∙ b.1.count) in
    let worth = a.1.worth ∙ ap (λ x. v + x * 2 ^ (8 * 2 ^ x - 2)) forms ∙ sym b.1.worth in
    same_bytes t u a.1.each b.1.each e worth

pub encoding_is_shortest : (v : ℕ) → v < 2 ^ 62 → IsShortest v (encoding v)
encoding_is_shortest v h = record {
  is_encoding = encoding_is_valid v h;
  shortest = shortest v;
  only = λ octets p few. let most = shortest v octets p in one_of_length v octets (encoding v) p (encoding_is_valid v h) (omega arith);
}

-- the form of k, where the first byte tells k
pub form : (k first : ℕ) (bytes : List ℕ) → first < 256 → first / 64 ≡ k → length bytes ≡ 2 ^ k - 1 → AllByRecursion IsByte bytes → big_endian (first % 64 ∷ bytes) < 64 * 256 ^ length bytes → IsEncoding (big_endian (first % 64 ∷ bytes)) (first ∷ bytes)
form zero first bytes h e len each below =
    one (record { count = omega arith; each = (h, each); below = rw len (rw len at below); worth = rw len (omega arith) })
form (suc zero) first bytes h e len each below =
    two (record { count = omega arith; each = (h, each); below = rw len (rw len at below); worth = rw len (omega arith) })
form (suc (suc zero)) first bytes h e len each below =
    four (record { count = omega arith; each = (h, each); below = rw len (rw len at below); worth = rw len (omega arith) })
form (suc (suc (suc zero))) first bytes h e len each below =
    eight (record { count = omega arith; each = (h, each); below = rw len (rw len at below); worth = rw len (omega arith) })
form (suc (suc (suc (suc k)))) first bytes h e len each below = absurd (omega arith)
