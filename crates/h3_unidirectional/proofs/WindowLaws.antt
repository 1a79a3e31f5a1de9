-- The bytes that are looked at, those of them that were read, and those that are left.
use Rattle.std.proofs.Common.{◌≡◌, ℕ, ◌+◌, ◌-◌, ◌<◌, ◌≤◌, Bool, true, false, min, if◌then◌else◌, List, [], ◌++◌, length, length-append, length-drop, append-nil, append_assoc, take, drop, refl, ap, sym, ◌∙◌, arith}
use Rattle.std.proofs.lemmas.List.{drop_at, take-append-drop, length-take-le, nil_from_length}
use Rattle.h3_proto.specs.Config.{is_limit}
use Rattle.h3_unidirectional.specs.Windows.{window}
use Rattle.h3_unidirectional.proofs.Excess.{IsWithin}

min_fits : (b : Bool) (most count : ℕ) → (if b then min most count else count) ≤ count
min_fits true most count = omega arith
min_fits false most count = omega arith

pub window_fits : (most count : ℕ) → window most count ≤ count
window_fits most count = min_fits (is_limit most) most count

min_within : (b : Bool) (most count : ℕ) → b ≡ true → (if b then min most count else count) ≤ most
min_within true most count e = omega arith
min_within false most count e = absurd (cc)

-- What is looked at is within the limit, and what is read of it.
pub looked_within : (most : ℕ) (bytes : List ℕ) → IsWithin most (take (window most (length bytes)) bytes)
looked_within most bytes limit =
    let size = length-take-le (window most (length bytes)) bytes (window_fits most (length bytes)) in
    let fits = min_within (is_limit most) most (length bytes) limit in
    omega (arith, size, fits)

pub front_within : (most : ℕ) (front left : List ℕ) → IsWithin most (front ++ left) → IsWithin most front
front_within most front left fits limit = let all = fits limit in omega (arith, all, length-append front left)

pub left_within : (most : ℕ) (front left : List ℕ) → IsWithin most (front ++ left) → IsWithin most left
left_within most front left fits limit = let all = fits limit in omega (arith, all, length-append front left)

-- Where fewer bytes are looked at than there are, there is a limit, and they are so many.
min_less : (b : Bool) (most count : ℕ) → (if b then min most count else count) < count → (b ≡ true) × ((if b then min most count else count) ≡ most)
min_less true most count h = (refl, omega (arith, h))
min_less false most count h = absurd (omega (arith, h))

pub window_less : (most count : ℕ) → window most count < count → (is_limit most ≡ true) × (window most count ≡ most)
window_less most count h = min_less (is_limit most) most count h

-- The bytes that are looked at are those that were read and those that are not; behind them stand the others.
pub record IsCut (most : ℕ) (bytes front left after : List ℕ) (taken : ℕ) : Type 0 where
  pub others : List ℕ
  pub split : bytes ≡ front ++ after
  pub after_is : after ≡ left ++ others
  pub count : taken ≡ length front
  pub sizes : length front + length left ≡ window most (length bytes)
  pub others_are : others ≡ drop (window most (length bytes)) bytes

pub cut_at : (most : ℕ) (bytes front left after : List ℕ) (taken : ℕ) → take (window most (length bytes)) bytes ≡ front ++ left → taken ≡ window most (length bytes) - length left → after ≡ drop taken bytes
    → IsCut most bytes front left after taken
cut_at most bytes front left after taken parts count rest =
    let n = window most (length bytes) in
    let others = drop n bytes in
    let size = length-take-le n bytes (window_fits most (length bytes)) in
    let sizes : length front + length left ≡ n = sym (length-append front left) ∙ ap length (sym parts) ∙ size in
    let all : bytes ≡ front ++ (left ++ others) = sym (take-append-drop n bytes) ∙ ap (λ l. l ++ others) parts ∙ append_assoc front left others in
    let here : taken ≡ length front = omega (arith, count, sizes) in
    let is : after ≡ left ++ others = rest ∙ ap (λ k. drop k bytes) here ∙ ap (λ l. drop (length front) l) all ∙ drop_at front (left ++ others) (length front) refl in
    record {
      others = others;
      split = all ∙ ap (λ l. front ++ l) (sym is);
      after_is = is;
      count = here;
      sizes = sizes;
      others_are = refl;
    }

none_behind : (n : ℕ) (bytes : List ℕ) → length bytes ≤ n → drop {A = ℕ} n bytes ≡ []
none_behind n bytes h = nil_from_length (drop n bytes) (omega (arith, h, length-drop n bytes))

-- Where all bytes are looked at, what is left is what was not read.
pub all_looked : (most : ℕ) (bytes front left after : List ℕ) (taken : ℕ) → IsCut most bytes front left after taken → length bytes ≤ window most (length bytes) → after ≡ left
all_looked most bytes front left after taken cut h =
    cut.after_is ∙ ap (λ l. left ++ l) (cut.others_are ∙ none_behind (window most (length bytes)) bytes h) ∙ append-nil left

-- Where none were read, all are left, and those that were looked at stand in front.
pub none_read : (most : ℕ) (bytes front left after : List ℕ) (taken : ℕ) → take (window most (length bytes)) bytes ≡ front ++ left → IsCut most bytes front left after taken → taken ≡ 0
    → (after ≡ bytes) × (left ≡ take (window most (length bytes)) bytes)
none_read most bytes front left after taken parts cut none =
    let nothing : front ≡ [] = nil_from_length front (sym cut.count ∙ none) in
    (sym (cut.split ∙ ap (λ l. l ++ after) nothing), sym (parts ∙ ap (λ l. l ++ left) nothing))

-- Where some were read, fewer are left.
pub fewer_left : (most : ℕ) (bytes front left after : List ℕ) (taken : ℕ) → IsCut most bytes front left after taken → 0 < taken → length after < length bytes
fewer_left most bytes front left after taken cut some = omega (arith, some, cut.count, ap length cut.split, length-append front after)
