-- A reader takes no more bytes than there are.
use Rattle.std.proofs.Common.{◌≡◌, ℕ, zero, suc, ◌<◌, ◌≤◌, false, ◌==◌, List, [], ◌∷◌, ◌++◌, length, min, Option, Some, None, subst, arith}
use Rattle.std.proofs.lemmas.Bool.Decides.{nat_tests}
use Rattle.h3_capsule.specs.declared.capsule.Capsule.{Capsule}
use Rattle.h3_capsule.specs.Capsule.{Place, Answer, head_of, in_head, with_head, of_value, read_on}
use Rattle.h3_capsule.specs.Capsule.Place.{InHead, InValue, AtEnd}

with_head_within : (head : Option (ℕ × ℕ)) (later : Answer) (n : ℕ) → later.0 ≤ n → (with_head head later).0 ≤ suc n
with_head_within None later n h = omega (arith, h)
with_head_within (Some head) later n h = omega arith

in_head_within : (front bytes : List ℕ) → (in_head front bytes).0 ≤ length bytes
in_head_within front [] = omega arith
in_head_within front (b ∷ bytes) = with_head_within (head_of (front ++ b ∷ [])) (in_head (front ++ b ∷ []) bytes) (length bytes) (in_head_within (front ++ b ∷ []) bytes)

not_zero : (n : ℕ) → (suc n == 0) ≡ false
not_zero n = grind (arith, nat_tests)

value_within : (left count n : ℕ) → count ≤ n → (of_value left count).0 ≤ n
value_within left zero n h = h
value_within left (suc count) n h = rw (not_zero count) h

takes_within : (place : Place) (bytes : List ℕ) → (read_on place bytes).0 ≤ length bytes
unfolding read_on
takes_within (InHead front) bytes = in_head_within front bytes
takes_within (InValue left) bytes = value_within left (min left (length bytes)) (length bytes) (omega arith)
takes_within AtEnd bytes = omega arith

pub within : (place : Place) (bytes : List ℕ) (used : ℕ) (told : Capsule) (next : Place) → read_on place bytes ≡ (used, told, next) → used ≤ length bytes
within place bytes used told next e = subst (λ (a : Answer). a.0 ≤ length bytes) e (takes_within place bytes)
