use Rattle.std.proofs.Common.{◌≡◌, ◌≤◌, ℕ, List, [], ◌∷◌, take, length, slice_set, refl, ◌∙◌, arith}
use Rattle.h3_field.proofs.prefix_int.write.Goals as goal

first_set : (out : List ℕ) (x : ℕ) → 2 ≤ length out → take 1 (slice_set out 0 x) ≡ x ∷ []
first_set [] x room = absurd (omega (arith, room))
first_set (y ∷ out) x room = refl

both_set : (out : List ℕ) (x y : ℕ) → 2 ≤ length out → take 2 (slice_set (slice_set out 0 x) 1 y) ≡ x ∷ y ∷ []
both_set [] x y room = absurd (omega (arith, room))
both_set (a ∷ []) x y room = absurd (omega (arith, room))
both_set (a ∷ b ∷ out) x y room = refl

pub returns-in-Some-clause-bytes : goal.returns-in-Some-clause-bytes
returns-in-Some-clause-bytes c = first_set c.args.out.now c.in-Some.first c.requires.room ∙ c.in-Some.ensures

pub returns-clause-bytes : goal.returns-clause-bytes
returns-clause-bytes c = both_set c.args.out.now c.in_ok-first.first c.in_ok-first.second c.requires.room ∙ c.in_ok-first.ensures
