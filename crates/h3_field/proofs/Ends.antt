-- Ends of a prefix, and of all that is there.
use Rattle.std.proofs.Common.{◌≡◌, ℕ, List, [], ◌∷◌, ◌++◌, refl, ap, sym, arith}
use Rattle.h3_field.specs.IntegerReading.{integer}
use Rattle.h3_field.specs.PrefixReading.{prefix}
use Rattle.h3_field.specs.Ends.{LeavesEnds, IsEndOf}
use Rattle.h3_field.specs.EndLaws.{leave_some, then_leaves, whole_leaves, integer_leaves, end_dropped}

pub prefix_leaves : LeavesEnds 1 prefix
prefix_leaves = then_leaves 1 (integer 8) _ (integer_leaves 8) (λ count. then_leaves 0 (integer 7) _ (leave_some 1 (integer 7) (integer_leaves 7)) (λ base. whole_leaves _))

-- and so is nothing
pub all_dropped : (bytes : List ℕ) → IsEndOf bytes []
all_dropped bytes = end_dropped 0 bytes [] (record { front = bytes; parts = sym (append_nil bytes); some = omega arith })
  where
    append_nil : (xs : List ℕ) → xs ++ [] ≡ xs
    append_nil [] = refl
    append_nil (x ∷ xs) = ap (λ l. x ∷ l) (append_nil xs)
