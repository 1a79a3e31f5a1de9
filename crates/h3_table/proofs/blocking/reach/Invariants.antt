use Rattle.std.proofs.Common.{◌≡◌, ℕ, ◌+◌, ◌-◌, List, length}
use Rattle.std.specs.Prelude.{sum}
use Rattle.h3_table.specs.Blocking.{counts_from}
use Rattle.h3_table.proofs.blocking.reach.Given as goal

-- the same counts
pub record Invariant (first now : List ℕ) : Type 0 where
  pub counts : (number : ℕ) → counts_from number now ≡ counts_from number first
  pub total : sum now ≡ sum first

abbrev pub invariant-loop-waiting : goal.invariant-loop-waiting
invariant-loop-waiting l = Invariant l.initial.waiting.items l.waiting.items

abbrev pub decreases-loop-waiting : goal.decreases-loop-waiting
decreases-loop-waiting l = l.place + 1 - length l.waiting.items
