-- There is nothing.
use Rattle.std.proofs.Common.{arith, ◌≡◌, ◌+◌, ℕ, [], ap}
use Rattle.std.specs.Prelude.{unwrap_or, nat_lt}
use Rattle.std.proofs.lemmas.Bool.{le-ltb}
use Rattle.std.specs.BTreeMap.{is_at, BTreeMap}
use Rattle.std.specs.Map.{lookup}
use Rattle.std.specs.Ordering.{nat_cmp}
use Rattle.h3_blocked.specs.Counting.{number_at, number_in, one_if, sum_above}
use Rattle.h3_blocked.specs.declared.counts.Blocked.{Blocked}
use Rattle.h3_blocked.proofs.Above.{none_above}
use Rattle.h3_blocked.proofs.counts.Blocked.new.Goals as goal

nothing : (streams : BTreeMap ℕ ℕ) → streams.entries ≡ [] → (n : ℕ) → sum_above n (number_in streams) ≡ 0
nothing streams none n = none_above n (number_in streams) (λ k. ap (λ l. unwrap_or (lookup (is_at (nat_cmp k)) l) 0) none)

both_none : (a b : ℕ) → a ≡ 0 → b ≡ 0 → a + b ≡ 0
both_none a b h k = omega (arith, h, k)

pub returns-clause-none : goal.returns-clause-none
returns-clause-none c = λ n.
    let b : Blocked = record { streams = c.new.result; total = 0; newest = 0; passed = 0; above_passed = 0 } in
    let none : sum_above n (number_at b) ≡ 0 = nothing c.new.result c.new.ensures.empty n in
    let newest : one_if (nat_lt n 0) ≡ 0 = ap one_if (le-ltb n 0 (omega arith)) in
    both_none (sum_above n (number_at b)) (one_if (nat_lt n 0)) none newest

pub returns-clause-sound : goal.returns-clause-sound
returns-clause-sound c = record { total = nothing c.new.result c.new.ensures.empty 0; few = omega arith; passed = nothing c.new.result c.new.ensures.empty 0 }
