-- What is next is the first of what lies behind.
use Rattle.std.proofs.Common.{arith, rules, ◌≡◌, ◌<◌, ◌≤◌, ◌+◌, ◌^◌, ℕ}
use Rattle.std.specs.Prelude.{Option, Some, None}
use Rattle.h3_blocked.specs.Counting.{number_at, sum_above, IsNextCount}
use Rattle.h3_blocked.specs.declared.counts.Blocked.{Blocked}
use Rattle.h3_blocked.proofs.Above.{few_above, passed_over, stepped}
use Rattle.h3_blocked.proofs.counts.Blocked.between.Goals as goal

next_first : (b : Blocked) (low at high sum count number : ℕ) → high < 2 ^ 64 → (at ≤ high) × (sum + sum_above at (number_at b) ≡ sum_above low (number_at b)) → IsNextCount b at (Some (count, number)) → count ≤ high
    → sum + number + sum_above count (number_at b) ≡ sum_above low (number_at b)
next_first b low at high sum count number limit (within, is) next few =
    omega (arith, stepped at count (number_at b) next.0 (omega (arith, few, limit)) next.2, next.1, is)

pub overflow_add-sum : goal.overflow_add-sum
overflow_add-sum c = omega (arith, next_first c.args.self.now c.args.low c.loop-at.at c.args.high c.loop-at.sum c.in-Some.count c.in-Some.number (search rules) c.loop-at.invariant c.in-Some.ensures c.if-count-high.true, few_above c.args.self.now c.args.low c.requires.sound)

pub loop-at-preserved-then-count-high : goal.loop-at-preserved-then-count-high
loop-at-preserved-then-count-high c = (c.if-count-high.true, next_first c.args.self.now c.args.low c.loop-at.at c.args.high c.loop-at.sum c.in-Some.count c.in-Some.number (search rules) c.loop-at.invariant c.in-Some.ensures c.if-count-high.true)

nothing_left : (b : Blocked) (low at high sum : ℕ) → (at ≤ high) × (sum + sum_above at (number_at b) ≡ sum_above low (number_at b)) → ((j : ℕ) → at < j → j ≤ high → j < 2 ^ 64 → number_at b j ≡ 0)
    → (high ≤ high) × (sum + sum_above high (number_at b) ≡ sum_above low (number_at b))
nothing_left b low at high sum (within, is) none = (omega arith, omega (arith, is, passed_over at high (number_at b) within none))

-- what is next lies behind,
pub loop-at-preserved-in_default : goal.loop-at-preserved-in_default
loop-at-preserved-in_default c =
    nothing_left c.args.self.now c.args.low c.loop-at.at c.args.high c.loop-at.sum c.loop-at.invariant (λ j past last few. c.in-Some.ensures.2 j past (omega (arith, last, c.if-count-high.false)))

none_next : (b : Blocked) (at : ℕ) (o : Option (ℕ × ℕ)) → IsNextCount b at o → o ≡ None → (j : ℕ) → at < j → j < 2 ^ 64 → number_at b j ≡ 0
none_next b at None h is = h
none_next b at (Some p) h is = absurd (cc)

-- or nothing is
pub loop-at-preserved : goal.loop-at-preserved
loop-at-preserved c = nothing_left c.args.self.now c.args.low c.loop-at.at c.args.high c.loop-at.sum c.loop-at.invariant (λ j past last few. none_next c.args.self.now c.loop-at.at c.next.result c.next.ensures c.in_default.is j past few)
