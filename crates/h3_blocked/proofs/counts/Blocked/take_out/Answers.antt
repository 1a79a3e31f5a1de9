-- One less.
use Rattle.std.proofs.Common.{arith, rules, ◌≡◌, ◌<◌, ◌^◌, ℕ, refl, true, false, ap}
use Rattle.std.specs.Prelude.{nat_lt, ◌≢◌}
use Rattle.std.proofs.lemmas.Bool.{lt-ltb, le-ltb}
use Rattle.h3_blocked.specs.Counting.{number_at, number_in, one_if, HasCount}
use Rattle.h3_blocked.specs.declared.counts.Blocked.{Blocked}
use Rattle.h3_blocked.proofs.Above.{few_at, no_more_at, placed, shrunk, taken_sound}
use Rattle.h3_blocked.proofs.counts.Blocked.take_out.Goals as goal

there : (b : Blocked) (count : ℕ) → count < 2 ^ 64 → (0 < count) × HasCount b count → b.newest ≢ count → 0 < number_at b count
there b count few among differs = placed b count few among.0 among.1 differs

pub take_one-requires : goal.take_one-requires
take_one-requires c = there c.args.self.now c.args.count (search rules) c.requires.among c.if-self-count.false

pub overflow_sub-self : goal.overflow_sub-self
overflow_sub-self c = omega (arith, there c.args.self.now c.args.count (search rules) c.requires.among c.if-self-count.false, few_at c.args.self.now c.args.count c.requires.sound c.requires.among.0 (search rules))

pub overflow_sub-self-then-count-self : goal.overflow_sub-self-then-count-self
overflow_sub-self-then-count-self c = omega (arith, there c.args.self.now c.args.count (search rules) c.requires.among c.if-self-count.false, no_more_at c.args.self.now.passed c.args.count (number_at c.args.self.now) c.if-count-self.true (search rules), c.requires.sound.passed)

pub returns-then-count-self-clause-replaced : goal.returns-then-count-self-clause-replaced
returns-then-count-self-clause-replaced c = λ n.
    let none : one_if (nat_lt n 0) ≡ 0 = ap one_if (le-ltb n 0 (omega arith)) in
    omega (arith, none, shrunk n c.args.count (number_at c.args.self.now) (number_in c.take_one.new.streams) (search rules) (there c.args.self.now c.args.count (search rules) c.requires.among c.if-self-count.false) c.take_one.ensures)

pub returns-else-count-self-clause-replaced : goal.returns-else-count-self-clause-replaced
returns-else-count-self-clause-replaced c = λ n.
    let none : one_if (nat_lt n 0) ≡ 0 = ap one_if (le-ltb n 0 (omega arith)) in
    omega (arith, none, shrunk n c.args.count (number_at c.args.self.now) (number_in c.take_one.new.streams) (search rules) (there c.args.self.now c.args.count (search rules) c.requires.among c.if-self-count.false) c.take_one.ensures)

pub returns-then-count-self-clause-sound : goal.returns-then-count-self-clause-sound
returns-then-count-self-clause-sound c =
    let more : one_if (nat_lt c.args.self.now.passed c.args.count) ≡ 1 = ap one_if (lt-ltb _ _ c.if-count-self.true) in
    taken_sound c.args.self.now _ c.args.count (search rules) c.requires.among.0 (there c.args.self.now c.args.count (search rules) c.requires.among c.if-self-count.false) c.requires.sound c.take_one.ensures refl refl (omega (arith, more))

pub returns-else-count-self-clause-sound : goal.returns-else-count-self-clause-sound
returns-else-count-self-clause-sound c =
    let none : one_if (nat_lt c.args.self.now.passed c.args.count) ≡ 0 = ap one_if (le-ltb _ _ (omega (arith, c.if-count-self.false))) in
    taken_sound c.args.self.now _ c.args.count (search rules) c.requires.among.0 (there c.args.self.now c.args.count (search rules) c.requires.among c.if-self-count.false) c.requires.sound c.take_one.ensures refl refl (omega (arith, none))
