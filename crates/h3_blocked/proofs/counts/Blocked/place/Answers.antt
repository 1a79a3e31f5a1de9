-- One more.
use Rattle.std.proofs.Common.{arith, rules, ◌≡◌, refl, true, false, ap}
use Rattle.std.specs.Prelude.{nat_lt}
use Rattle.std.proofs.lemmas.Bool.{lt-ltb, le-ltb}
use Rattle.h3_blocked.specs.Counting.{number_at, number_in, one_if}
use Rattle.h3_blocked.proofs.Above.{few_above, few_at, grown, placed_sound}
use Rattle.h3_blocked.proofs.counts.Blocked.place.Goals as goal

pub add_one-requires : goal.add_one-requires
add_one-requires c = omega (arith, few_at c.args.self.now c.args.count c.requires.sound c.requires.some (search rules), c.requires.few)

pub overflow_add-self-then-count-self : goal.overflow_add-self-then-count-self
overflow_add-self-then-count-self c = omega (arith, few_above c.args.self.now c.args.self.now.passed c.requires.sound, c.requires.sound.passed)

pub returns-then-count-self-clause-placed : goal.returns-then-count-self-clause-placed
returns-then-count-self-clause-placed c = λ n. grown n c.args.count (number_at c.args.self.now) (number_in c.add_one.new.streams) (search rules) (search rules)

pub returns-else-count-self-clause-placed : goal.returns-else-count-self-clause-placed
returns-else-count-self-clause-placed c = λ n. grown n c.args.count (number_at c.args.self.now) (number_in c.add_one.new.streams) (search rules) (search rules)

pub returns-then-count-self-clause-sound : goal.returns-then-count-self-clause-sound
returns-then-count-self-clause-sound c =
    let more : one_if (nat_lt c.args.self.now.passed c.args.count) ≡ 1 = ap one_if (lt-ltb _ _ c.if-count-self.true) in
    placed_sound c.args.self.now _ c.args.count (search rules) c.requires.some c.requires.sound c.requires.few (search rules) refl refl (omega (arith, more))

pub returns-else-count-self-clause-sound : goal.returns-else-count-self-clause-sound
returns-else-count-self-clause-sound c =
    let none : one_if (nat_lt c.args.self.now.passed c.args.count) ≡ 0 = ap one_if (le-ltb _ _ (omega (arith, c.if-count-self.false))) in
    placed_sound c.args.self.now _ c.args.count (search rules) c.requires.some c.requires.sound c.requires.few (search rules) refl refl (omega (arith, none))
