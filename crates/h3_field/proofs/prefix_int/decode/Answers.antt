use Rattle.std.proofs.Common.{arith, sym, refl}
use Rattle.h3_field.proofs.Integers.{answer_low, some_bytes, loop_bad, loop_last, loop_more, loop_end}
use Rattle.h3_field.proofs.prefix_int.decode.Goals as goal

pub returns-then-low-ones-clause-answer : goal.returns-then-low-ones-clause-answer
returns-then-low-ones-clause-answer c =
    rw (← c.chunk-bytes.ensures) (answer_low c.args.size c.from-first.result c.greatest-ones.result c.chunk-bytes.result.now _ (some_bytes _ (c.if-is_empty.ensures)) c.from-first.ensures c.greatest-ones.ensures.value c.if-low-ones.true (rw c.chunk-bytes.ensures c.advance.ensures))

pub loop-i-init : goal.loop-i-init
loop-i-init c = record {
  standing = record { some = some_bytes _ (c.if-is_empty.ensures); at = c.from-first.ensures; is = c.greatest-ones.ensures.value; full = c.if-low-ones.false; same = rw c.greatest-ones.ensures.value refl };
  within = omega arith;
  least = omega arith;
  kept = sym c.chunk-bytes.ensures;
}

pub returns-in_default-clause-answer : goal.returns-in_default-clause-answer
returns-in_default-clause-answer c = rw (← c.chunk-bytes.ensures) (loop_bad _ _ _ _ _ _ _ _ c.loop-i.invariant.standing c.loop-i-test.true c.from.ensures c.in_default.ensures c.loop-i.invariant.kept)

pub advance-requires-then-byte-lt128 : goal.advance-requires-then-byte-lt128
advance-requires-then-byte-lt128 c = rw c.loop-i.invariant.kept (omega arith)

pub returns-then-byte-lt128-clause-answer : goal.returns-then-byte-lt128-clause-answer
returns-then-byte-lt128-clause-answer c =
    let some = c.in-Some.ensures in
    rw (← c.chunk-bytes.ensures) (loop_last _ _ _ _ _ _ _ _ _ c.loop-i.invariant.standing c.loop-i-test.true c.from.ensures some.0 some.1 c.if-byte-lt128.true (rw c.loop-i.invariant.kept at c.advance-then-byte-lt128.ensures))

pub loop-i-preserved : goal.loop-i-preserved
loop-i-preserved c =
    let some = c.in-Some.ensures in
    record {
      standing = loop_more _ _ _ _ _ _ _ _ c.loop-i.invariant.standing c.loop-i.auto.i c.loop-i-test.true c.from.ensures some.0 some.1 c.if-byte-lt128.false;
      within = some.1;
      least = omega (arith, some.0, c.loop-i.invariant.least);
      kept = c.loop-i.invariant.kept;
    }

pub returns-clause-answer : goal.returns-clause-answer
returns-clause-answer c = rw (← c.chunk-bytes.ensures) (loop_end _ _ _ _ _ _ _ c.loop-i.invariant.standing c.loop-i-test.false c.loop-i.invariant.kept)
