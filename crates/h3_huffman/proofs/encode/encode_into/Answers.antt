use Rattle.std.proofs.Common.{◌≡◌, ◌-◌, ◌/◌, ◌^◌, ◌∙◌, ap, arith, refl}
use Rattle.h3_huffman.proofs.Writing.{move_byte, sum_of, finished, finished_whole}
use Rattle.std.proofs.lemmas.List.{length-set}
use Rattle.h3_huffman.proofs.Pending.{low_half}
use Rattle.h3_huffman.proofs.encode.encode_into.Goals as goal

pub last-init : goal.last-init
last-init c =
    let p = c.put_rest-high.ensures.standing in
    let few = c.put_rest-high.ensures.few in
    let low = ap (λ x. x / 2 ^ 32 / 2 ^ (32 - c.put_rest-high.result.count)) p.high ∙ low_half _ _ (omega (arith, few)) p.below in
    record { standing = rw low p.standing; few = few; exact = c.put_rest-high.ensures.same ∙ c.put_fours-front.ensures.same ∙ c.requires }

pub bounds-out-written : goal.bounds-out-written
bounds-out-written c = omega (arith, (sum_of _ _ _ _ _ _ c.last.invariant.standing).2)

pub last-preserved : goal.last-preserved
last-preserved c =
    record {
      standing = move_byte _ _ _ _ _ _ c.last.invariant.standing c.last-test.true (omega (arith, (sum_of _ _ _ _ _ _ c.last.invariant.standing).2));
      few = omega arith;
      exact = length-set c.last.out c.last.written _ ∙ c.last.invariant.exact;
    }

pub bounds-out-written-then-count-gt0 : goal.bounds-out-written-then-count-gt0
bounds-out-written-then-count-gt0 c = omega (arith, (sum_of _ _ _ _ _ _ c.last.invariant.standing).2)

pub returns-then-count-gt0 : goal.returns-then-count-gt0
returns-then-count-gt0 c = (finished _ _ _ _ _ _ c.last.invariant.standing c.last.invariant.exact c.if-count-gt0.true c.last-test.false refl).1

pub returns-else-count-gt0 : goal.returns-else-count-gt0
returns-else-count-gt0 c =
    let none : c.last.count ≡ 0 = omega arith in
    finished_whole _ _ _ _ (rw none at c.last.invariant.standing) c.last.invariant.exact
