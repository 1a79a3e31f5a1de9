use Rattle.std.proofs.Common.{◌-◌, refl, arith, get_or, set}
use Rattle.std.proofs.lemmas.List.{length-set}
use Rattle.h3_table.proofs.Taking.{All-without, taken_there, taken_counts, counted_without}
use Rattle.h3_table.proofs.tracking.Tracking.release.Goals as goal

pub invariant_of-self : goal.invariant_of-self
invariant_of-self c = let i = c.self.invariant in rw c.in_err-named.ensures.none (record { counts = i.counts; there = i.there; few = i.few })

pub overflow_sub-named : goal.overflow_sub-named
overflow_sub-named c =
    let e = taken_there c.self.inside.evicted c.in_ok-named.named.oldest c.self.inside.references.items c.self.inside.sections c.take_oldest.new.self c.in_ok-named.ensures.one c.self.invariant.there in
    omega (arith, e.0)

pub overflow_sub-named-2 : goal.overflow_sub-named-2
overflow_sub-named-2 c =
    let e = taken_there c.self.inside.evicted c.in_ok-named.named.oldest c.self.inside.references.items c.self.inside.sections c.take_oldest.new.self c.in_ok-named.ensures.one c.self.invariant.there in
    omega (arith, e.0)

pub take_one-requires-clause-inside : goal.take_one-requires-clause-inside
take_one-requires-clause-inside c =
    let e = taken_there c.self.inside.evicted c.in_ok-named.named.oldest c.self.inside.references.items c.self.inside.sections c.take_oldest.new.self c.in_ok-named.ensures.one c.self.invariant.there in
    omega (arith, e.0, e.1)

pub take_one-requires-clause-above : goal.take_one-requires-clause-above
take_one-requires-clause-above c =
    let i = c.self.invariant in
    taken_counts c.self.inside.evicted c.in_ok-named.named.oldest c.self.inside.references.items c.self.inside.sections c.take_oldest.new.self i.counts i.there c.in_ok-named.ensures.one

pub invariant_of-self-2 : goal.invariant_of-self-2
invariant_of-self-2 c =
    let i = c.self.invariant in
    let w = c.in_ok-named.ensures.one in
    let refs = c.self.inside.references.items in
    let place = c.in_ok-named.named.oldest - c.self.inside.evicted - 1 in
    let less = get_or refs place 0 - 1 in
    let same = length-set refs place less in
    record {
      counts = rw (c.take_one.ensures, same) (counted_without c.self.inside.evicted c.in_ok-named.named.oldest refs (set refs place less) c.self.inside.sections c.take_oldest.new.self i.counts i.there w refl);
      there = rw (c.take_one.ensures, same) (All-without _ c.in_ok-named.named.oldest c.self.inside.sections c.take_oldest.new.self w i.there);
      few = rw (c.take_one.ensures, same) i.few;
    }
