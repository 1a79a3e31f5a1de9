use Rattle.std.proofs.Common.{ap, arith}
use Rattle.std.proofs.Math.ListN.{drop_of_length-le}
use Rattle.h3_field.specs.Field.{section_size}
use Rattle.h3_table.proofs.Evictions.{evicted_when, evicted_further}
use Rattle.h3_table.proofs.entries.Entries.evicted_within.Goals as goal

pub returns-then-evicted-evictions-clause-none : goal.returns-then-evicted-evictions-clause-none
returns-then-evicted-evictions-clause-none c =
    let i = c.loop-sum.invariant.0 in
    rw (← c.self.view_is)
    (omega (
      arith,
      c.len.ensures,
      evicted_further c.self.inside.fields.fields c.self.inside.inserted c.args.room c.loop-sum.evictions c.self.invariant.made i.inside i.same (omega (arith, i.sum_is, c.loop-sum-test.true)),
    ))

pub returns-in_err-entry-clause-none : goal.returns-in_err-entry-clause-none
returns-in_err-entry-clause-none c =
    let i = c.loop-sum.invariant.0 in
    let nothing = drop_of_length-le c.self.inside.fields.fields {i = c.loop-sum.evictions} c.in_err-entry.ensures.none in
    absurd (omega (arith, i.sum_is, ap section_size nothing, c.loop-sum-test.true))

pub returns-clause-some : goal.returns-clause-some
returns-clause-some c =
    let i = c.loop-sum.invariant.0 in
    rw (← c.self.view_is) (
      omega (
        arith,
        c.len.ensures,
        evicted_when c.self.inside.fields.fields c.self.inside.inserted c.args.room c.loop-sum.evictions c.self.invariant.made i.inside i.same (omega (arith, i.sum_is, c.loop-sum-test.false)),
      ),
      omega (arith, c.loop-sum.invariant.1),
    )
