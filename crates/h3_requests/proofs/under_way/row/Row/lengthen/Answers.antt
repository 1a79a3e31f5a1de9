-- There are more places, which are free.
use Rattle.std.proofs.Common.{arith, ◌∙◌, ap}
use Rattle.h3_requests.specs.Row.{held_in}
use Rattle.h3_requests.proofs.Places.{lengthened}
use Rattle.h3_requests.proofs.under_way.row.Row.lengthen.Goals as goal

pub loop-init : goal.loop-init
loop-init c = (
  λ q. ap (λ l. held_in l q) c.reserve_exact.ensures.items,
  omega (arith, c.reserve_exact.ensures.len),
  omega (arith, c.in_ok-reserve_exact.ensures.ok),
)

pub push_reserved-requires : goal.push_reserved-requires
push_reserved-requires c = omega (arith, c.loop.invariant.1, c.loop.invariant.2, c.loop-test.true)

pub loop-preserved : goal.loop-preserved
loop-preserved c = (
  λ q. ap (λ l. held_in l q) c.push_reserved.ensures.items ∙ lengthened c.loop.self.places.items c.free.result c.free.ensures q ∙ c.loop.invariant.0 q,
  omega (arith, c.push_reserved.ensures.len, c.loop.invariant.1),
  omega (arith, c.push_reserved.ensures.capacity, c.loop.invariant.2),
)
