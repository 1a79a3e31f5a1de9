use Rattle.std.proofs.Common.{arith, refl}
use Rattle.h3_coding.proofs.Fronts.{eight_at}
use Rattle.h3_coding.proofs.varint.VarInt.at_front.Goals as goal

pub returns-then-first-ge192-clause-some : goal.returns-then-first-ge192-clause-some
returns-then-first-ge192-clause-some c = (
  eight_at _ _ c.args.bytes.now _ c.in-Some.ensures.cases.enough c.in-Some.ensures.cases.same (λ i. omega (arith, c.type_inv.bytes i)) (omega arith) c.from_be_bytes-number-then-first-ge192.ensures refl,
  omega (arith, c.in-Some.ensures.cases.enough),
)
