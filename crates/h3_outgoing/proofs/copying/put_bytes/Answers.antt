use Rattle.std.proofs.Common.{subst}
use Rattle.h3_outgoing.specs.Held.{Fronts}
use Rattle.h3_outgoing.specs.HeldLaws.{only_bytes}
use Rattle.h3_outgoing.proofs.copying.put_bytes.Goals as goal

pub returns : goal.returns
returns c =
    subst (λ w. Fronts w c.args.out.now c.put_front.new.out c.put_front.result 0) c.as_bytes.ensures.same
    (only_bytes c.as_bytes.result.now c.args.out.now c.put_front.new.out c.put_front.result c.as_bytes.ensures.each (record { filled = c.put_front.ensures.front; place = c.put_front.ensures.count }))
