use Rattle.std.proofs.Common.{ap, sym, ◌∙◌}
use Rattle.h3_field.specs.Waiting.{goes_on}
use Rattle.h3_unidirectional.proofs.Unfinished.{still_hears}
use Rattle.h3_unidirectional.proofs.decoding.Decoding.read.Goals as goal

pub returns-then-goes_on-clause-ok : goal.returns-then-goes_on-clause-ok
returns-then-goes_on-clause-ok c =
    let fault = rw (sym c.self.view_is) at c.excess.ensures in
    rw (← c.self.view_is) (still_hears _ _ _ c.args.out.now (sym (ap goes_on c.self.invariant) ∙ sym c.goes_on.ensures ∙ c.if-goes_on.true) fault)
