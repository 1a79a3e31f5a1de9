use Rattle.std.proofs.Common.{ap, sym, ◌∙◌}
use Rattle.h3_field.specs.Waiting.{goes_on}
use Rattle.h3_unidirectional.proofs.Listened.{listens_ends}
use Rattle.h3_unidirectional.proofs.Unfinished.{still_listens}
use Rattle.h3_unidirectional.proofs.encoding.Encoding.read.Goals as goal

pub returns-then-goes_on-clause-ok : goal.returns-then-goes_on-clause-ok
returns-then-goes_on-clause-ok c =
    let fault = rw (sym c.self.view_is) at c.excess.ensures in
    rw (← c.self.view_is) (still_listens _ _ _ (sym (ap goes_on c.self.invariant) ∙ sym c.goes_on.ensures ∙ c.if-goes_on.true) fault)

pub returns-in-Ok-clause-ok : goal.returns-in-Ok-clause-ok
returns-in-Ok-clause-ok c = λ s is. listens_ends _ s _ _ _ (c.read_front.ensures.front s is) (c.in-Ok.ensures.ok s is) c.excess-in-Ok.ensures
