use Rattle.std.proofs.Common.{◌≡◌, subst}
use Rattle.std.specs.Prelude.{IfOk}
use Rattle.h3_unidirectional.proofs.BothStarts.{both_start}
use Rattle.h3_unidirectional.proofs.further.further_start.Goals as goal

pub returns : goal.returns
returns c = subst (λ l. IfOk c.start_with.result (λ bytes. bytes.items ≡ l)) (both_start c.args.settings.now c.args.further.now) c.start_with.ensures
