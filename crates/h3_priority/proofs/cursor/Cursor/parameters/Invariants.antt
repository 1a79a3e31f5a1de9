use Rattle.std.proofs.Common.{◌≡◌, length}
use Rattle.h3_priority.specs.Items.{parameters_at}
use Rattle.h3_priority.proofs.cursor.Cursor.parameters.Given as goal

abbrev pub invariant-parameters : goal.invariant-parameters
invariant-parameters l = parameters_at l.fn.self ≡ parameters_at l.self

abbrev pub decreases-parameters : goal.decreases-parameters
decreases-parameters l = length l.self
