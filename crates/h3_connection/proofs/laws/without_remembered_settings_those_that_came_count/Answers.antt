use Rattle.std.proofs.Common.{◌≡◌, ℕ, List, Option, Some, None, refl, ap}
use Rattle.h3_connection.specs.Remembering.{settings_or}
use Rattle.h3_connection.proofs.laws.without_remembered_settings_those_that_came_count.Goals as goal

came_first : (remembered : Option (List (ℕ × ℕ))) (pairs : List (ℕ × ℕ)) → settings_or remembered (Some pairs) ≡ Some pairs
came_first None pairs = refl
came_first (Some before) pairs = refl

pub returns-clause-came : goal.returns-clause-came
returns-clause-came c own settings none = ap (λ r. settings_or r settings) none

pub returns-clause-known : goal.returns-clause-known
returns-clause-known c own pairs = came_first own.remembered pairs
