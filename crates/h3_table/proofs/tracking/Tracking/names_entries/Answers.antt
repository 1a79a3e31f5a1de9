use Rattle.std.proofs.Common.{◌<◌, ◌≤◌, ℕ, List, [], ◌∷◌, arith}
use Rattle.std.specs.List.{AllByRecursion}
use Rattle.h3_table.specs.declared.tracking.TrackedSection.{TrackedSection}
use Rattle.h3_table.proofs.tracking.Tracking.names_entries.Goals as goal

from_one : (evicted made : ℕ) (ts : List TrackedSection) → AllByRecursion (λ s. (evicted < s.oldest) × (s.oldest ≤ made)) ts → AllByRecursion (λ s. 0 < s.oldest) ts
from_one evicted made [] h = tt
from_one evicted made (t ∷ ts) h = (omega (arith, h.0.0), from_one evicted made ts h.1)

pub returns : goal.returns
returns c = rw (← c.self.view_is) (from_one _ _ _ c.self.invariant.there)
