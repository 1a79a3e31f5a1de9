use Rattle.std.proofs.Common.{◌≡◌, length}
use Rattle.h3_priority.specs.Dictionary.{listed_from, listed_at}
use Rattle.h3_priority.specs.Reading.{go_on}
use Rattle.h3_priority.proofs.cursor.Cursor.listed.Given as goal

abbrev pub invariant-items : goal.invariant-items
invariant-items l = listed_at l.fn.self ≡ go_on (listed_from l.self) listed_at

abbrev pub decreases-items : goal.decreases-items
decreases-items l = length l.self
