use Rattle.std.proofs.Common.{◌≡◌, false, length}
use Rattle.h3_priority.specs.Items.{string_from}
use Rattle.h3_priority.proofs.cursor.Cursor.string.Given as goal

abbrev pub invariant-characters : goal.invariant-characters
invariant-characters l = string_from false l.fn.self ≡ string_from l.is_escape l.self

abbrev pub decreases-characters : goal.decreases-characters
decreases-characters l = length l.self
