use Rattle.h3_table.proofs.Searches.{StandsAt}
use Rattle.h3_table.proofs.entries.Entries.newest.Given as goal

abbrev pub invariant-loop-number : goal.invariant-loop-number
invariant-loop-number l = StandsAt l.self l.what l.field l.above l.most l.number

abbrev pub decreases-loop-number : goal.decreases-loop-number
decreases-loop-number l = l.number
