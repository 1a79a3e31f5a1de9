use Rattle.h3_priority.proofs.Members.{Standing, measure}
use Rattle.h3_priority.proofs.priority.Priority.read.Given as goal

abbrev pub invariant-members : goal.invariant-members
invariant-members l = Standing l.value l.is_another l.cursor l.priority

abbrev pub decreases-members : goal.decreases-members
decreases-members l = measure l.is_another l.cursor
