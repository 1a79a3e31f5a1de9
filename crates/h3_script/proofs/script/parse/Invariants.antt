use Rattle.h3_script.specs.Pieces.{texts}
use Rattle.h3_script.proofs.Scripts.{LinesSoFar}
use Rattle.h3_script.proofs.script.parse.Given as goal

abbrev pub invariant-loop-i : goal.invariant-loop-i
invariant-loop-i l = LinesSoFar l.most (texts l.lines) l.i l.setup l.events.items l.end
