use Rattle.h3_script.proofs.Cuts.{NoneBefore}
use Rattle.h3_script.proofs.pieces.cut.Given as goal

abbrev pub invariant-loop-i : goal.invariant-loop-i
invariant-loop-i l = NoneBefore l.at l.bytes l.i
