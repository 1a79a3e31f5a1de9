use Rattle.h3_script.proofs.Numbers.{IsSoFar}
use Rattle.h3_script.proofs.words.number.Given as goal

abbrev pub invariant-loop-byte : goal.invariant-loop-byte
invariant-loop-byte l = IsSoFar l.word l.byte-index l.number
