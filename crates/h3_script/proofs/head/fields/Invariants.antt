use Rattle.h3_script.specs.Pieces.{texts}
use Rattle.h3_script.proofs.Fields.{FieldsSoFar}
use Rattle.h3_script.proofs.head.fields.Given as goal

abbrev pub invariant-loop-word : goal.invariant-loop-word
invariant-loop-word l = FieldsSoFar (texts l.words) l.word-index l.map
