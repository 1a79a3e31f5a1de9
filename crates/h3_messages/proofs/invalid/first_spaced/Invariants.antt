use Rattle.h3_messages.specs.Messages.{has_space_around}
use Rattle.h3_messages.proofs.Positions.{NoneBefore}
use Rattle.h3_messages.proofs.invalid.first_spaced.Given as goal

abbrev pub invariant-loop-place : goal.invariant-loop-place
invariant-loop-place l = NoneBefore has_space_around l.fields l.place
