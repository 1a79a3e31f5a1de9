use Rattle.h3_messages.specs.InvalidField.{is_invalid}
use Rattle.h3_messages.proofs.Positions.{NoneBefore}
use Rattle.h3_messages.proofs.invalid.first_invalid.Given as goal

abbrev pub invariant-loop-place : goal.invariant-loop-place
invariant-loop-place l = NoneBefore (is_invalid l.any_protocol) l.fields l.place
