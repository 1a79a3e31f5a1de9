use Rattle.h3_field.proofs.Shaped.{value_stops, value_read}
use Rattle.h3_field.proofs.shapes.take_index_and_string.Goals as goal

pub returns-in-Err-clause-answer : goal.returns-in-Err-clause-answer
returns-in-Err-clause-answer c =
    rw c.from.ensures (value_stops _ _ _ _ _ _ (rw (c.new-ahead.ensures, c.chunk.ensures) at c.in_ok-flags.ensures.answer) c.in-Err.ensures.answer)

pub returns-clause-answer : goal.returns-clause-answer
returns-clause-answer c =
    value_read _ _ _ _ _ _ _ (rw (c.new-ahead.ensures, c.chunk.ensures) at c.in_ok-flags.ensures.answer) c.in-Ok.ensures.answer c.in_ok-value.ensures.answer
