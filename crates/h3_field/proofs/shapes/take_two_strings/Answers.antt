use Rattle.std.proofs.lemmas.Result.{err_from_is_err_and}
use Rattle.h3_field.proofs.Shaped.{first_stops, second_stops, both_read, both_refused}
use Rattle.h3_field.proofs.shapes.take_two_strings.Goals as goal

pub returns-in-Err-clause-answer : goal.returns-in-Err-clause-answer
returns-in-Err-clause-answer c = rw c.from.ensures (first_stops _ _ _ _ (rw (c.new-ahead.ensures, c.chunk.ensures) at c.in-Err.ensures.answer))

pub returns-in-Err-take_payload-clause-answer : goal.returns-in-Err-take_payload-clause-answer
returns-in-Err-take_payload-clause-answer c =
    rw c.from-in-Err-take_payload.ensures (second_stops _ _ _ _ _ _ (rw (c.new-ahead.ensures, c.chunk.ensures) at c.in-Ok.ensures.answer) c.in-Err-take_payload.ensures.answer)

pub returns-clause-answer : goal.returns-clause-answer
returns-clause-answer c =
    both_read _ _ _ _ _ _ _ (rw (c.new-ahead.ensures, c.chunk.ensures) at c.in-Ok.ensures.answer) c.in-Ok-take_payload.ensures.answer c.in_ok-parts.ensures

pub returns-in_err-parts-clause-answer : goal.returns-in_err-parts-clause-answer
returns-in_err-parts-clause-answer c =
    let p = err_from_is_err_and c.from_residual.result c.from_residual.ensures.1 in
    rw (p.1, p.2) (both_refused _ _ _ _ _ _ _ (rw (c.new-ahead.ensures, c.chunk.ensures) at c.in-Ok.ensures.answer) c.in-Ok-take_payload.ensures.answer c.in_err-parts.ensures)
