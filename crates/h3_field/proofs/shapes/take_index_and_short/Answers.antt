use Rattle.h3_field.proofs.Shaped.{short_read}
use Rattle.h3_field.proofs.shapes.take_index_and_short.Goals as goal

pub returns-clause-some : goal.returns-clause-some
returns-clause-some c =
    short_read _ _ _ _ _ _ _ (rw (c.new-ahead.ensures, c.chunk.ensures) at c.in-Ok.ensures.answer) c.in-Ok-take_payload.ensures.answer (c.read.ensures c.if-not-read.false)
