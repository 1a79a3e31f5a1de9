use Rattle.std.proofs.Common.{refl}
use Rattle.h3_field.proofs.Shaped.{both_short}
use Rattle.h3_field.proofs.shapes.take_short_field.Goals as goal

pub returns-clause-some : goal.returns-clause-some
returns-clause-some c =
    rw (c.with_never_indexed.ensures, c.in_ok-field.ensures.some, c.as_slice.ensures, c.as_slice-2.ensures) (both_short _ _ _ _ _ _ _ (rw (c.new-ahead.ensures, c.chunk.ensures) at c.in-Ok.ensures.answer) c.in-Ok-take_payload.ensures.answer (c.read-2.ensures c.if-not-read-2.false) (c.read.ensures c.if-not-read.false) refl)
