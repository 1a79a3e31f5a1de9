use Rattle.std.proofs.Common.{refl}
use Rattle.h3_field.proofs.Shaped.{both_short}
use Rattle.h3_field.proofs.field_block.FieldBlock.has_read_strings.Goals as goal

pub returns-clause-yes : goal.returns-clause-yes
returns-clause-yes c = λ _.
    let pushed = c.has_pushed_strings.ensures.yes c.if-not-has_pushed_strings.false in (
      _,
      both_short _ _ _ _ _ _ _ (rw (c.new-ahead.ensures, c.chunk.ensures) at c.in-Ok.ensures.answer) c.in-Ok-take_payload.ensures.answer pushed.2 pushed.3 refl,
      pushed.4,
    )
