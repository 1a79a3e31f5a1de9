use Rattle.std.proofs.Common.{◌≡◌, true, false, inl, inr, refl, ◌∙◌, rules}
use Rattle.h3_field.specs.InstructionReading.{increment}
use Rattle.h3_field.specs.InstructionAnswer.{count_increment}
use Rattle.h3_field.specs.ReadBackLaws.{reply_increment}
use Rattle.h3_field.specs.ShorterLaws.{increment_less}
use Rattle.h3_qpack.specs.EncoderState.{refuses_increment}
use Rattle.h3_qpack.proofs.DecoderInstructionsRead.{reply_here, heard_one, increment_told}
use Rattle.h3_qpack.proofs.encoder.Encoder.take_increment.Goals as goal

pub returns-then-refuses_increment : goal.returns-then-refuses_increment
returns-then-refuses_increment c =
    let own = rw (c.new-ahead.ensures, c.chunk.ensures) at c.in-Ok-Some.ensures.own in
    let whole = reply_increment _ c.requires.some c.requires.own
    ∙ reply_here count_increment (increment c.args.buf.now) c.args.buf.now c.decode.new.buf c.in-Ok-Some.field-0 c.in-Ok-Some.field-0-0 c.in-Ok-Some.field-0-is (own c.requires.own) in
    let refuses : true ≡ refuses_increment c.args.self.now c.in-Ok-Some.field-0-0.0 = search rules in (
      λ s e. inl (inr (count_increment c.in-Ok-Some.field-0-0, c.decode.new.buf, whole, increment_told c.args.self.now c.in-Ok-Some.field-0-0.0 true refuses s e)),
      rw whole refl,
      refl,
      refl,
    )

pub returns-else-refuses_increment : goal.returns-else-refuses_increment
returns-else-refuses_increment c =
    let own = rw (c.new-ahead.ensures, c.chunk.ensures) at c.in-Ok-Some.ensures.own in
    let whole = reply_here count_increment (increment c.args.buf.now) c.args.buf.now c.decode.new.buf c.in-Ok-Some.field-0 c.in-Ok-Some.field-0-0 c.in-Ok-Some.field-0-is (own c.requires.own) in
    let refuses : false ≡ refuses_increment c.args.self.now c.in-Ok-Some.field-0-0.0 = search rules in
    heard_one c.args.self.now c.update_largest_received.new.self c.args.buf.now c.decode.new.buf (count_increment c.in-Ok-Some.field-0-0)
    (reply_increment _ c.requires.some c.requires.own ∙ whole) (increment_less _ _ _ whole)
    (rw (← c.self.view_is) c.update_largest_received.ensures.after)
    (λ count e. rw (← c.self.view_is) c.update_largest_received.ensures.small)
    (λ s e. increment_told c.args.self.now c.in-Ok-Some.field-0-0.0 false refuses s e)
