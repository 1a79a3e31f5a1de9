use Rattle.std.proofs.Common.{false, inr, refl, sym, ◌∙◌}
use Rattle.h3_field.specs.InstructionReading.{cancellation}
use Rattle.h3_field.specs.InstructionAnswer.{stream_cancellation}
use Rattle.h3_qpack.proofs.Canceled.{canceled_state}
use Rattle.h3_field.specs.ReadBackLaws.{reply_cancellation}
use Rattle.h3_field.specs.ShorterLaws.{cancellation_less}
use Rattle.h3_qpack.proofs.DecoderInstructionsRead.{reply_here, heard_one}
use Rattle.h3_qpack.proofs.encoder.Encoder.take_cancellation.Goals as goal

pub returns-in-Ok : goal.returns-in-Ok
returns-in-Ok c =
    let own = rw (c.new-ahead.ensures, c.chunk.ensures) at c.in-Ok-Some.ensures.own in
    let whole = reply_here stream_cancellation (cancellation c.args.buf.now) c.args.buf.now c.decode.new.buf c.in-Ok-Some.field-0 c.in-Ok-Some.field-0-0 c.in-Ok-Some.field-0-is (own c.requires.own) in
    heard_one c.args.self.now c.cancel.new.self c.args.buf.now c.decode.new.buf (stream_cancellation c.in-Ok-Some.field-0-0)
    (reply_cancellation _ c.requires.some c.requires.own ∙ whole) (cancellation_less _ _ _ whole)
    (rw (← c.self.view_is) c.in-Ok.ensures.ok)
    (λ count e. absurd (cc))
    (λ s e. refl)

pub returns-in_default : goal.returns-in_default
returns-in_default c =
    let own = rw (c.new-ahead.ensures, c.chunk.ensures) at c.in-Ok-Some.ensures.own in
    let whole = reply_cancellation _ c.requires.some c.requires.own
    ∙ reply_here stream_cancellation (cancellation c.args.buf.now) c.args.buf.now c.decode.new.buf c.in-Ok-Some.field-0 c.in-Ok-Some.field-0-0 c.in-Ok-Some.field-0-is (own c.requires.own) in (
      λ s e. inr (record {
        memory = refl;
        stream = c.in-Ok-Some.field-0-0.0;
        rest = c.decode.new.buf;
        here = whole;
        first = canceled_state s c.self.inside.table c.in-Ok-Some.field-0-0.0 false (c.self.view_is ∙ e) (sym c.in_default.ensures.err.1);
      }),
      rw whole refl,
      rw (← c.self.view_is) c.in_default.ensures.err.0,
      refl,
    )
