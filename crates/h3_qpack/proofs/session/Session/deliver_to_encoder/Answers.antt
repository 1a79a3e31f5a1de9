use Rattle.std.proofs.Common.{◌≡◌, ◌∙◌, rules, arith}
use Rattle.h3_field.specs.Reading.{Unfinished}
use Rattle.h3_field.specs.InstructionReading.{decoder_instruction}
use Rattle.h3_qpack.proofs.Steps.{decoder_stream_delivered, decoder_stream_refused}
use Rattle.h3_qpack.proofs.session.Session.deliver_to_encoder.Goals as goal

pub returns-in_default : goal.returns-in_default
returns-in_default c = λ w e.
    let whole : decoder_instruction c.on_decoder_recv-outcome.new.read ≡ Unfinished = search rules in
    let has = rw (c.new-cursor.ensures, c.deref.ensures.value) at c.on_decoder_recv-outcome.ensures.read_before in
    decoder_stream_delivered w _ c.args.count _ _ _ (c.self.view_is ∙ e) (omega arith) has (omega arith) whole

pub returns : goal.returns
returns c = λ w e.
    let has = rw (c.new-cursor.ensures, c.deref.ensures.value) at c.on_decoder_recv-outcome.ensures.read_before in
    decoder_stream_refused w _ c.args.count _ _ _ c.in-Err.e (c.self.view_is ∙ e) (omega arith) has (omega arith) c.in-Err.ensures.err.0
