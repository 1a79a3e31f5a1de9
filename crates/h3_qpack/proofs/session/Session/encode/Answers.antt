use Rattle.std.proofs.Common.{◌≡◌, ◌∙◌, rules, arith}
use Rattle.h3_field.specs.declared.encoder_error.EncoderError.TheVariants.{OutOfMemory}
use Rattle.h3_qpack.proofs.Steps.{encoding_cut}
use Rattle.h3_qpack.proofs.session.Session.encode.Goals as goal

pub returns-in-Err : goal.returns-in-Err
returns-in-Err c = λ w e.
    let is : c.in-Err.e ≡ OutOfMemory = search rules in
    rw c.reserve.ensures.items (encoding_cut w _ c.args.stream c.args.fields.now c.encode.new.self _ c.in-Err.e (c.self.view_is ∙ e) c.in-Err.ensures.cut_off (omega (arith, c.encode.new.encoder_buf.ok, c.encode.new.encoder_buf.small)) is)
