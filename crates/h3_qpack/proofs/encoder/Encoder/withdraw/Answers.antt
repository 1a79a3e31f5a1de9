use Rattle.std.proofs.Common.{◌∙◌, sym, ap}
use Rattle.h3_qpack.specs.EncoderState.{encoder_state_withdrawn}
use Rattle.h3_qpack.proofs.Removing.{withdrawn_state}
use Rattle.h3_qpack.proofs.encoder.Encoder.withdraw.Goals as goal

pub returns : goal.returns
returns c = λ s e.
    c.withdraw.ensures ∙ ap (λ t. encoder_state_withdrawn t c.args.stream c.args.count) (c.self.view_is ∙ e) ∙ sym (withdrawn_state s c.args.stream c.args.count)
