use Rattle.std.proofs.Common.{◌∙◌, ap}
use Rattle.h3_qpack.specs.EncoderState.{EncoderState}
use Rattle.h3_qpack.proofs.encoder.Encoder.choose.Goals as goal

pub returns : goal.returns
returns c = λ s e.
    c.choose.ensures ∙ ap (λ (t : EncoderState). record t { choices = c.args.choices }) (c.self.view_is ∙ e)
