use Rattle.std.proofs.Common.{◌∙◌, ap}
use Rattle.h3_qpack.specs.EncoderState.{EncoderState}
use Rattle.h3_qpack.proofs.encoder.Encoder.count_acknowledgments.Goals as goal

pub returns : goal.returns
returns c = λ s e.
    c.count_acknowledgments.ensures ∙ ap (λ (t : EncoderState). record t { counts_acknowledgments = c.args.counted }) (c.self.view_is ∙ e)
