use Rattle.std.proofs.Common.{◌∙◌, ap}
use Rattle.h3_table.specs.Cancellations.{none_canceled}
use Rattle.h3_qpack.specs.EncoderState.{EncoderState}
use Rattle.h3_qpack.proofs.encoder.Encoder.keep_canceled.Goals as goal

pub returns : goal.returns
returns c = λ s e.
    c.keep_canceled.ensures ∙ ap (λ (t : EncoderState). record t { canceled = none_canceled c.args.most }) (c.self.view_is ∙ e)
