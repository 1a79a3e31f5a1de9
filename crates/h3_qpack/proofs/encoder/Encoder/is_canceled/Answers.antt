use Rattle.std.proofs.Common.{◌∙◌, ap, sym}
use Rattle.h3_qpack.specs.EncoderState.{was_canceled_in}
use Rattle.h3_qpack.proofs.Canceled.{canceled_state}
use Rattle.h3_qpack.proofs.encoder.Encoder.is_canceled.Goals as goal

pub returns-clause-value : goal.returns-clause-value
returns-clause-value c = c.is_canceled.ensures ∙ ap (λ t. was_canceled_in t c.args.stream) c.self.view_is

pub returns-clause-history : goal.returns-clause-history
returns-clause-history c = λ s e. sym (canceled_state s c.self.inside.table c.args.stream c.is_canceled.result (c.self.view_is ∙ e) c.is_canceled.ensures)
