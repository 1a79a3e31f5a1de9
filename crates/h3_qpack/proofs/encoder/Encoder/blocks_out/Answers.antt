use Rattle.std.proofs.Common.{◌∙◌, ap, length, nat_lt}
use Rattle.h3_qpack.specs.EncoderState.{EncoderState}
use Rattle.h3_qpack.proofs.EncoderStates.{blocking_counted}
use Rattle.h3_qpack.proofs.encoder.Encoder.blocks_out.Goals as goal

pub returns-clause-history : goal.returns-clause-history
returns-clause-history c = λ s e.
    c.blocks_out.ensures ∙ ap (λ (t : EncoderState). length t.blocking_counts) (c.self.view_is ∙ e) ∙ blocking_counted (λ n. nat_lt s.known_received n) s.required_insert_counts
