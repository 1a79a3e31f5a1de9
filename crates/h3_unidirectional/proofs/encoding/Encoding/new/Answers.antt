use Rattle.std.proofs.Common.{◌≡◌, refl}
use Rattle.h3_qpack.specs.EncoderHistory.{EncoderHistory, no_table}
use Rattle.h3_qpack.specs.EncoderState.{encoder_state}
use Rattle.h3_connection.specs.Endpoint.{encoder_choices, chosen_encoder}
use Rattle.h3_unidirectional.proofs.encoding.Encoding.new.Goals as goal

pub returns : goal.returns
returns c =
    let limited : c.limit_table.new.self ≡ encoder_state (record no_table { most_capacity = c.args.choices.encoder_table }) = c.limit_table.ensures no_table c.new-encoder.ensures in
    let chosen : c.count_acknowledgments.new.self ≡ encoder_state (record no_table { most_capacity = c.args.choices.encoder_table; counts_acknowledgments = c.args.choices.acknowledgments_counted }) =
    c.count_acknowledgments.ensures (record no_table { most_capacity = c.args.choices.encoder_table }) limited in
    let choosing : EncoderHistory = record no_table { most_capacity = c.args.choices.encoder_table; counts_acknowledgments = c.args.choices.acknowledgments_counted; choices = encoder_choices c.args.choices } in
    let written_so : c.choose.new.self ≡ encoder_state choosing =
    c.choose.ensures (record no_table { most_capacity = c.args.choices.encoder_table; counts_acknowledgments = c.args.choices.acknowledgments_counted }) chosen in
    let kept : c.keep_canceled.new.self ≡ encoder_state (chosen_encoder c.args.choices) = rw c.most_kept.ensures at c.keep_canceled.ensures choosing written_so in
    rw (kept, c.new.ensures.items) refl
