use Rattle.std.proofs.Common.{◌≡◌, ◌∙◌, ◌++◌, sym, rules}
use Rattle.std.specs.Prelude.{◌==◌, not}
use Rattle.std.proofs.lemmas.Fn.{filter_same}
use Rattle.h3_field.specs.Instruction.{decoder_bytes}
use Rattle.h3_field.specs.Instruction.DecoderInstruction.{CancelStream}
use Rattle.h3_qpack.specs.Exchange.{EncodedSection}
use Rattle.h3_qpack.proofs.Steps.{given_up}
use Rattle.h3_qpack.proofs.session.Session.cancel.Goals as goal

pub returns : goal.returns
returns c = λ w e.
    let left = filter_same _ (λ (b : EncodedSection). not (b.stream == c.args.stream)) _ (λ x b f' k. search rules) _ _ c.retain.ensures.filtered in
    let written : c.stream_canceled.new.out.items ≡ c.self.inside.decoder_stream.bytes.items ++ decoder_bytes (CancelStream c.args.stream) = search rules in
    given_up w _ c.args.stream _ _ _ (c.self.view_is ∙ e) (sym c.is_given_up.ensures ∙ c.if-is_given_up.false) written (search rules) left
