use Rattle.std.proofs.Common.{◌≡◌, ◌∙◌, ◌++◌, true, false, refl, sym, ap, rules}
use Rattle.std.proofs.lemmas.Result.{err_from_is_err_and}
use Rattle.h3_field.specs.Prefix.{prefix_bytes}
use Rattle.h3_qpack.specs.EncoderState.{EncoderState}
use Rattle.h3_qpack.specs.StaticSections.{static_section}
use Rattle.h3_qpack.proofs.Canceled.{none_state, some_state, on_other, none_sent, nothing_written}
use Rattle.h3_qpack.proofs.Sent.{begun_drafted, whole_cut_off, other_cut_off, section_sent, sent_named, sent_plain}
use Rattle.h3_qpack.proofs.encoder.Encoder.encode_lent.Goals as goal

pub returns-in_err-put_static_section-clause-cut_off : goal.returns-in_err-put_static_section-clause-cut_off
returns-in_err-put_static_section-clause-cut_off c =
    let p = err_from_is_err_and c.from_residual.result c.from_residual.ensures.1 in
    rw p.1 (λ s e. nothing_written s c.args.stream c.args.fields.now c.args.self.now c.args.encoder_buf.now.items e)

pub returns-then-names_none-clause-sent : goal.returns-then-names_none-clause-sent
returns-then-names_none-clause-sent c = λ s e.
    none_sent s c.args.stream c.args.fields.now c.args.self.now c.args.block.now.items _ c.args.encoder_buf.now.items (none_state s c.self.inside.table c.args.stream (c.self.view_is ∙ e) (sym c.names_none.ensures ∙ c.if-names_none.true))
    e (c.in_ok-put_static_section.ensures.ok ∙ ap (λ choices. c.args.block.now.items ++ static_section choices c.args.fields.now) (c.choices.ensures ∙ ap (λ (t : EncoderState). t.choices) c.self.view_is))
    c.in_ok-put_static_section.ensures.bytes

pub returns-in_err-put_fields-clause-cut_off : goal.returns-in_err-put_fields-clause-cut_off
returns-in_err-put_fields-clause-cut_off c =
    let p = err_from_is_err_and c.from_residual-in_err-put_fields.result c.from_residual-in_err-put_fields.ensures.1 in
    rw p.1 (λ s e. other_cut_off s c.args.stream _ _ _ _ (on_other s c.args.stream (some_state s c.self.inside.table c.args.stream (c.self.view_is ∙ e) (sym c.names_none.ensures ∙ c.if-names_none.false)))
    (c.in_err-put_fields.ensures.err s _ (begun_drafted s _ _ _ _ (c.self.view_is ∙ e) c.begin-section.ensures.value c.clear.ensures.items)))

pub returns-in_err-put_section-clause-cut_off : goal.returns-in_err-put_section-clause-cut_off
returns-in_err-put_section-clause-cut_off c =
    let p = err_from_is_err_and c.from_residual-in_err-put_section.result c.from_residual-in_err-put_section.ensures.1 in
    rw p.1 (λ s e. other_cut_off s c.args.stream _ _ _ _ (on_other s c.args.stream (some_state s c.self.inside.table c.args.stream (c.self.view_is ∙ e) (sym c.names_none.ensures ∙ c.if-names_none.false)))
    (whole_cut_off s _ _ _ _ _ _ _ (c.in_ok-put_fields.ensures.ok s _ (begun_drafted s _ _ _ _ (c.self.view_is ∙ e) c.begin-section.ensures.value c.clear.ensures.items)) c.in_ok-put_fields.ensures.bytes refl))

pub returns-in_default-clause-cut_off : goal.returns-in_default-clause-cut_off
returns-in_default-clause-cut_off c =
    let same : c.track.new.self ≡ c.put_fields.new.table = search rules in
    λ s e. other_cut_off s c.args.stream _ _ _ _ (on_other s c.args.stream (some_state s c.self.inside.table c.args.stream (c.self.view_is ∙ e) (sym c.names_none.ensures ∙ c.if-names_none.false)))
    (whole_cut_off s _ _ _ _ _ _ _ (c.in_ok-put_fields.ensures.ok s _ (begun_drafted s _ _ _ _ (c.self.view_is ∙ e) c.begin-section.ensures.value c.clear.ensures.items)) c.in_ok-put_fields.ensures.bytes same)

pub returns-in-Ok-clause-sent : goal.returns-in-Ok-clause-sent
returns-in-Ok-clause-sent c =
    let put : c.put_section.new.block.items ≡ c.args.block.now.items ++ (prefix_bytes c.put_fields.new.table.announced c.put_fields.new.section.newest c.put_fields.new.section.base ++ c.put_fields.new.lines.items) = search rules in
    λ s e.
    let h = c.in_ok-put_fields.ensures.ok s _ (begun_drafted s _ _ _ _ (c.self.view_is ∙ e) c.begin-section.ensures.value c.clear.ensures.items) in
    let own = on_other s c.args.stream (some_state s c.self.inside.table c.args.stream (c.self.view_is ∙ e) (sym c.names_none.ensures ∙ c.if-names_none.false)) in
    section_sent s c.args.stream c.args.fields.now _ _ _ _ _ _ _ _ own h put
    (sent_named s _ _ c.args.stream _ _ _ h.state c.is_small.ensures c.in_ok-put_fields.ensures.over.newest c.if-section-ne0.true c.in-Ok.ensures.ok) c.in_ok-put_fields.ensures.bytes

pub returns-else-section-ne0-clause-sent : goal.returns-else-section-ne0-clause-sent
returns-else-section-ne0-clause-sent c =
    let put : c.put_section.new.block.items ≡ c.args.block.now.items ++ (prefix_bytes c.put_fields.new.table.announced c.put_fields.new.section.newest c.put_fields.new.section.base ++ c.put_fields.new.lines.items) = search rules in
    λ s e.
    let h = c.in_ok-put_fields.ensures.ok s _ (begun_drafted s _ _ _ _ (c.self.view_is ∙ e) c.begin-section.ensures.value c.clear.ensures.items) in
    let own = on_other s c.args.stream (some_state s c.self.inside.table c.args.stream (c.self.view_is ∙ e) (sym c.names_none.ensures ∙ c.if-names_none.false)) in
    section_sent s c.args.stream c.args.fields.now _ _ _ _ _ _ _ _ own h put
    (sent_plain s _ _ c.args.stream _ _ h.state c.if-section-ne0.false) c.in_ok-put_fields.ensures.bytes
