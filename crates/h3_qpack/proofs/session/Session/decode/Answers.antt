use Rattle.std.proofs.Common.{◌≡◌, ◌∙◌, ◌++◌, [], refl, sym, false, rules, if◌then◌else◌}
use Rattle.std.specs.List.{list_any}
use Rattle.h3_field.specs.Instruction.{decoder_bytes}
use Rattle.h3_field.specs.Instruction.DecoderInstruction.{Acknowledge}
use Rattle.h3_qpack.specs.Exchange.{is_of}
use Rattle.h3_qpack.proofs.Steps.{decoding_none, decoding_refused, decoding_kept, decoding_done}
use Rattle.h3_qpack.proofs.session.Session.decode.Goals as goal

pub returns-in_default : goal.returns-in_default
returns-in_default c = λ w e.
    let none : list_any (is_of c.args.stream) c.self.inside.sections.items ≡ false = search rules in
    rw (← c.self.view_is) (decoding_none w _ c.args.stream (c.self.view_is ∙ e) (sym c.is_given_up.ensures ∙ c.if-is_given_up.false) none)

pub returns-in-Err : goal.returns-in-Err
returns-in-Err c = λ w e.
    rw (← c.self.view_is)
    (decoding_refused w _ c.args.stream c.in-Some.place _ c.in-Err.e _ (c.self.view_is ∙ e) (sym c.is_given_up.ensures ∙ c.if-is_given_up.false) c.in-Some.ensures.some c.index.ensures c.in-Err.ensures.err c.refusal.ensures)

pub returns-in_default-acknowledge : goal.returns-in_default-acknowledge
returns-in_default-acknowledge c = λ w e.
    let same : c.acknowledge.new.out.items ≡ c.self.inside.decoder_stream.bytes.items = search rules in
    decoding_kept w _ c.args.stream c.in-Some.place _ _ (c.self.view_is ∙ e) (sym c.is_given_up.ensures ∙ c.if-is_given_up.false) c.in-Some.ensures.some c.index.ensures (rw same refl)

pub returns : goal.returns
returns c = λ w e.
    let written : c.acknowledge.new.out.items ≡ c.self.inside.decoder_stream.bytes.items ++ (if c.in-Ok.decoded.1 then decoder_bytes (Acknowledge c.args.stream) else []) = search rules in
    decoding_done w _ c.args.stream c.in-Some.place _ c.in-Ok.decoded.0 c.in-Ok.decoded.1 _ _ (c.self.view_is ∙ e) (sym c.is_given_up.ensures ∙ c.if-is_given_up.false) c.in-Some.ensures.some c.index.ensures c.in-Ok.ensures.ok written c.remove.ensures.items
