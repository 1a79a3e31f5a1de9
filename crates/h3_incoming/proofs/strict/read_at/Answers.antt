use Rattle.std.proofs.Common.{ap, false, if◌then◌else◌, ◌∙◌}
use Rattle.h3_incoming.proofs.ReceivedLaws.{response_is, SaidBy}
use Rattle.h3_messages.specs.Judging.{said_by_section}
use Rattle.h3_messages.specs.declared.said.Said.{Said}
use Rattle.h3_messages.specs.declared.said.Said.TheVariants.{Nothing}
use Rattle.h3_messages.specs.declared.section.Section.{Section}
use Rattle.h3_incoming.proofs.strict.read_at.Goals as goal

pub returns-in-Ok-clause-response : goal.returns-in-Ok-clause-response
returns-in-Ok-clause-response c =
    let strict = c.args.announced.now.choices.strict_messages in
    let side = c.args.side in
    let place = c.args.place in
    let said = c.in-Ok.ensures.said
    ∙ ap (λ (s : Section). let t : Said = if strict then said_by_section s false c.fields-fields.result else Nothing in t) c.section_at.ensures
    ∙ ap (λ fs. SaidBy fs strict side place) c.fields-fields.ensures in
    c.after_section.ensures.response ∙ response_is c.args.block.now strict side place c.args.response c.in-Ok.read.said said
