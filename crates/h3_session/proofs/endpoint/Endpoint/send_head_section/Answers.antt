use Rattle.std.proofs.Common.{subst, sym}
use Rattle.h3_connection.specs.Answers.{call_refused}
use Rattle.h3_connection.specs.declared.event.Refusal.TheVariants.{Malformed}
use Rattle.h3_session.specs.SendingFields.{SendsFields}
use Rattle.h3_session.proofs.Remembering.{head_goes, head_stays}
use Rattle.h3_session.specs.SentHeads.{IsSaid}
use Rattle.h3_session.proofs.SectionsSent.{section_malformed}
use Rattle.h3_session.proofs.SentAnswers.{read_says}
use Rattle.h3_session.proofs.endpoint.Endpoint.send_head_section.Goals as goal

pub returns-in-Err : goal.returns-in-Err
returns-in-Err c = λ head.
    head_stays c.args.self.now c.args.self.now c.args.room c.args.fields.now c.args.place (Malformed c.in-Err.why)
    (section_malformed c.args.self.now c.args.room c.args.fields.now c.args.place c.in-Err.why ((rw c.id-id.ensures at c.in-Err.ensures.broken) c.args.place c.args.fields.now c.requires))

pub returns-in-Ok-send_section : goal.returns-in-Ok-send_section
returns-in-Ok-send_section c = λ head.
    head_goes c.args.self.now c.send_section.new.self c.await_response.new.self c.args.room c.args.fields.now c.args.place c.in-Ok.said
    (subst (λ r. SendsFields (λ e. e) c.args.self.now c.send_section.new.self c.args.room c.args.fields.now c.args.place (call_refused r)) c.in-Ok-send_section.is c.send_section.ensures)
    (subst (IsSaid c.args.self.now.side c.args.self.now.announced c.args.fields.now) (sym c.in-Ok.ensures.said) (read_says c.args.place c.args.self.now c.args.fields.now c.args.read.now head c.requires)) ((rw c.id-id.ensures at c.await_response.ensures) c.args.fields.now)

pub returns-in-Err-send_section : goal.returns-in-Err-send_section
returns-in-Err-send_section c = λ head.
    head_stays c.args.self.now c.send_section.new.self c.args.room c.args.fields.now c.args.place c.in-Err-send_section.refusal
    (subst (λ r. SendsFields (λ e. e) c.args.self.now c.send_section.new.self c.args.room c.args.fields.now c.args.place (call_refused r)) c.in-Err-send_section.is c.send_section.ensures)

pub send_section-requires : goal.send_section-requires
send_section-requires c = (rw c.id-id.ensures at c.in-Ok.ensures.kept) c.args.place c.args.fields.now c.requires
