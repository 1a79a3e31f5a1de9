-- A section is sent.
use Rattle.std.proofs.Common.{None, Some}
use Rattle.h3_session.proofs.SectionsSent.{of_size, section_refused, section_sent}
use Rattle.h3_session.proofs.endpoint.Endpoint.send_section.Goals as goal

pub returns-in-Err : goal.returns-in-Err
returns-in-Err c =
    section_refused c.args.self.now c.args.room c.args.fields.now c.args.place c.in-Err.refusal (λ _. c.requires)
    (λ differs. of_size c.args.self.now c.args.room c.args.place c.args.fields.now (Some c.in-Err.refusal) c.requires (c.in-Err.ensures.err differs))

pub returns : goal.returns
returns c =
    section_sent c.args.self.now _ _ _ _ _ c.in-Ok.sum c.self.view_is c.in-Ok.ensures.ok (of_size c.args.self.now c.args.room c.args.place c.args.fields.now None c.requires c.in-Ok.ensures.ok.size) c.in-Ok-queue_section.ensures.ok
