use Rattle.std.proofs.Common.{None, Some, ap}
use Rattle.h3_connection.specs.Remembering.{settings_known}
use Rattle.h3_session.proofs.SectionsSent.{of_size}
use Rattle.h3_session.specs.Refused.{list_refused}
use Rattle.h3_session.proofs.endpoint.Endpoint.judge_list.Goals as goal

pub returns-in-Err-clause-err : goal.returns-in-Err-clause-err
returns-in-Err-clause-err c = λ differs.
    ap (λ rule. list_refused rule (settings_known c.args.self.now.announced c.args.self.now.peer.settings) c.args.fields.now) (c.in-Err.ensures.broken c.args.place c.args.fields.now c.requires)

pub returns-in-Ok-clause-fits : goal.returns-in-Ok-clause-fits
returns-in-Ok-clause-fits c =
    of_size c.args.self.now c.args.id c.args.place c.args.fields.now None (c.in_default.ensures.kept c.args.place c.args.fields.now c.requires) c.in-Ok.ensures.ok.size

pub returns-in-Ok-clause-kept : goal.returns-in-Ok-clause-kept
returns-in-Ok-clause-kept c = c.in_default.ensures.kept c.args.place c.args.fields.now c.requires

pub returns-in-Err-judge_size-clause-unbroken : goal.returns-in-Err-judge_size-clause-unbroken
returns-in-Err-judge_size-clause-unbroken c = λ memory. c.in_default.ensures.kept c.args.place c.args.fields.now c.requires

pub returns-in-Err-judge_size-clause-err : goal.returns-in-Err-judge_size-clause-err
returns-in-Err-judge_size-clause-err c = λ differs.
    of_size c.args.self.now c.args.id c.args.place c.args.fields.now (Some c.in-Err-judge_size.refusal) (c.in_default.ensures.kept c.args.place c.args.fields.now c.requires) (c.in-Err-judge_size.ensures.err differs)
