use Rattle.std.proofs.Common.{Some, ap, sym, ◌∙◌}
use Rattle.std.specs.Prelude.{option_map}
use Rattle.h3_connection.specs.StrictMessages.{malformation_by}
use Rattle.h3_messages.specs.OwnMessages.{or_broken}
use Rattle.h3_messages.specs.declared.violation.Violation.TheVariants.{ContentLength}
use Rattle.h3_session.proofs.SentAnswers.{read_breaks}
use Rattle.h3_session.proofs.endpoint.Endpoint.judge_read.Goals as goal

pub returns-in-Some-clause-broken : goal.returns-in-Some-clause-broken
returns-in-Some-clause-broken c = λ place fields read.
    read_breaks place c.args.self.now c.args.id fields c.args.read.now _ (c.or_broken.ensures ∙ ap (λ b. or_broken c.args.read.now.violation b ContentLength) c.is_wrong_answer-is_broken.ensures) read
    ∙ ap (option_map malformation_by) c.in-Some.is ∙ ap Some (sym c.by.ensures)

pub returns-in-None-clause-kept : goal.returns-in-None-clause-kept
returns-in-None-clause-kept c = λ place fields read.
    read_breaks place c.args.self.now c.args.id fields c.args.read.now _ (c.or_broken.ensures ∙ ap (λ b. or_broken c.args.read.now.violation b ContentLength) c.is_wrong_answer-is_broken.ensures) read
    ∙ ap (option_map malformation_by) c.in-None.is
