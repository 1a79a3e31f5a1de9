use Rattle.std.proofs.Common.{sym, ◌∙◌}
use Rattle.h3_messages.specs.Outline.{refusal_by}
use Rattle.h3_session.proofs.JudgedPlaces.{malformed_is, never_none, never_some, untold}
use Rattle.h3_session.proofs.endpoint.strict.refusal_of.Goals as goal

pub returns-in-Some-clause-why : goal.returns-in-Some-clause-why
returns-in-Some-clause-why c = λ why some. malformed_is (refusal_by c.args.e) c.in-Some.why why (sym c.in-Some.is ∙ c.malformation_in.ensures) some

pub returns-in-Some-clause-none : goal.returns-in-Some-clause-none
returns-in-Some-clause-none c = λ none. absurd (never_none (refusal_by c.args.e) c.in-Some.why (sym c.in-Some.is ∙ c.malformation_in.ensures) none)

pub returns-in-Some-clause-memory : goal.returns-in-Some-clause-memory
returns-in-Some-clause-memory c = λ memory. absurd (cc)

pub returns-in-None-clause-why : goal.returns-in-None-clause-why
returns-in-None-clause-why c = λ why some. absurd (never_some (refusal_by c.args.e) why (sym c.in-None.is ∙ c.malformation_in.ensures) some)

pub returns-in-None-clause-memory : goal.returns-in-None-clause-memory
returns-in-None-clause-memory c = λ memory. untold (refusal_by c.args.e) (sym c.in-None.is ∙ c.malformation_in.ensures)
