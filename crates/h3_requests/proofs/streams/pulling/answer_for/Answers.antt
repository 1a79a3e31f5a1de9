-- What is settled, or that too many streams wait.
use Rattle.std.proofs.Common.{◌≡◌, true, false, refl, ap, sym, subst, ◌∙◌}
use Rattle.h3_connection.specs.Lists.{pull_of}
use Rattle.h3_connection.specs.State.{RequestState}
use Rattle.h3_requests.specs.Limited.{AnswersOver}
use Rattle.h3_requests.specs.Over.{IsOver}
use Rattle.h3_requests.proofs.Pulls.{answers_over}
use Rattle.h3_requests.proofs.streams.pulling.answer_for.Goals as goal

pub returns-then-are_too_many-clause-there : goal.returns-then-are_too_many-clause-there
returns-then-are_too_many-clause-there c =
    subst (λ (r : RequestState). AnswersOver r.incoming c.args.are_too_many (pull_of c.fail.new.self)) c.stream.view_is
    (answers_over (record { incoming = c.stream.inside.incoming; outgoing = c.stream.inside.outgoing }) c.args.are_too_many c.answer_settled.result (pull_of c.answer_settled.new.out) (pull_of c.fail.new.self)
    (subst IsOver (sym c.stream.view_is) c.requires) c.answer_settled.ensures.settled c.answer_settled.ensures.open (λ many. ap pull_of c.fail.ensures) (λ few. absurd (let never : true ≡ false = sym c.if-are_too_many.true ∙ few in cc)))

pub returns-else-are_too_many-clause-there : goal.returns-else-are_too_many-clause-there
returns-else-are_too_many-clause-there c =
    subst (λ (r : RequestState). AnswersOver r.incoming c.args.are_too_many (pull_of c.answer_settled.new.out)) c.stream.view_is
    (answers_over (record { incoming = c.stream.inside.incoming; outgoing = c.stream.inside.outgoing }) c.args.are_too_many c.answer_settled.result (pull_of c.answer_settled.new.out) (pull_of c.answer_settled.new.out)
    (subst IsOver (sym c.stream.view_is) c.requires) c.answer_settled.ensures.settled c.answer_settled.ensures.open (λ many. absurd (let never : true ≡ false = sym many ∙ c.if-are_too_many.false in cc)) (λ few. refl))
