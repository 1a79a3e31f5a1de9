-- A pull of such a stream gives its fault, or its end again.
use Rattle.std.proofs.Common.{refl, sym, ◌∙◌}
use Rattle.h3_requests.proofs.Pulls.{gives_fault, gives_end}
use Rattle.h3_requests.proofs.streams.pulling.answer_settled.Goals as goal

pub returns-in-Some-clause-settled : goal.returns-in-Some-clause-settled
returns-in-Some-clause-settled c = λ h. rw c.fail.ensures (refl, λ side own id r. gives_fault side own id r c.args.stream.now c.in-Some.fault (sym c.fault.ensures ∙ c.in-Some.is))

pub returns-then-is_over-clause-settled : goal.returns-then-is_over-clause-settled
returns-then-is_over-clause-settled c = λ h. rw c.end.ensures (refl, λ side own id r. gives_end side own id r c.args.stream.now (sym c.fault.ensures ∙ c.in_default.is) (sym c.is_over.ensures ∙ c.if-is_over.true))
