use Rattle.std.proofs.Common.{refl, sym, ◌∙◌}
use Rattle.h3_incoming.proofs.LookLaws.{begins_waiting}
use Rattle.h3_incoming.proofs.PullLaws.{gives_as, gives_just, none_there, none_left, some_left, pull_of_fault, pull_of_end, pull_of_session, pull_of_payload, pull_of_frame, session_there}
use Rattle.h3_incoming.proofs.ResumeLaws.{resumes_same}
use Rattle.h3_incoming.proofs.stream.IncomingStream.begin.Goals as goal

pub returns-in-Some-clause-answer : goal.returns-in-Some-clause-answer
returns-in-Some-clause-answer c = λ f h r. rw c.fail.ensures
    (gives_just _ _ _ _ _ (pull_of_fault c.args.side c.args.announced.now c.args.id r c.args.self.now c.in-Some.fault (sym c.fault.ensures ∙ c.in-Some.is)) refl)

pub returns-then-is_over-clause-answer : goal.returns-then-is_over-clause-answer
returns-then-is_over-clause-answer c = λ f h r. rw c.end.ensures
    (gives_just _ _ _ _ _ (pull_of_end c.args.side c.args.announced.now c.args.id r c.args.self.now (sym c.fault.ensures ∙ c.in_default.is) (sym c.is_over.ensures ∙ c.if-is_over.true)) refl)

pub returns-then-is_in_session-clause-answer : goal.returns-then-is_in_session-clause-answer
returns-then-is_in_session-clause-answer c = λ f h r.
    gives_just _ _ _ _ _ (pull_of_session c.args.side c.args.announced.now c.args.id r c.args.self.now (sym c.fault.ensures ∙ c.in_default.is) (sym c.is_over.ensures ∙ c.if-is_over.false)
    (session_there _ (sym c.is_in_session.ensures ∙ c.if-is_in_session.true)) ∙ c.pull_raw.ensures.answer) refl

pub returns-then-has_section-clause-section : goal.returns-then-has_section-clause-section
returns-then-has_section-clause-section c = λ t. (
  begins_waiting c.args.side c.args.announced.now c.args.id c.args.self.now c.args.self.now.section (sym c.fault.ensures ∙ c.in_default.is) (sym c.is_over.ensures ∙ c.if-is_over.false)
      (sym c.is_in_session.ensures ∙ c.if-is_in_session.false) refl (sym c.has_section.ensures.value ∙ c.if-has_section.true),
  refl,
)

pub returns-then-is_in_payload-clause-answer : goal.returns-then-is_in_payload-clause-answer
returns-then-is_in_payload-clause-answer c = λ f h r.
    gives_as _ _ _ _ _ _ (pull_of_payload c.args.side c.args.announced.now c.args.id r c.args.self.now (sym c.fault.ensures ∙ c.in_default.is) (sym c.is_over.ensures ∙ c.if-is_over.false)
    (sym c.is_in_session.ensures ∙ c.if-is_in_session.false) (none_there _ (sym c.has_section.ensures.value ∙ c.if-has_section.false)) (some_left _ (sym c.is_in_payload.ensures ∙ c.if-is_in_payload.true))) (c.pull_payload.ensures.answer h)

pub returns-then-is_in_payload-clause-memory : goal.returns-then-is_in_payload-clause-memory
returns-then-is_in_payload-clause-memory c = λ f h. (resumes_same c.args.announced.now _ _ (c.pull_payload.ensures.memory h).0, (c.pull_payload.ensures.memory h).1)

pub returns-clause-answer : goal.returns-clause-answer
returns-clause-answer c = λ f h r.
    gives_as _ _ _ _ _ _ (pull_of_frame c.args.side c.args.announced.now c.args.id r c.args.self.now (sym c.fault.ensures ∙ c.in_default.is) (sym c.is_over.ensures ∙ c.if-is_over.false)
    (sym c.is_in_session.ensures ∙ c.if-is_in_session.false) (none_there _ (sym c.has_section.ensures.value ∙ c.if-has_section.false)) (none_left _ (sym c.is_in_payload.ensures ∙ c.if-is_in_payload.false))) (c.begin_frame.ensures.answer f h r)
