use Rattle.std.proofs.Common.{ap, refl, subst, List}
use Rattle.std.specs.Io.KnownBytes.{Appends}
use Rattle.h3_script.specs.Lines.{printed}
use Rattle.h3_talk.specs.Talks.{AnswersTo}
use Rattle.h3_world.specs.declared.event.Event.{Event}
use Rattle.h3_talk.proofs.talk.answer.Goals as goal

pub returns-then-write_answers-clause-answered : goal.returns-then-write_answers-clause-answered
returns-then-write_answers-clause-answered g c = λ done. record {
  answers = c.in-Ok.answers.items;
  answered = subst (λ (events : List Event). AnswersTo c.args.script.setup events c.in-Ok.answers.items) c.deref.ensures.value c.in-Ok.ensures;
  written = subst (Appends (g.W.Write.contents c.args.writer.now) (g.W.Write.contents c.write_answers.new.writer)) (ap printed c.deref-2.ensures.value) (c.if-write_answers.ensures refl);
}
