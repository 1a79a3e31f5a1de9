use Rattle.std.proofs.Common.{ap, refl, subst, ◌∙◌}
use Rattle.h3_connection.specs.Lists.{pull_of}
use Rattle.h3_connection.specs.Pulling.{decoded}
use Rattle.h3_incoming.specs.Looking.{IsLooked}
use Rattle.h3_incoming.proofs.PullLaws.{gives_just}
use Rattle.h3_incoming.proofs.stream.IncomingStream.pass.Goals as goal

pub returns-in-Missing-clause-answer : goal.returns-in-Missing-clause-answer
returns-in-Missing-clause-answer c = λ side own r bytes looked given.
    let missing = subst (λ l. IsLooked side own r c.args.self.now bytes l (pull_of c.args.out.now)) c.in-Missing.is looked in
    gives_just _ _ _ _ _ (ap (decoded side own c.args.id r c.args.self.now) missing ∙ c.miss_entries.ensures.answer side own c.args.id r) refl
