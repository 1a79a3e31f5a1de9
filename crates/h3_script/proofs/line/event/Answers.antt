use Rattle.h3_script.specs.Pieces.{texts}
use Rattle.h3_script.proofs.Lines.{short_says}
use Rattle.h3_script.proofs.line.event.Goals as goal

pub returns-in-Some-clause-ok : goal.returns-in-Some-clause-ok
returns-in-Some-clause-ok c = short_says (texts c.args.words.now) c.in-Some.event c.in-Some.ensures
