use Rattle.h3_strict.proofs.PlainParts.{does_so}
use Rattle.h3_strict.proofs.laws.ends_do_the_same_plainly.Goals as goal

pub returns : goal.returns
returns c = does_so
