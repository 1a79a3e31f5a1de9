use Rattle.std.proofs.Common.{arith}
use Rattle.h3_messages.proofs.Surveys.{set_has}
use Rattle.h3_messages.proofs.name_set.NameSet.with.Goals as goal

pub returns : goal.returns
returns c = λ k. set_has c.args.self c.args.known k c.place.result c.place.ensures.place (let within = c.place.ensures.within in omega arith)
