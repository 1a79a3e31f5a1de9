use Rattle.h3_world.specs.World.{empty_world}
use Rattle.h3_headline.proofs.Cuts.{cut_at}
use Rattle.h3_headline.proofs.parts.runs_can_be_cut.Goals as goal

pub returns : goal.returns
returns c = λ setup before after answers w run. cut_at setup (empty_world setup) w before after answers run
