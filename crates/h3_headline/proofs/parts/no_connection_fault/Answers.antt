use Rattle.h3_world.specs.World.{empty_world}
use Rattle.h3_headline.proofs.Cuts.{no_fault}
use Rattle.h3_headline.proofs.parts.no_connection_fault.Goals as goal

pub returns : goal.returns
returns c = λ setup events answers w run. no_fault setup (empty_world setup) w events answers run
