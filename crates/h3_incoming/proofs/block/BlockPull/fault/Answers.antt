use Rattle.std.proofs.Common.{◌∙◌, ap}
use Rattle.h3_incoming.specs.Answering.{fault_told}
use Rattle.h3_connection.specs.Lists.{pull_of}
use Rattle.h3_incoming.proofs.block.BlockPull.fault.Goals as goal

pub returns : goal.returns
returns c = c.fault_of.ensures c.self.inside.block ∙ ap (λ p. fault_told (pull_of p)) c.self.view_is
