use Rattle.h3_wire.proofs.ReadAlike.{reads-more}
use Rattle.h3_wire.proofs.laws.cuts_do_not_matter.Goals as goal

pub returns : goal.returns
returns c = reads-more
