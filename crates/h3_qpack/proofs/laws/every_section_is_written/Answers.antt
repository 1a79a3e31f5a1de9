use Rattle.h3_qpack.proofs.UnderWay.{section_is_written}
use Rattle.h3_qpack.proofs.laws.every_section_is_written.Goals as goal

pub returns : goal.returns
returns c = section_is_written
