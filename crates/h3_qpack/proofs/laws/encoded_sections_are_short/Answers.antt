use Rattle.std.proofs.Common.{refl}
use Rattle.h3_qpack.proofs.ShortSections.{section_short, shortest_lines_short}
use Rattle.h3_qpack.proofs.laws.encoded_sections_are_short.Goals as goal

pub returns-clause-short : goal.returns-clause-short
returns-clause-short c = section_short

pub returns-clause-empty : goal.returns-clause-empty
returns-clause-empty c = λ s. refl

pub returns-clause-lines : goal.returns-clause-lines
returns-clause-lines c = shortest_lines_short
