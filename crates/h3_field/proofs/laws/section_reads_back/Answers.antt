use Rattle.h3_field.proofs.SectionReadBack.{section_reads_back, all_within}
use Rattle.h3_field.proofs.laws.section_reads_back.Goals as goal

pub returns-clause-answer : goal.returns-clause-answer
returns-clause-answer c = section_reads_back

pub returns-clause-within : goal.returns-clause-within
returns-clause-within c = all_within
