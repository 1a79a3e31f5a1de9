use Rattle.h3_qpack.proofs.DecodedLaws.{section_is_its_value, value_of_section}
use Rattle.h3_qpack.proofs.laws.sections_are_their_value.Goals as goal

pub returns-clause-value : goal.returns-clause-value
returns-clause-value c = section_is_its_value

pub returns-clause-only : goal.returns-clause-only
returns-clause-only c = value_of_section
