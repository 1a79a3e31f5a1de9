use Rattle.h3_qpack.proofs.ShortestSections.{section_within_size, sections_within_sizes}
use Rattle.h3_qpack.proofs.laws.sections_are_no_longer_than_their_lists.Goals as goal

pub returns-clause-history : goal.returns-clause-history
returns-clause-history c = section_within_size

pub returns-clause-session : goal.returns-clause-session
returns-clause-session c = sections_within_sizes
