use Rattle.h3_connection.proofs.CountedContent.{counts_content}
use Rattle.h3_connection.proofs.HeadContent.{heads_have_their_content}
use Rattle.h3_connection.proofs.laws.content_is_as_long_as_was_said.Goals as goal

pub returns-clause-counts : goal.returns-clause-counts
returns-clause-counts c = counts_content

pub returns-clause-heads : goal.returns-clause-heads
returns-clause-heads c = heads_have_their_content
