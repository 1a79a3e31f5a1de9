use Rattle.std.proofs.Common.{sym}
use Rattle.h3_table.specs.Words.{word_at}
use Rattle.h3_table.proofs.StreamSets.{none_in}
use Rattle.h3_table.proofs.stream_set.StreamSet.new.Goals as goal

pub returns : goal.returns
returns c = sym (none_in (word_at c.new.result) c.new.ensures.words)
