use Rattle.h3_header.specs.FlagLaws.{flags_are_not_read, texts_read_alike, written_plain}
use Rattle.h3_header.proofs.laws.heads_have_no_flags.Goals as goal

pub returns-clause-flags : goal.returns-clause-flags
returns-clause-flags c = flags_are_not_read

pub returns-clause-texts : goal.returns-clause-texts
returns-clause-texts c = texts_read_alike

pub returns-clause-written : goal.returns-clause-written
returns-clause-written c = written_plain
