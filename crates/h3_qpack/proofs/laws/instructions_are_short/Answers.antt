use Rattle.h3_qpack.specs.ShortInstructionLaws.{reply_short, taken_instructions_short}
use Rattle.h3_qpack.proofs.laws.instructions_are_short.Goals as goal

pub returns-clause-taken : goal.returns-clause-taken
returns-clause-taken c = taken_instructions_short

pub returns-clause-replies : goal.returns-clause-replies
returns-clause-replies c = reply_short
