use Rattle.h3_strict.proofs.PullVerdicts.{pull_plainly}
use Rattle.h3_strict.proofs.laws.pulls_are_plain_or_give_a_message_up.Goals as goal

pub returns : goal.returns
returns c = pull_plainly
