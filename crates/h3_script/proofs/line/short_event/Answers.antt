use Rattle.std.proofs.Common.{arith}
use Rattle.std.proofs.lemmas.Grind.{common_steps}
use Rattle.h3_script.proofs.Lines.{none_few, none_many}
use Rattle.h3_script.proofs.line.short_event.Goals as goal
use Rattle.h3_script.proofs.line.short_event.Goals.{in_default-via-then-words-lt2, in_default-via-else-words-lt2+else-words-lt3+else-words-lt4+else-words-lt5}

pub returns-in_default : goal.returns-in_default
returns-in_default c = elim c.in_default.branch [
  | in_default-via-then-words-lt2 w ↦ none_few c.args.words.now (grind (arith, common_steps))
  | in_default-via-else-words-lt2+else-words-lt3+else-words-lt4+else-words-lt5 w ↦ none_many c.args.words.now (grind (arith, common_steps))
]
