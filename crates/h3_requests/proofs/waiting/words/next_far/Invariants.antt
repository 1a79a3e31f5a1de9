-- The words that were passed have no ends that wait.
use Rattle.h3_requests.proofs.WaitingWords.{Left}
use Rattle.h3_requests.proofs.waiting.words.next_far.Given as goal

abbrev pub invariant-loop-number : goal.invariant-loop-number
invariant-loop-number l = Left l.far.entries l.from l.number-iterator
