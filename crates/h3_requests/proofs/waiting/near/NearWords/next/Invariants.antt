-- The first among the places that were passed.
use Rattle.h3_requests.specs.FirstWord.{IsFirstWord}
use Rattle.h3_requests.proofs.FirstNear.{so_far}
use Rattle.h3_requests.proofs.waiting.near.NearWords.next.Given as goal

abbrev pub invariant-loop-index : goal.invariant-loop-index
invariant-loop-index l = IsFirstWord (so_far l.self.row.items l.index) l.from l.first
