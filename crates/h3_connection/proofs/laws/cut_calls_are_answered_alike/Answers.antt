use Rattle.std.proofs.Common.{refl}
use Rattle.h3_connection.proofs.AlikeGroups.{cut_alike}
use Rattle.h3_connection.proofs.CallCuts.{all_alike, left_alike, new_alike}
use Rattle.h3_connection.proofs.laws.cut_calls_are_answered_alike.Goals as goal

pub returns-clause-calls : goal.returns-clause-calls
returns-clause-calls c = λ side own parts are.
    all_alike parts _ _ (new_alike side own) refl are

pub returns-clause-behind : goal.returns-clause-behind
returns-clause-behind c = λ e f parts. all_alike parts e f

pub returns-clause-left : goal.returns-clause-left
returns-clause-left c = λ e f parts d open_still are. left_alike parts e f (all_alike parts e f d open_still are) open_still

pub returns-clause-delivered : goal.returns-clause-delivered
returns-clause-delivered c = cut_alike
