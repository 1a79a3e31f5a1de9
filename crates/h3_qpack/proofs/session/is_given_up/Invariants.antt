use Rattle.std.proofs.Common.{◌≡◌, false, take}
use Rattle.h3_qpack.specs.Exchange.{is_given_up}
use Rattle.h3_qpack.proofs.session.is_given_up.Given as goal

abbrev pub invariant-loop-place : goal.invariant-loop-place
invariant-loop-place l = is_given_up (take l.place l.canceled.items) l.stream ≡ false
