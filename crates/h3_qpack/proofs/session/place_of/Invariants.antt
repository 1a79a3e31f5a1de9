use Rattle.std.proofs.Common.{◌≡◌, false, take}
use Rattle.std.specs.List.{list_any}
use Rattle.h3_qpack.specs.Exchange.{is_of}
use Rattle.h3_qpack.proofs.session.place_of.Given as goal

abbrev pub invariant-loop-place : goal.invariant-loop-place
invariant-loop-place l = list_any (is_of l.stream) (take l.place l.sections.items) ≡ false
