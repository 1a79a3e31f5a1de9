use Rattle.std.proofs.Common.{◌≡◌, [], drop}
use Rattle.h3_proto.specs.Further.{further_from}
use Rattle.h3_proto.proofs.frame.Settings.further.Given as goal

-- what the other pairs make of those so far, all make
abbrev pub invariant-loop-pair : goal.invariant-loop-pair
invariant-loop-pair l = further_from l.self l.further (drop l.pair-index l.pairs) ≡ further_from l.fn.self [] l.fn.pairs
