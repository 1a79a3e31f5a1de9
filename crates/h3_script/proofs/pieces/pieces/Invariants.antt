use Rattle.std.proofs.Common.{◌≡◌, ◌++◌, length}
use Rattle.h3_script.specs.Pieces.{pieces, texts}
use Rattle.h3_script.proofs.pieces.pieces.Given as goal

abbrev pub invariant-loop-front : goal.invariant-loop-front
invariant-loop-front l = pieces l.fn.at l.fn.bytes ≡ texts l.found.items ++ pieces l.at l.rest

abbrev pub decreases-loop-front : goal.decreases-loop-front
decreases-loop-front l = length l.rest
