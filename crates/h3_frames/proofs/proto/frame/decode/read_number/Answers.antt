use Rattle.std.proofs.Common.{arith}
use Rattle.std.proofs.lemmas.Grind.{common_steps}
use Rattle.h3_frames.proofs.proto.frame.decode.read_number.Goals as goal

pub returns-then-left-gt0-clause-ok : goal.returns-then-left-gt0-clause-ok
returns-then-left-gt0-clause-ok g c = search

pub returns-then-left-gt0-clause-err : goal.returns-then-left-gt0-clause-err
returns-then-left-gt0-clause-err g c = grind (arith, common_steps)

pub returns-then-left-gt0-clause-kept : goal.returns-then-left-gt0-clause-kept
returns-then-left-gt0-clause-kept g c = search
