use Rattle.std.proofs.Common.{arith}
use Rattle.std.proofs.lemmas.Grind.{common_steps}
use Rattle.h3_wire.proofs.frame.FrameStream.take_data.Goals as goal

pub returns-in-Ok-Some-clause-takes : goal.returns-in-Ok-Some-clause-takes
returns-in-Ok-Some-clause-takes g c = grind (arith, common_steps)

pub returns-in-Ok-Some-clause-pieces : goal.returns-in-Ok-Some-clause-pieces
returns-in-Ok-Some-clause-pieces g c = grind (arith, common_steps)

pub returns-in-Ok-Some-clause-err : goal.returns-in-Ok-Some-clause-err
returns-in-Ok-Some-clause-err g c = search

pub returns-in-Ok-Some-clause-first : goal.returns-in-Ok-Some-clause-first
returns-in-Ok-Some-clause-first g c = grind (arith, common_steps)

pub returns-in-Ok-Some-clause-none : goal.returns-in-Ok-Some-clause-none
returns-in-Ok-Some-clause-none g c = search

pub returns-in-Ok-Some-clause-memory : goal.returns-in-Ok-Some-clause-memory
returns-in-Ok-Some-clause-memory g c = search

pub returns-in-Ok-Some-clause-decoder : goal.returns-in-Ok-Some-clause-decoder
returns-in-Ok-Some-clause-decoder g c = search

pub returns-in-Ok-Some-clause-source : goal.returns-in-Ok-Some-clause-source
returns-in-Ok-Some-clause-source g c = search

pub returns-in-Ok-Some-clause-is_eos : goal.returns-in-Ok-Some-clause-is_eos
returns-in-Ok-Some-clause-is_eos g c = search

pub returns-in-ToEnd-clause-takes : goal.returns-in-ToEnd-clause-takes
returns-in-ToEnd-clause-takes g c = grind (arith, common_steps)

pub returns-in-ToEnd-clause-pieces : goal.returns-in-ToEnd-clause-pieces
returns-in-ToEnd-clause-pieces g c = grind (arith, common_steps)

pub returns-in-ToEnd-clause-err : goal.returns-in-ToEnd-clause-err
returns-in-ToEnd-clause-err g c = search

pub returns-in-ToEnd-clause-first : goal.returns-in-ToEnd-clause-first
returns-in-ToEnd-clause-first g c = grind (arith, common_steps)

pub returns-in-ToEnd-clause-none : goal.returns-in-ToEnd-clause-none
returns-in-ToEnd-clause-none g c = search

pub returns-in-ToEnd-clause-memory : goal.returns-in-ToEnd-clause-memory
returns-in-ToEnd-clause-memory g c = search

pub returns-in-ToEnd-clause-decoder : goal.returns-in-ToEnd-clause-decoder
returns-in-ToEnd-clause-decoder g c = search

pub returns-in-ToEnd-clause-source : goal.returns-in-ToEnd-clause-source
returns-in-ToEnd-clause-source g c = search

pub returns-in-ToEnd-clause-is_eos : goal.returns-in-ToEnd-clause-is_eos
returns-in-ToEnd-clause-is_eos g c = search
