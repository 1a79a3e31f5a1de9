use Rattle.std.proofs.Common.{subst}
use Rattle.h3_c.specs.Numbers.{memory}
use Rattle.h3_c.specs.Remembered.{UnmakesResumed}
use Rattle.h3_c.proofs.MakingWith.{lacks_resumed}
use Rattle.h3_c.proofs.connection.remembered.made_resumed.Goals as goal

pub returns-in-Err-boxed-clause-refused : goal.returns-in-Err-boxed-clause-refused
returns-in-Err-boxed-clause-refused c = λ near.
    subst (λ pairs. UnmakesResumed c.args.given.now pairs c.args.remembered memory) c.as_slice.ensures
    (lacks_resumed c.args.given.now c.as_slice.result.now c.args.remembered c.in-Ok.endpoint c.in-Ok.ensures)
