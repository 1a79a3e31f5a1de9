use Rattle.std.proofs.Common.{subst}
use Rattle.h3_c.specs.Further.{UnmakesWith}
use Rattle.h3_c.specs.Numbers.{memory}
use Rattle.h3_c.proofs.MakingWith.{lacks_with}
use Rattle.h3_c.proofs.connection.further.made_with.Goals as goal

pub returns-in-Err-boxed-clause-refused : goal.returns-in-Err-boxed-clause-refused
returns-in-Err-boxed-clause-refused c = λ near.
    subst (λ pairs. UnmakesWith c.args.given.now pairs memory) c.as_slice.ensures (lacks_with c.args.given.now c.as_slice.result.now c.in-Ok.endpoint c.in-Ok.ensures)
