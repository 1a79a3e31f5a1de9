use Rattle.std.proofs.Common.{rules}
use Rattle.h3_c.proofs.Making.{lacks_memory}
use Rattle.h3_c.proofs.connection.made_in_range.Goals as goal

pub returns-in-Err-boxed-clause-refused : goal.returns-in-Err-boxed-clause-refused
returns-in-Err-boxed-clause-refused c = lacks_memory c.args.given.now c.in-Ok.endpoint (search rules)
