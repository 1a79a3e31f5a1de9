use Rattle.std.proofs.Common.{rules}
use Rattle.h3_webtransport.proofs.Opened.{lacks_memory, refuses_bytes, takes_bytes}
use Rattle.h3_webtransport.proofs.opening.refuses_bytes.Goals as goal

pub returns-in_default : goal.returns-in_default
returns-in_default c = takes_bytes c.args.endpoint.now c.args.session c.in_default.ensures

pub returns-then-eq : goal.returns-then-eq
returns-then-eq c = lacks_memory c.args.endpoint.now c.args.session c.in-Some.refusal c.in-Some.ensures (search rules)

pub returns : goal.returns
returns c = refuses_bytes c.args.endpoint.now c.args.session c.in-Some.refusal c.in-Some.ensures (search rules)
