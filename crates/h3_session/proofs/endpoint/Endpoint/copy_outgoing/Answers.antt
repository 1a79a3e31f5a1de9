use Rattle.std.proofs.Common.{rules}
use Rattle.h3_session.proofs.Copying.{copies_request}
use Rattle.h3_session.proofs.endpoint.Endpoint.copy_outgoing.Goals as goal

pub returns-clause-ok : goal.returns-clause-ok
returns-clause-ok c =
    copies_request c.args.self.now c.args.id c.args.count c.in-Some.stream.now c.args.out.now.items c.copy_front.new.out.items
    (search rules) c.in_ok-copy_front.ensures.ok
