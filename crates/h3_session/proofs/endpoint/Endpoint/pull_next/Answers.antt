use Rattle.std.proofs.Common.{◌≡◌, ap, sym, ◌∙◌, subst, rules}
use Rattle.h3_connection.specs.Endpoint.{kind_of}
use Rattle.h3_connection.specs.Endpoint.Kind.{Request}
use Rattle.h3_connection.specs.Lists.{pull_of}
use Rattle.h3_session.specs.Pulling.{PullsItem, closed_with}
use Rattle.h3_session.proofs.Listing.{lists_request}
use Rattle.h3_session.proofs.PullingStreams.{pulls_request}
use Rattle.h3_session.proofs.endpoint.Endpoint.pull_next.Goals as goal

pub returns-in-Request-clause-item : goal.returns-in-Request-clause-item
returns-in-Request-clause-item c =
    let o = c.pull_stored.ensures in
    let kind : kind_of c.args.self.now.side c.args.id ≡ Request = search rules in
    let is = c.close_if.ensures ∙ ap (λ code. closed_with code c.pull_stored.new.self) c.fault_of.ensures in
    subst (λ n. PullsItem c.args.self.now n c.args.id (pull_of c.pull_stored.new.out)) (sym is)
    (pulls_request c.args.self.now c.pull_stored.new.self c.args.id (pull_of c.pull_stored.new.out) kind o.there o.rest o.absent o.answer o.memory o.settled)

pub returns-in-Request-clause-list : goal.returns-in-Request-clause-list
returns-in-Request-clause-list c =
    let kind : kind_of c.args.self.now.side c.args.id ≡ Request = search rules in
    lists_request c.args.self.now c.args.id _ kind c.pull_stored.ensures.list
