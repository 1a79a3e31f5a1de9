use Rattle.std.proofs.Common.{rules, sym}
use Rattle.h3_webtransport.proofs.Pulling.{pulls_there}
use Rattle.h3_webtransport.proofs.sessions.Sessions.pull_here.Goals as goal

pub returns : goal.returns
returns c = rw (sym c.self.view_is) (pulls_there _ c.pull.new.self c.args.id c.pull.result _ (search rules) c.pull.ensures.acts c.give_made.ensures.is c.pull.ensures.rest)
