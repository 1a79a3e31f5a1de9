use Rattle.h3_session.proofs.Acting.{shared, not_shared}
use Rattle.h3_session.proofs.run.acting.share_body.Goals as goal

pub returns-in_default : goal.returns-in_default
returns-in_default c = not_shared c.args.side c.args.id c.args.body.now c.args.client.now c.args.server.now

pub returns : goal.returns
returns c =
    shared c.args.side c.args.id c.args.body.now c.in-Ok.shared c.args.client.now c.args.server.now c.send_body.result c.send_body.new.client c.send_body.new.server c.in-Ok.ensures.cases c.send_body.ensures
