use Rattle.std.proofs.Common.{subst, sym}
use Rattle.h3_session.specs.Acting.{Acts}
use Rattle.h3_session.proofs.run.acting.act.Goals as goal

pub returns-in-Head : goal.returns-in-Head
returns-in-Head c =
    subst (λ e. Acts e c.args.client.now c.args.server.now c.send_head.result c.send_head.new.client c.send_head.new.server) (sym c.in-Head.is) c.send_head.ensures

pub returns-in-Trailer : goal.returns-in-Trailer
returns-in-Trailer c =
    subst (λ e. Acts e c.args.client.now c.args.server.now c.send_trailer.result c.send_trailer.new.client c.send_trailer.new.server) (sym c.in-Trailer.is) c.send_trailer.ensures
