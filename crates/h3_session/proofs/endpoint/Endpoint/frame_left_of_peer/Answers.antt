use Rattle.std.proofs.Common.{sym}
use Rattle.h3_session.proofs.FramesLeft.{left_of_control, left_of_other}
use Rattle.h3_session.proofs.endpoint.Endpoint.frame_left_of_peer.Goals as goal

pub returns-in-Some : goal.returns-in-Some
returns-in-Some c = rw (sym c.self.view_is) (left_of_control _ _ c.args.id _ c.in-Some.ensures.stream c.in-Some.ensures.bytes c.frame_left.ensures)

pub returns-in-None : goal.returns-in-None
returns-in-None c = rw (sym c.self.view_is) (left_of_other _ c.args.id c.in-None.ensures.stream)
