use Rattle.std.specs.Prelude.{option_copied}
use Rattle.h3_session.proofs.LentFrames.{lends_control, lends_stream}
use Rattle.h3_session.proofs.endpoint.Endpoint.frames.Goals as goal

pub returns-in-Some : goal.returns-in-Some
returns-in-Some c = lends_control _ _ c.args.id c.in-Some.frames.now c.self.view_is c.in-Some.ensures.stream c.in-Some.ensures.bytes

pub returns : goal.returns
returns c = lends_stream _ _ c.args.id (option_copied c.frames.result) c.self.view_is c.in_default.ensures.stream c.frames.ensures
