-- What has no code is what stands for it.
use Rattle.std.proofs.Common.{Some, None, rules, ◌∙◌}
use Rattle.h3_requests.specs.Stored.{streams_in}
use Rattle.h3_requests.proofs.Alike.{left_is, nothing_left}
use Rattle.h3_requests.proofs.streams.RequestStreams.frame_left.Goals as goal

pub returns-in-Some : goal.returns-in-Some
returns-in-Some c = let same = left_is (streams_in c.self.inside.streams) c.args.self.now c.args.id (Some c.in-Some.stream.now) c.self.view_is c.in-Some.ensures in search (rules, same)

pub returns-in-None : goal.returns-in-None
returns-in-None c = nothing_left ∙ left_is (streams_in c.self.inside.streams) c.args.self.now c.args.id None c.self.view_is c.in-None.ensures
