-- What has no code is what stands for it.
use Rattle.std.proofs.Common.{Some, None, rules}
use Rattle.h3_requests.specs.Stored.{streams_in}
use Rattle.h3_requests.proofs.Alike.{refusal_is}
use Rattle.h3_requests.proofs.streams.RequestStreams.delivery_refusal.Goals as goal

pub returns-then-has_ended : goal.returns-then-has_ended
returns-then-has_ended c = let same = refusal_is c.args.side (streams_in c.self.inside.streams) c.args.self.now c.args.id (Some c.in-Some.stream.now) c.self.view_is c.in-Some.ensures in search (rules, same)

pub returns-else-has_ended : goal.returns-else-has_ended
returns-else-has_ended c = let same = refusal_is c.args.side (streams_in c.self.inside.streams) c.args.self.now c.args.id (Some c.in-Some.stream.now) c.self.view_is c.in-Some.ensures in search (rules, same)

pub returns-in-Client : goal.returns-in-Client
returns-in-Client c = let same = refusal_is c.args.side (streams_in c.self.inside.streams) c.args.self.now c.args.id None c.self.view_is c.in-None.ensures in search (rules, same)

pub returns-in-Server : goal.returns-in-Server
returns-in-Server c = let same = refusal_is c.args.side (streams_in c.self.inside.streams) c.args.self.now c.args.id None c.self.view_is c.in-None.ensures in search (rules, same)
