-- What has no code is what stands for it.
use Rattle.std.proofs.Common.{Some, None, refl, rules}
use Rattle.h3_requests.specs.Ordered.{is_sent}
use Rattle.h3_requests.specs.Stored.{streams_in}
use Rattle.h3_requests.proofs.Alike.{part_is}
use Rattle.h3_requests.proofs.streams.RequestStreams.is_sent.Goals as goal

pub returns-in-Some : goal.returns-in-Some
returns-in-Some c =
    let same = part_is (λ r. is_sent r.outgoing) (λ r. refl) (streams_in c.self.inside.streams) c.args.self.now c.args.id (Some c.in-Some.stream.now) c.self.view_is c.in-Some.ensures in search (rules, same)

pub returns-in-None : goal.returns-in-None
returns-in-None c = part_is (λ r. is_sent r.outgoing) (λ r. refl) (streams_in c.self.inside.streams) c.args.self.now c.args.id None c.self.view_is c.in-None.ensures
