-- What has no code is what stands for it.
use Rattle.std.proofs.Common.{Some, None, refl, rules}
use Rattle.h3_requests.specs.Stored.{streams_in}
use Rattle.h3_requests.proofs.Alike.{part_is}
use Rattle.h3_requests.proofs.streams.RequestStreams.tries.Goals as goal

pub returns-in-Some-clause-value : goal.returns-in-Some-clause-value
returns-in-Some-clause-value c = let same = part_is (λ r. r.incoming.tries) (λ r. refl) (streams_in c.self.inside.streams) c.args.self.now c.args.id (Some c.in-Some.stream.now) c.self.view_is c.in-Some.ensures in search (rules, same)

pub returns-in-None-clause-value : goal.returns-in-None-clause-value
returns-in-None-clause-value c = let same = part_is (λ r. r.incoming.tries) (λ r. refl) (streams_in c.self.inside.streams) c.args.self.now c.args.id None c.self.view_is c.in-None.ensures in search (rules, same)
