-- What has no code is what stands for it.
use Rattle.std.proofs.Common.{rules, refl}
use Rattle.std.specs.Prelude.{option_copied}
use Rattle.h3_requests.specs.Stored.{streams_in}
use Rattle.h3_requests.proofs.Alike.{there_is}
use Rattle.h3_requests.proofs.map.StreamMap.contains.Goals as goal

pub returns : goal.returns
returns c = let same = there_is (streams_in c.args.self.now) (streams_in c.args.self.now) c.args.id (option_copied c.get_alike.result) refl c.get_alike.ensures in search (rules, same)
