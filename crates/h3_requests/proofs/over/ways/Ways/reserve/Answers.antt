-- The ways that were there stay.
use Rattle.std.proofs.Common.{rules, refl}
use Rattle.h3_requests.proofs.Ways.{same_groups}
use Rattle.h3_requests.proofs.over.ways.Ways.reserve.Goals as goal

pub returns : goal.returns
returns c = same_groups c.args.self.now (record c.args.self.now { plain = c.reserve.new.self }) (search rules) refl
