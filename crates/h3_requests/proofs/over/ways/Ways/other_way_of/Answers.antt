-- The ways of a group that is there.
use Rattle.std.proofs.Common.{rules, ◌≡◌, ℕ, subst}
use Rattle.std.specs.Prelude.{IfSome}
use Rattle.h3_requests.specs.Over.{way_at, ways_in, IsWay}
use Rattle.h3_requests.proofs.over.ways.Ways.other_way_of.Goals as goal

pub way_of-requires-clause-ways : goal.way_of-requires-clause-ways
way_of-requires-clause-ways c =
    let is : ways_in c.args.self.now c.args.group ≡ c.in-Some.ways.now.items = search rules in
    subst (λ ways. (way : ℕ) → IfSome (way_at ways way) IsWay) is (c.requires.ways c.args.group)
