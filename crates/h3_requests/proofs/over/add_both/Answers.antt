-- Two ways more.
use Rattle.std.proofs.Common.{arith, ◌≡◌, ◌+◌, ◌∷◌, ◌++◌, [], List, rules, sym, subst, ◌∙◌, ap}
use Rattle.h3_requests.specs.Over.{AddsWays, HasWays, IsWay, ended_way, way_at}
use Rattle.h3_requests.specs.declared.over.Way.{Way}
use Rattle.h3_requests.proofs.Ways.{at_first, grown_both, grown_two}
use Rattle.h3_requests.proofs.over.add_both.Goals as goal

pub returns-clause-is : goal.returns-clause-is
returns-clause-is c = λ some.
    let w : Way = record { stream = c.args.stream.now; has_code = c.args.has_code } in
    let items : c.push_reserved-2.new.self.items ≡ (c.args.ways.now.items ++ w ∷ []) ++ ended_way w ∷ [] = search rules in
    ap (λ (ways : List Way). way_at ways (c.len-count.result + 1)) items ∙ at_first c.args.ways.now.items w (ended_way w) (c.len-count.result + 1) (omega (arith, c.len-count.ensures))

pub returns-clause-others : goal.returns-clause-others
returns-clause-others c =
    let w : Way = record { stream = c.args.stream.now; has_code = c.args.has_code } in
    let items : c.push_reserved-2.new.self.items ≡ (c.args.ways.now.items ++ w ∷ []) ++ ended_way w ∷ [] = search rules in
    subst (HasWays c.args.ways.now.items) (sym items) (grown_both c.args.ways.now.items w (ended_way w))

pub returns-clause-adds : goal.returns-clause-adds
returns-clause-adds c =
    let w : Way = record { stream = c.args.stream.now; has_code = c.args.has_code } in
    let is : IsWay w = record { over = c.requires.over; code = c.requires.code } in
    let items : c.push_reserved-2.new.self.items ≡ (c.args.ways.now.items ++ w ∷ []) ++ ended_way w ∷ [] = search rules in
    subst (AddsWays c.args.ways.now.items) (sym items) (grown_two c.args.ways.now.items w is (omega (arith, c.if-count-most.false, c.len-count.ensures, c.requires.most)))
