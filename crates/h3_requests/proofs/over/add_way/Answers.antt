-- One way more.
use Rattle.std.proofs.Common.{arith, ◌≡◌, ◌+◌, ◌∷◌, ◌++◌, [], List, rules, sym, subst, ◌∙◌, ap}
use Rattle.h3_requests.specs.Over.{AddsWays, HasWays, IsWay, way_at}
use Rattle.h3_requests.specs.declared.over.Way.{Way}
use Rattle.h3_requests.proofs.Ways.{way_last, grown, grown_one}
use Rattle.h3_requests.proofs.over.add_way.Goals as goal

pub returns-clause-is : goal.returns-clause-is
returns-clause-is c = λ some.
    let w : Way = record { stream = c.args.stream.now; has_code = c.args.has_code } in
    let items : c.push_reserved.new.self.items ≡ c.args.ways.now.items ++ w ∷ [] = search rules in
    ap (λ (ways : List Way). way_at ways (c.len-count.result + 1)) items ∙ way_last c.args.ways.now.items w (c.len-count.result + 1) (omega (arith, c.len-count.ensures))

pub returns-clause-others : goal.returns-clause-others
returns-clause-others c = subst (HasWays c.args.ways.now.items) (sym (search rules)) (grown c.args.ways.now.items (record { stream = c.args.stream.now; has_code = c.args.has_code }))

pub returns-clause-adds : goal.returns-clause-adds
returns-clause-adds c =
    let w : Way = record { stream = c.args.stream.now; has_code = c.args.has_code } in
    let is : IsWay w = record { over = c.requires.over; code = c.requires.code } in
    subst (AddsWays c.args.ways.now.items) (sym (search rules)) (grown_one c.args.ways.now.items w is c.requires.ended (omega (arith, c.if-count-most.false, c.len-count.ensures, c.requires.most)))
