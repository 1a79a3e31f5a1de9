-- One stream is marked with a way of which each has its code.
use Rattle.std.proofs.Common.{arith, rules, true, ◌≡◌, ◌<◌, refl, ◌∙◌, ap}
use Rattle.h3_requests.specs.Marks.{code_at, mark_at, IsOneMark}
use Rattle.h3_requests.specs.Over.{reset_with, ways_in}
use Rattle.h3_requests.proofs.Ways.{add_ways, have_ways, marked_in, same_marked, still_marked, still_or_too, told_coded}
use Rattle.h3_requests.proofs.over.OverStreams.put_coded.Goals as goal

pub invariant_of-self : goal.invariant_of-self
invariant_of-self c = (still_marked (ways_in c.self.inside.ways) (ways_in c.coded_way-way.new.ways) (mark_at c.self.inside.groups) (mark_at c.self.inside.groups) (mark_at c.self.inside.marks) (mark_at c.self.inside.marks) c.self.invariant.0 (have_ways (ways_in c.self.inside.ways) (ways_in c.coded_way-way.new.ways) c.args.group c.coded_way-way.ensures.others c.coded_way-way.ensures.rest) (add_ways (ways_in c.self.inside.ways) (ways_in c.coded_way-way.new.ways) c.args.group c.coded_way-way.ensures.adds c.coded_way-way.ensures.rest) (λ id. refl) (λ q some. refl), c.self.invariant.1, c.self.invariant.2)

pub returns-then-way-eq0-clause-same : goal.returns-then-way-eq0-clause-same
returns-then-way-eq0-clause-same c = λ none. same_marked (ways_in c.self.inside.ways) (ways_in c.coded_way-way.new.ways) (mark_at c.self.inside.groups) (mark_at c.self.inside.groups) (mark_at c.self.inside.marks) (mark_at c.self.inside.marks) (code_at c.self.inside.codes) (code_at c.self.inside.codes) c.self.invariant.0 (have_ways (ways_in c.self.inside.ways) (ways_in c.coded_way-way.new.ways) c.args.group c.coded_way-way.ensures.others c.coded_way-way.ensures.rest) (λ id. refl) (λ q some. refl) (λ q some. refl) ∙ c.self.view_is

pub invariant_of-self-then-not-set_both : goal.invariant_of-self-then-not-set_both
invariant_of-self-then-not-set_both c =
    let unset = c.if-not-set_both.true in (
      still_marked (ways_in c.self.inside.ways) (ways_in c.coded_way-way.new.ways) (mark_at c.self.inside.groups) (mark_at c.set_both.new.groups) (mark_at c.self.inside.marks) (mark_at c.self.inside.marks) c.self.invariant.0 (have_ways (ways_in c.self.inside.ways) (ways_in c.coded_way-way.new.ways) c.args.group c.coded_way-way.ensures.others c.coded_way-way.ensures.rest) (add_ways (ways_in c.self.inside.ways) (ways_in c.coded_way-way.new.ways) c.args.group c.coded_way-way.ensures.adds c.coded_way-way.ensures.rest) (λ id. refl) (λ q some. c.set_both.ensures.same_groups (search rules) q),
      c.self.invariant.1,
      c.set_both.ensures.below,
    )

pub returns-then-not-set_both-clause-same : goal.returns-then-not-set_both-clause-same
returns-then-not-set_both-clause-same c = λ none.
    same_marked (ways_in c.self.inside.ways) (ways_in c.coded_way-way.new.ways) (mark_at c.self.inside.groups) (mark_at c.set_both.new.groups) (mark_at c.self.inside.marks) (mark_at c.self.inside.marks) (code_at c.self.inside.codes) (code_at c.set_both.new.codes) c.self.invariant.0 (have_ways (ways_in c.self.inside.ways) (ways_in c.coded_way-way.new.ways) c.args.group c.coded_way-way.ensures.others c.coded_way-way.ensures.rest) (λ id. refl) (λ q some. c.set_both.ensures.same_groups (search rules) q) (λ q some. c.set_both.ensures.same_codes (search rules) q) ∙ c.self.view_is

pub invariant_of-self-2 : goal.invariant_of-self-2
invariant_of-self-2 c =
    let both : c.set_both.result ≡ true = search rules in
    let g : IsOneMark c.into_inner-number.result c.args.group (mark_at c.self.inside.groups) (mark_at c.set_both.new.groups) = c.set_both.ensures.group both in (
      still_or_too (ways_in c.self.inside.ways) (ways_in c.coded_way-way.new.ways) (mark_at c.self.inside.groups) (mark_at c.set_both.new.groups) (mark_at c.self.inside.marks) (mark_at c.set.new.self) c.into_inner-number.result c.args.group c.coded_way-way.result c.set.result c.self.invariant.0 (have_ways (ways_in c.self.inside.ways) (ways_in c.coded_way-way.new.ways) c.args.group c.coded_way-way.ensures.others c.coded_way-way.ensures.rest) (add_ways (ways_in c.self.inside.ways) (ways_in c.coded_way-way.new.ways) c.args.group c.coded_way-way.ensures.adds c.coded_way-way.ensures.rest) (λ set. g) (λ unset. (λ q some. g.others q (λ is. some (ap (mark_at c.self.inside.marks) is ∙ c.set.ensures.none unset)))) c.set.ensures.set c.set.ensures.same c.coded_way-way.ensures.known,
      c.set.ensures.below c.self.invariant.1,
      c.set_both.ensures.below,
    )

pub returns-clause-put : goal.returns-clause-put
returns-clause-put c = λ set.
    let some : 0 < c.coded_way-way.result = omega (arith, c.if-way-eq0.false) in
    let both : c.set_both.result ≡ true = search rules in
    let one : IsOneMark c.into_inner-number.result c.args.code (code_at c.self.inside.codes) (code_at c.set_both.new.codes) = c.set_both.ensures.code both in
    marked_in (ways_in c.self.inside.ways) (ways_in c.coded_way-way.new.ways) (mark_at c.self.inside.groups) (mark_at c.set_both.new.groups) (mark_at c.self.inside.marks) (mark_at c.set.new.self) (code_at c.self.inside.codes) (code_at c.set_both.new.codes) c.args.self.now c.into_inner-number.result c.args.id c.args.group c.coded_way-way.result c.args.stream.now c.self.view_is c.self.invariant.0
    (have_ways (ways_in c.self.inside.ways) (ways_in c.coded_way-way.new.ways) c.args.group c.coded_way-way.ensures.others c.coded_way-way.ensures.rest) c.into_inner-number.ensures.value c.into_inner-number.ensures.bound (c.set_both.ensures.group both) (c.set.ensures.set set) one.others
    (told_coded (ways_in c.coded_way-way.new.ways c.args.group) c.coded_way-way.result c.args.code (code_at c.set_both.new.codes c.into_inner-number.result) c.args.stream.now (reset_with c.args.stream.now 0) (c.coded_way-way.ensures.is some) refl one.own c.requires.reset)

pub returns-clause-same : goal.returns-clause-same
returns-clause-same c = λ unset.
    let both : c.set_both.result ≡ true = search rules in
    let g : IsOneMark c.into_inner-number.result c.args.group (mark_at c.self.inside.groups) (mark_at c.set_both.new.groups) = c.set_both.ensures.group both in
    let one : IsOneMark c.into_inner-number.result c.args.code (code_at c.self.inside.codes) (code_at c.set_both.new.codes) = c.set_both.ensures.code both in
    same_marked (ways_in c.self.inside.ways) (ways_in c.coded_way-way.new.ways) (mark_at c.self.inside.groups) (mark_at c.set_both.new.groups) (mark_at c.self.inside.marks) (mark_at c.set.new.self) (code_at c.self.inside.codes) (code_at c.set_both.new.codes) c.self.invariant.0 (have_ways (ways_in c.self.inside.ways) (ways_in c.coded_way-way.new.ways) c.args.group c.coded_way-way.ensures.others c.coded_way-way.ensures.rest) (c.set.ensures.same unset)
    (λ q some. g.others q (λ is. some (ap (mark_at c.self.inside.marks) is ∙ c.set.ensures.none unset))) (λ q some. one.others q (λ is. some (ap (mark_at c.self.inside.marks) is ∙ c.set.ensures.none unset))) ∙ c.self.view_is

pub coded_way-way-requires-clause-ways : goal.coded_way-way-requires-clause-ways
coded_way-way-requires-clause-ways c = c.self.invariant.0.over
