-- Its mark goes up to the way with the end taken.
use Rattle.std.proofs.Common.{arith, ◌≡◌, ◌+◌, true, false, refl, rules, sym, ap, ◌∙◌}
use Rattle.std.specs.Prelude.{Some, option_copied}
use Rattle.h3_connection.specs.State.{kept_at}
use Rattle.h3_outgoing.specs.Sent.{end_waits}
use Rattle.h3_requests.specs.HasBytes.{has_end}
use Rattle.h3_requests.specs.Marks.{code_at, mark_at, IsOneMark}
use Rattle.h3_requests.specs.Over.{over_so, way_at, ways_in}
use Rattle.h3_requests.proofs.Ways.{goes_on, next_way, none_more, over_found, over_known, over_lent, same_ways, so_waits, still_or_too, told, was_set}
use Rattle.h3_requests.proofs.over.OverStreams.take_end.Goals as goal

pub returns-then-way-eq0-clause-told : goal.returns-then-way-eq0-clause-told
returns-then-way-eq0-clause-told c =
    sym (ap has_end (over_found (ways_in c.self.inside.ways) (mark_at c.self.inside.groups) (mark_at c.self.inside.marks) (code_at c.self.inside.codes) c.args.self.now c.into_inner-number.result c.args.id 0 c.self.view_is c.into_inner-number.ensures.value c.into_inner-number.ensures.bound (sym c.if-way-eq0.true ∙ c.get-way.ensures)))

pub returns-then-way-eq0-clause-over : goal.returns-then-way-eq0-clause-over
returns-then-way-eq0-clause-over c = over_known (ways_in c.self.inside.ways) (mark_at c.self.inside.groups) (mark_at c.self.inside.marks) (code_at c.self.inside.codes) c.args.self.now c.into_inner-number.result c.args.id c.self.view_is c.into_inner-number.ensures.value c.into_inner-number.ensures.bound c.self.invariant.0

pub returns-in_default-clause-over : goal.returns-in_default-clause-over
returns-in_default-clause-over c = over_known (ways_in c.self.inside.ways) (mark_at c.self.inside.groups) (mark_at c.self.inside.marks) (code_at c.self.inside.codes) c.args.self.now c.into_inner-number.result c.args.id c.self.view_is c.into_inner-number.ensures.value c.into_inner-number.ensures.bound c.self.invariant.0

pub returns-then-not-end_waits-clause-told : goal.returns-then-not-end_waits-clause-told
returns-then-not-end_waits-clause-told c =
    let there : kept_at c.args.self.now c.args.id ≡ Some (over_so c.in-Some.kept.now (code_at c.self.inside.codes c.into_inner-number.result)) =
    over_lent (ways_in c.self.inside.ways) (mark_at c.self.inside.groups) (mark_at c.self.inside.marks) (code_at c.self.inside.codes) c.args.self.now c.into_inner-number.result c.args.id c.get_if_any-group.result c.get-way.result (option_copied c.get.result) c.self.view_is c.into_inner-number.ensures.value c.into_inner-number.ensures.bound
    c.get_if_any-group.ensures c.get-way.ensures c.get.ensures ∙ ap (λ o. told (option_copied o) (code_at c.self.inside.codes c.into_inner-number.result)) c.in-Some.is in
    let off : end_waits c.in-Some.kept.now.stream.outgoing ≡ false = search rules in
    sym (ap has_end there ∙ so_waits c.in-Some.kept.now (code_at c.self.inside.codes c.into_inner-number.result) ∙ off)

pub returns-then-not-end_waits-clause-over : goal.returns-then-not-end_waits-clause-over
returns-then-not-end_waits-clause-over c = over_known (ways_in c.self.inside.ways) (mark_at c.self.inside.groups) (mark_at c.self.inside.marks) (code_at c.self.inside.codes) c.args.self.now c.into_inner-number.result c.args.id c.self.view_is c.into_inner-number.ensures.value c.into_inner-number.ensures.bound c.self.invariant.0

pub overflow_add-way : goal.overflow_add-way
overflow_add-way c =
    let way : way_at (ways_in c.self.inside.ways c.get_if_any-group.result) c.get-way.result ≡ Some c.in-Some.kept.now = sym c.get.ensures ∙ ap option_copied c.in-Some.is in
    let on : end_waits c.in-Some.kept.now.stream.outgoing ≡ true = search rules in
    let next = next_way (ways_in c.self.inside.ways) (mark_at c.self.inside.groups) (mark_at c.self.inside.marks) c.get_if_any-group.result c.get-way.result c.in-Some.kept.now c.self.invariant.0 way on in
    omega (arith, next.1)

pub invariant_of-self : goal.invariant_of-self
invariant_of-self c =
    let way : way_at (ways_in c.self.inside.ways c.get_if_any-group.result) c.get-way.result ≡ Some c.in-Some.kept.now = sym c.get.ensures ∙ ap option_copied c.in-Some.is in
    let on : end_waits c.in-Some.kept.now.stream.outgoing ≡ true = search rules in
    let next = next_way (ways_in c.self.inside.ways) (mark_at c.self.inside.groups) (mark_at c.self.inside.marks) c.get_if_any-group.result c.get-way.result c.in-Some.kept.now c.self.invariant.0 way on in
    let grouped : c.get_if_any-group.result ≡ mark_at c.self.inside.groups c.into_inner-number.result = c.get_if_any-group.ensures in
    let own : IsOneMark c.into_inner-number.result c.get_if_any-group.result (mark_at c.self.inside.groups) (mark_at c.self.inside.groups) = record { own = sym grouped; others = λ q differs. refl } in (
      still_or_too (ways_in c.self.inside.ways) (ways_in c.self.inside.ways) (mark_at c.self.inside.groups) (mark_at c.self.inside.groups) (mark_at c.self.inside.marks) (mark_at c.set.new.self) c.into_inner-number.result c.get_if_any-group.result (c.get-way.result + 1) c.set.result c.self.invariant.0
          (λ group. same_ways (ways_in c.self.inside.ways group)) (λ group. none_more (ways_in c.self.inside.ways group)) (λ set. own) (λ unset. λ q some. refl) c.set.ensures.set c.set.ensures.same next.2,
      c.set.ensures.below c.self.invariant.1,
      c.self.invariant.2,
    )

pub returns-clause-told : goal.returns-clause-told
returns-clause-told c =
    let there : kept_at c.args.self.now c.args.id ≡ Some (over_so c.in-Some.kept.now (code_at c.self.inside.codes c.into_inner-number.result)) =
    over_lent (ways_in c.self.inside.ways) (mark_at c.self.inside.groups) (mark_at c.self.inside.marks) (code_at c.self.inside.codes) c.args.self.now c.into_inner-number.result c.args.id c.get_if_any-group.result c.get-way.result (option_copied c.get.result) c.self.view_is c.into_inner-number.ensures.value c.into_inner-number.ensures.bound
    c.get_if_any-group.ensures c.get-way.ensures c.get.ensures ∙ ap (λ o. told (option_copied o) (code_at c.self.inside.codes c.into_inner-number.result)) c.in-Some.is in
    let on : end_waits c.in-Some.kept.now.stream.outgoing ≡ true = search rules in
    was_set c.set.result (mark_at c.self.inside.marks c.into_inner-number.result) c.get-way.result c.set.ensures.none c.get-way.ensures c.if-way-eq0.false ∙ sym (ap has_end there ∙ so_waits c.in-Some.kept.now (code_at c.self.inside.codes c.into_inner-number.result) ∙ on)

pub returns-clause-taken : goal.returns-clause-taken
returns-clause-taken c = λ set.
    let way : way_at (ways_in c.self.inside.ways c.get_if_any-group.result) c.get-way.result ≡ Some c.in-Some.kept.now = sym c.get.ensures ∙ ap option_copied c.in-Some.is in
    let there : kept_at c.args.self.now c.args.id ≡ Some (over_so c.in-Some.kept.now (code_at c.self.inside.codes c.into_inner-number.result)) =
    over_lent (ways_in c.self.inside.ways) (mark_at c.self.inside.groups) (mark_at c.self.inside.marks) (code_at c.self.inside.codes) c.args.self.now c.into_inner-number.result c.args.id c.get_if_any-group.result c.get-way.result (option_copied c.get.result) c.self.view_is c.into_inner-number.ensures.value c.into_inner-number.ensures.bound
    c.get_if_any-group.ensures c.get-way.ensures c.get.ensures ∙ ap (λ o. told (option_copied o) (code_at c.self.inside.codes c.into_inner-number.result)) c.in-Some.is in
    let on : end_waits c.in-Some.kept.now.stream.outgoing ≡ true = search rules in
    goes_on (ways_in c.self.inside.ways) (mark_at c.self.inside.groups) (mark_at c.self.inside.marks) (mark_at c.set.new.self) (code_at c.self.inside.codes) c.args.self.now c.into_inner-number.result c.args.id c.get_if_any-group.result c.get-way.result c.in-Some.kept.now c.self.view_is c.self.invariant.0
    c.into_inner-number.ensures.value c.into_inner-number.ensures.bound c.get_if_any-group.ensures (c.set.ensures.set set) way on there

pub returns-clause-over : goal.returns-clause-over
returns-clause-over c = over_known (ways_in c.self.inside.ways) (mark_at c.self.inside.groups) (mark_at c.self.inside.marks) (code_at c.self.inside.codes) c.args.self.now c.into_inner-number.result c.args.id c.self.view_is c.into_inner-number.ensures.value c.into_inner-number.ensures.bound c.self.invariant.0
