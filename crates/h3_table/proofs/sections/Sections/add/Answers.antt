use Rattle.std.proofs.Common.{◌++◌, sym, ◌∙◌, ap, arith, length}
use Rattle.std.proofs.lemmas.Result.{err_from_is_err_and}
use Rattle.h3_table.specs.declared.tracking.TrackedSection.{TrackedSection}
use Rattle.h3_table.specs.InOrder.{in_order, put_last}
use Rattle.h3_table.proofs.PutLast.{length-put_last}
use Rattle.h3_table.proofs.ByStream.{same_in_order, more_in_order}
use Rattle.h3_table.proofs.sections.Sections.add.Goals as goal

pub invariant_of-self : goal.invariant_of-self
invariant_of-self c =
    c.self.invariant ∙ ap length (sym (same_in_order (c.self.inside.places.sections ++ c.self.inside.further) (c.add.new.places.sections ++ c.add.new.further) c.in_err-add.ensures.err))

pub returns-in_err-add-clause-err : goal.returns-in_err-add-clause-err
returns-in_err-add-clause-err c =
    let p = err_from_is_err_and c.from_residual.result c.from_residual.ensures.1 in
    rw p.1 (same_in_order (c.self.inside.places.sections ++ c.self.inside.further) (c.add.new.places.sections ++ c.add.new.further) c.in_err-add.ensures.err ∙ c.self.view_is)

pub invariant_of-self-2 : goal.invariant_of-self-2
invariant_of-self-2 c =
    let more = more_in_order c.args.section (c.self.inside.places.sections ++ c.self.inside.further) (c.add.new.places.sections ++ c.add.new.further) c.in_ok-add.ensures.ok in
    let was = in_order (λ (t : TrackedSection). t.stream) (c.self.inside.places.sections ++ c.self.inside.further) in
    omega (arith, c.in-Some.ensures, c.self.invariant, ap length more, length-put_last (λ (t : TrackedSection). t.stream) c.args.section was)

pub returns-clause-ok : goal.returns-clause-ok
returns-clause-ok c =
    more_in_order c.args.section (c.self.inside.places.sections ++ c.self.inside.further) (c.add.new.places.sections ++ c.add.new.further) c.in_ok-add.ensures.ok ∙ ap (put_last (λ t. t.stream) c.args.section) c.self.view_is

pub returns-clause-few : goal.returns-clause-few
returns-clause-few c =
    let more = more_in_order c.args.section (c.self.inside.places.sections ++ c.self.inside.further) (c.add.new.places.sections ++ c.add.new.further) c.in_ok-add.ensures.ok in
    let was = in_order (λ (t : TrackedSection). t.stream) (c.self.inside.places.sections ++ c.self.inside.further) in
    omega (arith, c.in-Some.ensures, c.self.invariant, ap length more, length-put_last (λ (t : TrackedSection). t.stream) c.args.section was)
