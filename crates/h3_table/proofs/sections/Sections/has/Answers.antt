use Rattle.std.proofs.Common.{◌++◌, ◌||◌, sym, ◌∙◌, ap}
use Rattle.std.specs.List.{list_any}
use Rattle.std.proofs.lemmas.List.Folds.{list_any-append}
use Rattle.h3_table.specs.declared.tracking.TrackedSection.{TrackedSection}
use Rattle.h3_table.specs.Tracking.{is_of}
use Rattle.h3_table.specs.InOrderLaws.{any_in_order}
use Rattle.h3_table.proofs.sections.Sections.has.Goals as goal

pub returns-then-has : goal.returns-then-has
returns-then-has c =
    let ps = c.self.inside.places.sections in
    let fs = c.self.inside.further in
    rw (← c.self.view_is)
    (sym (any_in_order (is_of c.args.stream) (λ (t : TrackedSection). t.stream) (ps ++ fs) ∙ list_any-append (is_of c.args.stream) ps fs
    ∙ ap (λ b. b || list_any (is_of c.args.stream) fs) (sym c.if-has.ensures)))

pub returns : goal.returns
returns c =
    let ps = c.self.inside.places.sections in
    let fs = c.self.inside.further in
    rw (← c.self.view_is)
    (c.has-2.ensures.value
    ∙ sym (any_in_order (is_of c.args.stream) (λ (t : TrackedSection). t.stream) (ps ++ fs) ∙ list_any-append (is_of c.args.stream) ps fs
    ∙ ap (λ b. b || list_any (is_of c.args.stream) fs) (sym c.if-has.ensures)))
