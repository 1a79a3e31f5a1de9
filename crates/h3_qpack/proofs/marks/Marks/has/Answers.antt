use Rattle.std.proofs.Common.{◌∙◌, ap}
use Rattle.std.specs.Prelude.{◌==◌}
use Rattle.std.specs.List.{list_any}
use Rattle.h3_qpack.specs.Marks.{is_marked, value_mark}
use Rattle.h3_qpack.proofs.Shifts.{any_around}
use Rattle.h3_qpack.proofs.marks.Marks.has.Goals as goal

pub returns : goal.returns
returns c =
    let marks = c.self.inside.marks in
    c.contains.ensures.value ∙ ap (λ mark. list_any (λ other. other == mark) marks) c.value_mark-mark.ensures
    ∙ any_around (λ mark. mark == value_mark c.args.value.now) marks c.self.inside.newest ∙ ap (λ all. is_marked all c.args.value.now) c.self.view_is
