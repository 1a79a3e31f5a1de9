use Rattle.std.proofs.Common.{◌∙◌, ◌∷◌, ap, take}
use Rattle.h3_qpack.specs.Marks.{with_mark}
use Rattle.h3_qpack.proofs.Shifts.{around, put_in_front}
use Rattle.h3_qpack.proofs.marks.Marks.add.Goals as goal

pub returns : goal.returns
returns c =
    put_in_front c.self.inside.marks c.self.inside.newest c.place_before-oldest.result c.value_mark-mark.result c.self.invariant.0 c.self.invariant.1 c.place_before-oldest.ensures.first c.place_before-oldest.ensures.others
    ∙ ap (λ mark. mark ∷ take 31 (around c.self.inside.marks c.self.inside.newest)) c.value_mark-mark.ensures ∙ ap (λ marks. with_mark marks c.args.value.now) c.self.view_is
