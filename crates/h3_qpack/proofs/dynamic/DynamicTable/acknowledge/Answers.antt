use Rattle.std.proofs.Common.{◌≡◌, false, sym, ◌∙◌, ap}
use Rattle.std.specs.List.{list_any}
use Rattle.h3_table.specs.ReleasingLaws.{none_removed}
use Rattle.h3_table.specs.Tracking.{is_of}
use Rattle.h3_qpack.proofs.dynamic.DynamicTable.acknowledge.Goals as goal

pub returns-in_default-clause-none : goal.returns-in_default-clause-none
returns-in_default-clause-none c =
    let none : list_any (is_of c.args.stream) c.self.inside.tracking.sections ≡ false = sym c.in_default.ensures.found in
    let same : c.release.new.self ≡ c.self.inside.tracking =
    c.in_default.ensures.after ∙ ap (λ ts. record c.self.inside.tracking { sections = ts }) (none_removed c.args.stream c.self.inside.tracking.sections none) in
    λ e. rw same c.self.view_is
