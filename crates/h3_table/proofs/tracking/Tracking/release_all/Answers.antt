use Rattle.std.proofs.Common.{◌≡◌, false, sym, ◌∙◌, ap}
use Rattle.std.specs.List.{list_any}
use Rattle.h3_table.specs.Tracking.{TrackingState, is_of, without_oldest_of, without_all_of}
use Rattle.h3_table.specs.ReleasingLaws.{none_removed}
use Rattle.h3_table.proofs.Releases.{all_after_oldest, all_of_none, fewer_left}
use Rattle.h3_table.proofs.tracking.Tracking.release_all.Goals as goal

pub loop-smaller : goal.loop-smaller
loop-smaller c =
    rw c.release.ensures.after (fewer_left c.args.stream c.loop.self.sections (sym (c.loop-test.ensures ∙ c.release.ensures.found)))

pub loop-preserved : goal.loop-preserved
loop-preserved c =
    rw c.release.ensures.after (record {
      same = ap (λ (h : TrackingState). record h { sections = without_oldest_of c.args.stream c.loop.self.sections }) c.loop.invariant.same;
      others = all_after_oldest c.args.stream c.loop.self.sections ∙ c.loop.invariant.others;
    })

pub returns : goal.returns
returns c =
    let none : list_any (is_of c.args.stream) c.loop.self.sections ≡ false = sym (c.loop-test.ensures ∙ c.release.ensures.found) in
    c.release.ensures.after
    ∙ ap (λ ts. record c.loop.self { sections = ts }) (none_removed c.args.stream c.loop.self.sections none ∙ sym (all_of_none c.args.stream c.loop.self.sections none) ∙ c.loop.invariant.others)
    ∙ ap (λ (h : TrackingState). record h { sections = without_all_of c.args.stream c.args.self.now.sections }) c.loop.invariant.same
