use Rattle.std.proofs.Common.{◌∙◌, ap, arith, [], ◌∷◌}
use Rattle.std.specs.Prelude.{sum}
use Rattle.std.proofs.lemmas.List.Sums.{sum_by-append}
use Rattle.h3_table.specs.Blocking.{counts_from}
use Rattle.h3_table.proofs.Blockings.{zero_behind}
use Rattle.h3_table.proofs.blocking.reach.Goals as goal

pub loop-waiting-preserved : goal.loop-waiting-preserved
loop-waiting-preserved c =
    let is = c.in_ok-push_back.ensures.items in
    record {
      counts = λ n. ap (counts_from n) is ∙ zero_behind n c.loop-waiting.waiting.items ∙ c.loop-waiting.invariant.counts n;
      total = ap sum is ∙ omega (arith, sum_by-append (λ x. x) c.loop-waiting.waiting.items (0 ∷ [])) ∙ c.loop-waiting.invariant.total;
    }
