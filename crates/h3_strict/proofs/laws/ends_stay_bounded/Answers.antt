use Rattle.h3_strict.proofs.BoundedEnds.{few_wait, keeps_bounds, new_bounds}
use Rattle.h3_strict.proofs.laws.ends_stay_bounded.Goals as goal

pub returns-clause-made : goal.returns-clause-made
returns-clause-made c = new_bounds c.tries_and_waiting_streams_are_bounded.ensures.calls

pub returns-clause-kept : goal.returns-clause-kept
returns-clause-kept c =
    let bounds = c.tries_and_waiting_streams_are_bounded.ensures in
    keeps_bounds bounds.call bounds.arrives bounds.pulls

pub returns-clause-few : goal.returns-clause-few
returns-clause-few c = few_wait c.tries_and_waiting_streams_are_bounded.ensures.part
