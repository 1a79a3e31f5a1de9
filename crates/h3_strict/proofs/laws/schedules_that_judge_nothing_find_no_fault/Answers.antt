use Rattle.h3_world.specs.Ends.{new_ends}
use Rattle.h3_strict.proofs.Faultless.{finds_none}
use Rattle.h3_strict.proofs.PlainRuns.{runs_plainly}
use Rattle.h3_strict.proofs.laws.schedules_that_judge_nothing_find_no_fault.Goals as goal

pub returns : goal.returns
returns c = λ setup events strict made sendable none.
    finds_none strict setup made c.two_endpoints_run_in_a_world.ensures events sendable none
    (c.strict_endpoints_hand_out_what_was_sent.ensures.fault setup events made sendable (runs_plainly (new_ends setup) events none))
