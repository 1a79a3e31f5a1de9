use Rattle.std.proofs.Common.{subst}
use Rattle.h3_memory.specs.Refused.{EndsRun}
use Rattle.h3_world.specs.Ends.{new_ends}
use Rattle.h3_c.proofs.GivenBytes.{are_typed}
use Rattle.h3_c.proofs.MadeHandles.{setup_stands}
use Rattle.h3_c.proofs.OrderedRuns.{run_ordered}
use Rattle.h3_c.proofs.ProgramRuns.{acts_run, new_both, new_stand}
use Rattle.h3_c.proofs.laws.each_program_gets_what_the_other_sent.Goals as goal

pub returns : goal.returns
returns c = λ setup h g acts made happen.
    let stand = new_stand made in
    let on = acts_run c.calls_are_steps_of_two_endpoints.ensures.steps acts h g (new_ends setup) stand happen in
    let run = run_ordered on.events on.answers (new_ends setup) on.new on.of (subst (λ x. EndsRun x on.events on.answers on.new) (new_both setup h.carried stand.said) on.run) in (
      on.events,
      on.answers,
      on.stand,
      λ few.
          let sendable = c.schedules_within_bounds_may_be_sent.ensures.any on.events (are_typed on.events on.of) few in
          c.each_side_gets_what_the_other_sent.ensures.faithful setup on.events on.answers run.new (setup_stands made) sendable run.run,
    )
