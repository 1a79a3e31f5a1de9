-- The answers are those of the run, whose endpoints are let go.
use Rattle.h3_world.specs.Ends.{new_ends}
use Rattle.h3_session.specs.Headlines.{RunsInKeepingWorld, RunsInWorld}
use Rattle.h3_talk.proofs.talk.answers_to.Goals as goal

pub returns-in-Ok : goal.returns-in-Ok
returns-in-Ok c =
    let out = c.in-Ok.outcome in
    let kept : RunsInKeepingWorld c.args.setup c.args.events.now out.answers.items out.client out.server = (c.in-Ok.ensures.world c.requires.small).plainly c.requires.plain in
    rw c.answers_of.ensures (record {
      each = c.calls_are_steps_of_two_endpoints.ensures.each (new_ends c.args.setup) c.args.events.now out.answers.items out.client out.server c.in-Ok.ensures.calls;
      faithful = c.in-Ok.ensures.faithful c.requires.small;
      whole = λ not_memory.
          let runs : RunsInWorld c.args.setup c.args.events.now out.answers.items out.client out.server = c.in-Ok.ensures.headline not_memory c.requires.small c.requires.plain in
          record {
            world = runs.world;
            run = runs.run;
            of_ends = (c.calls_are_steps_of_two_endpoints.ensures.whole (new_ends c.args.setup) c.args.events.now out.answers.items out.client out.server c.in-Ok.ensures.calls not_memory).answered_so;
          };
      world = kept.runs.world;
      run = kept.runs.run;
    })
