use Rattle.h3_world.specs.World.{empty_world}
use Rattle.h3_world.proofs.Begins.{empty_sound}
use Rattle.h3_world.proofs.Runs.{machine_runs, run_happens}
use Rattle.h3_world.proofs.laws.every_schedule_runs.Goals as goal

pub returns-clause-machine : goal.returns-clause-machine
returns-clause-machine c = λ setup events send. (machine_runs (record {
  sound = λ counts most. c.every_session_is_sound.ensures counts most 0 0;
  inserts_none = c.encoders_without_insertions_use_no_table.ensures.inserts;
  still_empty = c.encoders_without_insertions_use_no_table.ensures.still;
}) setup (empty_world setup) events send (empty_sound setup)).0

pub returns-clause-exact : goal.returns-clause-exact
returns-clause-exact c = λ setup events answers new send run. run_happens (record {
  sound = λ counts most. c.every_session_is_sound.ensures counts most 0 0;
  inserts_none = c.encoders_without_insertions_use_no_table.ensures.inserts;
  still_empty = c.encoders_without_insertions_use_no_table.ensures.still;
}) setup (empty_world setup) new events answers send (empty_sound setup) run
