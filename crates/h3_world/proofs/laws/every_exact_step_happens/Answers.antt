use Rattle.h3_world.proofs.Begins.{empty_sound}
use Rattle.h3_world.proofs.Happening.{step_happens}
use Rattle.h3_world.proofs.Runs.{exact_happens}
use Rattle.h3_world.proofs.StepsSound.{step_sound}
use Rattle.h3_world.proofs.laws.every_exact_step_happens.Goals as goal

pub returns-clause-begins : goal.returns-clause-begins
returns-clause-begins c = empty_sound

pub returns-clause-kept : goal.returns-clause-kept
returns-clause-kept c = step_sound (record {
  sound = λ counts most. c.every_session_is_sound.ensures counts most 0 0;
  inserts_none = c.encoders_without_insertions_use_no_table.ensures.inserts;
  still_empty = c.encoders_without_insertions_use_no_table.ensures.still;
})

pub returns-clause-happens : goal.returns-clause-happens
returns-clause-happens c = step_happens (record {
  sound = λ counts most. c.every_session_is_sound.ensures counts most 0 0;
  inserts_none = c.encoders_without_insertions_use_no_table.ensures.inserts;
  still_empty = c.encoders_without_insertions_use_no_table.ensures.still;
})

pub returns-clause-both : goal.returns-clause-both
returns-clause-both c = exact_happens (record {
  sound = λ counts most. c.every_session_is_sound.ensures counts most 0 0;
  inserts_none = c.encoders_without_insertions_use_no_table.ensures.inserts;
  still_empty = c.encoders_without_insertions_use_no_table.ensures.still;
})
