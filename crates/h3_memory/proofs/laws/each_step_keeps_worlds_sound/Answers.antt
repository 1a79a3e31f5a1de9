use Rattle.h3_memory.proofs.HappensKeeping.{step_happens}
use Rattle.h3_memory.proofs.StepsKept.{step_keeps}
use Rattle.h3_memory.proofs.laws.each_step_keeps_worlds_sound.Goals as goal

pub returns-clause-happens : goal.returns-clause-happens
returns-clause-happens c = λ setup k new e a sendable h step exact. (step_happens (record {
  worlds = c.what_is_cited_holds.ensures.worlds;
  insertions = c.what_refused_memory_leaves_is_sound.ensures.insertions;
  held = c.what_refused_memory_leaves_is_sound.ensures.held;
  bytes = c.what_refused_memory_leaves_is_sound.ensures.bytes;
}) c.what_is_cited_holds.ensures.worlds setup k new e a sendable h step exact).happens

pub returns-clause-sound : goal.returns-clause-sound
returns-clause-sound c = step_keeps (record {
  worlds = c.what_is_cited_holds.ensures.worlds;
  insertions = c.what_refused_memory_leaves_is_sound.ensures.insertions;
  held = c.what_refused_memory_leaves_is_sound.ensures.held;
  bytes = c.what_refused_memory_leaves_is_sound.ensures.bytes;
}) c.what_is_cited_holds.ensures.worlds
