use Rattle.h3_memory.proofs.EveryEvent.{ends_run}
use Rattle.h3_memory.proofs.laws.two_endpoints_run_with_memory.Goals as goal

pub returns : goal.returns
returns c = ends_run (record {
  worlds = c.what_is_cited_holds.ensures.worlds;
  insertions = c.what_refused_memory_leaves_is_sound.ensures.insertions;
  held = c.what_refused_memory_leaves_is_sound.ensures.held;
  bytes = c.what_refused_memory_leaves_is_sound.ensures.bytes;
}) c.what_is_cited_holds.ensures
