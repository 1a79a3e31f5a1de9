use Rattle.h3_memory.proofs.GivesUpKept.{gives_at_once, gives_behind}
use Rattle.h3_memory.proofs.laws.a_side_gives_a_stream_up.Goals as goal

pub returns-clause-at_once : goal.returns-clause-at_once
returns-clause-at_once c = gives_at_once (record {
  worlds = c.what_is_cited_holds.ensures.worlds;
  insertions = c.what_refused_memory_leaves_is_sound.ensures.insertions;
  held = c.what_refused_memory_leaves_is_sound.ensures.held;
  bytes = c.what_refused_memory_leaves_is_sound.ensures.bytes;
}) c.a_side_gives_a_stream_up.ensures

pub returns-clause-behind : goal.returns-clause-behind
returns-clause-behind c = gives_behind (record {
  worlds = c.what_is_cited_holds.ensures.worlds;
  insertions = c.what_refused_memory_leaves_is_sound.ensures.insertions;
  held = c.what_refused_memory_leaves_is_sound.ensures.held;
  bytes = c.what_refused_memory_leaves_is_sound.ensures.bytes;
}) c.a_side_gives_a_stream_up.ensures
