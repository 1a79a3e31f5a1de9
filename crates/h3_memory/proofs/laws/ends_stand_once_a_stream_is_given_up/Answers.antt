use Rattle.h3_memory.proofs.GivesUpStands.{gives_up_stands}
use Rattle.h3_memory.proofs.KeptLaws.{KeptLaws}
use Rattle.h3_memory.proofs.laws.ends_stand_once_a_stream_is_given_up.Goals as goal

pub returns : goal.returns
returns c =
    let q : KeptLaws = record {
      worlds = c.what_is_cited_holds.ensures.worlds;
      insertions = c.what_refused_memory_leaves_is_sound.ensures.insertions;
      held = c.what_refused_memory_leaves_is_sound.ensures.held;
      bytes = c.what_refused_memory_leaves_is_sound.ensures.bytes;
    } in
    gives_up_stands q c.what_is_cited_holds.ensures c.a_side_gives_a_stream_up.ensures
