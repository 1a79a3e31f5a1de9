use Rattle.h3_memory.proofs.KeptLaws.{KeptLaws}
use Rattle.h3_memory.proofs.PartsStay.{lacks_parts, quiet_parts}
use Rattle.h3_memory.proofs.in_order.quiet_events_move_no_part.Goals as goal

cited : goal.After-what_is_cited_holds → KeptLaws
cited c =
    record {
      worlds = c.what_is_cited_holds.ensures.worlds;
      insertions = c.what_refused_memory_leaves_is_sound.ensures.insertions;
      held = c.what_refused_memory_leaves_is_sound.ensures.held;
      bytes = c.what_refused_memory_leaves_is_sound.ensures.bytes;
    }

pub returns-clause-lacks : goal.returns-clause-lacks
returns-clause-lacks c = λ setup k new e a h told step. lacks_parts (cited c) setup k new e a h told step

pub returns-clause-quiet : goal.returns-clause-quiet
returns-clause-quiet c = λ setup k new e a h is step. quiet_parts (cited c) setup k new e a h is step
