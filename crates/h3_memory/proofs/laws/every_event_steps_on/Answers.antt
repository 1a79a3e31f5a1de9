use Rattle.h3_memory.proofs.EveryEvent.{every_event}
use Rattle.h3_memory.proofs.FramesStep.{frames_step}
use Rattle.h3_memory.proofs.KeptLaws.{KeptLaws}
use Rattle.h3_memory.proofs.laws.every_event_steps_on.Goals as goal

pub returns : goal.returns
returns c =
    let q : KeptLaws = record {
      worlds = c.what_is_cited_holds.ensures.worlds;
      insertions = c.what_refused_memory_leaves_is_sound.ensures.insertions;
      held = c.what_refused_memory_leaves_is_sound.ensures.held;
      bytes = c.what_refused_memory_leaves_is_sound.ensures.bytes;
    } in
    λ setup e made plain. every_event q c.what_is_cited_holds.ensures setup made plain (frames_step q c.what_is_cited_holds.ensures setup made) e
