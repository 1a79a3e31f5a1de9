use Rattle.h3_headline.specs.Changes.{StaysAs, goes_away, resets_on}
use Rattle.h3_headline.specs.Contents.{GoneStays}
use Rattle.h3_headline.specs.GoneLaws.{as_allowed, as_steps, gone_allowed, gone_steps}
use Rattle.h3_memory.proofs.EventsKept.{catches_up}
use Rattle.h3_memory.proofs.KeptLaws.{KeptLaws}
use Rattle.h3_memory.proofs.MemoryChanges.{caught_stays, step_stays}
use Rattle.h3_memory.proofs.MemoryMoves.{caught_keeps, step_moves}
use Rattle.h3_memory.proofs.MemoryRuns.{begins_sound}
use Rattle.h3_memory.proofs.laws.each_step_moves_messages.Goals as goal

pub returns-clause-begins : goal.returns-clause-begins
returns-clause-begins c = λ setup. begins_sound c.what_is_cited_holds.ensures.worlds setup

pub returns-clause-moves : goal.returns-clause-moves
returns-clause-moves c = step_moves (record {
  worlds = c.what_is_cited_holds.ensures.worlds;
  insertions = c.what_refused_memory_leaves_is_sound.ensures.insertions;
  held = c.what_refused_memory_leaves_is_sound.ensures.held;
  bytes = c.what_refused_memory_leaves_is_sound.ensures.bytes;
})

pub returns-clause-gone : goal.returns-clause-gone
returns-clause-gone c = λ setup k new e a. step_stays GoneStays gone_steps (record {
  worlds = c.what_is_cited_holds.ensures.worlds;
  insertions = c.what_refused_memory_leaves_is_sound.ensures.insertions;
  held = c.what_refused_memory_leaves_is_sound.ensures.held;
  bytes = c.what_refused_memory_leaves_is_sound.ensures.bytes;
}) setup k new e a (gone_allowed k.world e a)

pub returns-clause-stays : goal.returns-clause-stays
returns-clause-stays c = λ setup k new e a writer id.
    step_stays (StaysAs writer id (resets_on writer id e a) (goes_away e a)) (as_steps writer id (resets_on writer id e a) (goes_away e a)) (record {
      worlds = c.what_is_cited_holds.ensures.worlds;
      insertions = c.what_refused_memory_leaves_is_sound.ensures.insertions;
      held = c.what_refused_memory_leaves_is_sound.ensures.held;
      bytes = c.what_refused_memory_leaves_is_sound.ensures.bytes;
    }) setup k new e a (as_allowed k.world e a writer id)

pub returns-clause-caught_as : goal.returns-clause-caught_as
returns-clause-caught_as c = λ setup k side writer id resets goes. caught_stays (StaysAs writer id resets goes) (as_steps writer id resets goes) (record {
  worlds = c.what_is_cited_holds.ensures.worlds;
  insertions = c.what_refused_memory_leaves_is_sound.ensures.insertions;
  held = c.what_refused_memory_leaves_is_sound.ensures.held;
  bytes = c.what_refused_memory_leaves_is_sound.ensures.bytes;
}) setup k side

pub returns-clause-caught : goal.returns-clause-caught
returns-clause-caught c = λ setup k side h.
    let q : KeptLaws = (record {
      worlds = c.what_is_cited_holds.ensures.worlds;
      insertions = c.what_refused_memory_leaves_is_sound.ensures.insertions;
      held = c.what_refused_memory_leaves_is_sound.ensures.held;
      bytes = c.what_refused_memory_leaves_is_sound.ensures.bytes;
    }) in
    (caught_keeps q setup k side h, caught_stays GoneStays gone_steps q setup k side h, (catches_up q setup k side h).sound)
