use Rattle.h3_memory.proofs.MemoryRuns.{as_many, no_fault_at, front_at, all_at}
use Rattle.h3_memory.specs.Kept.{nothing_kept}
use Rattle.h3_world.specs.World.{empty_world}
use Rattle.h3_memory.proofs.laws.what_is_pulled_with_memory_refused_is_what_was_sent.Goals as goal

pub returns-clause-as_many : goal.returns-clause-as_many
returns-clause-as_many c = λ setup events answers k run. as_many setup (nothing_kept (empty_world setup)) k events answers run

pub returns-clause-fault : goal.returns-clause-fault
returns-clause-fault c = λ setup events answers k run. no_fault_at setup (nothing_kept (empty_world setup)) k events answers run

pub returns-clause-front : goal.returns-clause-front
returns-clause-front c = front_at (record {
  worlds = c.what_is_cited_holds.ensures.worlds;
  insertions = c.what_refused_memory_leaves_is_sound.ensures.insertions;
  held = c.what_refused_memory_leaves_is_sound.ensures.held;
  bytes = c.what_refused_memory_leaves_is_sound.ensures.bytes;
}) c.what_is_cited_holds.ensures.worlds

pub returns-clause-end : goal.returns-clause-end
returns-clause-end c = λ setup events answers k side id sendable run ended.
    let r = all_at (record {
      worlds = c.what_is_cited_holds.ensures.worlds;
      insertions = c.what_refused_memory_leaves_is_sound.ensures.insertions;
      held = c.what_refused_memory_leaves_is_sound.ensures.held;
      bytes = c.what_refused_memory_leaves_is_sound.ensures.bytes;
    }) c.what_is_cited_holds.ensures.worlds setup events answers k side id sendable run ended in
    (r.all, r.has_finished)
