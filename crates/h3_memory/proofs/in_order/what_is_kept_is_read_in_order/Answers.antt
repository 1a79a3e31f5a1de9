use Rattle.h3_memory.proofs.KeptInOrder.{caught_already, first_kept, settles_so, waits_so}
use Rattle.h3_memory.proofs.KeptLaws.{KeptLaws}
use Rattle.h3_memory.proofs.in_order.what_is_kept_is_read_in_order.Goals as goal

pub returns-clause-first : goal.returns-clause-first
returns-clause-first c =
    let q : KeptLaws = record {
      worlds = c.what_is_cited_holds.ensures.worlds;
      insertions = c.what_refused_memory_leaves_is_sound.ensures.insertions;
      held = c.what_refused_memory_leaves_is_sound.ensures.held;
      bytes = c.what_refused_memory_leaves_is_sound.ensures.bytes;
    } in
    λ setup k ends side a arrivals made h kept. first_kept q c.what_is_cited_holds.ensures setup k ends side a arrivals made h kept

pub returns-clause-none : goal.returns-clause-none
returns-clause-none c = λ setup k ends side h kept. caught_already setup k ends side h kept

pub returns-clause-waits : goal.returns-clause-waits
returns-clause-waits c = λ setup k ends side id count h kept has fits. waits_so setup k ends side id count h kept has fits

pub returns-clause-settles : goal.returns-clause-settles
returns-clause-settles c = λ setup k ends side id h. settles_so setup k ends side id h
