-- Where sessions are off.
use Rattle.h3_c.specs.Does.CallOfC.{NextByPriority}
use Rattle.h3_c.specs.Numbers.{number}
use Rattle.h3_c.proofs.Alone.{goes_alone}
use Rattle.h3_c.proofs.exports.ordering.h3_raw_next_by_priority.Goals as goal

pub returns-clause-goes : goal.returns-clause-goes
returns-clause-goes c =
    goes_alone (NextByPriority c.args.id.now c.next_by_priority-told.new.id (number c.next_by_priority-told.result.number 0)) _ _ _ _ _ c.opened-connection.ensures c.deref_mut.ensures.value c.kept.ensures
    c.next_by_priority-told.ensures
