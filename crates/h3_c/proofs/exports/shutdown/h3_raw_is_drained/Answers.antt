-- Where sessions are off.
use Rattle.h3_c.specs.Does.CallOfC.{IsDrained}
use Rattle.h3_c.specs.Numbers.{number}
use Rattle.h3_c.proofs.Alone.{looks_alone}
use Rattle.h3_c.proofs.exports.shutdown.h3_raw_is_drained.Goals as goal

pub returns-clause-goes : goal.returns-clause-goes
returns-clause-goes c =
    looks_alone (IsDrained c.is_drained-told.new.drained (number c.is_drained-told.result.number 0)) _ _ _ _ c.opened-connection.ensures c.deref.ensures c.kept.ensures
    c.is_drained-told.ensures
