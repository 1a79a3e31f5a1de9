-- Where sessions are off.
use Rattle.h3_c.specs.Does.CallOfC.{EndTaken}
use Rattle.h3_c.specs.Numbers.{number}
use Rattle.h3_c.proofs.Alone.{goes_alone}
use Rattle.h3_c.proofs.exports.ending.h3_raw_end_taken.Goals as goal

pub returns-clause-goes : goal.returns-clause-goes
returns-clause-goes c =
    goes_alone (EndTaken c.args.id (number c.end_taken-told.result.number 0)) _ _ _ _ _ c.opened-connection.ensures c.deref_mut.ensures.value c.kept.ensures
    c.end_taken-told.ensures
