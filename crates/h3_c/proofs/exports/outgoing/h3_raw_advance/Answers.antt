-- Where sessions are off.
use Rattle.h3_c.specs.Does.CallOfC.{Advance}
use Rattle.h3_c.specs.Numbers.{number}
use Rattle.h3_c.proofs.Alone.{goes_alone}
use Rattle.h3_c.proofs.exports.outgoing.h3_raw_advance.Goals as goal

pub returns-clause-goes : goal.returns-clause-goes
returns-clause-goes c =
    goes_alone (Advance c.args.id c.args.count (number c.advance-told.result.number 0)) _ _ _ _ _ c.opened-connection.ensures c.deref_mut.ensures.value c.kept.ensures
    c.advance-told.ensures
