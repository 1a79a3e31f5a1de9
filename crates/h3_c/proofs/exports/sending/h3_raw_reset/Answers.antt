-- Where sessions are off.
use Rattle.h3_c.specs.Does.CallOfC.{Reset}
use Rattle.h3_c.proofs.Alone.{goes_alone}
use Rattle.h3_c.proofs.exports.sending.h3_raw_reset.Goals as goal

pub returns-clause-goes : goal.returns-clause-goes
returns-clause-goes c =
    rw (c.answered.ensures.number, c.answered.ensures.detail) (goes_alone (Reset c.args.id c.reset-told.result) _ _ _ _ _ c.opened-connection.ensures c.deref_mut.ensures.value c.answered.ensures.kept
    c.reset-told.ensures)
