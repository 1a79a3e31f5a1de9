-- Where sessions are off.
use Rattle.h3_c.specs.Does.CallOfC.{DeliverReset}
use Rattle.h3_c.proofs.Alone.{goes_alone}
use Rattle.h3_c.proofs.exports.receiving.h3_raw_deliver_reset.Goals as goal

pub returns-clause-goes : goal.returns-clause-goes
returns-clause-goes c =
    rw (c.answered.ensures.number, c.answered.ensures.detail) (goes_alone (DeliverReset c.args.id c.args.code c.deliver_reset-told.result) _ _ _ _ _ c.opened-connection.ensures c.deref_mut.ensures.value c.answered.ensures.kept
    c.deliver_reset-told.ensures)
