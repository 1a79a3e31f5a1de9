-- Where sessions are off.
use Rattle.h3_c.specs.Does.CallOfC.{Deliver}
use Rattle.h3_c.proofs.Alone.{goes_alone}
use Rattle.h3_c.proofs.exports.receiving.h3_raw_deliver.Goals as goal

pub returns-clause-goes : goal.returns-clause-goes
returns-clause-goes c =
    rw (c.answered.ensures.number, c.answered.ensures.detail) (goes_alone (Deliver c.args.id c.args.bytes.now c.deliver-told.result) _ _ _ _ _ c.opened-connection.ensures c.deref_mut.ensures.value c.answered.ensures.kept
    c.deliver-told.ensures)
