-- Where sessions are off.
use Rattle.h3_c.specs.Does.CallOfC.{Read}
use Rattle.h3_c.proofs.Alone.{goes_alone}
use Rattle.h3_c.proofs.exports.reading.h3_raw_read.Goals as goal

pub returns-clause-goes : goal.returns-clause-goes
returns-clause-goes c =
    rw (c.answered.ensures.number, c.answered.ensures.detail) (goes_alone (Read c.args.id c.args.bytes.now c.args.fin c.read-told.new.used c.args.item.now c.read-told.new.item c.read-told.result) _ _ _ _ _ c.opened-connection.ensures c.deref_mut.ensures.value c.answered.ensures.kept
    (record { reads = c.read-told.ensures.reads; unknown = c.read-told.ensures.unknown; rejected = c.read-told.ensures.rejected }))
