-- Where sessions are off.
use Rattle.h3_c.specs.Does.CallOfC.{Hold}
use Rattle.h3_c.proofs.Alone.{goes_alone}
use Rattle.h3_c.proofs.exports.ordering.h3_raw_hold.Goals as goal

pub returns-clause-goes : goal.returns-clause-goes
returns-clause-goes c =
    rw (c.answered.ensures.number, c.answered.ensures.detail) (goes_alone (Hold c.args.id c.args.held c.hold-told.result) _ _ _ _ _ c.opened-connection.ensures c.deref_mut.ensures.value c.answered.ensures.kept
    c.hold-told.ensures)
