-- Where sessions are off.
use Rattle.h3_c.specs.Does.CallOfC.{NextToSend}
use Rattle.h3_c.specs.Numbers.{number}
use Rattle.h3_c.proofs.Alone.{looks_alone}
use Rattle.h3_c.proofs.exports.ending.h3_raw_next_to_send.Goals as goal

pub returns-clause-goes : goal.returns-clause-goes
returns-clause-goes c =
    looks_alone (NextToSend c.args.from c.args.id.now c.next_to_send-told.new.id (number c.next_to_send-told.result.number 0)) _ _ _ _ c.opened-connection.ensures c.deref.ensures c.kept.ensures
    c.next_to_send-told.ensures
