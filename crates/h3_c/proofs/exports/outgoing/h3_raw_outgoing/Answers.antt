-- Where sessions are off.
use Rattle.std.proofs.Common.{refl}
use Rattle.h3_c.specs.Does.CallOfC.{Outgoing}
use Rattle.h3_c.specs.Numbers.{number}
use Rattle.h3_c.proofs.Alone.{looks_alone}
use Rattle.h3_c.proofs.exports.outgoing.h3_raw_outgoing.Goals as goal

pub returns-clause-goes : goal.returns-clause-goes
returns-clause-goes c =
    looks_alone (Outgoing c.args.id c.args.buffer.now c.outgoing-told.new.out c.args.count.now c.outgoing-told.new.count c.args.past.now c.outgoing-told.new.past c.args.fin.now c.outgoing-told.new.fin (number c.outgoing-told.result.number 0)) _ _ _ _ c.opened-connection.ensures c.deref.ensures c.kept.ensures
    (refl, c.outgoing-told.ensures.copies, c.outgoing-told.ensures.unwritten)
