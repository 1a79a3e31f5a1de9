-- Where sessions are off.
use Rattle.std.proofs.Common.{refl}
use Rattle.h3_c.specs.Does.CallOfC.{Stream}
use Rattle.h3_c.specs.Numbers.{number}
use Rattle.h3_c.proofs.Alone.{looks_alone}
use Rattle.h3_c.proofs.exports.showing.h3_raw_stream.Goals as goal

pub returns-clause-goes : goal.returns-clause-goes
returns-clause-goes c =
    looks_alone (Stream c.args.id c.args.state.now c.stream-told.new.state (number c.stream-told.result.number 0)) _ _ _ _ c.opened-connection.ensures c.deref.ensures c.kept.ensures
    (refl, c.stream-told.ensures.shows, c.stream-told.ensures.unwritten)
