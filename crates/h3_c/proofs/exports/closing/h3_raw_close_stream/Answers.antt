-- Where sessions are off.
use Rattle.h3_c.specs.Does.CallOfC.{CloseStream}
use Rattle.h3_c.proofs.Alone.{goes_alone}
use Rattle.h3_c.proofs.exports.closing.h3_raw_close_stream.Goals as goal

pub returns-clause-goes : goal.returns-clause-goes
returns-clause-goes c =
    rw (c.answered.ensures.number, c.answered.ensures.detail) (goes_alone (CloseStream c.args.id c.args.stop_sending.now c.close_stream-told.new.stop_sending c.args.reset_stream.now c.close_stream-told.new.reset_stream c.close_stream-told.result) _ _ _ _ _ c.opened-connection.ensures c.deref_mut.ensures.value c.answered.ensures.kept
    (c.close_stream-told.ensures.closes, c.close_stream-told.ensures.unwritten))
