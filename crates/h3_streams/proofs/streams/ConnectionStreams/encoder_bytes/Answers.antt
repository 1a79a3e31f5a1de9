use Rattle.std.proofs.Common.{sym}
use Rattle.h3_streams.proofs.EncoderReads.{encoder_read, encoder_stopped}
use Rattle.h3_streams.proofs.streams.ConnectionStreams.encoder_bytes.Goals as goal

pub returns-in-Ok-clause-ok : goal.returns-in-Ok-clause-ok
returns-in-Ok-clause-ok c = rw (sym c.self.view_is, sym c.self-inside.view_is) (encoder_read _ _ _ _ _ _ _ _ c.if-is_second.ensures c.in-Ok.ensures.ok c.of_stream.ensures)

pub returns-clause-err : goal.returns-clause-err
returns-clause-err c =
    rw (sym c.self.view_is, sym c.self-inside.view_is) (encoder_stopped _ _ _ _ _ _ _ _ c.if-is_second.ensures c.in-Err.ensures.err c.left.ensures)
