use Rattle.std.proofs.Common.{sym}
use Rattle.h3_streams.proofs.DecoderReads.{decoder_read, decoder_stopped}
use Rattle.h3_streams.proofs.streams.ConnectionStreams.decoder_bytes.Goals as goal

pub returns-in-Ok-clause-ok : goal.returns-in-Ok-clause-ok
returns-in-Ok-clause-ok c = rw (sym c.self.view_is) (decoder_read _ _ _ _ _ _ _ _ c.if-is_second.ensures c.has_settings.ensures c.in-Ok.ensures.ok c.of_stream.ensures)

pub returns-clause-err : goal.returns-clause-err
returns-clause-err c =
    rw (sym c.self.view_is) (decoder_stopped _ _ _ _ _ _ _ _ c.if-is_second.ensures c.has_settings.ensures c.in-Err.ensures.err c.left.ensures)
