-- What the fields of a session's struct stand for.
use Rattle.std.specs.Prelude.{◌≤◌, length}
use Rattle.h3_qpack.specs.Exchange.{Stream, ExchangeState}
use Rattle.h3_qpack.specs.declared.session.ByteStream.{ByteStream}
use Rattle.h3_qpack.specs.declared.session.Session.TheInside.{Inside}

abbrev pub stream_of : ByteStream → Stream
stream_of p = record { bytes = p.bytes.items; arrived = p.arrived; read = p.read }

abbrev pub exchange_state_inside : Inside → ExchangeState
exchange_state_inside s = record { encoder = s.encoder; decoder = s.decoder; encoder_stream = stream_of s.encoder_stream; decoder_stream = stream_of s.decoder_stream; sections = s.sections.items; canceled = s.canceled.items }

-- What was read came, and what came was written.
pub record IsByteStream (p : ByteStream) : Type 0 where
  pub read : p.read ≤ p.arrived
  pub arrived : p.arrived ≤ length p.bytes.items

pub record IsSession (s : Inside) : Type 0 where
  pub encoder_stream : IsByteStream s.encoder_stream
  pub decoder_stream : IsByteStream s.decoder_stream
