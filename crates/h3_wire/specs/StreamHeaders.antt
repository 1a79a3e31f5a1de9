-- What streams begin with, as it is written (RFC 9114, section 6.2), and what is seen of bytes that are to be sent.
use Rattle.std.specs.Prelude.{ℕ, List, ◌++◌}
use Rattle.h3_coding.specs.Encodings.{encoding}
use Rattle.h3_frames.specs.Encoded.{head_encoding}
use Rattle.h3_wire.specs.declared.stream.headers.UniStreamHeader.{UniStreamHeader}
use Rattle.h3_wire.specs.declared.stream.headers.UniStreamHeader.TheVariants.{Control, WebTransportUni, Encoder, Decoder}
use Rattle.h3_wire.specs.declared.stream.headers.BidiStreamHeader.{BidiStreamHeader}
use Rattle.h3_wire.specs.declared.stream.headers.BidiStreamHeader.TheVariants.{WebTransportBidi}
use Rattle.h3_frames.specs.ControlStreams.{control_encoding}

-- the type of the stream, then a SETTINGS frame or the session id
abbrev pub uni_encoding : UniStreamHeader → List ℕ
uni_encoding (Control pairs) = control_encoding pairs
uni_encoding (WebTransportUni id) = encoding 0x54 ++ encoding id
uni_encoding Encoder = encoding 2
uni_encoding Decoder = encoding 3

-- the signal value, then the session id
abbrev pub bidi_encoding : BidiStreamHeader → List ℕ
bidi_encoding (WebTransportBidi id) = head_encoding 0x41 id
