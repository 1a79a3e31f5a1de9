-- The codes that end the stream of a malformed message (RFC 9114, section 8.1).
use Rattle.std.specs.Prelude.{ℕ}
use Rattle.h3_proto.specs.declared.stream.Side.{Side}
use Rattle.h3_proto.specs.declared.stream.Side.TheVariants.{Client, Server}
use Rattle.h3_connection.specs.Codes.{excessive_load}
use Rattle.h3_connection.specs.declared.event.Malformation.{Malformation}
use Rattle.h3_connection.specs.declared.event.Malformation.TheVariants as malformation

abbrev pub request_incomplete : ℕ
request_incomplete = 0x10d

abbrev pub message_error : ℕ
message_error = 0x10e

-- A malformed message is H3_MESSAGE_ERROR (RFC 9114, section 4.1.2); but a request whose stream ended before its head is one that a
-- server has not whole (section 4.1), and a field section that is too long is an excessive load (section 10.5).
abbrev pub malformation_code : Malformation → Side → ℕ
malformation_code malformation.NoHead Server = request_incomplete
malformation_code malformation.NoHead Client = message_error
malformation_code malformation.TooLong side = excessive_load
malformation_code _ side = message_error
