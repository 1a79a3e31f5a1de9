-- What a place of a message permits.
use Rattle.std.specs.Prelude.{ℕ, Bool, true, false}
use Rattle.h3_proto.specs.declared.stream.Side.{Side}
use Rattle.h3_proto.specs.declared.stream.Side.TheVariants.{Client, Server}
use Rattle.h3_connection.specs.declared.place.Place.{Place}
use Rattle.h3_connection.specs.declared.place.Place.TheVariants.{InSession}
use Rattle.h3_connection.specs.Codes.{id_error, frame_unexpected}

abbrev pub is_session : Place → Bool
is_session InSession = true
is_session _ = false

-- the fault of a promise: a client permits none (RFC 9114, section 7.2.5), and a server gets none
abbrev pub promise_code : Side → ℕ
promise_code Client = id_error
promise_code Server = frame_unexpected
