-- What a stream id tells (RFC 9000, section 2.1), and texts of ids and types.
use Rattle.std.specs.Prelude.{ℕ, ◌+◌, ◌-◌, ◌*◌, ◌/◌, ◌%◌, ◌^◌, min, Bool, ◌==◌, List, ◌++◌, codes, if◌then◌else◌}
use Rattle.std.specs.Fmt.{decimal}
use Rattle.h3_proto.specs.declared.stream.Side.{Side}
use Rattle.h3_proto.specs.declared.stream.Side.TheVariants.{Client, Server}

-- the lowest bit: 0 where the client opened the stream
abbrev pub initiator_of : ℕ → Side
initiator_of id = if id % 2 == 0 then Client else Server

-- the bit above it: 1 where bytes go from the opener alone
abbrev pub is_unidirectional : ℕ → Bool
is_unidirectional id = id / 2 % 2 == 1

-- the place among the streams of one opener and direction
abbrev pub index_of : ℕ → ℕ
index_of id = id / 4

-- a stream of the client, in both directions (RFC 9114, section 6.1)
abbrev pub is_request_stream : ℕ → Bool
is_request_stream id = id % 4 == 0

-- a one-way stream of the server, as pushes are
abbrev pub is_push : ℕ → Bool
is_push id = id % 4 == 3

-- the stream of the same opener and direction that is n places further, or the last one
abbrev pub after : ℕ → ℕ → ℕ
after id n = 4 * min (index_of id + n) (2 ^ 60 - 1) + id % 4

abbrev pub side_text : Side → List ℕ
side_text Client = codes "client"
side_text Server = codes "server"

abbrev pub direction_text : ℕ → List ℕ
direction_text id = if is_unidirectional id then codes "uni" else codes "bi"

abbrev pub stream_text : ℕ → List ℕ
stream_text id = side_text (initiator_of id) ++ codes " " ++ direction_text id ++ codes "directional stream " ++ decimal (index_of id)

abbrev pub type_text : ℕ → List ℕ
type_text v =
    if v == 0 then codes "Control"
    else (if v == 2 then codes "Encoder"
    else (if v == 3 then codes "Decoder"
    else (if v == 0x54 then codes "WebTransportUni"
    else codes "StreamType(" ++ decimal v ++ codes ")")))
