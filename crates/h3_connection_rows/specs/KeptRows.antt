-- Worked rows of what is kept when memory was refused, and of what was handed over to send.
use Rattle.std.specs.Prelude.{ℕ, List, [], ◌∷◌, codes, take}
use Rattle.h3_proto.specs.declared.stream.Side.TheVariants.{Client, Server}
use Rattle.h3_connection.specs.declared.arrival.Arrival.TheVariants.{BytesCame, EndCame, ResetCame}
use Rattle.h3_connection.specs.CallLists.{Call, endpoint_after}
use Rattle.h3_connection.specs.CallLists.Call.{OpenRequest, SendHead, SendBody, SendTrailer, Finish, Deliver, Cancel}
use Rattle.h3_connection.specs.Endpoint.{EndpointHistory, new_endpoint}
use Rattle.h3_connection.specs.Keeping.{keeping}
use Rattle.h3_connection_rows.specs.Worked.{hex, field, head, plain}

-- a client that opened a stream, and keeps its peer's settings
abbrev pub keeps_settings : EndpointHistory
keeps_settings = keeping (endpoint_after (new_endpoint Client (plain 1000 0 0)) (OpenRequest ∷ [])) (BytesCame 3 (hex (codes "0004050140dc0702")) ∷ [])

-- one that keeps a GOAWAY in their place
abbrev pub keeps_a_fault : EndpointHistory
keeps_a_fault = keeping (endpoint_after (new_endpoint Client (plain 1000 0 0)) (OpenRequest ∷ [])) (BytesCame 3 (hex (codes "00070104")) ∷ [])

-- and that canceled its stream before
abbrev pub keeps_a_fault_behind_a_cancellation : EndpointHistory
keeps_a_fault_behind_a_cancellation = keeping (endpoint_after (new_endpoint Client (plain 1000 0 0)) (OpenRequest ∷ Cancel 0 ∷ [])) (BytesCame 3 (hex (codes "00070104")) ∷ [])

-- a server that keeps a reset, which opened the stream
abbrev pub keeps_a_reset : EndpointHistory
keeps_a_reset = keeping (new_endpoint Server (plain 1000 0 0)) (ResetCame 0 268 ∷ [])

-- one that keeps a head with a name in upper case, and the end
abbrev pub keeps_a_head : EndpointHistory
keeps_a_head = keeping (new_endpoint Server (plain 1000 0 0)) (BytesCame 0 (hex (codes "01090000d923582d410131")) ∷ EndCame 0 ∷ [])

-- a client with decoder bytes from before the settings, and its peer's settings
abbrev pub early : EndpointHistory
early = endpoint_after (new_endpoint Client (plain 1000 0 0)) (OpenRequest ∷ Deliver 11 (hex (codes "0380")) ∷ [])

abbrev pub settings : List ℕ
settings = hex (codes "000400")

-- what a server sends
abbrev pub sending : List Call
sending =
    Deliver 0 [] ∷
    SendHead 0 (head (field (codes ":status") (codes "200") ∷ [])) ∷
    SendHead 0 (head (field (codes ":status") (codes "200") ∷ [])) ∷
    SendBody 0 (codes "hi") ∷
    SendBody 0 [] ∷
    SendTrailer 0 (head (field (codes "x-a") (codes "1") ∷ [])) ∷
    Finish 0 ∷
    []

abbrev pub sent_after : ℕ → ℕ
sent_after count = (endpoint_after (new_endpoint Server (plain 1000 0 0)) (take count sending)).sent
