-- Worked rows of ends that wait.
use Rattle.std.specs.Prelude.{List, [], ◌∷◌}
use Rattle.h3_proto.specs.declared.stream.Side.TheVariants.{Client}
use Rattle.h3_connection.specs.CallLists.{Call, endpoint_after}
use Rattle.h3_connection.specs.CallLists.Call.{OpenRequest}
use Rattle.h3_connection.specs.Endpoint.{EndpointHistory, new_endpoint}
use Rattle.h3_connection.specs.Outgoing.{OwnHead, nothing_sent}
use Rattle.h3_connection.specs.Sending.{with_outgoing}
use Rattle.h3_connection_rows.specs.Worked.{plain}

-- a client that sent a head on its first stream: a HEADERS frame of three bytes, with a section of one
abbrev pub head_sent : EndpointHistory
head_sent = with_outgoing (endpoint_after (new_endpoint Client (plain 1000 220 2)) (OpenRequest ∷ [])) 0 (record nothing_sent { parts = OwnHead (7 ∷ []) ∷ [] })

abbrev pub after_calls : List Call → EndpointHistory
after_calls calls = endpoint_after head_sent calls
