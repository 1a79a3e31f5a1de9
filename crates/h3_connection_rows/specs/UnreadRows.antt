-- Worked rows of what is held of a stream.
use Rattle.std.specs.Prelude.{ℕ, List, [], ◌∷◌, codes}
use Rattle.h3_proto.specs.declared.stream.Side.TheVariants.{Server}
use Rattle.h3_connection.specs.declared.arrival.Arrival.TheVariants.{BytesCame, EndCame}
use Rattle.h3_connection.specs.CallLists.{Call, endpoint_after}
use Rattle.h3_connection.specs.CallLists.Call.{Deliver}
use Rattle.h3_connection.specs.Endpoint.{EndpointHistory, new_endpoint}
use Rattle.h3_connection.specs.Keeping.{keeping}
use Rattle.h3_connection.specs.Unread.{unread}
use Rattle.h3_connection_rows.specs.Worked.{hex, plain}

-- a server with a table of 220 bytes, for which two streams may wait
abbrev pub server : EndpointHistory
server = new_endpoint Server (plain 1000 220 2)

-- how many bytes of a stream are held after these calls
abbrev pub held_after : List Call → ℕ → ℕ
held_after calls id = unread (endpoint_after server calls) id

-- a head of three fields, and the front of a body of five bytes (RFC 9114, section 7.2)
abbrev pub a_head : List ℕ
a_head = hex (codes "01070000d1d7500161")

abbrev pub front_of_a_body : List ℕ
front_of_a_body = hex (codes "00056869")

-- a head that needs two insertions (RFC 9204, appendix B.2): eight bytes, of which six are the section
abbrev pub a_waiting_head : List ℕ
a_waiting_head = hex (codes "01060381d1d71011")

-- a frame of an unknown type with 100 bytes, and three of them
abbrev pub front_of_an_unknown_frame : List ℕ
front_of_an_unknown_frame = hex (codes "214064616263")

-- one of them stored and not read, and the end behind it
abbrev pub keeps_settings : EndpointHistory
keeps_settings = keeping (endpoint_after server (Deliver 2 (hex (codes "0004")) ∷ [])) (BytesCame 2 (hex (codes "00")) ∷ BytesCame 0 (hex (codes "0107")) ∷ BytesCame 0 (hex (codes "00")) ∷ EndCame 0 ∷ [])
