-- Worked rows of PRIORITY_UPDATE (RFC 9218, section 7.2), and of which priority counts.
use Rattle.std.specs.Prelude.{ℕ, Bool, true, false, List, [], ◌∷◌, ◌++◌, codes, drop, length, Option}
use Rattle.h3_priority.specs.Priority.{PriorityParameters}
use Rattle.h3_proto.specs.Config.{no_choices, no_extensions}
use Rattle.h3_proto.specs.declared.stream.Side.TheVariants.{Client, Server}
use Rattle.h3_frames.specs.ControlStreams.{control_encoding}
use Rattle.h3_connection.specs.Delivering.{deliver}
use Rattle.h3_connection.specs.Endpoint.{EndpointHistory, new_endpoint, own_waiting}
use Rattle.h3_connection.specs.Prioritizing.{priority_at, send_priority, set_initial_priority, use_updates}
use Rattle.h3_connection.specs.ByPriority.{set_priority}
use Rattle.h3_connection.specs.Sending.{goaway, open_request}
use Rattle.h3_connection.specs.declared.event.Refusal.{Refusal}
use Rattle.h3_connection.specs.declared.setup.Announced.{Announced}
use Rattle.h3_connection_rows.specs.Worked.{hex, plain}

-- it keeps what updates say of so many streams
abbrev pub updating : ℕ → Announced
updating most = record (plain 1000 0 0) { choices = record no_choices { extensions = record no_extensions { priority_updates = most } } }

-- a server, to which these bytes came after the settings of its client
abbrev pub came : ℕ → List ℕ → Option Refusal × EndpointHistory
came most text = deliver (new_endpoint Server (updating most)) 2 (hex (codes "000400") ++ hex text)

abbrev pub told : ℕ → List ℕ → Option Refusal
told most text = (came most text).0

-- a request stream opens
abbrev pub opening : ℕ → EndpointHistory → EndpointHistory
opening id e = (deliver e id []).1

abbrev pub of : ℕ → Bool → PriorityParameters
of urgency incremental = record { urgency = urgency; incremental = incremental }

-- what counts of a stream that opens after these bytes
abbrev pub counts : ℕ → List ℕ → ℕ → Option PriorityParameters
counts most text id = priority_at (opening id (came most text).1) id

-- stream 0 opens, then its request says urgency 1, and an update came that says urgency 5
abbrev pub updated : EndpointHistory
updated = opening 0 (came 100 (codes "800f07000400753d35")).1

abbrev pub asked : EndpointHistory → EndpointHistory
asked e = (set_initial_priority e 0 (of 1 false)).1

abbrev pub used : EndpointHistory → EndpointHistory
used e = use_updates e (length e.peer.updates.waiting)

abbrev pub set : EndpointHistory → EndpointHistory
set e = (set_priority e 0 (of 2 false)).1

-- what a client writes on its control stream after the settings, of stream 0, with GOAWAYs before it and after it
abbrev pub client : EndpointHistory
client = (open_request (new_endpoint Client (updating 0))).1

abbrev pub written : EndpointHistory
written = (goaway (send_priority (goaway client 8).1 0 (of 1 true)).1 4).1

abbrev pub behind_settings : EndpointHistory → List ℕ
behind_settings e = drop (length (control_encoding e.announced.settings)) (own_waiting e 2)
