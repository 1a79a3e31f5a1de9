-- How many bytes are still to come of the payload of the frame that is under way on a stream (RFC 9114, section 7.1).
use Rattle.std.specs.Prelude.{ℕ, ◌-◌, length, if◌then◌else◌, nat_lt, is_some}
use Rattle.std.specs.List.{concat}
use Rattle.h3_frames.specs.FrameLeft.{left_of_frame}
use Rattle.h3_connection.specs.Delivering.{incoming_at}
use Rattle.h3_connection.specs.Endpoint.{EndpointHistory, Kind, kind_of, is_read_as}
use Rattle.h3_connection.specs.Endpoint.Kind.{Request, ServerOpened, OwnUnidirectional, PeerUnidirectional}
use Rattle.h3_connection.specs.Incoming.{Incoming}
use Rattle.h3_connection.specs.ReadingContracts.{Shows}
use Rattle.h3_connection.specs.State.{EndpointState}
use Rattle.h3_connection.specs.Unread.{begins_frame}

-- of a request stream: of DATA whose head was read, or else of the frame that is next
abbrev pub frame_left_of_request : Incoming → ℕ
frame_left_of_request i =
    if nat_lt 0 i.body_left then i.body_left - length (concat i.unread)
    else (if begins_frame i then left_of_frame (concat i.unread) else 0)

-- of a unidirectional stream of the peer: its control stream alone has frames
abbrev pub frame_left_of_peer : EndpointHistory → ℕ → ℕ
frame_left_of_peer e id = if is_read_as e.control_on id then left_of_frame e.peer.unread else 0

abbrev pub frame_left_at : EndpointHistory → ℕ → Kind → ℕ
frame_left_at e id Request = frame_left_of_request (incoming_at e id)
frame_left_at e id PeerUnidirectional = frame_left_of_peer e id
frame_left_at e id ServerOpened = 0
frame_left_at e id OwnUnidirectional = 0

-- Behind a fault of the connection nothing is read any more
abbrev pub frame_left : EndpointHistory → ℕ → ℕ
frame_left e id = if is_some e.closed then 0 else frame_left_at e id (kind_of e.side id)

-- `frame_left`
abbrev pub ShowsFrameLeft : EndpointState → ℕ → ℕ → Type 0
ShowsFrameLeft s id result = Shows (λ e. frame_left e id) s result
