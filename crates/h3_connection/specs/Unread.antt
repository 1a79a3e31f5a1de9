-- How many bytes came on a stream and are still held: they were not handed out, and not read. An unknown frame that is under way is read over as it
-- comes (RFC 9114, section 9), and none of it is held. Flow control (RFC 9000, section 4.1) may grant credit for all others.
use Rattle.std.specs.Prelude.{ℕ, ◌+◌, ◌-◌, ◌^◌, Bool, true, false, not, ◌&&◌, min, [], length, if◌then◌else◌, ◌==◌, Option, is_some, unwrap_or}
use Rattle.std.specs.List.{concat, sum_by}
use Rattle.h3_frames.specs.UnknownSize.{held_length}
use Rattle.h3_connection.specs.Arrivals.{Arrival, BytesCame, EndCame, ResetCame}
use Rattle.h3_connection.specs.Delivering.{incoming_at, unidirectional_at}
use Rattle.h3_connection.specs.Endpoint.{EndpointHistory, Kind, kind_of, is_read_as}
use Rattle.h3_connection.specs.Endpoint.Kind.{Request, ServerOpened, OwnUnidirectional, PeerUnidirectional}
use Rattle.h3_connection.specs.Incoming.{Incoming}
use Rattle.h3_connection.specs.ReadingContracts.{Shows}
use Rattle.h3_connection.specs.declared.place.Place.{Place}
use Rattle.h3_connection.specs.declared.place.Place.TheVariants.{InSession}
use Rattle.h3_connection.specs.State.{EndpointState}
use Rattle.h3_connection.specs.StrictConnection.{kinds_of}
use Rattle.h3_connection.specs.declared.setup.Announced.{Announced}
use Rattle.h3_connection.specs.Unidirectional.{Unidirectional, Role}
use Rattle.h3_connection.specs.Unidirectional.Role.{Other, Session, Untold}

abbrev pub is_message : Place → Bool
is_message InSession = false
is_message _ = true

-- a frame is next: no payload of DATA is under way, no field section waits, and no session is there
abbrev pub begins_frame : Incoming → Bool
begins_frame i = ((i.body_left == 0) && not (is_some i.section)) && is_message i.place

-- of a request stream: what was not read, and the field section that waits to be decoded
abbrev pub held_of_request : Announced → Incoming → ℕ
held_of_request own i =
    (if begins_frame i then held_length (kinds_of own) (concat i.unread) else length (concat i.unread)) + length (unwrap_or i.section [])

-- of a unidirectional stream of the peer: its type, while that is not whole, and what was not handed out of a session or a stream of another type
abbrev pub held_of_role : Unidirectional → Role → ℕ
held_of_role o (Untold front) = length front
held_of_role o (Session id) = length (concat o.unread)
held_of_role o (Other kind) = length (concat o.unread)
held_of_role o _ = 0

-- what a reader of the peer's control, encoder or decoder stream has not read, so many bytes, where this is its stream
abbrev pub held_by : Option ℕ → ℕ → ℕ → ℕ
held_by reader id held = if is_read_as reader id then held else 0

abbrev pub held_of_peer : EndpointHistory → ℕ → ℕ
held_of_peer e id =
    held_of_role (unidirectional_at e id) (unidirectional_at e id).role
    + held_by e.control_on id (held_length (kinds_of e.announced) e.peer.unread)
    + held_by e.encoder_on id (length e.decoding.unread)
    + held_by e.decoder_on id (length e.decoder_unread)

-- what was stored, and not read because memory was refused
abbrev pub held_in : ℕ → Arrival → ℕ
held_in id (BytesCame other bytes) = if other == id then length bytes else 0
held_in id (EndCame other) = 0
held_in id (ResetCame other code) = 0

abbrev pub held_at : EndpointHistory → ℕ → Kind → ℕ
held_at e id Request = held_of_request e.announced (incoming_at e id)
held_at e id PeerUnidirectional = held_of_peer e id
held_at e id ServerOpened = 0
held_at e id OwnUnidirectional = 0

-- Behind a fault of the connection nothing is read any more, so nothing is held for it
abbrev pub unread : EndpointHistory → ℕ → ℕ
unread e id = if is_some e.closed then 0 else held_at e id (kind_of e.side id) + sum_by (held_in id) e.kept

-- a count of 64 bits: no memory has room for more
abbrev pub counted : ℕ → ℕ
counted n = min n (2 ^ 64 - 1)

-- `unread`
abbrev pub ShowsUnread : EndpointState → ℕ → ℕ → Type 0
ShowsUnread s id result = Shows (λ e. counted (unread e id)) s result
