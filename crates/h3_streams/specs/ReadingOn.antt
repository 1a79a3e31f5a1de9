-- What a reading leaves that was refused memory: what came was read up to some point, and the rest is still to be read.
use Rattle.std.specs.Prelude.{List, Some, ◌≡◌, ◌∷◌, ◌++◌, All, ℕ, IfSome, Option, None, false, [], ◌<◌, ◌^◌, length}
use Rattle.h3_connection.specs.declared.arrival.Arrival.{Arrival}
use Rattle.h3_connection.specs.Endpoint.{EndpointHistory, kind_of, is_second}
use Rattle.h3_connection.specs.PartReading.{ReadsOn, early_arrival, held_as}
use Rattle.h3_connection.specs.declared.setup.Announced.{Announced}
use Rattle.h3_proto.specs.declared.stream.Side.{Side}
use Rattle.h3_connection.specs.Arrivals.{stream_of}
use Rattle.h3_connection.specs.Endpoint.Kind.{PeerUnidirectional}
use Rattle.h3_connection.specs.declared.arrival.Arrival.TheVariants.{BytesCame}
use Rattle.h3_streams.specs.declared.left.Left.{Left}
use Rattle.h3_connection.specs.State.{EndpointState, StandsFor}
use Rattle.h3_connection.specs.Delivering.{unidirectional_at}
use Rattle.h3_connection.specs.Unidirectional.{Role}
use Rattle.h3_connection.specs.Unidirectional.Role.{Control, Encoder, Decoder}
use Rattle.h3_connection.specs.Control.{read_held}
use Rattle.std.specs.List.{concat}
use Rattle.h3_streams.specs.Placed.{Reads, StreamsState, placed, stream_of_peer}

-- Some steps of reading, from the first endpoint and what is still to be read there to the last.
pub data ReadsSome : EndpointHistory → List Arrival → EndpointHistory → List Arrival → Type 0 where
  Stays : {e : EndpointHistory} {arrivals : List Arrival} → ReadsSome e arrivals e arrivals
  Steps : {e next new : EndpointHistory} {arrivals more left : List Arrival} → ReadsOn e arrivals next more → ReadsSome next more new left → ReadsSome e arrivals new left

abbrev pub IsPeers : Side → Arrival → Type 0
IsPeers side a = kind_of side (stream_of a) ≡ PeerUnidirectional

-- what is left, in order
abbrev pub left_arrivals : Left → List Arrival
left_arrivals left = BytesCame left.id left.bytes ∷ early_arrival left.early

-- These arrivals were read up to what is left, whatever is kept behind them, and what is stored stands for the endpoint then. What
-- is left is of unidirectional streams of the peer.
pub record StopsAt (s : EndpointState) (x : StreamsState) (e : EndpointHistory) (arrivals left : List Arrival) : Type 0 where
  pub after : EndpointHistory
  pub reads : (more : List Arrival) → ReadsSome e (arrivals ++ more) after (left ++ more)
  pub stands : StandsFor (placed s x) after
  pub kinds : All (IsPeers e.side) left

-- A stream was told to be of this role, and the bytes behind that are read by what this endpoint chose.
pub record IsRead (s : EndpointState) (x : StreamsState) (e : EndpointHistory) (side : Side) (own : Announced) (id : ℕ) (role : Role) : Type 0 where
  pub stands : StandsFor (placed s x) e
  pub side_is : e.side ≡ side
  pub own_is : e.announced ≡ own
  pub kind : kind_of e.side id ≡ PeerUnidirectional
  pub role_is : (unidirectional_at e id).role ≡ role
  pub early : IfSome x.decoder_on (λ d. kind_of side d ≡ PeerUnidirectional)

-- the stream that is read as this
abbrev pub reader_on : Role → EndpointHistory → Option ℕ
reader_on Control e = e.control_on
reader_on Encoder e = e.encoder_on
reader_on Decoder e = e.decoder_on
reader_on _ e = None

abbrev pub with_reader : Role → StreamsState → ℕ → StreamsState
with_reader Control x id = record x { control_on = Some id }
with_reader Encoder x id = record x { encoder_on = Some id }
with_reader Decoder x id = record x { decoder_on = Some id }
with_reader _ x id = x

-- What the reading of bytes for a role leaves that was refused memory: the stream is read as such, and the reader took none of them,
-- or it holds them all and a front of what it holds was read.
pub data Stops (role : Role) (s : EndpointState) (old new : StreamsState) (e : EndpointHistory) (id : ℕ) (bytes : List ℕ) (left : List Arrival) : Type 0 where
  Unheld : is_second (reader_on role e) id ≡ false → left ≡ BytesCame id bytes ∷ [] → new ≡ with_reader role old id → Stops role s old new e id bytes left
  Held : is_second (reader_on role e) id ≡ false → StopsAt s new (held_as e id (role, bytes)) (BytesCame id [] ∷ []) left → Stops role s old new e id bytes left

-- What a reading of all that is held of the control stream finds, and what it leaves that was refused memory.
abbrev pub ReadsHeld : StreamsState → StreamsState → Side → Announced → ℕ → Option ℕ → Type 0
ReadsHeld x new side own id fault = (s : EndpointState) (e : EndpointHistory) → IsRead s x e side own id Control → e.control_on ≡ Some id → Reads s fault new (read_held e)

abbrev pub StopsHeld : StreamsState → StreamsState → Side → Announced → ℕ → List Arrival → Type 0
StopsHeld x new side own id left = (s : EndpointState) (e : EndpointHistory) → IsRead s x e side own id Control → e.control_on ≡ Some id → StopsAt s new e (BytesCame id [] ∷ []) left

-- What came is due to be read here: on a unidirectional stream of the peer.
pub record IsDue (s : EndpointState) (x : StreamsState) (e : EndpointHistory) (side : Side) (own : Announced) (id : ℕ) : Type 0 where
  pub stands : StandsFor (placed s x) e
  pub side_is : e.side ≡ side
  pub own_is : e.announced ≡ own
  pub kind : kind_of e.side id ≡ PeerUnidirectional

-- Its bytes have room.
pub record HasRoom (x : StreamsState) (id : ℕ) (len : ℕ) : Type 0 where
  pub session : length (concat (stream_of_peer x id).unread) < 2 ^ 61
  pub small : len < 2 ^ 61
