-- What a unidirectional stream of the peer is to its receiver (RFC 9114, section 6.2).
use Rattle.std.specs.Prelude.{ℕ, Option, Some, None}
use Rattle.h3_connection.specs.Delivering.{unidirectional_at}
use Rattle.h3_connection.specs.Endpoint.{EndpointHistory, Kind, kind_of}
use Rattle.h3_connection.specs.Endpoint.Kind.{Request, ServerOpened, OwnUnidirectional, PeerUnidirectional}
use Rattle.h3_connection.specs.ReadingContracts.{Shows}
use Rattle.h3_connection.specs.State.{EndpointState}
use Rattle.h3_unidirectional.specs.Told.{kind_in}
use Rattle.h3_unidirectional.specs.declared.stream.Kind.{Kind as PeerKind}

-- by the bytes of it that were read; no other stream has a type
abbrev pub kind_by : EndpointHistory → ℕ → Kind → Option PeerKind
kind_by e id PeerUnidirectional = Some (kind_in (unidirectional_at e id).role)
kind_by e id Request = None
kind_by e id ServerOpened = None
kind_by e id OwnUnidirectional = None

abbrev pub stream_kind : EndpointHistory → ℕ → Option PeerKind
stream_kind e id = kind_by e id (kind_of e.side id)

-- `stream_kind`
abbrev pub ShowsStreamKind : EndpointState → ℕ → Option PeerKind → Type 0
ShowsStreamKind s id result = Shows (λ e. stream_kind e id) s result
