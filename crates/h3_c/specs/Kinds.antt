-- What C learns of a unidirectional stream of the peer: `enum h3_stream_type` of the header.
use Rattle.std.specs.Prelude.{◌≡◌, ℕ, Option, Some, None}
use Rattle.h3_connection.specs.Endpoint.{EndpointHistory}
use Rattle.h3_connection.specs.State.{StandsFor}
use Rattle.h3_session.specs.PeerKinds.{stream_kind}
use Rattle.h3_unidirectional.specs.declared.stream.Kind.{Kind}
use Rattle.h3_unidirectional.specs.declared.stream.Kind.TheVariants as kind
use Rattle.h3_c.specs.declared.numbers.Told.{Told}
use Rattle.h3_c.specs.Numbers.{ok, none}
use Rattle.h3_c.specs.Seen.{Seen}

abbrev pub kind_number : Kind → ℕ
kind_number kind.Untold = 0
kind_number kind.Control = 1
kind_number kind.Encoder = 2
kind_number kind.Decoder = 3
kind_number (kind.Push id) = 4
kind_number (kind.Session id) = 5
kind_number kind.Ignored = 6
kind_number (kind.Other number) = 7

-- no other stream has a type, and none is written then
abbrev pub GivesKind : Option Kind → Told → ℕ → ℕ → Type 0
GivesKind None n before after = (n ≡ none) × (after ≡ before)
GivesKind (Some kind) n before after = (n ≡ ok) × (after ≡ kind_number kind)

-- the type of a stream that is handed out though its type has no meaning
abbrev pub type_of : Option Kind → Option ℕ
type_of (Some (kind.Other number)) = Some number
type_of _ = None

abbrev pub GivesType : Option ℕ → Told → ℕ → ℕ → Type 0
GivesType None n before after = (n ≡ none) × (after ≡ before)
GivesType (Some number) n before after = (n ≡ ok) × (after ≡ number)

-- `h3_other_type`
abbrev pub ShowsType : Seen → ℕ → Told → ℕ → ℕ → Type 0
ShowsType v id n before after = (e : EndpointHistory) → StandsFor v.endpoint e → GivesType (type_of (stream_kind e id)) n before after

-- `h3_stream_kind`
abbrev pub ShowsKind : Seen → ℕ → Told → ℕ → ℕ → Type 0
ShowsKind v id n before after = (e : EndpointHistory) → StandsFor v.endpoint e → GivesKind (stream_kind e id) n before after
