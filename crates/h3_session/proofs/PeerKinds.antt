-- What a unidirectional stream of the peer is: what is stored of it, as the definitions tell it.
use Rattle.std.proofs.Common.{◌≡◌, ◌∙◌, ℕ, ap}
use Rattle.std.specs.Prelude.{Option, Some, None, unwrap_or}
use Rattle.h3_connection.specs.Endpoint.{EndpointHistory, Kind, kind_of}
use Rattle.h3_connection.specs.Endpoint.Kind.{PeerUnidirectional}
use Rattle.h3_connection.specs.State.{EndpointState, StandsFor}
use Rattle.h3_connection.specs.Unidirectional.{untold}
use Rattle.h3_streams.specs.Placed.{peer_stream}
use Rattle.h3_unidirectional.specs.Told.{kind_in}
use Rattle.h3_unidirectional.specs.declared.stream.Kind.{Kind as PeerKind}
use Rattle.h3_session.specs.PeerKinds.{kind_by, ShowsStreamKind}

by_kind : (s : EndpointState) (id : ℕ) (k : Kind) (told : Option PeerKind) → k ≡ kind_of s.side id → ((e : EndpointHistory) → StandsFor s e → told ≡ kind_by e id k) → ShowsStreamKind s id told
by_kind s id k told is tells e h = tells e h ∙ ap (kind_by e id) (is ∙ ap (λ side. kind_of side id) h.side)

pub shows_kind : (s : EndpointState) (id : ℕ) (kind : PeerKind) → PeerUnidirectional ≡ kind_of s.side id → kind ≡ kind_in (peer_stream s.unidirectional id).role → ShowsStreamKind s id (Some kind)
shows_kind s id kind is same =
    by_kind s id PeerUnidirectional (Some kind) is (λ e h. ap Some (same ∙ ap (λ o. kind_in (unwrap_or o untold).role) (h.unidirectional id)))

-- no other stream has a type
pub shows_none : (s : EndpointState) (id : ℕ) (k : Kind) → k ≡ kind_of s.side id → ((e : EndpointHistory) → None ≡ kind_by e id k) → ShowsStreamKind s id None
shows_none s id k is none = by_kind s id k None is (λ e h. none e)
