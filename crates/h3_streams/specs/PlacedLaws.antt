-- What is kept of the unidirectional streams stands for an endpoint's history.
use Rattle.std.proofs.Common.{◌≡◌, ℕ, refl, sym, subst, ◌∙◌}
use Rattle.h3_connection.specs.Endpoint.{EndpointHistory, Kind, is_critical_of, kind_of, is_critical_id}
use Rattle.h3_connection.specs.Endpoint.Kind.{Request, ServerOpened, OwnUnidirectional, PeerUnidirectional}
use Rattle.std.specs.Prelude.{Bool}
use Rattle.h3_proto.specs.declared.stream.Side.{Side}
use Rattle.h3_connection.specs.State.{EndpointState, StandsFor}
use Rattle.h3_streams.specs.Placed.{StreamsState, is_critical_at, placed}

critical_of : (x : StreamsState) (e : EndpointHistory) (id : ℕ) (k : Kind) → x.control_on ≡ e.control_on → x.encoder_on ≡ e.encoder_on → x.decoder_on ≡ e.decoder_on
    → is_critical_at e.side x id k ≡ is_critical_of e id k
critical_of x e id Request c d f = refl
critical_of x e id ServerOpened c d f = refl
critical_of x e id OwnUnidirectional c d f = refl
critical_of x e id PeerUnidirectional c d f = rw (c, d, f) refl

-- which streams the connection needs
pub critical_stands : (s : EndpointState) (x : StreamsState) (e : EndpointHistory) (side : Side) (id : ℕ) (b : Bool) → b ≡ is_critical_at side x id (kind_of side id)
    → StandsFor (placed s x) e → e.side ≡ side → b ≡ is_critical_id e id
critical_stands s x e side id b is h same =
    let here : b ≡ is_critical_at e.side x id (kind_of e.side id) = subst (λ t. b ≡ is_critical_at t x id (kind_of t id)) (sym same) is in
    here ∙ critical_of x e id (kind_of e.side id) h.control_on h.encoder_on h.decoder_on
