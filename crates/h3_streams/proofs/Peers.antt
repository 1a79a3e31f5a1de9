-- Which streams are read as the peer's, and what is left of them is of unidirectional streams of the peer.
use Rattle.std.proofs.Common.{◌≡◌, ℕ, true, false, List, [], ◌∷◌, Option, Some, None, ap, subst, ◌∙◌, arith}
use Rattle.std.specs.Prelude.{All, IfSome}
use Rattle.std.proofs.lemmas.List.Elements.{All-cons}
use Rattle.std.proofs.lemmas.Grind.{common_steps}
use Rattle.h3_connection.specs.declared.setup.Announced.{Announced}
use Rattle.h3_proto.specs.declared.stream.Side.{Side}
use Rattle.h3_connection.specs.declared.arrival.Arrival.TheVariants.{BytesCame}
use Rattle.h3_connection.specs.Endpoint.{EndpointHistory, is_second, kind_of}
use Rattle.h3_connection.specs.Endpoint.Kind.{PeerUnidirectional}
use Rattle.h3_connection.specs.PartReading.{early_arrival}
use Rattle.h3_connection.specs.State.{EndpointState, IsToldPeer}
use Rattle.h3_connection.specs.StreamSets.{Streams}
use Rattle.h3_connection.specs.Unidirectional.{Unidirectional, Role, is_critical}
use Rattle.h3_streams.specs.Placed.{StreamsState}
use Rattle.h3_streams.specs.ReadingOn.{IsPeers, IsRead}

nothing_left : (side : Side) → All (IsPeers side) []
nothing_left side k d less = absurd (omega (arith, less))

pub one_peer : (side : Side) (id : ℕ) (bytes : List ℕ) → kind_of side id ≡ PeerUnidirectional → All (IsPeers side) (BytesCame id bytes ∷ [])
one_peer side id bytes kind = All-cons (IsPeers side) (BytesCame id bytes) [] kind (nothing_left side)

pub with_early : (side : Side) (id : ℕ) (bytes : List ℕ) (early : Option ℕ) → kind_of side id ≡ PeerUnidirectional → IfSome early (λ d. kind_of side d ≡ PeerUnidirectional)
    → All (IsPeers side) (BytesCame id bytes ∷ early_arrival early)
with_early side id bytes None kind h = one_peer side id bytes kind
with_early side id bytes (Some d) kind h = All-cons (IsPeers side) (BytesCame id bytes) (BytesCame d [] ∷ []) kind (one_peer side d [] h)

-- what is read as one of the connection's streams is a stream of the peer
pub peer_on : (side : Side) (streams : Streams Unidirectional) (on : Option ℕ) → IfSome on (IsToldPeer side streams) → IfSome on (λ d. kind_of side d ≡ PeerUnidirectional)
peer_on side streams None h = tt
peer_on side streams (Some d) h = h.0

pub told_by : (side : Side) (streams : Streams Unidirectional) (on : Option ℕ) (id : ℕ) → on ≡ Some id → IfSome on (IsToldPeer side streams) → IsToldPeer side streams id
told_by side streams on id is h = subst (λ o. IfSome o (IsToldPeer side streams)) is h

pub told_peer : (s : EndpointState) (x : StreamsState) (e : EndpointHistory) (side : Side) (own : Announced) (id : ℕ) (r : Role) → is_critical r ≡ true → IsRead s x e side own id r → IsToldPeer e.side e.unidirectional id
told_peer s x e side own id r critical read = (read.kind, ap is_critical read.role_is ∙ critical)

-- a stream that is read, and no second one, is this
pub same_reader : (other id : ℕ) → is_second (Some other) id ≡ false → other ≡ id
same_reader other id h = grind (arith, common_steps)
