-- An end or a reset of a stream of the peer.
use Rattle.std.proofs.Common.{◌≡◌, ℕ, Bool, true, Option, Some, None, refl, ap, sym, subst, ◌∙◌}
use Rattle.std.specs.Prelude.{unwrap_or}
use Rattle.h3_connection.specs.Calls.{Sets}
use Rattle.h3_connection.specs.Delivering.{closing, end_at, reset_at, unidirectional_at}
use Rattle.h3_connection.specs.Endpoint.{EndpointHistory}
use Rattle.h3_connection.specs.Endpoint.Kind.{PeerUnidirectional}
use Rattle.h3_connection.specs.StandsLaws.{stands_unidirectional}
use Rattle.h3_connection.specs.State.{EndpointState, StandsFor}
use Rattle.h3_connection.specs.StreamSets.{Streams}
use Rattle.h3_connection.specs.Unidirectional.{Unidirectional, untold, reset_with, is_critical}
use Rattle.h3_streams.specs.Placed.{StreamsState, placed, peer_stream, Closes, closed_by, closing_code, Reads}

-- the stream that is there
pub there : (s : EndpointState) (x : StreamsState) (e : EndpointHistory) (id : ℕ) → StandsFor (placed s x) e → peer_stream x.unidirectional id ≡ unidirectional_at e id
there s x e id h = ap (λ o. unwrap_or o untold) (h.unidirectional id)

closes : (s : EndpointState) (x : StreamsState) (e : EndpointHistory) (new : Streams Unidirectional) (id : ℕ) (code : Option ℕ) (critical : Bool) → StandsFor (placed s x) e
    → (now : Unidirectional) → now ≡ closed_by (unidirectional_at e id) code → is_critical now.role ≡ is_critical (unidirectional_at e id).role
    → Closes x.unidirectional new id code critical → Reads s (closing_code critical) (record x { unidirectional = new }) (closing e id now)
closes s x e new id code critical h now is same c =
    let o = there s x e id h in
    let sets = subst (λ p. Sets x.unidirectional new id p) (ap (λ p. closed_by p code) o ∙ sym is) c.sets in
    let fault : closing_code critical ≡ closing_code (is_critical now.role) = ap closing_code (c.critical_is ∙ ap (λ (p : Unidirectional). is_critical p.role) o ∙ sym same) in
    (fault, stands_unidirectional (placed s x) e new id now h (λ told. same ∙ told) sets)

pub ends : (x : StreamsState) (new : Streams Unidirectional) (id : ℕ) (critical : Bool) (fault : Option ℕ) → fault ≡ closing_code critical → Closes x.unidirectional new id None critical
    → (s : EndpointState) (e : EndpointHistory) → StandsFor (placed s x) e → Reads s fault (record x { unidirectional = new }) (end_at e id PeerUnidirectional)
ends x new id critical fault is c s e h =
    subst (λ f. Reads s f (record x { unidirectional = new }) (end_at e id PeerUnidirectional)) (sym is)
    (closes s x e new id None critical h (record (unidirectional_at e id) { ended = true }) refl refl c)

pub resets : (x : StreamsState) (new : Streams Unidirectional) (id code : ℕ) (critical : Bool) (fault : Option ℕ) → fault ≡ closing_code critical → Closes x.unidirectional new id (Some code) critical
    → (s : EndpointState) (e : EndpointHistory) → StandsFor (placed s x) e → Reads s fault (record x { unidirectional = new }) (reset_at e id code PeerUnidirectional)
resets x new id code critical fault is c s e h =
    subst (λ f. Reads s f (record x { unidirectional = new }) (reset_at e id code PeerUnidirectional)) (sym is)
    (closes s x e new id (Some code) critical h (reset_with (unidirectional_at e id) code) refl refl c)
