-- How much of a frame is still to come: by what is stored, as the definitions count it.
use Rattle.std.proofs.Common.{◌≡◌, ℕ, Bool, true, false, if◌then◌else◌, List, ap, refl, sym, ◌∙◌}
use Rattle.std.specs.Prelude.{is_some, option_map, unwrap_or}
use Rattle.h3_frames.specs.FrameLeft.{left_of_frame}
use Rattle.h3_connection.specs.Delivering.{incoming_at}
use Rattle.h3_connection.specs.Endpoint.{EndpointHistory, Kind, kind_of, is_read_as}
use Rattle.h3_connection.specs.FrameLeft.{ShowsFrameLeft, frame_left_at, frame_left_of_peer, frame_left_of_request}
use Rattle.h3_connection.specs.Incoming.{nothing_came}
use Rattle.h3_connection.specs.State.{EndpointState, StandsFor, kept_at}

pub left_of_stored : (s : EndpointState) (n id : ℕ) → n ≡ frame_left_of_request (unwrap_or (option_map (λ r. r.incoming) (kept_at s.requests id)) nothing_came)
    → (e : EndpointHistory) → StandsFor s e → n ≡ frame_left_of_request (incoming_at e id)
left_of_stored s n id is e h = is ∙ ap (λ i. frame_left_of_request (unwrap_or i nothing_came)) (h.incoming id)

-- by whether it is the peer's control stream
left_by_reader : (s : EndpointState) (n id : ℕ) (b : Bool) → b ≡ is_read_as s.control_on id → n ≡ (if b then left_of_frame s.peer.unread else 0)
    → (e : EndpointHistory) → StandsFor s e → n ≡ frame_left_of_peer e id
left_by_reader s n id b reads is e h =
    is ∙ ap (λ c. if c then left_of_frame s.peer.unread else 0) (reads ∙ ap (λ on. is_read_as on id) h.control_on)
    ∙ ap (λ p. if is_read_as e.control_on id then left_of_frame p.unread else 0) h.peer

pub left_of_control : (s : EndpointState) (n id : ℕ) (bytes : List ℕ) → true ≡ is_read_as s.control_on id → bytes ≡ s.peer.unread → n ≡ left_of_frame bytes
    → (e : EndpointHistory) → StandsFor s e → n ≡ frame_left_of_peer e id
left_of_control s n id bytes reads there is = left_by_reader s n id true reads (is ∙ ap left_of_frame there)

pub left_of_other : (s : EndpointState) (id : ℕ) → false ≡ is_read_as s.control_on id → (e : EndpointHistory) → StandsFor s e → 0 ≡ frame_left_of_peer e id
left_of_other s id reads = left_by_reader s 0 id false reads refl

-- by the kind of the stream
pub left_by_kind : (s : EndpointState) (n id : ℕ) (k : Kind) → k ≡ kind_of s.side id → ((e : EndpointHistory) → StandsFor s e → n ≡ frame_left_at e id k)
    → (e : EndpointHistory) → StandsFor s e → n ≡ frame_left_at e id (kind_of e.side id)
left_by_kind s n id k is left e h = left e h ∙ ap (frame_left_at e id) (is ∙ ap (λ side. kind_of side id) h.side)

pub shows_left : (s : EndpointState) (n id : ℕ) → is_some s.closed ≡ false → ((e : EndpointHistory) → StandsFor s e → n ≡ frame_left_at e id (kind_of e.side id)) → ShowsFrameLeft s id n
shows_left s n id no_fault is e h = is e h ∙ ap (λ b. if b then 0 else frame_left_at e id (kind_of e.side id)) (sym no_fault ∙ ap is_some h.closed)

-- and nothing behind a fault of the connection
pub shows_none : (s : EndpointState) (id : ℕ) → is_some s.closed ≡ true → ShowsFrameLeft s id 0
shows_none s id closed e h = ap (λ b. if b then 0 else frame_left_at e id (kind_of e.side id)) (sym closed ∙ ap is_some h.closed)
