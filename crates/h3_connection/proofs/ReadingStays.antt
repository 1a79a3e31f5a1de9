-- Reading what came finds faults, and neither closes the connection nor opens a request.
use Rattle.std.proofs.Common.{◌≡◌, ℕ, Bool, true, false, List, [], ◌∷◌, refl, ◌∙◌}
use Rattle.std.specs.Prelude.{Option, Some, None}
use Rattle.h3_connection.specs.Arrivals.{Arrival, BytesCame, EndCame, ResetCame}
use Rattle.h3_connection.specs.Control.{Found, read_control, read_encoder, read_decoder}
use Rattle.h3_connection.specs.Delivering.{opened_at, heard_as, unless_second, read_unidirectional, unidirectional_at, with_unidirectional, bytes_at, end_at, reset_at}
use Rattle.h3_connection.specs.Endpoint.{EndpointHistory, Kind, kind_of}
use Rattle.h3_connection.specs.Endpoint.Kind.{Request, ServerOpened, OwnUnidirectional, PeerUnidirectional}
use Rattle.h3_connection.specs.Incoming.{Incoming}
use Rattle.h3_connection.specs.Keeping.{read_arrival, read_all, unless_faulty}
use Rattle.h3_connection.specs.StreamSets.{stream_at}
use Rattle.h3_connection.specs.Unidirectional.{Unidirectional, Role, with_bytes, role_after}
use Rattle.h3_connection.specs.Unidirectional.Role.{Untold, Control, Encoder, Decoder, Session, Push, Ignored, Other}
use Rattle.h3_connection.proofs.Quiet.{Quiet, quiet_control, quiet_decoder}
use Rattle.h3_connection.specs.StrictConnection.{known_streams}

pub record Stays (e f : EndpointHistory) : Type 0 where
  pub closed : f.closed ≡ e.closed
  pub next_id : f.next_id ≡ e.next_id

same : (e : EndpointHistory) → Stays e e
same e = record { closed = refl; next_id = refl }

quietly : (e f g : EndpointHistory) → Stays e f → Quiet f g → Stays e g
quietly e f g h k = record { closed = k.closed ∙ h.closed; next_id = k.next_id ∙ h.next_id }

second : (e : EndpointHistory) (b : Bool) (found : Found) → Stays e found.0 → Stays e (unless_second b e found).0
second e true found h = same e
second e false found h = h

role_stays : (e : EndpointHistory) (id : ℕ) (role : Role) (bytes : List ℕ) → Stays e (heard_as e id role bytes).0
role_stays e id (Untold front) bytes = same e
role_stays e id Control bytes =
    let f = record e { control_on = Some id } in
    second e _ (read_control f bytes) (quietly e f _ (record { closed = refl; next_id = refl }) (quiet_control f bytes))
role_stays e id Encoder bytes = second e _ (read_encoder (record e { encoder_on = Some id }) bytes) (record { closed = refl; next_id = refl })
role_stays e id Decoder bytes =
    let f = record e { decoder_on = Some id } in
    second e _ (read_decoder f bytes) (quietly e f _ (record { closed = refl; next_id = refl }) (quiet_decoder f bytes))
role_stays e id (Session n) bytes = same e
role_stays e id (Push n) bytes = same e
role_stays e id Ignored bytes = same e
role_stays e id (Other kind) bytes = same e

peer_stays : (e : EndpointHistory) (id : ℕ) (o : Unidirectional) (read_as : Role × List ℕ) → Stays e (read_unidirectional e id o read_as).0
peer_stays e id o (role, bytes) = let h = role_stays (with_unidirectional e id (with_bytes o (role, bytes))) id role bytes in record { closed = h.closed; next_id = h.next_id }

opened_stays : (e f : EndpointHistory) (id : ℕ) (at : Option Incoming) → f.closed ≡ (opened_at e id at).closed → f.next_id ≡ (opened_at e id at).next_id → Stays e f
opened_stays e f id (Some i) a b = record { closed = a; next_id = b }
opened_stays e f id None a b = record { closed = a; next_id = b }

pub bytes_stay : (e : EndpointHistory) (id : ℕ) (bytes : List ℕ) (k : Kind) → Stays e (bytes_at e id bytes k).0
bytes_stay e id bytes Request = opened_stays e _ id (stream_at e.incoming id) refl refl
bytes_stay e id bytes ServerOpened = same e
bytes_stay e id bytes OwnUnidirectional = same e
bytes_stay e id bytes PeerUnidirectional = peer_stays e id (unidirectional_at e id) (role_after (known_streams e.announced) (unidirectional_at e id).role bytes)

pub end_stays : (e : EndpointHistory) (id : ℕ) (k : Kind) → Stays e (end_at e id k).0
end_stays e id Request = opened_stays e _ id (stream_at e.incoming id) refl refl
end_stays e id ServerOpened = same e
end_stays e id OwnUnidirectional = same e
end_stays e id PeerUnidirectional = record { closed = refl; next_id = refl }

pub reset_stays : (e : EndpointHistory) (id code : ℕ) (k : Kind) → Stays e (reset_at e id code k).0
reset_stays e id code Request = opened_stays e _ id (stream_at e.incoming id) refl refl
reset_stays e id code ServerOpened = same e
reset_stays e id code OwnUnidirectional = same e
reset_stays e id code PeerUnidirectional = record { closed = refl; next_id = refl }

arrival_stays : (e : EndpointHistory) (a : Arrival) → Stays e (read_arrival e a).0
arrival_stays e (BytesCame id bytes) = bytes_stay e id bytes (kind_of e.side id)
arrival_stays e (EndCame id) = end_stays e id (kind_of e.side id)
arrival_stays e (ResetCame id code) = reset_stays e id code (kind_of e.side id)

stays_after : (arrivals : List Arrival) (e : EndpointHistory) (found : Found) → Stays e found.0 → ((f : EndpointHistory) → Stays f (read_all arrivals f).0) → Stays e (unless_faulty (read_all arrivals) found).0
stays_after arrivals e (f, Some code) h each = h
stays_after arrivals e (f, None) h each = let k = each f in record { closed = k.closed ∙ h.closed; next_id = k.next_id ∙ h.next_id }

pub all_stays : (arrivals : List Arrival) (e : EndpointHistory) → Stays e (read_all arrivals e).0
all_stays [] e = same e
all_stays (a ∷ arrivals) e = stays_after arrivals e (read_arrival e a) (arrival_stays e a) (λ f. all_stays arrivals f)
