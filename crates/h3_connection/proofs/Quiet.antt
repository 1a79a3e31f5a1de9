-- The peer's control and decoder streams change nothing that request streams rest on.
use Rattle.std.proofs.Common.{◌≡◌, ℕ, Bool, true, false, List, [], refl, ◌∙◌}
use Rattle.std.specs.Prelude.{Option, Some, None, if◌then◌else◌}
use Rattle.h3_connection.specs.Endpoint.{EndpointHistory, limit_of}
use Rattle.h3_connection.specs.PeerReading.{PeerFound, read_peer}
use Rattle.h3_connection.specs.Control.{Found, read_decoder, read_control, after_peer, taken_peer, then_decoder, if_learned, learned, are_refused, holding, lacks_settings}
use Rattle.h3_connection.specs.StrictConnection.{kinds_of}

-- what request streams rest on is as it was
pub record Quiet (e f : EndpointHistory) : Type 0 where
  pub side : f.side ≡ e.side
  pub announced : f.announced ≡ e.announced
  pub closed : f.closed ≡ e.closed
  pub next_id : f.next_id ≡ e.next_id
  pub incoming : f.incoming ≡ e.incoming
  pub unidirectional : f.unidirectional ≡ e.unidirectional
  pub decoding : f.decoding ≡ e.decoding

pub still : (e : EndpointHistory) → Quiet e e
still e = record { side = refl; announced = refl; closed = refl; next_id = refl; incoming = refl; unidirectional = refl; decoding = refl }

pub quiet_then : (e f g : EndpointHistory) → Quiet e f → Quiet f g → Quiet e g
quiet_then e f g h k = record {
  side = k.side ∙ h.side;
  announced = k.announced ∙ h.announced;
  closed = k.closed ∙ h.closed;
  next_id = k.next_id ∙ h.next_id;
  incoming = k.incoming ∙ h.incoming;
  unidirectional = k.unidirectional ∙ h.unidirectional;
  decoding = k.decoding ∙ h.decoding;
}

pub quiet_if : (b : Bool) (e : EndpointHistory) (x y : Found) → Quiet e x.0 → Quiet e y.0 → Quiet e (if b then x else y).0
quiet_if true e x y h k = h
quiet_if false e x y h k = k

pub quiet_either : (b : Bool) (e x y : EndpointHistory) → Quiet e x → Quiet e y → Quiet e (if b then x else y)
quiet_either true e x y h k = h
quiet_either false e x y h k = k

-- every field but those of the peer, the sender and the own texts
pub shut : (e f : EndpointHistory) → f.side ≡ e.side → f.announced ≡ e.announced → f.closed ≡ e.closed → f.next_id ≡ e.next_id → f.incoming ≡ e.incoming → f.unidirectional ≡ e.unidirectional → f.decoding ≡ e.decoding → Quiet e f
shut e f a b c d g h k = record { side = a; announced = b; closed = c; next_id = d; incoming = g; unidirectional = h; decoding = k }

quiet_learned : (e : EndpointHistory) (pairs : List (ℕ × ℕ)) → Quiet e (learned e pairs)
quiet_learned e pairs = quiet_either _ e _ _ (shut e _ refl refl refl refl refl refl refl) (still e)

pub quiet_if_learned : (before after : Option (List (ℕ × ℕ))) (e : EndpointHistory) → Quiet e (if_learned before after e)
quiet_if_learned None (Some pairs) e = quiet_learned e pairs
quiet_if_learned None None e = still e
quiet_if_learned (Some known) after e = still e

pub quiet_decoder : (e : EndpointHistory) (bytes : List ℕ) → Quiet e (read_decoder e bytes).0
quiet_decoder e bytes = quiet_if _ e _ _ (shut e _ refl refl refl refl refl refl refl) (shut e _ refl refl refl refl refl refl refl)

quiet_then_decoder : (before after : Option (List (ℕ × ℕ))) (e : EndpointHistory) (fault : Option ℕ) → Quiet e (then_decoder before after e fault).0
quiet_then_decoder before after e (Some code) = still e
quiet_then_decoder None (Some pairs) e None = quiet_decoder e []
quiet_then_decoder None None e None = still e
quiet_then_decoder (Some known) after e None = still e

pub quiet_taken : (e : EndpointHistory) (found : PeerFound) → Quiet e (taken_peer e found).0
quiet_taken e (p, fault) =
    let f = record e { peer = p } in
    let g = if_learned e.peer.settings p.settings f in
    quiet_then e f _ (shut e f refl refl refl refl refl refl refl)
    (quiet_then f g _ (quiet_if_learned e.peer.settings p.settings f) (quiet_then_decoder e.peer.settings p.settings g fault))

quiet_after : (e : EndpointHistory) (found : PeerFound) → Quiet e (after_peer e found).0
quiet_after e (p, fault) = quiet_if (are_refused e e.peer.settings p.settings) e _ _ (shut e _ refl refl refl refl refl refl refl) (quiet_taken e (p, fault))

pub quiet_control : (e : EndpointHistory) (bytes : List ℕ) → Quiet e (read_control e bytes).0
quiet_control e bytes =
    let h = holding e bytes in
    quiet_then e h _ (shut e h refl refl refl refl refl refl refl) (quiet_if (lacks_settings h) h _ _ (still h) (quiet_after h (read_peer (kinds_of h.announced) (limit_of h) h.side h.peer)))
