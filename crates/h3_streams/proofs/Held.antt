-- How much of a unidirectional stream of the peer is held: what is stored of it, as the definitions count it.
use Rattle.std.proofs.Common.{arith, ◌≡◌, ℕ, ◌+◌, ap, ◌∙◌, sym}
use Rattle.std.specs.Prelude.{◌-◌, ◌^◌, length, min, unwrap_or}
use Rattle.h3_frames.specs.UnknownSize.{held_length}
use Rattle.h3_connection.specs.Delivering.{unidirectional_at}
use Rattle.h3_connection.specs.Endpoint.{EndpointHistory}
use Rattle.h3_connection.specs.State.{EndpointState, StandsFor}
use Rattle.h3_connection.specs.Unidirectional.{untold}
use Rattle.h3_connection.specs.Unread.{held_of_role, held_by, held_of_peer, counted}
use Rattle.h3_streams.specs.Placed.{StreamsState, placed, stream_of_peer}
use Rattle.h3_connection.specs.StrictConnection.{kinds_of}
use Rattle.h3_connection.specs.declared.setup.Announced.{Announced}

-- sums that each stop at the greatest number
held_sum : (a b c d : ℕ) → min (2 ^ 64 - 1) (min (2 ^ 64 - 1) (min (2 ^ 64 - 1) (a + b) + c) + d) ≡ counted (a + b + c + d)
held_sum a b c d = omega arith

-- where each part is what is stored
pub held_stands : (s : EndpointState) (x : StreamsState) (e : EndpointHistory) (own : Announced) (id kept control encoder decoder : ℕ) → StandsFor (placed s x) e → e.announced ≡ own
    → kept ≡ held_of_role (stream_of_peer x id) (stream_of_peer x id).role
    → control ≡ held_by x.control_on id (held_length (kinds_of own) x.peer.unread)
    → encoder ≡ held_by x.encoder_on id (length x.decoding.unread)
    → decoder ≡ held_by x.decoder_on id (length x.encoding.unread)
    → min (2 ^ 64 - 1) (min (2 ^ 64 - 1) (min (2 ^ 64 - 1) (kept + control) + encoder) + decoder) ≡ counted (held_of_peer e id)
held_stands s x e own id kept control encoder decoder h are is_kept is_control is_encoder is_decoder =
    let kept_there = is_kept ∙ ap (λ o. held_of_role (unwrap_or o untold) (unwrap_or o untold).role) (h.unidirectional id) in
    let control_there = is_control ∙ ap (λ on. held_by on id (held_length (kinds_of own) x.peer.unread)) h.control_on ∙ ap (λ p. held_by e.control_on id (held_length (kinds_of own) p.unread)) h.peer
    ∙ ap (λ (a : Announced). held_by e.control_on id (held_length (kinds_of a) e.peer.unread)) (sym are) in
    let encoder_there = is_encoder ∙ ap (λ on. held_by on id (length x.decoding.unread)) h.encoder_on ∙ ap (λ d. held_by e.encoder_on id (length d.unread)) h.decoding in
    let decoder_there = is_decoder ∙ ap (λ on. held_by on id (length x.encoding.unread)) h.decoder_on ∙ ap (λ bytes. held_by e.decoder_on id (length bytes)) h.decoder_unread in
    held_sum kept control encoder decoder
    ∙ ap (λ a. counted (a + control + encoder + decoder)) kept_there
    ∙ ap (λ b. counted (held_of_role (unidirectional_at e id) (unidirectional_at e id).role + b + encoder + decoder)) control_there
    ∙ ap (λ c. counted (held_of_role (unidirectional_at e id) (unidirectional_at e id).role + held_by e.control_on id (held_length (kinds_of e.announced) e.peer.unread) + c + decoder)) encoder_there
    ∙ ap (λ d. counted (held_of_role (unidirectional_at e id) (unidirectional_at e id).role + held_by e.control_on id (held_length (kinds_of e.announced) e.peer.unread) + held_by e.encoder_on id (length e.decoding.unread) + d)) decoder_there
