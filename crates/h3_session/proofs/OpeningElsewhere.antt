-- What is read on streams that are no request streams looks at none of these, and leaves them.
use Rattle.std.proofs.Common.{◌≡◌, ℕ, Bool, true, false, if◌then◌else◌, List, [], ◌++◌, Option, Some, None, refl, ap, ◌∙◌}
use Rattle.std.specs.Prelude.{◌≢◌, is_some}
use Rattle.h3_connection.specs.Codes.{missing_settings, settings_error}
use Rattle.h3_connection.specs.Control.{Found, after_peer, are_refused, holding, if_learned, kept_unread, lacks_settings, listened_to, read_control, read_decoder, read_held, settings_alone, taken_peer, then_decoder, with_table}
use Rattle.h3_connection.specs.Delivering.{unidirectional_at, with_unidirectional, unless_second, heard_as, read_unidirectional}
use Rattle.h3_connection.specs.Endpoint.{EndpointHistory, limit_of, Kind, is_second}
use Rattle.h3_connection.specs.Endpoint.Kind.{Request, ServerOpened, OwnUnidirectional, PeerUnidirectional}
use Rattle.h3_connection.specs.ExcessiveInstructions.{listen_up_to}
use Rattle.h3_connection.specs.Incoming.{Incoming}
use Rattle.h3_connection.specs.Outgoing.{Outgoing}
use Rattle.h3_connection.specs.PartReading.{held_as, after_frames}
use Rattle.h3_connection.specs.PeerReading.{Peer, PeerFound, read_peer}
use Rattle.h3_connection.specs.StreamSets.{Streams}
use Rattle.h3_connection.specs.StrictConnectionLaws.{refused_alike}
use Rattle.h3_connection.specs.Unidirectional.{Unidirectional, Role, role_after, with_bytes}
use Rattle.h3_connection.specs.Unidirectional.Role.{Untold, Control, Encoder, Decoder, Session, Push, Ignored, Other}
use Rattle.h3_connection.specs.declared.arrival.Arrival.{Arrival}
use Rattle.h3_connection.specs.declared.arrival.Arrival.TheVariants.{BytesCame, EndCame, ResetCame}
use Rattle.h3_session.specs.Reading.{read_at}
use Rattle.h3_connection.specs.StrictConnection.{kinds_of, known_streams}

-- with these request streams
abbrev pub with_requests : EndpointHistory → Streams Incoming → Streams Outgoing → EndpointHistory
with_requests e ins outs = record e { incoming = ins; outgoing = outs }

-- With other request streams the same is found.
pub record LooksElsewhere (e : EndpointHistory) (found : Found) (other : Streams Incoming → Streams Outgoing → Found) : Type 0 where
  pub apart : (ins : Streams Incoming) (outs : Streams Outgoing) → other ins outs ≡ (with_requests found.0 ins outs, found.1)
  pub side : found.0.side ≡ e.side
  pub kept : found.0.kept ≡ e.kept

nothing_found : (e : EndpointHistory) (fault : Option ℕ) → LooksElsewhere e (e, fault) (λ ins outs. (with_requests e ins outs, fault))
nothing_found e fault = record { apart = λ ins outs. refl; side = refl; kept = refl }

-- The decoder stream.
decoder_by : (e : EndpointHistory) (bytes : List ℕ) (b : Bool) → LooksElsewhere e
    (if◌then◌else◌ {A = Found} b (listened_to e (listen_up_to (limit_of e) e.encoder (e.decoder_unread ++ bytes))) (kept_unread e (e.decoder_unread ++ bytes)))
    (λ ins outs. if◌then◌else◌ {A = Found} b (listened_to (with_requests e ins outs) (listen_up_to (limit_of e) e.encoder (e.decoder_unread ++ bytes))) (kept_unread (with_requests e ins outs) (e.decoder_unread ++ bytes)))
decoder_by e bytes true = record { apart = λ ins outs. refl; side = refl; kept = refl }
decoder_by e bytes false = record { apart = λ ins outs. refl; side = refl; kept = refl }

decoder_elsewhere : (e : EndpointHistory) (bytes : List ℕ) → LooksElsewhere e (read_decoder e bytes) (λ ins outs. read_decoder (with_requests e ins outs) bytes)
decoder_elsewhere e bytes = decoder_by e bytes (is_some e.peer.settings)

-- The control stream.
learned_by : (e : EndpointHistory) (capacity blocked : ℕ) (b : Bool) → LooksElsewhere e
    (read_decoder (if b then with_table e capacity blocked else e) [])
    (λ ins outs. read_decoder (if b then with_table (with_requests e ins outs) capacity blocked else with_requests e ins outs) [])
learned_by e capacity blocked true = let h = decoder_elsewhere (with_table e capacity blocked) [] in record { apart = h.apart; side = h.side; kept = h.kept }
learned_by e capacity blocked false = decoder_elsewhere e []

table_by : (e : EndpointHistory) (capacity blocked : ℕ) (fault : Option ℕ) (b : Bool) → LooksElsewhere e
    (if b then with_table e capacity blocked else e, fault) (λ ins outs. (if b then with_table (with_requests e ins outs) capacity blocked else with_requests e ins outs, fault))
table_by e capacity blocked fault true = record { apart = λ ins outs. refl; side = refl; kept = refl }
table_by e capacity blocked fault false = nothing_found e fault

learned_elsewhere : (e : EndpointHistory) (before after : Option (List (ℕ × ℕ))) (fault : Option ℕ) → LooksElsewhere e
    (if_learned before after e, fault) (λ ins outs. (if_learned before after (with_requests e ins outs), fault))
learned_elsewhere e None None fault = nothing_found e fault
learned_elsewhere e None (Some pairs) fault = table_by e _ _ fault _
learned_elsewhere e (Some first) None fault = nothing_found e fault
learned_elsewhere e (Some first) (Some pairs) fault = nothing_found e fault

peer_by : (e : EndpointHistory) (before after : Option (List (ℕ × ℕ))) (fault : Option ℕ) → LooksElsewhere e
    (then_decoder before after (if_learned before after e) fault) (λ ins outs. then_decoder before after (if_learned before after (with_requests e ins outs)) fault)
peer_by e None None (Some code) = nothing_found e (Some code)
peer_by e None None None = nothing_found e None
peer_by e None (Some pairs) (Some code) = learned_elsewhere e None (Some pairs) (Some code)
peer_by e None (Some pairs) None = learned_by e _ _ _
peer_by e (Some first) None (Some code) = nothing_found e (Some code)
peer_by e (Some first) None None = nothing_found e None
peer_by e (Some first) (Some pairs) (Some code) = nothing_found e (Some code)
peer_by e (Some first) (Some pairs) None = nothing_found e None

either_by : (b : Bool) (e : EndpointHistory) (one two : Found) (other_one other_two : Streams Incoming → Streams Outgoing → Found) → LooksElsewhere e one other_one → LooksElsewhere e two other_two
    → LooksElsewhere e (if◌then◌else◌ {A = Found} b one two) (λ ins outs. if◌then◌else◌ {A = Found} b (other_one ins outs) (other_two ins outs))
either_by true e one two other_one other_two h k = h
either_by false e one two other_one other_two h k = k

-- settings that are not taken, and a stream that begins with another frame
taken_elsewhere : (e : EndpointHistory) (found : PeerFound) → LooksElsewhere e (after_peer e found) (λ ins outs. after_peer (with_requests e ins outs) found)
taken_elsewhere e found =
    let h = peer_by (record e { peer = found.0 }) e.peer.settings found.0.settings found.1 in
    let alone = settings_alone e.peer found.0.settings in
    let b = are_refused e e.peer.settings found.0.settings in
    let either = either_by b e (record e { peer = alone }, Some settings_error) (taken_peer e found)
    (λ ins outs. (record (with_requests e ins outs) { peer = alone }, Some settings_error)) (λ ins outs. taken_peer (with_requests e ins outs) found)
    (record { apart = λ ins outs. refl; side = refl; kept = refl }) (record { apart = h.apart; side = h.side; kept = h.kept }) in
    record {
      apart = λ ins outs.
          ap (λ r. if◌then◌else◌ {A = Found} r (record (with_requests e ins outs) { peer = alone }, Some settings_error) (taken_peer (with_requests e ins outs) found))
          (refused_alike (with_requests e ins outs) e e.peer.settings found.0.settings refl refl)
          ∙ either.apart ins outs;
      side = either.side;
      kept = either.kept;
    }

held_by : (e : EndpointHistory) → LooksElsewhere e (read_held e) (λ ins outs. read_held (with_requests e ins outs))
held_by e =
    let found = read_peer (kinds_of e.announced) (limit_of e) e.side e.peer in
    either_by (lacks_settings e) e (e, Some missing_settings) (after_peer e found)
    (λ ins outs. (with_requests e ins outs, Some missing_settings)) (λ ins outs. after_peer (with_requests e ins outs) found)
    (nothing_found e (Some missing_settings)) (taken_elsewhere e found)

control_elsewhere : (e : EndpointHistory) (bytes : List ℕ) → LooksElsewhere e (read_control e bytes) (λ ins outs. read_control (with_requests e ins outs) bytes)
control_elsewhere e bytes = let h = held_by (holding e bytes) in record { apart = h.apart; side = h.side; kept = h.kept }

-- By a stream's role.
second_by : (b : Bool) (e : EndpointHistory) (found : Found) (other : Streams Incoming → Streams Outgoing → Found) → LooksElsewhere e found other
    → LooksElsewhere e (unless_second b e found) (λ ins outs. unless_second b (with_requests e ins outs) (other ins outs))
second_by true e found other h = nothing_found e _
second_by false e found other h = h

heard_elsewhere : (e : EndpointHistory) (id : ℕ) (role : Role) (bytes : List ℕ) → LooksElsewhere e (heard_as e id role bytes) (λ ins outs. heard_as (with_requests e ins outs) id role bytes)
heard_elsewhere e id (Untold front) bytes = nothing_found e None
heard_elsewhere e id Control bytes =
    let h = control_elsewhere (record e { control_on = Some id }) bytes in
    second_by (is_second e.control_on id) e _ _ (record { apart = h.apart; side = h.side; kept = h.kept })
heard_elsewhere e id Encoder bytes = second_by (is_second e.encoder_on id) e _ _ (record { apart = λ ins outs. refl; side = refl; kept = refl })
heard_elsewhere e id Decoder bytes =
    let h = decoder_elsewhere (record e { decoder_on = Some id }) bytes in
    second_by (is_second e.decoder_on id) e _ _ (record { apart = h.apart; side = h.side; kept = h.kept })
heard_elsewhere e id (Session n) bytes = nothing_found e _
heard_elsewhere e id (Push n) bytes = nothing_found e _
heard_elsewhere e id Ignored bytes = nothing_found e None
heard_elsewhere e id (Other kind) bytes = nothing_found e None

unidirectional_elsewhere : (e : EndpointHistory) (id : ℕ) (o : Unidirectional) (x : Role × List ℕ) → LooksElsewhere e (read_unidirectional e id o x) (λ ins outs. read_unidirectional (with_requests e ins outs) id o x)
unidirectional_elsewhere e id o (role, bytes) =
    let h = heard_elsewhere (with_unidirectional e id (with_bytes o (role, bytes))) id role bytes in
    record { apart = h.apart; side = h.side; kept = h.kept }

pub read_elsewhere : (e : EndpointHistory) (a : Arrival) (k : Kind) → k ≢ Request → LooksElsewhere e (read_at e a k) (λ ins outs. read_at (with_requests e ins outs) a k)
read_elsewhere e a Request none = absurd (none refl)
read_elsewhere e (BytesCame id bytes) ServerOpened none = nothing_found e _
read_elsewhere e (EndCame id) ServerOpened none = nothing_found e _
read_elsewhere e (ResetCame id code) ServerOpened none = nothing_found e _
read_elsewhere e (BytesCame id bytes) OwnUnidirectional none = nothing_found e _
read_elsewhere e (EndCame id) OwnUnidirectional none = nothing_found e _
read_elsewhere e (ResetCame id code) OwnUnidirectional none = nothing_found e _
read_elsewhere e (BytesCame id bytes) PeerUnidirectional none = unidirectional_elsewhere e id (unidirectional_at e id) (role_after (known_streams e.announced) (unidirectional_at e id).role bytes)
read_elsewhere e (EndCame id) PeerUnidirectional none = record { apart = λ ins outs. refl; side = refl; kept = refl }
read_elsewhere e (ResetCame id code) PeerUnidirectional none = record { apart = λ ins outs. refl; side = refl; kept = refl }

-- Bytes that are held and not read, and a front of the frames.
pub held_elsewhere : (e : EndpointHistory) (id : ℕ) (x : Role × List ℕ) → LooksElsewhere e (held_as e id x, None) (λ ins outs. (held_as (with_requests e ins outs) id x, None))
held_elsewhere e id (Untold front, bytes) = nothing_found e None
held_elsewhere e id (Control, bytes) = record { apart = λ ins outs. refl; side = refl; kept = refl }
held_elsewhere e id (Encoder, bytes) = record { apart = λ ins outs. refl; side = refl; kept = refl }
held_elsewhere e id (Decoder, bytes) = record { apart = λ ins outs. refl; side = refl; kept = refl }
held_elsewhere e id (Session n, bytes) = nothing_found e None
held_elsewhere e id (Push n, bytes) = nothing_found e None
held_elsewhere e id (Ignored, bytes) = nothing_found e None
held_elsewhere e id (Other kind, bytes) = nothing_found e None

pub frames_elsewhere : (e : EndpointHistory) (p : Peer) → LooksElsewhere e (after_frames e p, None) (λ ins outs. (after_frames (with_requests e ins outs) p, None))
frames_elsewhere e p = let h = learned_elsewhere (record e { peer = p }) e.peer.settings p.settings None in record { apart = h.apart; side = h.side; kept = h.kept }
