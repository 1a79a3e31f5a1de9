-- What comes on an own stream of the writer, to an endpoint ahead of one that stands in the world.
use Rattle.std.proofs.Common.{◌≡◌, ℕ, Bool, true, false, List, [], ◌++◌, refl, ap, ◌∙◌, if◌then◌else◌, Option, Some, None}
use Rattle.std.specs.Prelude.{take, drop, is_some, flat_map}
use Rattle.h3_field.specs.Instruction.{encoder_bytes, decoder_bytes}
use Rattle.h3_proto.specs.declared.stream.Side.{Side}
use Rattle.h3_proto.specs.declared.stream.Side.TheVariants.{Client, Server}
use Rattle.h3_connection.specs.ExcessiveInstructions.{listen_up_to}
use Rattle.h3_connection.specs.declared.arrival.Arrival.{Arrival}
use Rattle.h3_connection.specs.declared.arrival.Arrival.TheVariants.{BytesCame}
use Rattle.h3_connection.specs.Codes.{missing_settings, settings_error}
use Rattle.h3_connection.specs.Control.{Found, after_peer, are_refused, holding, if_learned, is_table_usable, kept_unread, lacks_settings, learned, listened_to, read_control, read_decoder, read_encoder, read_held, settings_alone, taken_peer, then_decoder, with_table}
use Rattle.h3_connection.specs.Delivering.{bytes_at, heard_as, unless_second, read_unidirectional, with_unidirectional, unidirectional_at}
use Rattle.h3_connection.specs.Endpoint.{EndpointHistory, limit_of, goaway_encoding, is_second, kind_of}
use Rattle.h3_connection.specs.Endpoint.Kind.{PeerUnidirectional}
use Rattle.h3_connection.specs.Incoming.{Incoming}
use Rattle.h3_connection.specs.Keeping.{read_arrival}
use Rattle.h3_connection.specs.Outgoing.{Outgoing}
use Rattle.h3_connection.specs.OwnIds.{other, is_own, control_id, encoder_id, decoder_id}
use Rattle.h3_connection.specs.PeerReading.{PeerFound, read_peer}
use Rattle.h3_connection.specs.StreamSets.{Streams, stream_at}
use Rattle.h3_connection.specs.Unidirectional.{Role, role_after, with_bytes}
use Rattle.h3_connection.specs.Unidirectional.Role.{Untold, Control, Encoder, Decoder, Push, Session, Ignored, Other}
use Rattle.h3_world.specs.Setup.{Setup, announced_at}
use Rattle.h3_world.specs.World.{World, party}
use Rattle.h3_headline.specs.OwnEventLaws.{each_own}
use Rattle.h3_headline.specs.PeerStreams.{settings_frame_of}
use Rattle.h3_headline.specs.RoleLaws.{is_first, kind_of_control, kind_of_encoder, kind_of_decoder}
use Rattle.h3_headline.specs.Standing.{StandsAt}
use Rattle.h3_headline.specs.WritesMoreLaws.{type_of_control, type_of_encoder, type_of_decoder}
use Rattle.h3_memory.specs.Kept.{Delivery}
use Rattle.h3_memory.specs.Keeping.{Held, ahead, came_of, held_of, text_of}
use Rattle.h3_memory.proofs.AheadOwn.{IsOwnStream, control_comes, encoder_comes, decoder_comes}
use Rattle.h3_memory.proofs.KeptAlike.{held_without}
use Rattle.h3_connection.specs.StrictConnection.{kinds_of, known_streams}

-- What the one behind has of each.
control_is : (setup : Setup) (w : World) (side : Side) (e : EndpointHistory) → StandsAt setup w side e → IsOwnStream e (control_id (other side)) (party w (other side)).own.control_taken Control e.control_on
control_is setup w side e h =
    record {
      kind = ap (λ s. kind_of s (control_id (other side))) h.side_is ∙ kind_of_control side;
      stream = h.control.stream_is;
      only = ap (λ x. is_second x (control_id (other side))) h.control.is_on ∙ is_first (party w (other side)).own.control_taken (control_id (other side));
    }

encoder_is : (setup : Setup) (w : World) (side : Side) (e : EndpointHistory) → StandsAt setup w side e → IsOwnStream e (encoder_id (other side)) (party w (other side)).own.encoder_taken Encoder e.encoder_on
encoder_is setup w side e h =
    record {
      kind = ap (λ s. kind_of s (encoder_id (other side))) h.side_is ∙ kind_of_encoder side;
      stream = h.encoder_stream.stream_is;
      only = ap (λ x. is_second x (encoder_id (other side))) h.encoder_stream.is_on ∙ is_first (party w (other side)).own.encoder_taken (encoder_id (other side));
    }

decoder_is : (setup : Setup) (w : World) (side : Side) (e : EndpointHistory) → StandsAt setup w side e → IsOwnStream e (decoder_id (other side)) (party w (other side)).own.decoder_taken Decoder e.decoder_on
decoder_is setup w side e h =
    record {
      kind = ap (λ s. kind_of s (decoder_id (other side))) h.side_is ∙ kind_of_decoder side;
      stream = h.decoder_stream.stream_is;
      only = ap (λ x. is_second x (decoder_id (other side))) h.decoder_stream.is_on ∙ is_first (party w (other side)).own.decoder_taken (decoder_id (other side));
    }

abbrev over : List Delivery → Held → Streams Incoming → List Arrival → Found → Found
over mine held incoming kept x = (ahead x.0 mine held incoming kept, x.1)

-- what is read of the stream, with the bytes held in front
abbrev pub OwnAhead : Setup → World → Side → List Delivery → Held → Streams Incoming → List Arrival → EndpointHistory → ℕ → Type 0
OwnAhead setup w side mine held incoming kept e id =
    (count : ℕ) (bytes : List ℕ) → held_of (other side) held id ++ bytes ≡ take count (drop (came_of w (other side) id) (text_of setup w (other side) id))
    → (came_of w (other side) id ≡ 0 → held_of (other side) held id ≡ []) → (id ≡ control_id (other side) → e.peer.settings ≡ None → held.decoder ≡ [])
    → read_arrival (ahead e mine held incoming kept) (BytesCame id bytes)
    ≡ over mine (held_without (other side) held id) incoming kept (read_arrival e (BytesCame id (held_of (other side) held id ++ bytes)))

-- **Each own stream is read ahead as behind.**
pub own_ahead : (setup : Setup) (w : World) (side : Side) (mine : List Delivery) (held : Held) (incoming : Streams Incoming) (kept : List Arrival) (e : EndpointHistory) (id : ℕ) → StandsAt setup w side e
    → is_own (other side) id ≡ true → OwnAhead setup w side mine held incoming kept e id
own_ahead setup w Client mine held incoming kept e id h own =
    each_own (OwnAhead setup w Client mine held incoming kept e) Server id own
    (λ count bytes is nothing early. control_comes mine held incoming kept e 3 (party w Server).own.control_taken count (settings_frame_of (announced_at setup Server) ++ flat_map goaway_encoding (party w Server).own.goaways) bytes
    (control_is setup w Client e h) (is ∙ ap (λ l. take count (drop (party w Server).own.control_taken ((l ++ settings_frame_of (announced_at setup Server)) ++ flat_map goaway_encoding (party w Server).own.goaways))) type_of_control) nothing (early refl))
    (λ count bytes is nothing early. encoder_comes mine held incoming kept e 7 (party w Server).own.encoder_taken count (flat_map encoder_bytes (party w Server).own.instructions) bytes
    (encoder_is setup w Client e h) (is ∙ ap (λ l. take count (drop (party w Server).own.encoder_taken (l ++ flat_map encoder_bytes (party w Server).own.instructions))) type_of_encoder) nothing)
    (λ count bytes is nothing early. decoder_comes mine held incoming kept e 11 (party w Server).own.decoder_taken count (flat_map decoder_bytes (party w Server).own.replies) bytes
    (decoder_is setup w Client e h) (is ∙ ap (λ l. take count (drop (party w Server).own.decoder_taken (l ++ flat_map decoder_bytes (party w Server).own.replies))) type_of_decoder) nothing)
own_ahead setup w Server mine held incoming kept e id h own =
    each_own (OwnAhead setup w Server mine held incoming kept e) Client id own
    (λ count bytes is nothing early. control_comes mine held incoming kept e 2 (party w Client).own.control_taken count (settings_frame_of (announced_at setup Client) ++ flat_map goaway_encoding (party w Client).own.goaways) bytes
    (control_is setup w Server e h) (is ∙ ap (λ l. take count (drop (party w Client).own.control_taken ((l ++ settings_frame_of (announced_at setup Client)) ++ flat_map goaway_encoding (party w Client).own.goaways))) type_of_control) nothing (early refl))
    (λ count bytes is nothing early. encoder_comes mine held incoming kept e 6 (party w Client).own.encoder_taken count (flat_map encoder_bytes (party w Client).own.instructions) bytes
    (encoder_is setup w Server e h) (is ∙ ap (λ l. take count (drop (party w Client).own.encoder_taken (l ++ flat_map encoder_bytes (party w Client).own.instructions))) type_of_encoder) nothing)
    (λ count bytes is nothing early. decoder_comes mine held incoming kept e 10 (party w Client).own.decoder_taken count (flat_map decoder_bytes (party w Client).own.replies) bytes
    (decoder_is setup w Server e h) (is ∙ ap (λ l. take count (drop (party w Client).own.decoder_taken (l ++ flat_map decoder_bytes (party w Client).own.replies))) type_of_decoder) nothing)

-- Reading of unidirectional streams leaves request streams alone.
abbrev pub streams_of : EndpointHistory → Streams Incoming × Streams Outgoing
streams_of e = (e.incoming, e.outgoing)

decoder_leaves : (e : EndpointHistory) (bytes : List ℕ) → streams_of (read_decoder e bytes).0 ≡ streams_of e
decoder_leaves e bytes = by_settings (is_some e.peer.settings)
  where
    by_settings : (b : Bool) → streams_of (if b then listened_to e (listen_up_to (limit_of e) e.encoder (e.decoder_unread ++ bytes)) else kept_unread e (e.decoder_unread ++ bytes)).0 ≡ streams_of e
    by_settings true = refl
    by_settings false = refl

learned_leaves : (e : EndpointHistory) (pairs : List (ℕ × ℕ)) → streams_of (learned e pairs) ≡ streams_of e
learned_leaves e pairs = by_test (is_table_usable e.encoder.most_capacity capacity blocked)
  where
    capacity : ℕ
    capacity = Rattle.std.specs.Prelude.unwrap_or (Rattle.h3_proto.specs.Settings.value_of 1 pairs) 0

    blocked : ℕ
    blocked = Rattle.std.specs.Prelude.unwrap_or (Rattle.h3_proto.specs.Settings.value_of 7 pairs) 0

    by_test : (b : Bool) → streams_of (if b then with_table e capacity blocked else e) ≡ streams_of e
    by_test true = refl
    by_test false = refl

taken_leaves : (e : EndpointHistory) (x : PeerFound) → streams_of (taken_peer e x).0 ≡ streams_of e
taken_leaves e (p, code) = by_settings e.peer.settings p.settings code
  where
    by_settings : (before after : Option (List (ℕ × ℕ))) (code : Option ℕ) → streams_of (then_decoder before after (if_learned before after (record e { peer = p })) code).0 ≡ streams_of e
    by_settings None (Some pairs) (Some code) = learned_leaves (record e { peer = p }) pairs
    by_settings None (Some pairs) None = decoder_leaves (learned (record e { peer = p }) pairs) [] ∙ learned_leaves (record e { peer = p }) pairs
    by_settings None None (Some code) = refl
    by_settings None None None = refl
    by_settings (Some old) None (Some code) = refl
    by_settings (Some old) None None = refl
    by_settings (Some old) (Some new) (Some code) = refl
    by_settings (Some old) (Some new) None = refl

peer_leaves : (e : EndpointHistory) (x : PeerFound) → streams_of (after_peer e x).0 ≡ streams_of e
peer_leaves e x = by_refused (are_refused e e.peer.settings x.0.settings)
  where
    by_refused : (b : Bool) → streams_of (if◌then◌else◌ {A = Found} b (record e { peer = settings_alone e.peer x.0.settings }, Some settings_error) (taken_peer e x)).0 ≡ streams_of e
    by_refused true = refl
    by_refused false = taken_leaves e x

held_leaves : (e : EndpointHistory) → streams_of (read_held e).0 ≡ streams_of e
held_leaves e = by_missing (lacks_settings e)
  where
    by_missing : (b : Bool) → streams_of (if◌then◌else◌ {A = Found} b (e, Some missing_settings) (after_peer e (read_peer (kinds_of e.announced) (limit_of e) e.side e.peer))).0 ≡ streams_of e
    by_missing true = refl
    by_missing false = peer_leaves e (read_peer (kinds_of e.announced) (limit_of e) e.side e.peer)

heard_leaves : (e : EndpointHistory) (id : ℕ) (role : Role) (bytes : List ℕ) → streams_of (heard_as e id role bytes).0 ≡ streams_of e
heard_leaves e id (Untold front) bytes = refl
heard_leaves e id Control bytes = by_test (is_second e.control_on id)
  where
    by_test : (b : Bool) → streams_of (unless_second b e (read_control (record e { control_on = Some id }) bytes)).0 ≡ streams_of e
    by_test true = refl
    by_test false = held_leaves (holding (record e { control_on = Some id }) bytes)
heard_leaves e id Encoder bytes = by_test (is_second e.encoder_on id)
  where
    by_test : (b : Bool) → streams_of (unless_second b e (read_encoder (record e { encoder_on = Some id }) bytes)).0 ≡ streams_of e
    by_test true = refl
    by_test false = refl
heard_leaves e id Decoder bytes = by_test (is_second e.decoder_on id)
  where
    by_test : (b : Bool) → streams_of (unless_second b e (read_decoder (record e { decoder_on = Some id }) bytes)).0 ≡ streams_of e
    by_test true = refl
    by_test false = decoder_leaves (record e { decoder_on = Some id }) bytes
heard_leaves e id (Push push) bytes = refl
heard_leaves e id (Session session) bytes = refl
heard_leaves e id Ignored bytes = refl
heard_leaves e id (Other kind) bytes = refl

pub unidirectional_leaves : (e : EndpointHistory) (id : ℕ) (bytes : List ℕ) → kind_of e.side id ≡ PeerUnidirectional → streams_of (read_arrival e (BytesCame id bytes)).0 ≡ streams_of e
unidirectional_leaves e id bytes kind = ap (λ k. streams_of (bytes_at e id bytes k).0) kind ∙ by_role (role_after (known_streams e.announced) (unidirectional_at e id).role bytes)
  where
    by_role : (x : Role × List ℕ) → streams_of (read_unidirectional e id (unidirectional_at e id) x).0 ≡ streams_of e
    by_role (role, rest) = heard_leaves (with_unidirectional e id (with_bytes (unidirectional_at e id) (role, rest))) id role rest

pub own_kind : (setup : Setup) (w : World) (side : Side) (e : EndpointHistory) (id : ℕ) → StandsAt setup w side e → is_own (other side) id ≡ true → kind_of e.side id ≡ PeerUnidirectional
own_kind setup w side e id h own = each_own (λ i. kind_of e.side i ≡ PeerUnidirectional) (other side) id own (control_is setup w side e h).kind (encoder_is setup w side e h).kind (decoder_is setup w side e h).kind

-- Whichever of them it is.
pub record IsSomeOwn (e : EndpointHistory) (id : ℕ) : Type 0 where
  pub kind : kind_of e.side id ≡ PeerUnidirectional
  pub came : ℕ
  pub role : Role
  pub stream : Rattle.h3_headline.specs.Standing.IsPeerStream came role (stream_at e.unidirectional id)

pub own_stream_is : (setup : Setup) (w : World) (side : Side) (e : EndpointHistory) (id : ℕ) → StandsAt setup w side e → is_own (other side) id ≡ true → IsSomeOwn e id
own_stream_is setup w side e id h own =
    let o = (party w (other side)).own in
    let control = control_is setup w side e h in
    let encoder = encoder_is setup w side e h in
    let decoder = decoder_is setup w side e h in
    each_own (IsSomeOwn e) (other side) id own
    (record { kind = control.kind; came = o.control_taken; role = Control; stream = control.stream })
    (record { kind = encoder.kind; came = o.encoder_taken; role = Encoder; stream = encoder.stream })
    (record { kind = decoder.kind; came = o.decoder_taken; role = Decoder; stream = decoder.stream })
