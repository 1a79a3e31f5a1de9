-- Bytes of an own stream that stand with those that its reader holds: of one that told its type, and of one that tells it with them.
use Rattle.std.proofs.Common.{◌≡◌, ℕ, Bool, true, false, List, [], ◌∷◌, ◌++◌, take, refl, sym, ap, ◌∙◌, append_assoc, if◌then◌else◌, Option, Some, None}
use Rattle.std.specs.Prelude.{◌==◌, unwrap_or, zero, suc}
use Rattle.h3_proto.specs.declared.stream.Side.{Side}
use Rattle.h3_proto.specs.declared.stream.Side.TheVariants.{Client, Server}
use Rattle.h3_connection.specs.declared.arrival.Arrival.{Arrival}
use Rattle.h3_connection.specs.declared.arrival.Arrival.TheVariants.{BytesCame}
use Rattle.h3_connection.specs.Control.{read_control, read_encoder, read_decoder}
use Rattle.h3_connection.specs.Delivering.{bytes_at, heard_as, read_unidirectional, unidirectional_at, unless_second, with_unidirectional}
use Rattle.h3_connection.specs.Endpoint.{EndpointHistory, is_second, kind_of}
use Rattle.h3_connection.specs.Endpoint.Kind.{PeerUnidirectional}
use Rattle.h3_connection.specs.Incoming.{Incoming}
use Rattle.h3_connection.specs.Keeping.{read_arrival}
use Rattle.h3_connection.specs.OwnIds.{other, is_own, control_id, encoder_id, decoder_id}
use Rattle.h3_connection.specs.PartReading as reading
use Rattle.h3_connection.specs.PartReading.{is_reader}
use Rattle.h3_connection.specs.PeerReading.{with_unread}
use Rattle.h3_connection.specs.StreamSetLaws.{set-here, set-same}
use Rattle.h3_connection.specs.StreamSets.{Streams, stream_at}
use Rattle.h3_connection.specs.Unidirectional.{Role, Unidirectional, role_after, untold, with_bytes}
use Rattle.h3_connection.specs.Unidirectional.Role.{Untold, Control, Encoder, Decoder}
use Rattle.h3_world.specs.Setup.{Setup}
use Rattle.h3_world.specs.World.{World, party}
use Rattle.h3_headline.specs.Cited.{StreamLaws}
use Rattle.h3_headline.specs.FlowLaws.{same_number}
use Rattle.h3_headline.specs.OwnEventLaws.{each_own}
use Rattle.h3_headline.specs.PeerStreams.{IsTyped, with_role}
use Rattle.h3_headline.specs.RoleLaws.{peer_stream, role_then, typed_control, typed_decoder, typed_encoder}
use Rattle.h3_headline.specs.Standing.{IsPeerStream, StandsAt, came_on}
use Rattle.h3_memory.specs.Kept.{Delivery}
use Rattle.h3_memory.specs.Keeping.{Held, ahead, came_of, held_of}
use Rattle.h3_memory.proofs.BehindOwn.{found_as}
use Rattle.h3_memory.proofs.OwnAhead.{own_stream_is}
use Rattle.h3_memory.proofs.OwnNames.{control_own, encoder_own, decoder_own}
use Rattle.h3_memory.proofs.PartsHeld.{holding}
use Rattle.h3_memory.proofs.TellsRole.{IsReadAs, told_stream, no_bytes_heard, no_bytes_listened, no_bytes_controlled}
use Rattle.h3_connection.specs.StrictConnection.{known_streams}

-- A stream that told its type: its bytes stand behind those that are held.
abbrev held_by : EndpointHistory → ℕ → List ℕ → Option Unidirectional → EndpointHistory
held_by e id bytes o = reading.held_as (with_unidirectional e id (with_bytes (unwrap_or o untold) (role_after (known_streams e.announced) (unwrap_or o untold).role bytes))) id (role_after (known_streams e.announced) (unwrap_or o untold).role bytes)

same_stream : (e : EndpointHistory) (id : ℕ) (role : Role) → stream_at e.unidirectional id ≡ Some (with_role role) → with_unidirectional e id (with_role role) ≡ e
same_stream e id role there = ap (λ l. record e { unidirectional = l }) (set-same e.unidirectional id (with_role role) there)

module _ (mine : List Delivery) (held : Held) (incoming : Streams Incoming) (e : EndpointHistory) (id : ℕ) (bytes : List ℕ) where
  abbrev F : EndpointHistory
  F = ahead e mine held incoming []

  held_encoder : IsReadAs e id Encoder e.encoder_on → reading.held F id bytes ≡ ahead e mine (record held { encoder = held.encoder ++ bytes }) incoming []
  held_encoder h =
      ap (held_by F id bytes) h.stream
      ∙ ap (λ (x : EndpointHistory). record x { encoder_on = Some id; decoding = record x.decoding { unread = x.decoding.unread ++ bytes } }) (same_stream F id Encoder h.stream)
      ∙ ap (λ o. record F { encoder_on = o; decoding = record F.decoding { unread = F.decoding.unread ++ bytes } }) (sym h.on_it)
      ∙ ap (λ l. record F { decoding = record F.decoding { unread = l } }) (append_assoc e.decoding.unread held.encoder bytes)

  held_decoder : IsReadAs e id Decoder e.decoder_on → reading.held F id bytes ≡ ahead e mine (record held { decoder = held.decoder ++ bytes }) incoming []
  held_decoder h =
      ap (held_by F id bytes) h.stream
      ∙ ap (λ (x : EndpointHistory). record x { decoder_on = Some id; decoder_unread = x.decoder_unread ++ bytes }) (same_stream F id Decoder h.stream)
      ∙ ap (λ o. record F { decoder_on = o; decoder_unread = F.decoder_unread ++ bytes }) (sym h.on_it)
      ∙ ap (λ l. record F { decoder_unread = l }) (append_assoc e.decoder_unread held.decoder bytes)

  held_control : IsReadAs e id Control e.control_on → reading.held F id bytes ≡ ahead e mine (record held { control = held.control ++ bytes }) incoming []
  held_control h =
      ap (held_by F id bytes) h.stream
      ∙ ap (λ (x : EndpointHistory). record x { control_on = Some id; peer = with_unread x.peer (x.peer.unread ++ bytes) }) (same_stream F id Control h.stream)
      ∙ ap (λ o. record F { control_on = o; peer = with_unread F.peer (F.peer.unread ++ bytes) }) (sym h.on_it)
      ∙ ap (λ l. record F { peer = with_unread F.peer l }) (append_assoc e.peer.unread held.control bytes)

on_told : (came x : ℕ) → (came ≡ 0 → ⊥) → came_on came x ≡ Some x
on_told came x told = by_test (came == 0) refl
  where
    by_test : (b : Bool) → (came == 0) ≡ b → (if b then None else Some x) ≡ Some x
    by_test true t = absurd (told (same_number came 0 t))
    by_test false t = refl

told_control : (setup : Setup) (w : World) (side : Side) (e : EndpointHistory) → StandsAt setup w side e → ((party w (other side)).own.control_taken ≡ 0 → ⊥) → IsReadAs e (control_id (other side)) Control e.control_on
told_control setup w side e h told =
    record {
      kind = (own_stream_is setup w side e (control_id (other side)) h (control_own (other side))).kind;
      stream = told_stream (party w (other side)).own.control_taken Control (stream_at e.unidirectional (control_id (other side))) told h.control.stream_is;
      on_it = h.control.is_on ∙ on_told (party w (other side)).own.control_taken (control_id (other side)) told;
    }

told_encoder : (setup : Setup) (w : World) (side : Side) (e : EndpointHistory) → StandsAt setup w side e → ((party w (other side)).own.encoder_taken ≡ 0 → ⊥) → IsReadAs e (encoder_id (other side)) Encoder e.encoder_on
told_encoder setup w side e h told =
    record {
      kind = (own_stream_is setup w side e (encoder_id (other side)) h (encoder_own (other side))).kind;
      stream = told_stream (party w (other side)).own.encoder_taken Encoder (stream_at e.unidirectional (encoder_id (other side))) told h.encoder_stream.stream_is;
      on_it = h.encoder_stream.is_on ∙ on_told (party w (other side)).own.encoder_taken (encoder_id (other side)) told;
    }

told_decoder : (setup : Setup) (w : World) (side : Side) (e : EndpointHistory) → StandsAt setup w side e → ((party w (other side)).own.decoder_taken ≡ 0 → ⊥) → IsReadAs e (decoder_id (other side)) Decoder e.decoder_on
told_decoder setup w side e h told =
    record {
      kind = (own_stream_is setup w side e (decoder_id (other side)) h (decoder_own (other side))).kind;
      stream = told_stream (party w (other side)).own.decoder_taken Decoder (stream_at e.unidirectional (decoder_id (other side))) told h.decoder_stream.stream_is;
      on_it = h.decoder_stream.is_on ∙ on_told (party w (other side)).own.decoder_taken (decoder_id (other side)) told;
    }

-- **Each own stream that told its type.**
pub told_holds : (setup : Setup) (w : World) (side : Side) (mine : List Delivery) (held : Held) (incoming : Streams Incoming) (e : EndpointHistory) (id : ℕ) (bytes : List ℕ) → StandsAt setup w side e → is_own (other side) id ≡ true
    → (came_of w (other side) id ≡ 0 → ⊥) → reading.held (ahead e mine held incoming []) id bytes ≡ ahead e mine (holding (other side) held id (held_of (other side) held id ++ bytes)) incoming []
told_holds setup w Client mine held incoming e id bytes h own told =
    each_own (λ q. (came_of w Server q ≡ 0 → ⊥) → reading.held (ahead e mine held incoming []) q bytes ≡ ahead e mine (holding Server held q (held_of Server held q ++ bytes)) incoming []) Server id own
    (λ t. held_control mine held incoming e 3 bytes (told_control setup w Client e h t)) (λ t. held_encoder mine held incoming e 7 bytes (told_encoder setup w Client e h t))
    (λ t. held_decoder mine held incoming e 11 bytes (told_decoder setup w Client e h t)) told
told_holds setup w Server mine held incoming e id bytes h own told =
    each_own (λ q. (came_of w Client q ≡ 0 → ⊥) → reading.held (ahead e mine held incoming []) q bytes ≡ ahead e mine (holding Client held q (held_of Client held q ++ bytes)) incoming []) Client id own
    (λ t. held_control mine held incoming e 2 bytes (told_control setup w Server e h t)) (λ t. held_encoder mine held incoming e 6 bytes (told_encoder setup w Server e h t))
    (λ t. held_decoder mine held incoming e 10 bytes (told_decoder setup w Server e h t)) told

-- A stream of which nothing came: its first byte tells its type, and the others go to those that are held.
pub record Tells (f : EndpointHistory) (q : ℕ) (text : List ℕ) : Type 0 where
  pub first : (b count : ℕ) (bytes : List ℕ) → b ∷ bytes ≡ take count text → (next : EndpointHistory) → read_arrival f (BytesCame q (b ∷ [])) ≡ found_as next → reading.held f q (b ∷ bytes) ≡ reading.held next q bytes
  pub nothing : is_reader f q (role_after (known_streams f.announced) (unidirectional_at f q).role []).0 ≡ false

-- such a stream
pub record IsUntold (f : EndpointHistory) (q : ℕ) (role : Role) (on : Option ℕ) : Type 0 where
  pub kind : kind_of f.side q ≡ PeerUnidirectional
  pub stream : IsPeerStream 0 role (stream_at f.unidirectional q)
  pub only : is_second on q ≡ false

untold_is : (f : EndpointHistory) (q : ℕ) (role : Role) (on : Option ℕ) → IsUntold f q role on → unidirectional_at f q ≡ with_role (Untold [])
untold_is f q role on h = peer_stream 0 role (stream_at f.unidirectional q) h.stream

first_byte : (b kind count : ℕ) (bytes units : List ℕ) → b ∷ bytes ≡ take count (kind ∷ units) → b ≡ kind
first_byte b kind zero bytes units is = absurd (cc)
first_byte b kind (suc n) bytes units is = cc

untold_nothing : (f : EndpointHistory) (q kind : ℕ) (role : Role) (on : Option ℕ) (units : List ℕ) → IsTyped kind role → IsUntold f q role on → is_reader f q (role_after (known_streams f.announced) (unidirectional_at f q).role []).0 ≡ false
untold_nothing f q kind role on units typed h =
    ap (λ (o : Unidirectional). is_reader f q (role_after (known_streams f.announced) o.role []).0) (untold_is f q role on h)
    ∙ ap (λ (x : Role × List ℕ). is_reader f q x.0) (role_then (known_streams f.announced) kind role 0 0 units typed)

-- the bytes behind the type, of one that has just told it
abbrev told_at : EndpointHistory → ℕ → Role → EndpointHistory
told_at f q role = with_unidirectional f q (with_role role)

tells_held : (f : EndpointHistory) (q b : ℕ) (role : Role) (on : Option ℕ) (bytes : List ℕ) → IsUntold f q role on → role_after (known_streams f.announced) (Untold []) (b ∷ bytes) ≡ (role, bytes) → with_bytes (with_role (Untold [])) (role, bytes) ≡ with_role role
    → reading.held f q (b ∷ bytes) ≡ reading.held_as (told_at f q role) q (role, bytes)
tells_held f q b role on bytes h tells left =
    ap (λ (o : Unidirectional). reading.held_as (with_unidirectional f q (with_bytes o (role_after (known_streams f.announced) o.role (b ∷ bytes)))) q (role_after (known_streams f.announced) o.role (b ∷ bytes))) (untold_is f q role on h)
    ∙ ap (λ x. reading.held_as (with_unidirectional f q (with_bytes (with_role (Untold [])) x)) q x) tells
    ∙ ap (λ o. reading.held_as (with_unidirectional f q o) q (role, bytes)) left

tells_read : (f : EndpointHistory) (q b : ℕ) (role : Role) (on : Option ℕ) → IsUntold f q role on → role_after (known_streams f.announced) (Untold []) (b ∷ []) ≡ (role, []) → with_bytes (with_role (Untold [])) (role, []) ≡ with_role role
    → read_arrival f (BytesCame q (b ∷ [])) ≡ heard_as (told_at f q role) q role []
tells_read f q b role on h tells left =
    ap (bytes_at f q (b ∷ [])) h.kind
    ∙ ap (λ (o : Unidirectional). read_unidirectional f q o (role_after (known_streams f.announced) o.role (b ∷ []))) (untold_is f q role on h)
    ∙ ap (λ x. read_unidirectional f q (with_role (Untold [])) x) tells
    ∙ ap (λ o. heard_as (with_unidirectional f q o) q role []) left

-- of one that told it
held_told : (x : EndpointHistory) (q : ℕ) (role : Role) (bytes : List ℕ) → stream_at x.unidirectional q ≡ Some (with_role role) → role_after (known_streams x.announced) role bytes ≡ (role, bytes) → with_bytes (with_role role) (role, bytes) ≡ with_role role
    → reading.held x q bytes ≡ reading.held_as x q (role, bytes)
held_told x q role bytes there same left =
    ap (held_by x q bytes) there
    ∙ ap (λ y. reading.held_as (with_unidirectional x q (with_bytes (with_role role) y)) q y) same
    ∙ ap (λ o. reading.held_as (with_unidirectional x q o) q (role, bytes)) left
    ∙ ap (λ y. reading.held_as y q (role, bytes)) (same_stream x q role there)

next_is : (f x next : EndpointHistory) (a : Arrival) → read_arrival f a ≡ found_as x → read_arrival f a ≡ found_as next → x ≡ next
next_is f x next a e h = ap (λ (y : Rattle.h3_connection.specs.Control.Found). y.0) (sym e ∙ h)

pub tells_control : (f : EndpointHistory) (q : ℕ) (units : List ℕ) → IsUntold f q Control f.control_on → f.peer.unread ≡ [] → Tells f q (0 ∷ units)
tells_control f q units h none =
    record {
      first = λ b count bytes is next reads.
          let tells : (l : List ℕ) → role_after (known_streams f.announced) (Untold []) (b ∷ l) ≡ (Control, l) = λ l. ap (λ k. role_after (known_streams f.announced) (Untold []) (k ∷ l)) (first_byte b 0 count bytes units is) ∙ typed_control.first (known_streams f.announced) l in
          let x : EndpointHistory = record (told_at f q Control) { control_on = Some q } in
          let read : read_arrival f (BytesCame q (b ∷ [])) ≡ found_as x =
          tells_read f q b Control f.control_on h (tells []) refl ∙ ap (λ t. unless_second t (told_at f q Control) (read_control x [])) h.only ∙ no_bytes_controlled x none in
          tells_held f q b Control f.control_on bytes h (tells bytes) refl
          ∙ sym (held_told x q Control bytes (set-here f.unidirectional q (with_role Control)) refl refl)
          ∙ ap (λ y. reading.held y q bytes) (next_is f x next (BytesCame q (b ∷ [])) read reads);
      nothing = untold_nothing f q 0 Control f.control_on units typed_control h;
    }

pub tells_encoder : (laws : StreamLaws) (f : EndpointHistory) (q : ℕ) (units : List ℕ) → IsUntold f q Encoder f.encoder_on → f.decoding.unread ≡ [] → Tells f q (2 ∷ units)
tells_encoder laws f q units h none =
    record {
      first = λ b count bytes is next reads.
          let tells : (l : List ℕ) → role_after (known_streams f.announced) (Untold []) (b ∷ l) ≡ (Encoder, l) = λ l. ap (λ k. role_after (known_streams f.announced) (Untold []) (k ∷ l)) (first_byte b 2 count bytes units is) ∙ typed_encoder.first (known_streams f.announced) l in
          let x : EndpointHistory = record (told_at f q Encoder) { encoder_on = Some q } in
          let read : read_arrival f (BytesCame q (b ∷ [])) ≡ found_as x =
          tells_read f q b Encoder f.encoder_on h (tells []) refl ∙ ap (λ t. unless_second t (told_at f q Encoder) (read_encoder x [])) h.only ∙ no_bytes_heard x none in
          tells_held f q b Encoder f.encoder_on bytes h (tells bytes) refl
          ∙ sym (held_told x q Encoder bytes (set-here f.unidirectional q (with_role Encoder)) refl refl)
          ∙ ap (λ y. reading.held y q bytes) (next_is f x next (BytesCame q (b ∷ [])) read reads);
      nothing = untold_nothing f q 2 Encoder f.encoder_on units typed_encoder h;
    }

pub tells_decoder : (laws : StreamLaws) (f : EndpointHistory) (q : ℕ) (units : List ℕ) → IsUntold f q Decoder f.decoder_on → f.decoder_unread ≡ [] → Tells f q (3 ∷ units)
tells_decoder laws f q units h none =
    record {
      first = λ b count bytes is next reads.
          let tells : (l : List ℕ) → role_after (known_streams f.announced) (Untold []) (b ∷ l) ≡ (Decoder, l) = λ l. ap (λ k. role_after (known_streams f.announced) (Untold []) (k ∷ l)) (first_byte b 3 count bytes units is) ∙ typed_decoder.first (known_streams f.announced) l in
          let x : EndpointHistory = record (told_at f q Decoder) { decoder_on = Some q } in
          let read : read_arrival f (BytesCame q (b ∷ [])) ≡ found_as x =
          tells_read f q b Decoder f.decoder_on h (tells []) refl ∙ ap (λ t. unless_second t (told_at f q Decoder) (read_decoder x [])) h.only ∙ no_bytes_listened x none in
          tells_held f q b Decoder f.decoder_on bytes h (tells bytes) refl
          ∙ sym (held_told x q Decoder bytes (set-here f.unidirectional q (with_role Decoder)) refl refl)
          ∙ ap (λ y. reading.held y q bytes) (next_is f x next (BytesCame q (b ∷ [])) read reads);
      nothing = untold_nothing f q 3 Decoder f.decoder_on units typed_decoder h;
    }
