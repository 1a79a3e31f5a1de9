-- What comes of a control, encoder or decoder stream is read by an endpoint ahead as by the one behind, with the bytes that its reader holds in
-- front: also what tells the stream's type.
use Rattle.std.proofs.Common.{◌≡◌, ℕ, ◌+◌, Bool, true, false, List, [], ◌∷◌, ◌++◌, refl, sym, ap, ◌∙◌, if◌then◌else◌, Option, Some, None}
use Rattle.std.specs.Prelude.{◌==◌, take, drop}
use Rattle.h3_connection.specs.Control.{Found, read_control, read_encoder, read_decoder}
use Rattle.h3_connection.specs.Delivering.{bytes_at, heard_as, unless_second, with_unidirectional}
use Rattle.h3_connection.specs.Endpoint.{EndpointHistory, is_second, kind_of}
use Rattle.h3_connection.specs.Endpoint.Kind.{PeerUnidirectional}
use Rattle.h3_connection.specs.Incoming.{Incoming}
use Rattle.h3_connection.specs.Keeping.{read_arrival}
use Rattle.h3_connection.specs.StreamSets.{Streams, stream_at}
use Rattle.h3_connection.specs.Unidirectional.{Role}
use Rattle.h3_connection.specs.Unidirectional.Role.{Untold, Control, Encoder, Decoder}
use Rattle.h3_connection.specs.declared.arrival.Arrival.{Arrival}
use Rattle.h3_connection.specs.declared.arrival.Arrival.TheVariants.{BytesCame}
use Rattle.h3_headline.specs.PeerStreams.{IsTyped, role_by, behind_type, with_role}
use Rattle.h3_headline.specs.RoleLaws.{peer_stream, heard_typed, typed_control, typed_encoder, typed_decoder}
use Rattle.h3_headline.specs.Standing.{IsPeerStream}
use Rattle.h3_memory.specs.Kept.{Delivery}
use Rattle.h3_memory.specs.Keeping.{Held, ahead}
use Rattle.h3_memory.proofs.AheadArrivals.{IsTold, encoder_arrives, decoder_arrives, control_arrives}
use Rattle.h3_memory.proofs.Ahead.{encoder_ahead}
use Rattle.h3_memory.proofs.AheadReading.{control_ahead, decoder_ahead}

-- Such a stream of the peer, of which so many bytes came.
pub record IsOwnStream (e : EndpointHistory) (id came : ℕ) (role : Role) (on : Option ℕ) : Type 0 where
  pub kind : kind_of e.side id ≡ PeerUnidirectional
  pub stream : IsPeerStream came role (stream_at e.unidirectional id)
  pub only : is_second on id ≡ false

-- once its type came it is told
told_by : (e : EndpointHistory) (id came : ℕ) (role : Role) (on : Option ℕ) → IsOwnStream e id came role on → (came == 0) ≡ false → IsTold e id role on
told_by e id came role on s some =
    record {
      peer = s.kind;
      told = peer_stream came role (stream_at e.unidirectional id) s.stream ∙ ap (λ b. with_role (if b then Untold [] else role)) some;
      only = s.only;
    }

-- bytes of a stream that told nothing yet
untold_bytes : (e : EndpointHistory) (id kind : ℕ) (role : Role) (came count : ℕ) (units bytes : List ℕ) (on : Option ℕ) → IsTyped kind role → IsOwnStream e id came role on → bytes ≡ take count (drop came (kind ∷ units))
    → read_arrival e (BytesCame id bytes) ≡ heard_as (with_unidirectional e id (with_role (role_by (came + count) role))) id (role_by (came + count) role) (behind_type came count units)
untold_bytes e id kind role came count units bytes on typed s is =
    ap (bytes_at e id bytes) s.kind ∙ ap (λ l. bytes_at e id l PeerUnidirectional) is ∙ heard_typed e id kind role came count units typed s.stream

module _ (mine : List Delivery) (held : Held) (incoming : Streams Incoming) (kept : List Arrival) (behind : EndpointHistory) (id : ℕ) where
  abbrev over : Held → Found → Found
  over h x = (ahead x.0 mine h incoming kept, x.1)

  abbrev f : EndpointHistory
  f = ahead behind mine held incoming kept

  -- The encoder stream.
  heard_encoder : (b : Bool) (rest : List ℕ) → held.encoder ≡ [] → is_second behind.encoder_on id ≡ false
      → heard_as (with_unidirectional f id (with_role (if b then Untold [] else Encoder))) id (if b then Untold [] else Encoder) rest
      ≡ over (record held { encoder = [] }) (heard_as (with_unidirectional behind id (with_role (if b then Untold [] else Encoder))) id (if b then Untold [] else Encoder) rest)
  heard_encoder true rest none only = ap (λ l. over (record held { encoder = l }) (with_unidirectional behind id (with_role (Untold [])), None)) none
  heard_encoder false rest none only =
      let e : EndpointHistory = record (with_unidirectional behind id (with_role Encoder)) { encoder_on = Some id } in
      ap (λ b. unless_second b (with_unidirectional f id (with_role Encoder)) (read_encoder (ahead e mine held incoming kept) rest)) only
      ∙ encoder_ahead mine held incoming kept e rest
      ∙ ap (λ l. over (record held { encoder = [] }) (read_encoder e (l ++ rest))) none
      ∙ sym (ap (over (record held { encoder = [] })) (ap (λ b. unless_second b (with_unidirectional behind id (with_role Encoder)) (read_encoder e rest)) only))

  pub encoder_comes : (came count : ℕ) (units bytes : List ℕ) → IsOwnStream behind id came Encoder behind.encoder_on → held.encoder ++ bytes ≡ take count (drop came (2 ∷ units)) → (came ≡ 0 → held.encoder ≡ [])
      → read_arrival (ahead behind mine held incoming kept) (BytesCame id bytes) ≡ over (record held { encoder = [] }) (read_arrival behind (BytesCame id (held.encoder ++ bytes)))
  encoder_comes came count units bytes s is nothing = by_test (came == 0) refl
    where
      by_test : (b : Bool) → (came == 0) ≡ b → read_arrival f (BytesCame id bytes) ≡ over (record held { encoder = [] }) (read_arrival behind (BytesCame id (held.encoder ++ bytes)))
      by_test false e = encoder_arrives mine held incoming kept behind id bytes (told_by behind id came Encoder behind.encoder_on s e)
      by_test true e =
          let none = nothing (Rattle.h3_headline.specs.FlowLaws.same_number came 0 e) in
          let same : held.encoder ++ bytes ≡ bytes = ap (λ l. l ++ bytes) none in
          untold_bytes f id 2 Encoder came count units bytes f.encoder_on typed_encoder (record { kind = s.kind; stream = s.stream; only = s.only }) (sym same ∙ is)
          ∙ heard_encoder (came + count == 0) (behind_type came count units) none s.only
          ∙ sym (ap (over (record held { encoder = [] })) (untold_bytes behind id 2 Encoder came count units (held.encoder ++ bytes) behind.encoder_on typed_encoder s is))

  -- The decoder stream.
  heard_decoder : (b : Bool) (rest : List ℕ) → held.decoder ≡ [] → is_second behind.decoder_on id ≡ false
      → heard_as (with_unidirectional f id (with_role (if b then Untold [] else Decoder))) id (if b then Untold [] else Decoder) rest
      ≡ over (record held { decoder = [] }) (heard_as (with_unidirectional behind id (with_role (if b then Untold [] else Decoder))) id (if b then Untold [] else Decoder) rest)
  heard_decoder true rest none only = ap (λ l. over (record held { decoder = l }) (with_unidirectional behind id (with_role (Untold [])), None)) none
  heard_decoder false rest none only =
      let e : EndpointHistory = record (with_unidirectional behind id (with_role Decoder)) { decoder_on = Some id } in
      ap (λ b. unless_second b (with_unidirectional f id (with_role Decoder)) (read_decoder (ahead e mine held incoming kept) rest)) only
      ∙ decoder_ahead mine incoming kept held e rest
      ∙ ap (λ l. over (record held { decoder = [] }) (read_decoder e (l ++ rest))) none
      ∙ sym (ap (over (record held { decoder = [] })) (ap (λ b. unless_second b (with_unidirectional behind id (with_role Decoder)) (read_decoder e rest)) only))

  pub decoder_comes : (came count : ℕ) (units bytes : List ℕ) → IsOwnStream behind id came Decoder behind.decoder_on → held.decoder ++ bytes ≡ take count (drop came (3 ∷ units)) → (came ≡ 0 → held.decoder ≡ [])
      → read_arrival (ahead behind mine held incoming kept) (BytesCame id bytes) ≡ over (record held { decoder = [] }) (read_arrival behind (BytesCame id (held.decoder ++ bytes)))
  decoder_comes came count units bytes s is nothing = by_test (came == 0) refl
    where
      by_test : (b : Bool) → (came == 0) ≡ b → read_arrival f (BytesCame id bytes) ≡ over (record held { decoder = [] }) (read_arrival behind (BytesCame id (held.decoder ++ bytes)))
      by_test false e = decoder_arrives mine held incoming kept behind id bytes (told_by behind id came Decoder behind.decoder_on s e)
      by_test true e =
          let none = nothing (Rattle.h3_headline.specs.FlowLaws.same_number came 0 e) in
          let same : held.decoder ++ bytes ≡ bytes = ap (λ l. l ++ bytes) none in
          untold_bytes f id 3 Decoder came count units bytes f.decoder_on typed_decoder (record { kind = s.kind; stream = s.stream; only = s.only }) (sym same ∙ is)
          ∙ heard_decoder (came + count == 0) (behind_type came count units) none s.only
          ∙ sym (ap (over (record held { decoder = [] })) (untold_bytes behind id 3 Decoder came count units (held.decoder ++ bytes) behind.decoder_on typed_decoder s is))

  -- The control stream.
  heard_control : (b : Bool) (rest : List ℕ) → held.control ≡ [] → (behind.peer.settings ≡ None → held.decoder ≡ []) → is_second behind.control_on id ≡ false
      → heard_as (with_unidirectional f id (with_role (if b then Untold [] else Control))) id (if b then Untold [] else Control) rest
      ≡ over (record held { control = [] }) (heard_as (with_unidirectional behind id (with_role (if b then Untold [] else Control))) id (if b then Untold [] else Control) rest)
  heard_control true rest none early only = ap (λ l. over (record held { control = l }) (with_unidirectional behind id (with_role (Untold [])), None)) none
  heard_control false rest none early only =
      let e : EndpointHistory = record (with_unidirectional behind id (with_role Control)) { control_on = Some id } in
      ap (λ b. unless_second b (with_unidirectional f id (with_role Control)) (read_control (ahead e mine held incoming kept) rest)) only
      ∙ control_ahead mine incoming kept held e rest early
      ∙ ap (λ l. over (record held { control = [] }) (read_control e (l ++ rest))) none
      ∙ sym (ap (over (record held { control = [] })) (ap (λ b. unless_second b (with_unidirectional behind id (with_role Control)) (read_control e rest)) only))

  pub control_comes : (came count : ℕ) (units bytes : List ℕ) → IsOwnStream behind id came Control behind.control_on → held.control ++ bytes ≡ take count (drop came (0 ∷ units)) → (came ≡ 0 → held.control ≡ [])
      → (behind.peer.settings ≡ None → held.decoder ≡ [])
      → read_arrival (ahead behind mine held incoming kept) (BytesCame id bytes) ≡ over (record held { control = [] }) (read_arrival behind (BytesCame id (held.control ++ bytes)))
  control_comes came count units bytes s is nothing early = by_test (came == 0) refl
    where
      by_test : (b : Bool) → (came == 0) ≡ b → read_arrival f (BytesCame id bytes) ≡ over (record held { control = [] }) (read_arrival behind (BytesCame id (held.control ++ bytes)))
      by_test false e = control_arrives mine held incoming kept behind id bytes (told_by behind id came Control behind.control_on s e) early
      by_test true e =
          let none = nothing (Rattle.h3_headline.specs.FlowLaws.same_number came 0 e) in
          let same : held.control ++ bytes ≡ bytes = ap (λ l. l ++ bytes) none in
          untold_bytes f id 0 Control came count units bytes f.control_on typed_control (record { kind = s.kind; stream = s.stream; only = s.only }) (sym same ∙ is)
          ∙ heard_control (came + count == 0) (behind_type came count units) none early s.only
          ∙ sym (ap (over (record held { control = [] })) (untold_bytes behind id 0 Control came count units (held.control ++ bytes) behind.control_on typed_control s is))
