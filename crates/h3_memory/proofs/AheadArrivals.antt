-- An arrival at an endpoint that is ahead is read as at the one behind, with the bytes that its reader holds in front.
use Rattle.std.proofs.Common.{◌≡◌, ℕ, false, List, [], ◌++◌, refl, sym, ap, ◌∙◌, Option, Some, None}
use Rattle.h3_connection.specs.declared.arrival.Arrival.{Arrival}
use Rattle.h3_connection.specs.declared.arrival.Arrival.TheVariants.{BytesCame}
use Rattle.h3_connection.specs.Control.{Found, read_control, read_encoder, read_decoder}
use Rattle.h3_connection.specs.Delivering.{bytes_at, heard_as, unless_second, read_unidirectional, with_unidirectional, unidirectional_at}
use Rattle.h3_connection.specs.Endpoint.{EndpointHistory, is_second, kind_of}
use Rattle.h3_connection.specs.Endpoint.Kind.{PeerUnidirectional}
use Rattle.h3_connection.specs.Incoming.{Incoming}
use Rattle.h3_connection.specs.Keeping.{read_arrival}
use Rattle.h3_connection.specs.StreamSets.{Streams}
use Rattle.h3_connection.specs.Unidirectional.{Role, untold, role_after, with_bytes}
use Rattle.h3_connection.specs.Unidirectional.Role.{Control, Encoder, Decoder}
use Rattle.h3_memory.specs.Kept.{Delivery}
use Rattle.h3_memory.specs.Keeping.{Held, ahead}
use Rattle.h3_memory.proofs.Ahead.{encoder_ahead}
use Rattle.h3_memory.proofs.AheadReading.{control_ahead, decoder_ahead}
use Rattle.h3_connection.specs.StrictConnection.{known_streams}

-- A stream of the peer that told its role, and is the one that is read as such.
pub record IsTold (e : EndpointHistory) (id : ℕ) (role : Role) (on : Option ℕ) : Type 0 where
  pub peer : kind_of e.side id ≡ PeerUnidirectional
  pub told : unidirectional_at e id ≡ record untold { role = role }
  pub only : is_second on id ≡ false

-- the bytes of such a stream go to its reader
told_bytes : (e : EndpointHistory) (id : ℕ) (role : Role) (bytes : List ℕ) → ((bytes : List ℕ) → role_after (known_streams e.announced) role bytes ≡ (role, bytes)) → kind_of e.side id ≡ PeerUnidirectional → unidirectional_at e id ≡ record untold { role = role }
    → ((bytes : List ℕ) → with_bytes (record untold { role = role }) (role, bytes) ≡ record untold { role = role })
    → read_arrival e (BytesCame id bytes) ≡ heard_as (with_unidirectional e id (record untold { role = role })) id role bytes
told_bytes e id role bytes same peer told left =
    ap (bytes_at e id bytes) peer
    ∙ ap (λ o. read_unidirectional e id o (role_after (known_streams e.announced) o.role bytes)) told
    ∙ ap (λ x. read_unidirectional e id (record untold { role = role }) x) (same bytes)
    ∙ ap (λ o. heard_as (with_unidirectional e id o) id role bytes) (left bytes)

module _ (mine : List Delivery) (held : Held) (incoming : Streams Incoming) (kept : List Arrival) (behind : EndpointHistory) (id : ℕ) (bytes : List ℕ) where
  abbrev over : Held → Found → Found
  over h x = (ahead x.0 mine h incoming kept, x.1)

  f : EndpointHistory
  f = ahead behind mine held incoming kept

  pub encoder_arrives : IsTold behind id Encoder behind.encoder_on
      → read_arrival (ahead behind mine held incoming kept) (BytesCame id bytes) ≡ over (record held { encoder = [] }) (read_arrival behind (BytesCame id (held.encoder ++ bytes)))
  encoder_arrives t =
      let e : EndpointHistory = record (with_unidirectional behind id (record untold { role = Encoder })) { encoder_on = Some id } in
      told_bytes (ahead behind mine held incoming kept) id Encoder bytes (λ l. refl) t.peer t.told (λ l. refl)
      ∙ ap (λ b. unless_second b (with_unidirectional (ahead behind mine held incoming kept) id (record untold { role = Encoder })) (read_encoder (ahead e mine held incoming kept) bytes)) t.only
      ∙ encoder_ahead mine held incoming kept e bytes
      ∙ sym (ap (over (record held { encoder = [] })) (told_bytes behind id Encoder (held.encoder ++ bytes) (λ l. refl) t.peer t.told (λ l. refl)
      ∙ ap (λ b. unless_second b (with_unidirectional behind id (record untold { role = Encoder })) (read_encoder e (held.encoder ++ bytes))) t.only))

  pub decoder_arrives : IsTold behind id Decoder behind.decoder_on
      → read_arrival (ahead behind mine held incoming kept) (BytesCame id bytes) ≡ over (record held { decoder = [] }) (read_arrival behind (BytesCame id (held.decoder ++ bytes)))
  decoder_arrives t =
      let e : EndpointHistory = record (with_unidirectional behind id (record untold { role = Decoder })) { decoder_on = Some id } in
      told_bytes (ahead behind mine held incoming kept) id Decoder bytes (λ l. refl) t.peer t.told (λ l. refl)
      ∙ ap (λ b. unless_second b (with_unidirectional (ahead behind mine held incoming kept) id (record untold { role = Decoder })) (read_decoder (ahead e mine held incoming kept) bytes)) t.only
      ∙ decoder_ahead mine incoming kept held e bytes
      ∙ sym (ap (over (record held { decoder = [] })) (told_bytes behind id Decoder (held.decoder ++ bytes) (λ l. refl) t.peer t.told (λ l. refl)
      ∙ ap (λ b. unless_second b (with_unidirectional behind id (record untold { role = Decoder })) (read_decoder e (held.decoder ++ bytes))) t.only))

  pub control_arrives : IsTold behind id Control behind.control_on → (behind.peer.settings ≡ None → held.decoder ≡ [])
      → read_arrival (ahead behind mine held incoming kept) (BytesCame id bytes) ≡ over (record held { control = [] }) (read_arrival behind (BytesCame id (held.control ++ bytes)))
  control_arrives t none =
      let e : EndpointHistory = record (with_unidirectional behind id (record untold { role = Control })) { control_on = Some id } in
      told_bytes (ahead behind mine held incoming kept) id Control bytes (λ l. refl) t.peer t.told (λ l. refl)
      ∙ ap (λ b. unless_second b (with_unidirectional (ahead behind mine held incoming kept) id (record untold { role = Control })) (read_control (ahead e mine held incoming kept) bytes)) t.only
      ∙ control_ahead mine incoming kept held e bytes none
      ∙ sym (ap (over (record held { control = [] })) (told_bytes behind id Control (held.control ++ bytes) (λ l. refl) t.peer t.told (λ l. refl)
      ∙ ap (λ b. unless_second b (with_unidirectional behind id (record untold { role = Control })) (read_control e (held.control ++ bytes))) t.only))
