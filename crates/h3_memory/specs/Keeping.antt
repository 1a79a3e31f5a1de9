-- Two endpoints stand in a world in which memory may be refused: had nothing of what is kept been handed over, they would stand in it (`Stands`);
-- and what each keeps is what the other handed over. The endpoints that got nothing of it are called those behind.
use Rattle.std.specs.Prelude.{◌≡◌, ◌⊎◌, ℕ, ◌+◌, ◌≤◌, Bool, true, false, List, [], ◌∷◌, ◌++◌, length, map, take, drop, ◌==◌, if◌then◌else◌, None}
use Rattle.h3_proto.specs.declared.stream.Side.{Side}
use Rattle.h3_proto.specs.declared.stream.Side.TheVariants.{Client, Server}
use Rattle.h3_connection.specs.Arrivals.{stream_of}
use Rattle.h3_connection.specs.declared.arrival.Arrival.{Arrival}
use Rattle.h3_connection.specs.declared.arrival.Arrival.TheVariants.{BytesCame, EndCame, ResetCame}
use Rattle.h3_connection.specs.Endpoint.{EndpointHistory, Own}
use Rattle.h3_connection.specs.Incoming.{Incoming}
use Rattle.h3_connection.specs.Outgoing.{Outgoing}
use Rattle.h3_connection.specs.OwnIds.{other, control_id, encoder_id, decoder_id, is_own}
use Rattle.h3_connection.specs.PartReading.{Resumes}
use Rattle.h3_connection.specs.PeerReading.{with_unread}
use Rattle.h3_connection.specs.StreamSets.{HaveDistinctIds, Streams}
use Rattle.h3_connection.specs.declared.setup.Announced.{Announced}
use Rattle.h3_world.specs.Delivering.{is_closed, reset_code}
use Rattle.h3_world.specs.Ends.{Ends}
use Rattle.h3_world.specs.Flow.{flow_bytes}
use Rattle.h3_memory.specs.Kept.{Delivery, Bytes, End, Reset, KeepingWorld, kept_at}
use Rattle.h3_world.specs.OwnStreams.{control_stream, encoder_stream, decoder_stream}
use Rattle.h3_world.specs.Pulling.{own_delivered}
use Rattle.h3_world.specs.Setup.{Setup, announced_at}
use Rattle.h3_world.specs.Order.{is_finished}
use Rattle.h3_world.specs.Streams.{flow, is_open, has_outgoing}
use Rattle.h3_world.specs.World.{World, party}
use Rattle.h3_headline.specs.Standing.{Stands}

-- how many bytes of the stream are among some deliveries
abbrev pub bytes_in : ℕ → List Delivery → ℕ
bytes_in id [] = 0
bytes_in id (Bytes stream count ∷ ds) = (if stream == id then count else 0) + bytes_in id ds
bytes_in id (End stream ∷ ds) = bytes_in id ds
bytes_in id (Reset stream ∷ ds) = bytes_in id ds

-- What a writer has handed over, where the other side keeps this of it.
abbrev pub handed_own : Side → Own → List Delivery → Own
handed_own side own kept =
    record own {
      control_taken = own.control_taken + bytes_in (control_id side) kept;
      encoder_taken = own.encoder_taken + bytes_in (encoder_id side) kept;
      decoder_taken = own.decoder_taken + bytes_in (decoder_id side) kept;
    }

abbrev pub handed_stream : List Delivery → ℕ × Outgoing → ℕ × Outgoing
handed_stream kept stream = (stream.0, record stream.1 { taken = stream.1.taken + bytes_in stream.0 kept })

-- what the readers of the other side's control, encoder and decoder streams hold, and have not read
pub record Held : Type 0 where
  pub control : List ℕ
  pub encoder : List ℕ
  pub decoder : List ℕ

-- The endpoint that got what is kept, where this is the one behind; the other side keeps `mine` of what it handed over.
abbrev pub ahead : EndpointHistory → List Delivery → Held → Streams Incoming → List Arrival → EndpointHistory
ahead behind mine held incoming kept =
    record behind {
      own = handed_own behind.side behind.own mine;
      outgoing = map (handed_stream mine) behind.outgoing;
      incoming = incoming;
      peer = with_unread behind.peer (behind.peer.unread ++ held.control);
      decoding = record behind.decoding { unread = behind.decoding.unread ++ held.encoder };
      decoder_unread = behind.decoder_unread ++ held.decoder;
      kept = kept;
    }

-- Each request stream goes on as that of the endpoint behind, whose pulls were not refused memory.
abbrev pub EachResumes : Side → Announced → Streams Incoming → Streams Incoming → Type 0
EachResumes side own [] [] = Unit {0}
EachResumes side own ((p, old) ∷ olds) ((q, new) ∷ news) = (q ≡ p) × Resumes side own p old new × EachResumes side own olds news
EachResumes side own [] (new ∷ news) = ⊥
EachResumes side own (old ∷ olds) [] = ⊥

-- all bytes of a stream of the writer, and how many of them count as delivered
abbrev pub text_of : Setup → World → Side → ℕ → List ℕ
text_of setup w writer id =
    if id == control_id writer then control_stream (announced_at setup writer) (party w writer) else (
    if id == encoder_id writer then encoder_stream (party w writer) else (
    if id == decoder_id writer then decoder_stream (party w writer) else flow_bytes (flow w writer id)))

abbrev pub came_of : World → Side → ℕ → ℕ
came_of w writer id = if is_own writer id then own_delivered w writer id else (flow w writer id).delivered

abbrev pub held_of : Side → Held → ℕ → List ℕ
held_of writer held id =
    if id == control_id writer then held.control else (
    if id == encoder_id writer then held.encoder else (
    if id == decoder_id writer then held.decoder else []))

abbrev pub with_count : (ℕ → ℕ) → ℕ → ℕ → ℕ → ℕ
with_count came id count i = if i == id then came i + count else came i

abbrev pub with_closed : (ℕ → Bool) → ℕ → ℕ → Bool
with_closed closed id i = if i == id then true else closed i

-- What is kept can be read, where so many bytes of each stream came before, and these streams were closed.
abbrev pub MayAllBeRead : Setup → World → Side → (ℕ → ℕ) → (ℕ → Bool) → List Delivery → Type 0
MayAllBeRead setup w writer came closed [] = Unit {0}
MayAllBeRead setup w writer came closed (Bytes id count ∷ ds) =
    (has_outgoing w writer id ≡ true) × (closed id ≡ false) × (came id + count ≤ length (text_of setup w writer id))
    × MayAllBeRead setup w writer (with_count came id count) closed ds
MayAllBeRead setup w writer came closed (End id ∷ ds) =
    (is_open w writer id ≡ true) × (closed id ≡ false) × (is_finished (flow w writer id) ≡ true) × (came id ≡ length (text_of setup w writer id))
    × MayAllBeRead setup w writer came (with_closed closed id) ds
MayAllBeRead setup w writer came closed (Reset id ∷ ds) =
    (is_open w writer id ≡ true) × (closed id ≡ false) × ((flow w writer id).is_reset ≡ true)
    × MayAllBeRead setup w writer came (with_closed closed id) ds

-- What is kept is, delivery by delivery, what stands in the texts of the writer. The first arrival of a stream stands for what its reader holds too.
abbrev pub without_held : (ℕ → List ℕ) → ℕ → ℕ → List ℕ
without_held held id i = if i == id then [] else held i

abbrev pub AreKept : (ℕ → List ℕ) → (ℕ → ℕ) → (ℕ → List ℕ) → List Delivery → List Arrival → Type 0
AreKept text came held [] [] = (id : ℕ) → held id ≡ []
AreKept text came held (Bytes id count ∷ ds) (BytesCame i bytes ∷ kept) =
    (i ≡ id) × (held id ++ bytes ≡ take count (drop (came id) (text id))) × AreKept text (with_count came id count) (without_held held id) ds kept
AreKept text came held (End id ∷ ds) (EndCame i ∷ kept) = (i ≡ id) × AreKept text came held ds kept
AreKept text came held (Reset id ∷ ds) (ResetCame i code ∷ kept) = (i ≡ id) × (code ≡ reset_code) × AreKept text came held ds kept
AreKept text came held ds kept = ⊥

-- the first of what is kept came on the stream
abbrev pub ComesFirst : ℕ → List Arrival → Type 0
ComesFirst id [] = ⊥
ComesFirst id (a ∷ arrivals) = stream_of a ≡ id

-- An endpoint of a side, and the one behind it.
pub record Keeps (setup : Setup) (k : KeepingWorld) (side : Side) (behind e : EndpointHistory) : Type 0 where
  pub held : Held
  pub incoming : Streams Incoming
  pub arrivals : List Arrival
  pub is : e ≡ ahead behind (kept_at k (other side)) held incoming arrivals
  pub resumes : EachResumes side behind.announced behind.incoming incoming
  pub kept : AreKept (text_of setup k.world (other side)) (came_of k.world (other side)) (held_of (other side) held) (kept_at k side) arrivals
  pub may : MayAllBeRead setup k.world (other side) (came_of k.world (other side)) (is_closed k.world (other side)) (kept_at k side)
  -- before the settings came, bytes of the decoder stream are held for the first arrival alone
  pub early : behind.peer.settings ≡ None → (held.decoder ≡ []) ⊎ ComesFirst (decoder_id (other side)) arrivals
  -- nothing is held of a stream that has not told its type
  pub untold : (id : ℕ) → came_of k.world (other side) id ≡ 0 → held_of (other side) held id ≡ []
  -- no stream is sent on twice
  pub distinct : HaveDistinctIds behind.outgoing

-- Both endpoints stand in the world.
pub record StandsKeeping (setup : Setup) (k : KeepingWorld) (ends : Ends) : Type 0 where
  pub behind : Ends
  pub stands : Stands setup k.world behind
  pub client : Keeps setup k Client behind.client ends.client
  pub server : Keeps setup k Server behind.server ends.server
