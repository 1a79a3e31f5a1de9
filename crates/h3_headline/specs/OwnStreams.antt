-- What comes over on an own stream of one side, and what both sides are after it.
use Rattle.std.proofs.Common.{◌≡◌, ℕ, ◌-◌, ◌+◌, List, ◌++◌, false, not, Bool, ◌&&◌, if◌then◌else◌, [], length, drop, None, Option, flat_map, take, ◌*◌}
use Rattle.h3_proto.specs.declared.stream.Side.{Side}
use Rattle.h3_world.specs.Streams.{flow, is_open}
use Rattle.h3_world.specs.World.{World, party, Party}
use Rattle.h3_field.specs.Instruction.{EncoderInstruction, DecoderInstruction, encoder_bytes, decoder_bytes}
use Rattle.h3_connection.specs.Endpoint.{Own, EndpointHistory, bytes_waiting}
use Rattle.h3_connection.specs.OwnUpdates.{control_frames}
use Rattle.h3_connection.specs.OwnIds.{other, is_own, control_id, encoder_id, decoder_id}
use Rattle.h3_connection.specs.StreamSets.{stream_at}
use Rattle.h3_qpack.specs.EncoderHistory.{encoder_after_all}
use Rattle.h3_connection.specs.Control.{increment}
use Rattle.h3_connection.specs.declared.setup.Limits.{Limits}
use Rattle.h3_world.specs.Delivering.{having_learned, delivered_own}
use Rattle.h3_qpack.specs.WholeInstructions.{decoder_instructions_in, insertions_in}
use Rattle.h3_world.specs.Setup.{Setup, TakesAnyLength, announced_at}
use Rattle.h3_connection.specs.Sending.{own_advanced, advance}
use Rattle.h3_proto.specs.declared.stream.Side.TheVariants.{Client, Server}
use Rattle.h3_connection.specs.declared.event.Refusal.{Refusal}
use Rattle.std.specs.Prelude.{◌==◌}
use Rattle.h3_connection.specs.OwnSettings.{control_start}
use Rattle.h3_coding.specs.Encodings.{encoding}
use Rattle.h3_connection.specs.declared.setup.Announced.{Announced}
use Rattle.h3_connection.specs.Keeping.{arrives}
use Rattle.h3_connection.specs.declared.arrival.Arrival.TheVariants.{BytesCame}
use Rattle.h3_world.specs.declared.event.Answer.{Answer}
use Rattle.h3_world.specs.Ends.{Ends}
use Rattle.h3_headline.specs.Standing.{AreReadable, HasControlOf, HasDecoderStreamOf, HasEncoderStreamOf, IsWritable, StandsAt, are_settings_there}

-- The worlds differ in their parties alone.
pub record SameStreams (w v : World) : Type 0 where
  pub flows : (s : Side) (i : ℕ) → flow v s i ≡ flow w s i
  pub opens : (s : Side) (i : ℕ) → is_open v s i ≡ is_open w s i

-- what a side wrote that writes more instructions and replies
abbrev pub writing : Own → List EncoderInstruction → List DecoderInstruction → Own
writing own is replies = record own { instructions = own.instructions ++ is; replies = own.replies ++ replies }

-- The endpoint differs in what it has of the other side's own streams, its encoder and what it wrote.
pub record Hears (setup : Setup) (v : World) (side : Side) (e f : EndpointHistory) : Type 0 where
  pub same : f ≡ record e {
    unidirectional = f.unidirectional;
    control_on = f.control_on;
    encoder_on = f.encoder_on;
    decoder_on = f.decoder_on;
    peer = f.peer;
    decoding = f.decoding;
    encoder = f.encoder;
    decoder_unread = f.decoder_unread;
    own = f.own;
  }
  pub own : f.own ≡ (party v side).own
  pub encoder : f.encoder ≡ (party v side).encoder
  pub control : HasControlOf setup side (party v (other side)).own f
  pub encoder_stream : HasEncoderStreamOf setup side (party v (other side)).own f
  pub decoder_stream : HasDecoderStreamOf setup side (party v (other side)).own f
  pub others : (id : ℕ) → is_own (other side) id ≡ false → stream_at f.unidirectional id ≡ stream_at e.unidirectional id

-- a side that listens, where the other side's settings were known and are
abbrev pub listened : Bool → Bool → Limits → Party → ℕ → List DecoderInstruction → Party
listened knew knows limits p more is =
    let q = if not knew && knows then having_learned p limits else p in
    record { own = record q.own { replies = q.own.replies ++ increment more }; encoder = encoder_after_all q.encoder is }

-- the decoder instructions that are read of what a side wrote
abbrev pub read_of : Setup → Side → Own → List DecoderInstruction
read_of setup writer own = if are_settings_there setup writer own.control_taken then decoder_instructions_in (own.decoder_taken - 1) own.replies else []

abbrev pub insertions_of : Own → ℕ
insertions_of own = insertions_in (own.encoder_taken - 1) own.instructions

-- the reader after what the writer wrote got further
abbrev pub listened_to : Setup → Side → Party → Own → Own → Party
listened_to setup writer p old new =
    listened (are_settings_there setup writer old.control_taken) (are_settings_there setup writer new.control_taken) (announced_at setup writer).limits p (insertions_of new - insertions_of old)
    (drop (length (read_of setup writer old)) (read_of setup writer new))

-- what the other side of a side wrote, further delivered
abbrev pub further_own : World → Side → ℕ → ℕ → Own
further_own w side id count = own_advanced (party w (other side)).own (other side) id count

-- What a side that listens writes.
pub record Writes (old new : Own) (more : ℕ) : Type 0 where
  pub instructions : List EncoderInstruction
  pub is : new ≡ writing old instructions (increment more)

abbrev pub party_from : Party → ℕ → List DecoderInstruction → Party
party_from q more is = record { own = record q.own { replies = q.own.replies ++ increment more }; encoder = encoder_after_all q.encoder is }

-- what a world has of a side, by its endpoint
abbrev pub party_of : EndpointHistory → Party
party_of e = record { own = e.own; encoder = e.encoder }

abbrev pub read_by : Bool → ℕ → List DecoderInstruction → List DecoderInstruction
read_by b came replies = if b then decoder_instructions_in (came - 1) replies else []

abbrev pub advanced_by : Own → ℕ → Bool → Bool → Bool → Own
advanced_by own count a b c =
    if a then record own { control_taken = own.control_taken + count } else (
    if b then record own { encoder_taken = own.encoder_taken + count } else (
    if c then record own { decoder_taken = own.decoder_taken + count } else own))

-- What `Stands` says of a world besides its two endpoints and its soundness.
pub record KeepsWriting (setup : Setup) (w : World) : Type 0 where
  pub client_writes : IsWritable Client w.client.own
  pub server_writes : IsWritable Server w.server.own
  pub requests : AreReadable setup w Client
  pub responses : AreReadable setup w Server

-- An endpoint that takes what comes, however long: it has no fault, and keeps nothing.
pub record Takes (side : Side) (e : EndpointHistory) : Type 0 where
  pub side_is : e.side ≡ side
  pub any : TakesAnyLength e.announced
  pub no_fault : e.closed ≡ None
  pub nothing_kept : e.kept ≡ []

abbrev pub accepted : EndpointHistory → Option Refusal × EndpointHistory
accepted e = (None, e)

-- The writer: what waits, and the endpoint once it was taken.
abbrev pub left_of : Side → Own → Announced → ℕ → List ℕ
left_of side own a id =
    if id == control_id side then drop own.control_taken (control_start a.settings own.further ++ control_frames 0 own.goaways own.updates) else (
    if id == encoder_id side then drop own.encoder_taken (encoding 2 ++ flat_map encoder_bytes own.instructions) else (
    if id == decoder_id side then drop own.decoder_taken (encoding 3 ++ flat_map decoder_bytes own.replies) else []))

-- What the reader is after a delivery, which it answers without a refusal.
pub record GoesOver (setup : Setup) (w : World) (side : Side) (id count : ℕ) (e : EndpointHistory) (bytes : List ℕ) : Type 0 where
  pub after : EndpointHistory
  pub arrived : arrives e (BytesCame id (take count bytes)) ≡ accepted after
  pub stands : StandsAt setup (delivered_own setup w (other side) id count) side after
  pub next_id : after.next_id ≡ e.next_id

-- Bytes of an own stream of the other side came.
pub record OwnCome (setup : Setup) (w : World) (side : Side) (er ew : EndpointHistory) (count id : ℕ) : Type 0 where
  pub after : EndpointHistory
  pub arrived : arrives er (BytesCame id (take count (bytes_waiting ew id))) ≡ accepted after
  pub reader : StandsAt setup (delivered_own setup w (other side) id count) side after
  pub writer : StandsAt setup (delivered_own setup w (other side) id count) (other side) (advance ew id count)
  pub reader_next : after.next_id ≡ er.next_id
  pub writer_next : (advance ew id count).next_id ≡ ew.next_id

-- **Both ends answer as the world, and stand in it after that.**
pub record AnswersAlike (setup : Setup) (given : Answer × Ends) (expected : Answer × World) : Type 0 where
  pub answer : given.0 ≡ expected.0
  pub at_client : StandsAt setup expected.1 Client given.1.client
  pub at_server : StandsAt setup expected.1 Server given.1.server
  pub next_id : given.1.client.next_id ≡ 4 * length expected.1.exchanges
