-- A client and a server of which memory may be refused: what came to a side and was not read is kept there, and counts as not delivered
-- until it is read.
use Rattle.std.specs.Prelude.{◌≡◌, ℕ, ◌+◌, ◌-◌, Bool, true, false, ◌||◌, List, [], ◌∷◌, if◌then◌else◌, is_some}
use Rattle.h3_proto.specs.declared.stream.Side.{Side}
use Rattle.h3_proto.specs.declared.stream.Side.TheVariants.{Client, Server}
use Rattle.h3_connection.specs.OwnIds.{other, is_own, control_id, decoder_id}
use Rattle.h3_world.specs.Setup.{Setup}
use Rattle.h3_world.specs.Came.{settings_came}
use Rattle.h3_world.specs.Delivering.{delivered, delivered_end, delivered_reset}
use Rattle.h3_world.specs.Order.{is_over}
use Rattle.h3_world.specs.Refused.{held_back}
use Rattle.h3_world.specs.Streams.{flow, with_flow}
use Rattle.h3_world.specs.World.{World, party}

-- so many bytes of a stream, its end, or its reset
pub data Delivery : Type 0 where
  Bytes : (id count : ℕ) → Delivery
  End : (id : ℕ) → Delivery
  Reset : (id : ℕ) → Delivery

pub record KeepingWorld : Type 0 where
  -- where all that is kept counts as not delivered
  pub world : World
  -- what each side keeps of what the other side handed over, in the order in which it came
  pub at_client : List Delivery
  pub at_server : List Delivery

abbrev pub nothing_kept : World → KeepingWorld
nothing_kept w = record { world = w; at_client = []; at_server = [] }

abbrev pub kept_at : KeepingWorld → Side → List Delivery
kept_at k Client = k.at_client
kept_at k Server = k.at_server

-- the same kept, in another world
abbrev pub with_world : KeepingWorld → World → KeepingWorld
with_world k w = record k { world = w }

-- the side keeps this, in that world
abbrev pub with_kept : KeepingWorld → Side → World → List Delivery → KeepingWorld
with_kept k Client w kept = record k { world = w; at_client = kept }
with_kept k Server w kept = record k { world = w; at_server = kept }

abbrev pub stream_of : Delivery → ℕ
stream_of (Bytes id count) = id
stream_of (End id) = id
stream_of (Reset id) = id

-- What a delivery of the writer does once it is read.
abbrev pub read_delivery : Setup → World → Side → Delivery → World
read_delivery setup w writer (Bytes id count) = delivered setup w writer id count
read_delivery setup w writer (End id) = delivered_end w writer id
read_delivery setup w writer (Reset id) = delivered_reset w writer id

abbrev pub read_deliveries : Setup → World → Side → List Delivery → World
read_deliveries setup w writer [] = w
read_deliveries setup w writer (d ∷ ds) = read_deliveries setup (read_delivery setup w writer d) writer ds

-- the world once the side has read all that it keeps
abbrev pub caught_up : Setup → KeepingWorld → Side → World
caught_up setup k side = read_deliveries setup k.world (other side) (kept_at k side)

-- A request stream of which something is kept is open at its receiver.
abbrev pub noticed : World → Side → ℕ → World
noticed w writer id = if is_own writer id then w else with_flow w writer id (record (flow w writer id) { seen = true })

-- So is each of which something is left.
abbrev pub noticed_all : World → Side → List Delivery → World
noticed_all w writer [] = w
noticed_all w writer (d ∷ ds) = noticed_all (noticed w writer (stream_of d)) writer ds

-- what then counts as not delivered of the decoder stream
abbrev pub held_bytes : World → Side → Delivery
held_bytes w writer = Bytes (decoder_id writer) ((party w writer).own.decoder_taken - 1)

-- Of some deliveries a part is read, up to any byte: from that world and these deliveries to a world and those that are left.
pub data ReadsPart (setup : Setup) (writer : Side) : World → List Delivery → World → List Delivery → Type 0 where
  Stops : {w : World} {left : List Delivery} → ReadsPart setup writer w left w left
  Reads : (d : Delivery) {w new : World} {ds left : List Delivery} → ReadsPart setup writer (read_delivery setup w writer d) ds new left → ReadsPart setup writer w (d ∷ ds) new left
  Cuts : (id first second : ℕ) {w new : World} {ds left : List Delivery} → ReadsPart setup writer w (Bytes id first ∷ Bytes id second ∷ ds) new left
      → ReadsPart setup writer w (Bytes id (first + second) ∷ ds) new left
  -- the settings are read, and what the decoder wrote before is read behind them
  HoldsBack : (count : ℕ) {w new : World} {ds left : List Delivery} → settings_came setup w writer ≡ false
      → ReadsPart setup writer (held_back w writer) (Bytes (control_id writer) count ∷ held_bytes w writer ∷ ds) new left
      → ReadsPart setup writer w (Bytes (control_id writer) count ∷ ds) new left

-- The answer of a pull is settled: the side gave the stream up, or its end was handed out.
abbrev pub is_settled : World → Side → ℕ → Bool
is_settled w side id = is_some (flow w (other side) id).fault || is_over (flow w (other side) id)
