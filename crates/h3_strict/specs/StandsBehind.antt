-- Two ends beside those that got nothing of what is kept, and of which no pull was refused memory. Those stand in a world, and judge plainly.
use Rattle.std.specs.Prelude.{◌≡◌, ℕ, Option, Some, None}
use Rattle.h3_proto.specs.declared.stream.Side.{Side}
use Rattle.h3_connection.specs.Incoming.{Incoming}
use Rattle.h3_connection.specs.PartReading.{Resumes}
use Rattle.h3_connection.specs.Sending.{outgoing_at}
use Rattle.h3_connection.specs.StreamSets.{stream_at}
use Rattle.h3_connection.specs.declared.setup.Announced.{Announced}
use Rattle.h3_world.specs.Ends.{Ends, end_at}
use Rattle.h3_world.specs.Setup.{Setup, announced_at}
use Rattle.h3_world.specs.World.{World}
use Rattle.h3_headline.specs.Standing.{Stands}
use Rattle.h3_strict.specs.PlainEnds.{plain_setup}
use Rattle.h3_strict.specs.Plainly.{plain, plain_incoming}

-- A stream goes on as that of the end behind, where nothing is judged.
abbrev pub GoesOnAt : Side → Announced → ℕ → Option Incoming → Option Incoming → Type 0
GoesOnAt side own id (Some old) (Some new) = Resumes side (plain own) id old (plain_incoming new)
GoesOnAt side own id None None = Unit {0}
GoesOnAt side own id _ _ = ⊥

pub record StandsBehind (setup : Setup) (w : World) (ends : Ends) : Type 0 where
  pub behind : Ends
  pub stands : Stands (plain_setup setup) w behind
  pub side_is : (side : Side) → (end_at ends side).side ≡ side
  pub closed : (side : Side) → (end_at ends side).closed ≡ None
  -- neither remembers settings of an earlier connection
  pub remembered : (side : Side) → (end_at ends side).announced.remembered ≡ None
  pub settings : (side : Side) → (end_at ends side).peer.settings ≡ (end_at behind side).peer.settings
  pub decoder : (side : Side) → (end_at ends side).decoding.decoder ≡ (end_at behind side).decoding.decoder
  pub next_id : ends.client.next_id ≡ behind.client.next_id
  -- what was sent, which may be handed over further
  pub sent : (side : Side) (id : ℕ) → (outgoing_at (end_at ends side) id).parts ≡ (outgoing_at (end_at behind side) id).parts
  pub received : (side : Side) (id : ℕ) → GoesOnAt side (announced_at setup side) id (stream_at (end_at behind side).incoming id) (stream_at (end_at ends side).incoming id)
