-- What a writer leaves alone of what it has handed over.
use Rattle.std.specs.Prelude.{◌≡◌, ℕ, true, List, ◌++◌}
use Rattle.h3_proto.specs.declared.stream.Side.{Side}
use Rattle.h3_proto.specs.declared.stream.Side.TheVariants.{Client, Server}
use Rattle.h3_world.specs.Setup.{Setup}
use Rattle.h3_world.specs.Delivering.{is_closed}
use Rattle.h3_world.specs.Order.{is_finished}
use Rattle.h3_world.specs.Streams.{flow, is_open, has_outgoing}
use Rattle.h3_world.specs.World.{World}
use Rattle.h3_memory.specs.Keeping.{came_of, text_of}

-- A writer wrote more, or nothing: what it finished is as it was.
pub record WritesMore (setup : Setup) (w v : World) (writer : Side) : Type 0 where
  pub outgoing : (i : ℕ) → has_outgoing w writer i ≡ true → has_outgoing v writer i ≡ true
  pub opened : (i : ℕ) → is_open w writer i ≡ true → is_open v writer i ≡ true
  pub more : ℕ → List ℕ
  pub text : (i : ℕ) → text_of setup v writer i ≡ text_of setup w writer i ++ more i
  pub finished : (i : ℕ) → is_finished (flow w writer i) ≡ true → (is_finished (flow v writer i) ≡ true) × (text_of setup v writer i ≡ text_of setup w writer i)
  pub reset : (i : ℕ) → (flow w writer i).is_reset ≡ true → (flow v writer i).is_reset ≡ true

-- And as much counts as delivered as before.
pub record WritesOn (setup : Setup) (w v : World) (writer : Side) : Type 0 where
  pub writes : WritesMore setup w v writer
  pub came : (i : ℕ) → came_of v writer i ≡ came_of w writer i
  pub closed : (i : ℕ) → is_closed v writer i ≡ is_closed w writer i

-- So it is of both sides.
pub record LeavesKept (setup : Setup) (w v : World) : Type 0 where
  pub client : WritesOn setup w v Client
  pub server : WritesOn setup w v Server
