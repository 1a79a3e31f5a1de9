-- What holds of every world that a run with refused memory leads to.
use Rattle.std.specs.Prelude.{List}
use Rattle.h3_proto.specs.declared.stream.Side.{Side}
use Rattle.h3_proto.specs.declared.stream.Side.TheVariants.{Client, Server}
use Rattle.h3_world.specs.Setup.{Setup}
use Rattle.h3_world.specs.Delivering.{is_closed}
use Rattle.h3_world.specs.Sound.{IsSoundWorld}
use Rattle.h3_world.specs.World.{World}
use Rattle.h3_memory.specs.Kept.{Delivery, KeepingWorld}
use Rattle.h3_memory.specs.Keeping.{MayAllBeRead, came_of}

-- These deliveries of the writer can be read in the world.
abbrev pub CanBeRead : Setup → World → Side → List Delivery → Type 0
CanBeRead setup w writer ds = MayAllBeRead setup w writer (came_of w writer) (is_closed w writer) ds

-- The world is sound, and what each side keeps can be read.
pub record IsSoundKeeping (setup : Setup) (k : KeepingWorld) : Type 0 where
  pub sound : IsSoundWorld setup k.world
  pub client : CanBeRead setup k.world Server k.at_client
  pub server : CanBeRead setup k.world Client k.at_server
