-- A run, cut at any place.
use Rattle.std.specs.Prelude.{◌≡◌, List, ◌++◌}
use Rattle.h3_world.specs.Setup.{Setup}
use Rattle.h3_world.specs.declared.event.Event.{Event}
use Rattle.h3_world.specs.declared.event.Answer.{Answer}
use Rattle.h3_world.specs.Headline.{Happens}
use Rattle.h3_world.specs.Run.{Run}
use Rattle.h3_world.specs.World.{World}

-- The events before lead to a world, and the others on from there.
pub record IsCutAt (setup : Setup) (w : World) (before after : List Event) (answers : List Answer) (end : World) : Type 0 where
  pub given : List Answer
  pub later : List Answer
  pub mid : World
  pub is : answers ≡ given ++ later
  pub first : Run (Happens setup) w before given mid
  pub rest : Run (Happens setup) mid after later end
