-- One event of two endpoints that stand in a world.
use Rattle.std.proofs.Common.{◌≡◌, ℕ, ◌<◌, true, length, ◌*◌, ◌≤◌, ◌^◌}
use Rattle.h3_proto.specs.StreamIds.{is_request_stream, index_of}
use Rattle.h3_world.specs.World.{World}
use Rattle.h3_world.specs.Setup.{Setup}
use Rattle.h3_world.specs.declared.event.Event.{Event}
use Rattle.h3_world.specs.Ends.{Ends, answered}
use Rattle.h3_world.specs.Headline.{Happens}
use Rattle.h3_headline.specs.Standing.{Stands}

-- The id is a request stream that was opened.
pub record IsThere (w : World) (id : ℕ) : Type 0 where
  pub request : is_request_stream id ≡ true
  pub place : index_of id < length w.exchanges

-- All else keeps as many.
abbrev pub Keeps : World → World → Type 0
Keeps w v = length v.exchanges ≡ length w.exchanges

abbrev pub Few : World → Type 0
Few w = 4 * length w.exchanges ≤ 2 ^ 62

-- One event of two endpoints that stand in a world: it happens there, and they stand in the world after it.
pub record StandsOn (setup : Setup) (w : World) (ends : Ends) (e : Event) : Type 0 where
  pub new : World
  pub happens : Happens setup w e (answered ends e).0 new
  pub stands : Stands setup new (answered ends e).1
