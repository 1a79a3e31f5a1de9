-- The first of what an end keeps is read, and the rest is kept.
use Rattle.std.specs.Prelude.{◌≡◌, List, [], None}
use Rattle.h3_proto.specs.declared.stream.Side.{Side}
use Rattle.h3_connection.specs.declared.arrival.Arrival.{Arrival}
use Rattle.h3_connection.specs.Endpoint.{EndpointHistory}
use Rattle.h3_connection.specs.Keeping.{read_arrival, unkept}
use Rattle.h3_world.specs.Ends.{Ends, end_at, with_end}
use Rattle.h3_world.specs.Setup.{Setup}
use Rattle.h3_memory.specs.Kept.{KeepingWorld, caught_up}
use Rattle.h3_memory.specs.Keeping.{StandsKeeping}

-- The side read the arrival without a fault, and both ends stand in a world in which it counts as delivered. Once the rest is read too that is the
-- same world.
pub record ReadsNext (setup : Setup) (k : KeepingWorld) (ends : Ends) (side : Side) (a : Arrival) (arrivals : List Arrival) : Type 0 where
  pub next : EndpointHistory
  pub reads : read_arrival (unkept (end_at ends side)) a ≡ (next, None)
  pub none : next.kept ≡ []
  pub world : KeepingWorld
  pub stands : StandsKeeping setup world (with_end ends side (record next { kept = arrivals }))
  pub caught : caught_up setup world side ≡ caught_up setup k side
