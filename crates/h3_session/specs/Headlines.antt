-- What a run is: over any schedule, a client and a server answer as the world of a connection allows, and stand in it.
use Rattle.std.specs.Prelude.{◌≡◌, List, false}
use Rattle.std.specs.List.{list_any}
use Rattle.h3_connection.specs.State.{EndpointState, StandsFor}
use Rattle.h3_world.specs.declared.event.Answer.{Answer}
use Rattle.h3_world.specs.declared.event.Event.{Event}
use Rattle.h3_world.specs.Setup.{Setup}
use Rattle.h3_world.specs.Small.{ArePlain}
use Rattle.h3_world.specs.Ends.{Ends}
use Rattle.h3_world.specs.Headline.{Happens, is_connection_fault}
use Rattle.h3_world.specs.Run.{Run}
use Rattle.h3_world.specs.World.{World, empty_world}
use Rattle.h3_headline.specs.Standing.{Stands}
use Rattle.h3_memory.specs.Theorem.{RunsWithMemory}
use Rattle.h3_faithful.specs.Steps.{RunsUntilFault, StandsAnywhere}

-- The answers are those of a run from the empty world, each step of which happens; and these endpoints stand in the world that it
-- leads to.
pub record RunsInWorld (setup : Setup) (events : List Event) (answers : List Answer) (client server : EndpointState) : Type 0 where
  pub world : World
  pub run : Run (Happens setup) (empty_world setup) events answers world
  pub ends : Ends
  pub stands : Stands setup world ends
  pub client_stands : StandsFor client ends.client
  pub server_stands : StandsFor server ends.server

-- Memory refused or not, the answers are those of a run of a world in which memory may be refused, from the empty one with nothing kept, each step of
-- which happens; and these endpoints stand in the world that it leads to, with what they keep.
pub record RunsInKeepingWorld (setup : Setup) (events : List Event) (answers : List Answer) (client server : EndpointState) : Type 0 where
  pub ends : Ends
  pub runs : RunsWithMemory setup events answers ends
  pub client_stands : StandsFor client ends.client
  pub server_stands : StandsFor server ends.server

-- Of any two sides: these endpoints stand, as ones that judge plainly, in the last world of a run of what may happen anywhere.
pub record RunsToTheEnd (setup : Setup) (events : List Event) (answers : List Answer) (client server : EndpointState) : Type 0 where
  pub ends : Ends
  pub stands : StandsAnywhere setup events answers ends
  pub client_stands : StandsFor client ends.client
  pub server_stands : StandsFor server ends.server

-- **All answers are those of a run of one world.**
pub record RunsInOneWorld (setup : Setup) (events : List Event) (answers : List Answer) (client server : EndpointState) : Type 0 where
  -- of any two sides, up to a fault of the connection, which ends it
  pub until_fault : RunsUntilFault setup events answers
  pub to_the_end : list_any is_connection_fault answers ≡ false → RunsToTheEnd setup events answers client server
  -- Of sides that judge plainly each step is one of theirs, memory refused or not.
  pub plainly : ArePlain setup events → RunsInKeepingWorld setup events answers client server
