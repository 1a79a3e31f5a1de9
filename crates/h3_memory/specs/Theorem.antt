-- What a run is where memory may be refused, and what each event of it does.
use Rattle.std.specs.Prelude.{List}
use Rattle.h3_world.specs.declared.event.Answer.{Answer}
use Rattle.h3_world.specs.declared.event.Event.{Event}
use Rattle.h3_world.specs.Setup.{Setup}
use Rattle.h3_world.specs.Ends.{Ends}
use Rattle.h3_world.specs.Headline.{is_out_of_memory}
use Rattle.h3_world.specs.Sendable.{IsSendable}
use Rattle.h3_world.specs.Step.{IsExact}
use Rattle.h3_world.specs.World.{empty_world}
use Rattle.h3_memory.specs.Kept.{KeepingWorld, nothing_kept}
use Rattle.h3_memory.specs.Keeping.{StandsKeeping}
use Rattle.h3_memory.specs.MemoryStep.{StepWithMemory, HappensWithMemory, UnlessMemory, reader_world}
use Rattle.h3_memory.specs.Refused.{EndsStep}
use Rattle.h3_world.specs.Run.{Run}

-- One event of two endpoints that stand in a world with what they keep: it was answered so by a step from there, with an exact pause, and the
-- endpoints after it stand in the world that it leads to.
pub record StandsOn (setup : Setup) (k : KeepingWorld) (e : Event) (a : Answer) (ends : Ends) : Type 0 where
  pub new : KeepingWorld
  pub step : StepWithMemory setup k e a new
  pub exact : UnlessMemory (is_out_of_memory a) (IsExact (reader_world setup k e) e a)
  pub stands : StandsKeeping setup new ends

-- So it is whatever is kept, and however the endpoints answer that memory may be refused.
abbrev pub StepsOn : Setup → Event → Type 0
StepsOn setup e = (k : KeepingWorld) (ends new : Ends) (a : Answer) → IsSendable setup e → StandsKeeping setup k ends → EndsStep ends e a new → StandsOn setup k e a new

-- The answers are those of a run from the empty world with nothing kept, each step of which happens; and these endpoints stand in the world that
-- it leads to, with what they keep.
pub record RunsWithMemory (setup : Setup) (events : List Event) (answers : List Answer) (ends : Ends) : Type 0 where
  pub world : KeepingWorld
  pub run : Run (HappensWithMemory setup) (nothing_kept (empty_world setup)) events answers world
  pub stands : StandsKeeping setup world ends
