-- What the program reads and writes.
use Rattle.std.specs.Prelude.{◌≡◌, ◌⊎◌, ℕ, ◌^◌, false, List, Option}
use Rattle.std.specs.List.{list_any}
use Rattle.std.specs.Io.KnownBytes.{Appends}
use Rattle.h3_script.specs.Inputs.{HasRead, ReadsScript, LosesInput}
use Rattle.h3_script.specs.Lines.{printed}
use Rattle.h3_script.specs.Script.{IsScript}
use Rattle.h3_world.specs.Ends.{new_ends, answers_of_ends}
use Rattle.h3_world.specs.Headline.{Happens, is_out_of_memory}
use Rattle.h3_world.specs.Run.{Run}
use Rattle.h3_world.specs.World.{World, empty_world}
use Rattle.h3_world.specs.Setup.{Setup}
use Rattle.h3_world.specs.declared.event.Event.{Event}
use Rattle.h3_world.specs.declared.event.Answer.{Answer}
use Rattle.h3_faithful.specs.Faithful.{Faithful}
use Rattle.h3_memory.specs.Kept.{KeepingWorld, nothing_kept}
use Rattle.h3_memory.specs.MemoryStep.{HappensWithMemory}
use Rattle.h3_session.specs.Running.{AnswersEach}

-- What is said of the answers to some events where none of them tells of refused memory: they are those of a run from the empty
-- world, each step of which happens, and those of two endpoints with the bytes carried between them.
pub record AreAnswers (setup : Setup) (events : List Event) (answers : List Answer) : Type 0 where
  pub world : World
  pub run : Run (Happens setup) (empty_world setup) events answers world
  pub of_ends : answers ≡ answers_of_ends (new_ends setup) events

-- What is said of the answers to some events. There is one for each; and those up to the first that tells of refused memory are those of two
-- endpoints with the bytes carried between them. Memory refused or not, all are those of a run of a world in which memory may be refused; no
-- connection fault is told; and after each of them, what a side was given of a stream is a front of what the other side sent, and with the end it
-- is all of that.
pub record AnswersTo (setup : Setup) (events : List Event) (answers : List Answer) : Type 0 where
  pub each : AnswersEach (new_ends setup) events answers
  pub faithful : Faithful setup events answers
  pub whole : list_any is_out_of_memory answers ≡ false → AreAnswers setup events answers
  pub world : KeepingWorld
  pub run : Run (HappensWithMemory setup) (nothing_kept (empty_world setup)) events answers world

-- The lines of the answers to some events were written.
pub record Prints (setup : Setup) (events : List Event) (old new : Option (List ℕ)) : Type 0 where
  pub answers : List Answer
  pub answered : AnswersTo setup events answers
  pub written : Appends old new (printed answers)

-- What was read is a script, and its answers were written.
pub record AnswersScript (input rest old new : Option (List ℕ)) : Type 0 where
  pub text : List ℕ
  pub setup : Setup
  pub events : List Event
  pub read : HasRead input rest text
  pub script : IsScript (2 ^ 48) text setup events
  pub prints : Prints setup events old new

-- some script that was read
pub record ReadsSomeScript (input rest : Option (List ℕ)) : Type 0 where
  pub setup : Setup
  pub events : List Event
  pub reads : ReadsScript input rest setup events

-- Neither answers nor a line are told: nothing was written, unless a line is refused or what was read is a script. What was written then is not said.
abbrev pub Loses : Option (List ℕ) → Option (List ℕ) → Option (List ℕ) → Option (List ℕ) → Type 0
Loses input rest old new = LosesInput input rest old new ⊎ ReadsSomeScript input rest
