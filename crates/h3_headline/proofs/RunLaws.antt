-- Two endpoints that stand in a world stay in one over a whole schedule, where they do over each event.
use Rattle.std.proofs.Common.{List, [], ◌∷◌, refl}
use Rattle.h3_world.specs.Setup.{Setup}
use Rattle.h3_world.specs.declared.event.Event.{Event}
use Rattle.h3_world.specs.Ends.{Ends, ends_after, answers_of_ends, answered}
use Rattle.h3_world.specs.Headline.{Happens}
use Rattle.h3_world.specs.Run.{Run}
use Rattle.h3_world.specs.World.{World}
use Rattle.std.specs.List.{AllByRecursion}
use Rattle.h3_world.specs.Sendable.{IsSendable}
use Rattle.h3_headline.specs.Standing.{Stands}
use Rattle.h3_headline.specs.Steps.{StandsOn}

-- A whole schedule.
pub record RunsOn (setup : Setup) (w : World) (ends : Ends) (events : List Event) : Type 0 where
  pub new : World
  pub run : Run (Happens setup) w events (answers_of_ends ends events) new
  pub stands : Stands setup new (ends_after ends events)

pub runs_on : (setup : Setup) → ((w : World) (ends : Ends) (e : Event) → IsSendable setup e → Stands setup w ends → StandsOn setup w ends e)
    → (w : World) (ends : Ends) (events : List Event) → AllByRecursion (IsSendable setup) events → Stands setup w ends → RunsOn setup w ends events
runs_on setup event w ends [] sendable h = record { new = w; run = refl; stands = h }
runs_on setup event w ends (e ∷ events) sendable h =
    let first = event w ends e sendable.0 h in
    let rest = runs_on setup event first.new (answered ends e).1 events sendable.1 first.stands in
    record { new = rest.new; run = (first.new, first.happens, rest.run); stands = rest.stands }
