-- Two endpoints that stand in a world with what they keep stay in one over a whole schedule, where they do over each event.
use Rattle.std.proofs.Common.{◌≡◌, inl, ℕ, Bool, true, false, List, [], ◌∷◌, if◌then◌else◌, refl, subst, sym}
use Rattle.std.specs.Prelude.{◌==◌}
use Rattle.std.specs.List.{AllByRecursion}
use Rattle.h3_connection.specs.OwnIds.{control_id, encoder_id, decoder_id}
use Rattle.h3_proto.specs.declared.stream.Side.{Side}
use Rattle.h3_proto.specs.declared.stream.Side.TheVariants.{Client, Server}
use Rattle.h3_world.specs.Ends.{Ends, new_ends}
use Rattle.h3_world.specs.Sendable.{IsSendable}
use Rattle.h3_world.specs.World.{empty_world}
use Rattle.h3_world.specs.declared.event.Answer.{Answer}
use Rattle.h3_world.specs.declared.event.Event.{Event}
use Rattle.h3_world.specs.Setup.{Setup}
use Rattle.h3_headline.specs.Standing.{Stands}
use Rattle.h3_memory.specs.Kept.{KeepingWorld, nothing_kept}
use Rattle.h3_memory.specs.Keeping.{Held, StandsKeeping, held_of}
use Rattle.h3_memory.specs.MemoryStep.{HappensWithMemory}
use Rattle.h3_memory.specs.Refused.{EndsRun}
use Rattle.h3_world.specs.Run.{Run}
use Rattle.h3_memory.specs.Theorem.{RunsWithMemory, StandsOn, StepsOn}

-- What is said of a step holds of one whose ends stood in a world before it and do after it.
abbrev pub EachHappens : Setup → Type 0
EachHappens setup =
    (k : KeepingWorld) (ends after : Ends) (e : Event) (a : Answer) → IsSendable setup e → StandsKeeping setup k ends → (on : StandsOn setup k e a after) → HappensWithMemory setup k e a on.new

-- A whole schedule.
pub record RunsOn (setup : Setup) (k : KeepingWorld) (events : List Event) (answers : List Answer) (ends : Ends) : Type 0 where
  pub new : KeepingWorld
  pub run : Run (HappensWithMemory setup) k events answers new
  pub stands : StandsKeeping setup new ends

pub runs_on : (setup : Setup) → ((e : Event) → StepsOn setup e) → EachHappens setup → (k : KeepingWorld) (ends after : Ends) (events : List Event) (answers : List Answer) → AllByRecursion (IsSendable setup) events
    → StandsKeeping setup k ends → EndsRun ends events answers after → RunsOn setup k events answers after
runs_on setup steps happens k ends after [] [] sendable h run = record { new = k; run = refl; stands = subst (StandsKeeping setup k) (sym run) h }
runs_on setup steps happens k ends after (e ∷ events) (a ∷ answers) sendable h run =
    let first = steps e k ends run.0 a sendable.0 h run.1 in
    let rest = runs_on setup steps happens first.new run.0 after events answers sendable.1 first.stands run.2 in
    record { new = rest.new; run = (first.new, happens k ends run.0 e a sendable.0 h first, rest.run); stands = rest.stands }
runs_on setup steps happens k ends after [] (a ∷ answers) sendable h run = absurd run
runs_on setup steps happens k ends after (e ∷ events) [] sendable h run = absurd run

-- New endpoints keep nothing.
abbrev none_held : Held
none_held = record { control = []; encoder = []; decoder = [] }

none_either : (b : Bool) (rest : List ℕ) → rest ≡ [] → (if b then [] else rest) ≡ []
none_either true rest h = refl
none_either false rest h = h

nothing_held : (writer : Side) (id : ℕ) → held_of writer none_held id ≡ []
nothing_held writer id = none_either (id == control_id writer) _ (none_either (id == encoder_id writer) _ (none_either (id == decoder_id writer) [] refl))

pub begins_keeping : (setup : Setup) → Stands setup (empty_world setup) (new_ends setup) → StandsKeeping setup (nothing_kept (empty_world setup)) (new_ends setup)
begins_keeping setup h =
    record {
      behind = new_ends setup;
      stands = h;
      client = record { held = none_held; incoming = []; arrivals = []; is = refl; resumes = tt; kept = nothing_held Server; may = tt; early = λ unknown. inl refl; untold = λ id none. nothing_held Server id; distinct = tt };
      server = record { held = none_held; incoming = []; arrivals = []; is = refl; resumes = tt; kept = nothing_held Client; may = tt; early = λ unknown. inl refl; untold = λ id none. nothing_held Client id; distinct = tt };
    }

-- **Two new endpoints run in a world over every schedule, also where memory is refused**, where each event steps on.
pub two_ends_run_with_memory : (setup : Setup) → ((e : Event) → StepsOn setup e) → EachHappens setup → Stands setup (empty_world setup) (new_ends setup) → (events : List Event) (answers : List Answer) (ends : Ends)
    → AllByRecursion (IsSendable setup) events → EndsRun (new_ends setup) events answers ends → RunsWithMemory setup events answers ends
two_ends_run_with_memory setup steps happens begins events answers ends sendable run =
    let on = runs_on setup steps happens (nothing_kept (empty_world setup)) (new_ends setup) ends events answers sendable (begins_keeping setup begins) run in
    record { world = on.new; run = on.run; stands = on.stands }
