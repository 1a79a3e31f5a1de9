-- What two endpoints answer is a run of the world in which they stand.
use Rattle.std.proofs.Common.{◌≡◌, List, true, false, sym, subst}
use Rattle.std.specs.List.{AllByRecursion, list_any}
use Rattle.h3_connection.specs.State.{EndpointState}
use Rattle.h3_world.specs.declared.event.Answer.{Answer}
use Rattle.h3_world.specs.declared.event.Event.{Event}
use Rattle.h3_world.specs.Setup.{Setup}
use Rattle.h3_world.specs.Small.{ArePlain, AreSmall}
use Rattle.h3_world.specs.Ends.{Ends, new_ends, ends_after, answers_of_ends}
use Rattle.h3_world.specs.Headline.{Happens, is_connection_fault}
use Rattle.h3_world.specs.Run.{Run}
use Rattle.h3_world.specs.Sendable.{IsSendable, IsSendableBy}
use Rattle.h3_world.specs.World.{World, empty_world}
use Rattle.h3_headline.specs.Standing.{Stands}
use Rattle.h3_memory.specs.Refused.{EndsRun}
use Rattle.h3_memory.specs.Theorem.{RunsWithMemory}
use Rattle.h3_faithful.specs.Steps.{RunsUntilFault, StandsAnywhere}
use Rattle.h3_session.specs.Acting.{RunsByCalls}
use Rattle.h3_session.specs.Headlines.{RunsInOneWorld, RunsInWorld}
use Rattle.h3_session.specs.Running.{RunsTo}
use Rattle.h3_session.specs.Typed.{IsTyped}
use Rattle.h3_session.proofs.MemorySteps.{calls_run}
use Rattle.h3_session.proofs.Sendables.{plain_are_sendable, small_are_sendable}

-- what is cited of two endpoints, over some events
abbrev pub RunOfEnds : Setup → List Event → Type 0
RunOfEnds setup events =
    (w : World) × Run (Happens setup) (empty_world setup) events (answers_of_ends (new_ends setup) events) w × Stands setup w (ends_after (new_ends setup) events)

pub runs_in_world : (setup : Setup) (events : List Event) (answers : List Answer) (client server : EndpointState) → (AllByRecursion (IsSendable setup) events → RunOfEnds setup events)
    → AllByRecursion IsTyped events → RunsTo (new_ends setup) events answers client server → AreSmall events → ArePlain setup events → RunsInWorld setup events answers client server
runs_in_world setup events answers client server law typed h small plain =
    let on = law (plain_are_sendable setup events plain.taken (small_are_sendable events typed small)) in
    record {
      world = on.0;
      run = subst (λ given. Run (Happens setup) (empty_world setup) events given on.0) (sym h.answered_so) on.1;
      ends = ends_after (new_ends setup) events;
      stands = on.2;
      client_stands = h.client_stands;
      server_stands = h.server_stands;
    }

-- **So what a run has, whatever memory is refused, these answers have.**
pub of_runs : {P : Type 0} (setup : Setup) (events : List Event) (answers : List Answer) (client server : EndpointState)
    → ((ends : Ends) → AllByRecursion (IsSendableBy true) events → EndsRun (new_ends setup) events answers ends → P) → AllByRecursion IsTyped events
    → RunsByCalls (new_ends setup) events answers client server → AreSmall events → P
of_runs setup events answers client server law typed calls small =
    let run = calls_run (new_ends setup) events answers client server calls in law run.0 (small_are_sendable events typed small) run.1

-- The laws of ends that are cited of the one world.
pub record OneWorld (setup : Setup) (events : List Event) (answers : List Answer) (ends : Ends) : Type 0 where
  pub until_fault : RunsUntilFault setup events answers
  pub stands : list_any is_connection_fault answers ≡ false → StandsAnywhere setup events answers ends
  pub plainly : ArePlain setup events → RunsWithMemory setup events answers ends

-- So all are, memory refused or not, of one world.
pub runs_in_one_world : (setup : Setup) (events : List Event) (answers : List Answer) (client server : EndpointState)
    → ((ends : Ends) → AllByRecursion (IsSendableBy true) events → EndsRun (new_ends setup) events answers ends → OneWorld setup events answers ends) → AllByRecursion IsTyped events
    → RunsByCalls (new_ends setup) events answers client server → AreSmall events → RunsInOneWorld setup events answers client server
runs_in_one_world setup events answers client server law typed calls small =
    let run = calls_run (new_ends setup) events answers client server calls in
    let w = law run.0 (small_are_sendable events typed small) run.1 in
    record {
      until_fault = w.until_fault;
      to_the_end = λ none. record { ends = run.0; stands = w.stands none; client_stands = run.2; server_stands = run.3 };
      plainly = λ plain. record { ends = run.0; runs = w.plainly plain; client_stands = run.2; server_stands = run.3 };
    }
