-- Every event is a step from any world in which two endpoints stand with what they keep. So they run in a world over every schedule, also where
-- memory is refused.
use Rattle.std.proofs.Common.{List}
use Rattle.std.specs.List.{AllByRecursion}
use Rattle.h3_proto.specs.declared.stream.Side.{Side}
use Rattle.h3_connection.specs.OwnIds.{other}
use Rattle.h3_world.specs.declared.event.Event.{Event}
use Rattle.h3_world.specs.declared.event.Answer.{Answer}
use Rattle.h3_world.specs.Ends.{Ends, new_ends}
use Rattle.h3_world.specs.Sendable.{IsSendable}
use Rattle.h3_world.specs.Setup.{IsMadeSetup, JudgesPlainly, Setup}
use Rattle.h3_headline.specs.BeginningLaws.{begins}
use Rattle.h3_headline.specs.Cited.{Laws}
use Rattle.h3_memory.specs.Refused.{EndsRun}
use Rattle.h3_memory.specs.Theorem.{RunsWithMemory, StepsOn}
use Rattle.h3_memory.proofs.DeliverEvents.{deliver_step, end_step, gone_step}
use Rattle.h3_memory.proofs.EventSteps.{every_step}
use Rattle.h3_memory.proofs.FramesStep.{frames_step}
use Rattle.h3_memory.proofs.HappensKeeping.{stands_happen}
use Rattle.h3_memory.proofs.KeptArrivals.{Notices}
use Rattle.h3_memory.proofs.KeptLaws.{KeptLaws}
use Rattle.h3_memory.proofs.MemoryKept.{notices}
use Rattle.h3_memory.proofs.Noticed.{NoticesEach, noticed_stands}
use Rattle.h3_memory.proofs.PartRuns.{ReadsFramesOn}
use Rattle.h3_memory.proofs.PullStep.{listed_step, pull_step}
use Rattle.h3_memory.proofs.Runs.{two_ends_run_with_memory}

-- what is left of a memory answer is noticed
notices_each : (q : KeptLaws) (setup : Setup) (writer : Side) → NoticesEach setup writer
notices_each q setup writer = λ w id h there goes. notices q setup w writer id h there goes

stands_noticed : (q : KeptLaws) (setup : Setup) → Notices setup
stands_noticed q setup = λ w side mine ds f g arrivals r. noticed_stands setup w side mine ds f g arrivals (notices_each q setup (other side)) r

pub every_event : (q : KeptLaws) (laws : Laws) (setup : Setup) → IsMadeSetup setup → JudgesPlainly setup → ReadsFramesOn setup → (e : Event) → StepsOn setup e
every_event q laws setup made plain frames =
    every_step q laws setup made plain (record {
      bytes = deliver_step q laws setup made frames (stands_noticed q setup);
      end = end_step q laws setup made frames (stands_noticed q setup);
      reset = gone_step q laws setup made frames (stands_noticed q setup);
      pull = pull_step q laws setup made plain frames (stands_noticed q setup);
      listed = listed_step q laws setup made plain frames (stands_noticed q setup);
    })

-- **Two new endpoints that judge plainly run in a world over every schedule, with memory refused anywhere.**
pub ends_run : (q : KeptLaws) (laws : Laws) (setup : Setup) (events : List Event) (answers : List Answer) (ends : Ends) → IsMadeSetup setup → JudgesPlainly setup → AllByRecursion (IsSendable setup) events → EndsRun (new_ends setup) events answers ends
    → RunsWithMemory setup events answers ends
ends_run q laws setup events answers ends made plain sendable run =
    two_ends_run_with_memory setup (every_event q laws setup made plain (frames_step q laws setup made)) (λ k before after e a sends h on. stands_happen q laws.worlds setup k before after e a sends h on) (begins setup made plain (laws.worlds.begins setup)) events answers ends sendable run
