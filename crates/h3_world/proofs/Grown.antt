-- A schedule of a session grown at the end, and the session of a world after more events.
use Rattle.std.proofs.Common.{ℕ, Bool, List, [], ◌∷◌, ◌++◌, refl, subst}
use Rattle.std.specs.List.{AllByRecursion}
use Rattle.h3_qpack.specs.Session.{Session, IsSound}
use Rattle.h3_qpack.specs.Schedule.{SessionEvent, SessionStep, SessionRun, beginning}
use Rattle.h3_proto.specs.declared.stream.Side.{Side}
use Rattle.h3_world.specs.World.{World}
use Rattle.h3_world.specs.Setup.{Setup, announced_at, flags_secrets}
use Rattle.h3_world.specs.Following.{Follows, HasSession}
use Rattle.h3_world.proofs.Guarding.{ChoosesNothing, run_guards}

-- the law of h3_qpack on schedules from nothing
abbrev pub SessionsAreSound : Type 0
SessionsAreSound = (counts : Bool) (most : ℕ) (events : List SessionEvent) (s : Session) → SessionRun (beginning counts most 0 0) events s → IsSound s

pub session_is_sound : SessionsAreSound → (setup : Setup) (w : World) (side : Side) (h : HasSession setup w side) → IsSound h.session
session_is_sound law setup w side h = law h.counts h.most h.events h.session h.run

-- two schedules, one behind the other
pub run_joined : (s : Session) (events more : List SessionEvent) (mid new : Session) → SessionRun s events mid → SessionRun mid more new → SessionRun s (events ++ more) new
run_joined s [] more mid new first then = subst (λ x. SessionRun x more new) first then
run_joined s (event ∷ events) more mid new first then = (first.0, first.1, run_joined first.0 events more mid new first.2 then)

-- the session of the new world is the old one after more events
pub goes_on : (setup : Setup) (old new : World) (side : Side) (h : HasSession setup old side) (events : List SessionEvent) (after : Session) → AllByRecursion ChoosesNothing events
    → SessionRun h.session events after → Follows setup new side after → HasSession setup new side
goes_on setup old new side h events after none run follows =
    record {
      counts = h.counts;
      most = h.most;
      events = h.events ++ events;
      session = after;
      run = run_joined (beginning h.counts h.most 0 0) h.events events h.session after h.run run;
      follows = follows;
      guards = run_guards (flags_secrets (announced_at setup side)) h.session events after none run h.guards;
    }

-- or after one event
pub steps_on : (setup : Setup) (old new : World) (side : Side) (h : HasSession setup old side) (event : SessionEvent) (after : Session) → ChoosesNothing event
    → SessionStep h.session event after → Follows setup new side after → HasSession setup new side
steps_on setup old new side h event after none step follows = goes_on setup old new side h (event ∷ []) after (none, tt) (after, step, refl) follows
