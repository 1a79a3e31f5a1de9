-- Whole runs: every chain of exact steps of events that may be sent happens, and the machine's is one.
use Rattle.std.proofs.Common.{List, [], ◌∷◌, refl, sym, subst}
use Rattle.std.specs.List.{AllByRecursion}
use Rattle.h3_world.specs.Setup.{Setup}
use Rattle.h3_world.specs.declared.event.Event.{Event}
use Rattle.h3_world.specs.declared.event.Answer.{Answer}
use Rattle.h3_world.specs.World.{World}
use Rattle.h3_world.specs.Step.{Step, IsExact}
use Rattle.h3_world.specs.Run.{Run}
use Rattle.h3_world.specs.Headline.{Happens}
use Rattle.h3_world.specs.Machine.{served, answers_from, world_after}
use Rattle.h3_world.specs.Sendable.{IsSendable}
use Rattle.h3_world.specs.Sound.{IsSoundWorld}
use Rattle.h3_world.proofs.QpackLaws.{QpackLaws}
use Rattle.h3_world.proofs.Served.{served_is_step}
use Rattle.h3_world.proofs.StepsSound.{step_sound}
use Rattle.h3_world.proofs.Happening.{step_happens}

-- an exact step happens, and leaves a sound world
pub exact_happens : QpackLaws → (setup : Setup) (w new : World) (e : Event) (a : Answer) → IsSendable setup e → Step setup w e a new → IsExact w e a → IsSoundWorld setup w → Happens setup w e a new × IsSoundWorld setup new
exact_happens laws setup w new e a send step exact h =
    let after = step_sound laws setup w new e a send step exact h in
    (step_happens laws setup w new e a step exact h after, after)

-- the machine's run, from any sound world
pub machine_runs : QpackLaws → (setup : Setup) (w : World) (events : List Event) → AllByRecursion (IsSendable setup) events → IsSoundWorld setup w
    → Run (Happens setup) w events (answers_from setup w events) (world_after setup w events) × IsSoundWorld setup (world_after setup w events)
machine_runs laws setup w [] send h = (refl, h)
machine_runs laws setup w (e ∷ es) send h =
    let next = served setup w e in
    let step = served_is_step setup w e h in
    let first = exact_happens laws setup w next.1 e next.0 send.0 step.0 step.1 h in
    let rest = machine_runs laws setup next.1 es send.1 first.1 in
    ((next.1, first.0, rest.0), rest.1)

-- a world and what may come of an event in it, exactly
abbrev pub StepsExactly : Setup → World → Event → Answer → World → Type 0
StepsExactly setup w e a new = Step setup w e a new × IsExact w e a

pub run_happens : QpackLaws → (setup : Setup) (w new : World) (events : List Event) (answers : List Answer) → AllByRecursion (IsSendable setup) events → IsSoundWorld setup w → Run (StepsExactly setup) w events answers new
    → Run (Happens setup) w events answers new × IsSoundWorld setup new
run_happens laws setup w new [] [] send h run = (run, subst (IsSoundWorld setup) (sym run) h)
run_happens laws setup w new (e ∷ es) (a ∷ as_given) send h run =
    let first = exact_happens laws setup w run.0 e a send.0 run.1.0 run.1.1 h in
    let rest = run_happens laws setup run.0 new es as_given send.1 first.1 run.2 in
    ((run.0, first.0, rest.0), rest.1)
run_happens laws setup w new [] (a ∷ as_given) send h run = absurd run
run_happens laws setup w new (e ∷ es) [] send h run = absurd run
