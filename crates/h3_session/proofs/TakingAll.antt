-- A side without a limit takes each list that is sent to it.
use Rattle.std.proofs.Common.{◌≡◌, true, List, [], ◌∷◌}
use Rattle.h3_connection.specs.OwnIds.{other}
use Rattle.h3_world.specs.declared.event.Event.{Event}
use Rattle.h3_world.specs.declared.event.Event.TheVariants as event
use Rattle.h3_world.specs.Ends.{Ends, answered}
use Rattle.h3_world.specs.Setup.{Setup}
use Rattle.h3_strict.specs.Limits.{EarlyAreTaken, IsTaken, is_early}
use Rattle.h3_strict.specs.Tallies.{JudgesStrictly}

takes_early : (setup : Setup) (ends : Ends) (e : Event) → JudgesStrictly setup → is_early ends e ≡ true → IsTaken setup e (answered ends e).0
takes_early setup ends (event.Head side id head) strict early = λ done limit. let none = (strict (other side)).1 in absurd (cc)
takes_early setup ends (event.Trailer side id trailer) strict early = λ done limit. let none = (strict (other side)).1 in absurd (cc)
takes_early setup ends (event.Fields side id fields) strict early = λ done limit. let none = (strict (other side)).1 in absurd (cc)
takes_early setup ends (event.TrailerFields side id fields) strict early = λ done limit. let none = (strict (other side)).1 in absurd (cc)
takes_early setup ends e strict early = absurd (cc)

pub takes_all : (setup : Setup) (ends : Ends) (events : List Event) → JudgesStrictly setup → EarlyAreTaken setup ends events
takes_all setup ends [] strict = tt
takes_all setup ends (e ∷ events) strict = (takes_early setup ends e strict, takes_all setup (answered ends e).1 events strict)
