-- Every event of two endpoints that stand in a world happens there, and both stand in the world after it. So they run in a world over
-- every schedule.
use Rattle.std.proofs.Common.{◌≡◌, Bool, true, false, refl, List}
use Rattle.h3_connection.specs.OwnIds.{is_own}
use Rattle.h3_world.specs.declared.event.Event.{Event}
use Rattle.h3_world.specs.declared.event.Event.TheVariants as event
use Rattle.h3_world.specs.Ends.{Ends, new_ends}
use Rattle.h3_world.specs.Sendable.{IsSendable}
use Rattle.h3_world.specs.Setup.{IsMadeSetup, JudgesPlainly, Setup}
use Rattle.h3_world.specs.World.{World, empty_world}
use Rattle.std.specs.List.{AllByRecursion}
use Rattle.h3_headline.proofs.DeliverEventLaws.{deliver_on, end_on, gone_on}
use Rattle.h3_headline.proofs.OwnStandsLaws.{own_deliver_on, own_end_on, own_reset_on}
use Rattle.h3_headline.proofs.RunLaws.{RunsOn, runs_on}
use Rattle.h3_headline.specs.BeginningLaws.{begins}
use Rattle.h3_headline.specs.Cited.{Laws}
use Rattle.h3_headline.specs.ListEventLaws.{listed_on}
use Rattle.h3_headline.specs.PullEventLaws.{pull_on}
use Rattle.h3_headline.specs.SentEventLaws.{body_on, cancel_on, fields_on, finish_on, goaway_on, head_on, opened_on, reset_on, show_on, trailer_fields_on, trailer_on}
use Rattle.h3_headline.specs.Standing.{Stands}
use Rattle.h3_headline.specs.Steps.{StandsOn}

by_test : {X : Type 0} (b : Bool) → (b ≡ true → X) → (b ≡ false → X) → X
by_test true own other = own refl
by_test false own other = other refl

-- A delivery is on a stream of the writer's own, or on a request stream.
pub every_event : (laws : Laws) (setup : Setup) → IsMadeSetup setup → JudgesPlainly setup → (w : World) (ends : Ends) (e : Event) → IsSendable setup e → Stands setup w ends → StandsOn setup w ends e
every_event laws setup made plain w ends (event.OpenRequest side) sendable h = opened_on laws setup w ends side sendable h
every_event laws setup made plain w ends (event.Head side id head) sendable h = head_on laws setup w ends side id head (plain side) sendable h
every_event laws setup made plain w ends (event.Fields side id fields) sendable h = fields_on laws setup w ends side id fields (plain side) sendable h
every_event laws setup made plain w ends (event.Body side id bytes) sendable h = body_on laws setup w ends side id bytes sendable h
every_event laws setup made plain w ends (event.Trailer side id trailer) sendable h = trailer_on laws setup w ends side id trailer (plain side) sendable h
every_event laws setup made plain w ends (event.TrailerFields side id fields) sendable h = trailer_fields_on laws setup w ends side id fields (plain side) sendable h
every_event laws setup made plain w ends (event.Finish side id) sendable h = finish_on laws setup w ends side id sendable h
every_event laws setup made plain w ends (event.Reset side id) sendable h = reset_on laws setup w ends side id sendable h
every_event laws setup made plain w ends (event.Cancel side id) sendable h = cancel_on laws setup w ends side id sendable h
every_event laws setup made plain w ends (event.Goaway side id) sendable h = goaway_on laws setup w ends side id sendable h
every_event laws setup made plain w ends (event.Deliver writer id count) sendable h =
    by_test (is_own writer id) (λ own. own_deliver_on laws setup w ends writer id count made h own) (λ request. deliver_on laws setup w ends writer id count h request)
every_event laws setup made plain w ends (event.DeliverEnd writer id) sendable h =
    by_test (is_own writer id) (λ own. own_end_on laws setup w ends writer id h own) (λ request. end_on laws setup w ends writer id h request)
every_event laws setup made plain w ends (event.DeliverReset writer id) sendable h =
    by_test (is_own writer id) (λ own. own_reset_on laws setup w ends writer id h own) (λ request. gone_on laws setup w ends writer id h request)
every_event laws setup made plain w ends (event.Pull side id) sendable h = pull_on laws setup w ends side id made plain h
every_event laws setup made plain w ends (event.PullFields side id) sendable h = listed_on laws setup w ends side id made plain h
every_event laws setup made plain w ends (event.Show side) sendable h = show_on laws setup w ends side made sendable h

-- **Two new endpoints that judge plainly run in a world over every schedule.**
pub two_ends_run : (laws : Laws) (setup : Setup) (events : List Event) → IsMadeSetup setup → JudgesPlainly setup → AllByRecursion (IsSendable setup) events → RunsOn setup (empty_world setup) (new_ends setup) events
two_ends_run laws setup events made plain sendable =
    runs_on setup (λ w ends e. every_event laws setup made plain w ends e) (empty_world setup) (new_ends setup) events sendable (begins setup made plain (laws.worlds.begins setup))
