-- A pull whose answer is settled happens with anything kept at either side, and reads nothing of it.
use Rattle.std.proofs.Common.{◌≡◌, ℕ, true, refl, sym, ap, ◌∙◌, subst, Option, Some, None, MatchOption}
use Rattle.std.specs.Prelude.{is_some}
use Rattle.h3_proto.specs.declared.stream.Side.{Side}
use Rattle.h3_proto.specs.declared.stream.Side.TheVariants.{Client, Server}
use Rattle.h3_connection.specs.Endpoint.{EndpointHistory}
use Rattle.h3_connection.specs.Keeping.{pulls}
use Rattle.h3_connection.specs.OwnIds.{other}
use Rattle.h3_connection.specs.StreamSets.{HaveDistinctIds}
use Rattle.h3_connection.specs.declared.event.Pull.{Pull}
use Rattle.h3_world.specs.declared.event.Event.{Event}
use Rattle.h3_world.specs.declared.event.Event.TheVariants as event
use Rattle.h3_world.specs.declared.event.Answer.TheVariants as answer
use Rattle.h3_world.specs.Ends.{Ends, end_at, with_end, answered}
use Rattle.h3_world.specs.Pulling.{PullsNext, Pulls, PausesExactly, settled}
use Rattle.h3_world.specs.Setup.{IsMadeSetup, JudgesPlainly, Setup}
use Rattle.h3_world.specs.Step.{Step, IsExact}
use Rattle.h3_world.specs.World.{World}
use Rattle.h3_headline.specs.Cited.{Laws}
use Rattle.h3_headline.specs.PullEventLaws.{pull_on}
use Rattle.h3_headline.specs.SendingLaws.{both_of}
use Rattle.h3_headline.specs.Standing.{StandsAt, Stands}
use Rattle.h3_memory.specs.Kept.{KeepingWorld, kept_at, caught_up, is_settled}
use Rattle.h3_memory.specs.Keeping.{Keeps, StandsKeeping, EachResumes, ahead}
use Rattle.h3_memory.specs.MemoryStep.{Answers, Pulls as PullsKeeping}
use Rattle.h3_memory.specs.SoundKeeping.{CanBeRead}
use Rattle.h3_memory.proofs.AheadPulls.{PullsAhead, settled_ahead}
use Rattle.h3_memory.proofs.PullSpares.{pulls_spare}
use Rattle.h3_memory.proofs.SendingEvents.{keeps_at, both_stay, stands_called}
use Rattle.h3_memory.proofs.Settling.{settled_later, settled_some, settles_there}
use Rattle.h3_memory.proofs.Written.{unchanged}

-- What comes of a pull that is not refused memory.
pub record PullAnswered (setup : Setup) (k : KeepingWorld) (ends : Ends) (side : Side) (e : Event) : Type 0 where
  pub new : KeepingWorld
  pub step : Answers setup k e (answered ends e).0 new
  pub exact : IsExact (caught_up setup k side) e (answered ends e).0
  pub stands : StandsKeeping setup new (answered ends e).1

-- what the side keeps can be read
pub theirs_readable : (setup : Setup) (k : KeepingWorld) (ends : Ends) (side : Side) → StandsKeeping setup k ends → CanBeRead setup k.world (other side) (kept_at k side)
theirs_readable setup k ends Client h = h.client.may
theirs_readable setup k ends Server h = h.server.may

-- nothing is said of the pause
exact_settled : (w : World) (side : Side) (id : ℕ) (p : Pull) → is_some (settled w side id) ≡ true → PausesExactly w side id p
exact_settled w side id p is = by_answer (settled w side id) is
  where
    by_answer : (o : Option Pull) → is_some o ≡ true
        → MatchOption o
        (Rattle.h3_world.specs.Pauses.pause_of p
        ≡ Rattle.h3_world.specs.Pauses.pause_before (Rattle.h3_world.specs.Streams.flow w (other side) id) (Rattle.h3_world.specs.Came.insertions_came (Rattle.h3_world.specs.World.party w (other side))) (Rattle.h3_world.specs.Order.next_part (Rattle.h3_world.specs.Streams.flow w (other side) id)))
        (λ a. Unit {0})
    by_answer (Some a) e = tt
    by_answer None e = cc

-- the world is as it was
same_world : (setup : Setup) (w v : World) (side : Side) (id : ℕ) (p : Pull) → is_some (settled w side id) ≡ true → Pulls setup w side id p v → v ≡ w
same_world setup w v side id p is step = by_answer (settled w side id) is step
  where
    by_answer : (o : Option Pull) → is_some o ≡ true → MatchOption o (PullsNext setup w side id p v) (λ a. (p ≡ a) × (v ≡ w)) → v ≡ w
    by_answer (Some a) e s = s.1
    by_answer None e s = cc

module _ (laws : Laws) (setup : Setup) (made : IsMadeSetup setup) (plain : JudgesPlainly setup) (k : KeepingWorld) (ends : Ends) (h : StandsKeeping setup k ends) (side : Side) (id : ℕ) where
  abbrev b : EndpointHistory
  b = end_at h.behind side

  abbrev c : Keeps setup k side (end_at h.behind side) (end_at ends side)
  c = keeps_at setup k ends side h

  here : StandsAt setup k.world side (end_at h.behind side)
  here = (both_of setup k.world side h.behind h.stands).here

  pulls_alike : is_settled k.world side id ≡ true
      → PullsAhead (kept_at k (other side)) (keeps_at setup k ends side h).held (keeps_at setup k ends side h).arrivals (end_at h.behind side) (end_at h.behind side).incoming (keeps_at setup k ends side h).incoming (pulls (end_at h.behind side) id) (pulls (end_at ends side) id)
  pulls_alike settled =
      subst (λ e. PullsAhead (kept_at k (other side)) c.held c.arrivals b b.incoming c.incoming (pulls b id) (pulls e id)) (sym c.is)
      (settled_ahead (kept_at k (other side)) c.held c.arrivals b c.incoming id here.nothing_kept (settles_there setup k.world side id b here h.stands.sound ∙ settled)
      (subst (λ s. EachResumes s b.announced b.incoming c.incoming) (sym here.side_is) c.resumes))

  pub settled_answered : is_settled k.world side id ≡ true → PullAnswered setup k ends side (event.Pull side id)
  settled_answered settled =
      let on = pull_on laws setup k.world h.behind side id made plain h.stands in
      let p = pulls_alike settled in
      let x = pulls b id in
      let is_same : on.new ≡ k.world = same_world setup k.world on.new side id x.0 (settled_some k.world side id settled) on.happens.step in
      let given : (answered ends (event.Pull side id)).0 ≡ answer.Pulled x.0 = ap (λ (y : Pull × EndpointHistory). answer.Pulled y.0) p.is in
      let left : (answered ends (event.Pull side id)).1 ≡ with_end ends side (ahead x.1 (kept_at k (other side)) c.held p.incoming c.arrivals) = ap (λ (y : Pull × EndpointHistory). with_end ends side y.1) p.is in
      let spares = pulls_spare b id here.nothing_kept in
      let step : Step setup k.world (event.Pull side id) (answer.Pulled x.0) k.world = subst (λ v. Step setup k.world (event.Pull side id) (answer.Pulled x.0) v) is_same on.happens.step in
      record {
        new = k;
        step = subst (λ t. PullsKeeping setup k side (event.Pull side id) t (answered ends (event.Pull side id)).0 k) (sym settled) (subst (λ a. Step setup k.world (event.Pull side id) a k.world) (sym given) step, refl);
        exact = subst (IsExact (caught_up setup k side) (event.Pull side id)) (sym given)
            (exact_settled (caught_up setup k side) side id x.0 (settled_some (caught_up setup k side) side id (settled_later setup k side id (theirs_readable setup k ends side h) settled)));
        stands = subst (StandsKeeping setup k) (sym left)
            (stands_called setup k k.world ends side h x.1 (ahead x.1 (kept_at k (other side)) c.held p.incoming c.arrivals) p.incoming refl spares.peer
            (subst (λ s. EachResumes s x.1.announced x.1.incoming p.incoming) here.side_is (subst (λ a. EachResumes b.side a x.1.incoming p.incoming) (sym spares.announced) p.resumes))
            (subst HaveDistinctIds (sym spares.outgoing) c.distinct) (subst (λ v. Stands setup v (with_end h.behind side x.1)) is_same on.stands) (both_stay setup k k.world side (unchanged setup k.world)));
      }
