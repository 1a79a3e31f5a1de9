-- A pull with lists is answered as the pull, with the list that is next in the world where it stands.
use Rattle.std.proofs.Common.{◌≡◌, ℕ, Bool, true, false, refl, sym, subst, Option, Some, None, IfSome, MatchOption}
use Rattle.std.specs.Prelude.{is_some}
use Rattle.h3_proto.specs.declared.stream.Side.{Side}
use Rattle.h3_connection.specs.declared.event.Pull.{Pull}
use Rattle.h3_connection.specs.Endpoint.{EndpointHistory}
use Rattle.h3_connection.specs.Keeping.{pulls}
use Rattle.h3_world.specs.Setup.{Setup}
use Rattle.h3_world.specs.declared.event.Event.TheVariants as event
use Rattle.h3_world.specs.declared.event.Answer.TheVariants as answer
use Rattle.h3_connection.specs.Coming.{fields_behind}
use Rattle.h3_world.specs.Ends.{Ends, end_at}
use Rattle.h3_world.specs.ListLaws.{pulls_listed}
use Rattle.h3_world.specs.Pulling.{PausesExactly, Pulls, PullsNext, list_next, settled}
use Rattle.h3_connection.specs.Coming.{HasNoHeader}
use Rattle.h3_connection.specs.declared.lists.ListPull.{ListPull}
use Rattle.h3_connection.specs.Lists.{listed_pull, pull_of}
use Rattle.h3_world.specs.Step.{Step}
use Rattle.h3_world.specs.World.{World}
use Rattle.h3_headline.specs.ListEventLaws.{any_list, settled_plain}
use Rattle.h3_memory.specs.Kept.{KeepingWorld, caught_up, is_settled}
use Rattle.h3_memory.specs.MemoryStep.{Pulls as PullsKeeping}
use Rattle.h3_memory.proofs.SettledPull.{PullAnswered}
use Rattle.h3_memory.proofs.Settling.{settled_some}

-- an answer that is settled has no header
told_plain : (setup : Setup) (w v : World) (side : Side) (id : ℕ) (p : Pull) → is_settled w side id ≡ true → Pulls setup w side id p v → HasNoHeader p
told_plain setup w v side id p is step = by_settled (settled w side id) (settled_some w side id is) (settled_plain w side id) step
  where
    by_settled : (o : Option Pull) → is_some o ≡ true → IfSome o HasNoHeader → MatchOption o (PullsNext setup w side id p v) (λ q. (p ≡ q) × (v ≡ w)) → HasNoHeader p
    by_settled (Some q) is none step = subst HasNoHeader (sym step.0) none
    by_settled None is none step = cc

-- the same step
as_listed : (setup : Setup) (w v : World) (side : Side) (id : ℕ) (p : Pull) (l : ListPull) → l ≡ listed_pull (list_next setup w side id) p → Pulls setup w side id p v
    → Step setup w (event.PullFields side id) (answer.Listed l) v × (pull_of l ≡ p)
as_listed setup w v side id p l same step =
    let is = pulls_listed setup w v side id p step in
    subst (λ x. Step setup w (event.PullFields side id) (answer.Listed x) v × (pull_of x ≡ p)) (sym same) ((subst (λ q. Pulls setup w side id q v) (sym is.stands) step, is.has), is.stands)

-- **The answer with lists.**
pub listed_answered : (setup : Setup) (k : KeepingWorld) (ends : Ends) (side : Side) (id : ℕ)
    → (is_settled k.world side id ≡ false
    → listed_pull (fields_behind (end_at ends side).kept (end_at ends side) id) (pulls (end_at ends side) id).0 ≡ listed_pull (list_next setup (caught_up setup k side) side id) (pulls (end_at ends side) id).0)
    → PullAnswered setup k ends side (event.Pull side id) → PullAnswered setup k ends side (event.PullFields side id)
listed_answered setup k ends side id lists a =
    let x = by_settled (is_settled k.world side id) refl a.step in
    record {
      new = a.new;
      step = x.0;
      exact = subst (PausesExactly (caught_up setup k side) side id) (sym x.1) a.exact;
      stands = a.stands;
    }
  where
    e : EndpointHistory
    e = end_at ends side

    p : Pull
    p = (pulls e id).0

    l : ListPull
    l = listed_pull (fields_behind e.kept e id) p

    by_settled : (b : Bool) → is_settled k.world side id ≡ b → PullsKeeping setup k side (event.Pull side id) b (answer.Pulled p) a.new → PullsKeeping setup k side (event.PullFields side id) b (answer.Listed l) a.new × (pull_of l ≡ p)
    by_settled true is step =
        let y = as_listed setup k.world a.new.world side id p l (any_list (fields_behind e.kept e id) (list_next setup k.world side id) p (told_plain setup k.world a.new.world side id p is step.0)) step.0 in
        ((y.0, step.1), y.1)
    by_settled false is step =
        let y = as_listed setup (caught_up setup k side) a.new.world side id p l (lists is) step.0 in
        ((y.0, step.1), y.1)
