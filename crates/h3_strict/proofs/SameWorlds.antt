-- What an event and its answer lead to is one world. So each front of a run leads to one, and the next event goes on from there.
use Rattle.std.proofs.Common.{◌≡◌, ℕ, List, [], ◌∷◌, ◌++◌, refl, sym, ap, ◌∙◌, subst, Option, Some, None}
use Rattle.std.specs.Prelude.{MatchOption}
use Rattle.h3_proto.specs.declared.stream.Side.{Side}
use Rattle.h3_connection.specs.declared.event.Pull.{Pull}
use Rattle.h3_connection.specs.declared.event.Pull.TheVariants as pull
use Rattle.h3_connection.specs.declared.event.Refusal.{Refusal}
use Rattle.h3_connection.specs.Lists.{pull_of}
use Rattle.h3_world.specs.Ends.{Ends, answered, answers_of_ends, ends_after}
use Rattle.h3_world.specs.Headline.{Happens}
use Rattle.h3_world.specs.Pulling.{PullsNext, settled}
use Rattle.h3_world.specs.Run.{Run}
use Rattle.h3_world.specs.Step.{Does, Step}
use Rattle.h3_world.specs.World.{World}
use Rattle.h3_world.specs.declared.event.Answer.{Answer}
use Rattle.h3_world.specs.declared.event.Answer.TheVariants as answer
use Rattle.h3_world.specs.declared.event.Event.{Event}
use Rattle.h3_world.specs.declared.event.Event.TheVariants as event
use Rattle.h3_world.specs.Setup.{Setup}

does_same : (r : Option Refusal) (old : World) (success : Answer) (after : World) (a : Answer) (v w : World) → Does r old success after a v → Does r old success after a w → v ≡ w
does_same (Some r) old success after a v w h k = h.1 ∙ sym k.1
does_same None old success after a v w h k = h.1 ∙ sym k.1

given_same : (a : Answer) (v w : World) (x : Answer × World) → ◌≡◌ {A = Answer × World} (a, v) x → ◌≡◌ {A = Answer × World} (a, w) x → v ≡ w
given_same a v w x h k = ap (λ (y : Answer × World). y.1) (h ∙ sym k)

next_same : (setup : Setup) (u : World) (side : Side) (id : ℕ) (q : Pull) (v w : World) → PullsNext setup u side id q v → PullsNext setup u side id q w → v ≡ w
next_same setup u side id (pull.Item i) v w h k = h.1 ∙ sym k.1
next_same setup u side id pull.Pending v w h k = h ∙ sym k
next_same setup u side id (pull.Waiting count) v w h k = h ∙ sym k
next_same setup u side id (pull.Fault fault) v w h k = absurd h
next_same setup u side id pull.NoMessages v w h k = absurd h

pulls_same : (setup : Setup) (u : World) (side : Side) (id : ℕ) (q : Pull) (v w : World) (o : Option Pull) → MatchOption o (PullsNext setup u side id q v) (λ x. (q ≡ x) × (v ≡ u)) → MatchOption o (PullsNext setup u side id q w) (λ x. (q ≡ x) × (w ≡ u)) → v ≡ w
pulls_same setup u side id q v w None h k = next_same setup u side id q v w h k
pulls_same setup u side id q v w (Some x) h k = h.1 ∙ sym k.1

pull_same : (setup : Setup) (u : World) (side : Side) (id : ℕ) (a : Answer) (v w : World) → Step setup u (event.Pull side id) a v → Step setup u (event.Pull side id) a w → v ≡ w
pull_same setup u side id (answer.Pulled q) v w h k = pulls_same setup u side id q v w (settled u side id) h k
pull_same setup u side id _ v w h k = absurd h

-- with lists
listed_same : (setup : Setup) (u : World) (side : Side) (id : ℕ) (a : Answer) (v w : World) → Step setup u (event.PullFields side id) a v → Step setup u (event.PullFields side id) a w → v ≡ w
listed_same setup u side id (answer.Listed l) v w h k = pulls_same setup u side id (pull_of l) v w (settled u side id) h.0 k.0
listed_same setup u side id _ v w h k = absurd h

pub step_same : (setup : Setup) (u : World) (e : Event) (a : Answer) (v w : World) → Step setup u e a v → Step setup u e a w → v ≡ w
step_same setup u (event.OpenRequest side) a v w h k = does_same _ _ _ _ a v w h k
step_same setup u (event.Head side id head) a v w h k = does_same _ _ _ _ a v w h k
step_same setup u (event.Body side id bytes) a v w h k = does_same _ _ _ _ a v w h k
step_same setup u (event.Trailer side id trailer) a v w h k = does_same _ _ _ _ a v w h k
step_same setup u (event.Fields side id fields) a v w h k = does_same _ _ _ _ a v w h k
step_same setup u (event.TrailerFields side id fields) a v w h k = does_same _ _ _ _ a v w h k
step_same setup u (event.Finish side id) a v w h k = does_same _ _ _ _ a v w h k
step_same setup u (event.Reset side id) a v w h k = does_same _ _ _ _ a v w h k
step_same setup u (event.Cancel side id) a v w h k = does_same _ _ _ _ a v w h k
step_same setup u (event.Goaway side id) a v w h k = does_same _ _ _ _ a v w h k
step_same setup u (event.Deliver side id count) a v w h k = given_same a v w _ h k
step_same setup u (event.DeliverEnd side id) a v w h k = given_same a v w _ h k
step_same setup u (event.DeliverReset side id) a v w h k = given_same a v w _ h k
step_same setup u (event.Pull side id) a v w h k = pull_same setup u side id a v w h k
step_same setup u (event.PullFields side id) a v w h k = listed_same setup u side id a v w h k
step_same setup u (event.Show side) a v w h k = h.1 ∙ sym k.1

-- one world behind a run
pub run_same : (setup : Setup) (u : World) (events : List Event) (answers : List Answer) (v w : World) → Run (Happens setup) u events answers v → Run (Happens setup) u events answers w → v ≡ w
run_same setup u [] [] v w h k = h ∙ sym k
run_same setup u (e ∷ es) (a ∷ more) v w h k =
    let same : h.0 ≡ k.0 = step_same setup u e a h.0 k.0 h.1.step k.1.step in
    run_same setup h.0 es more v w h.2 (subst (λ x. Run (Happens setup) x es more w) (sym same) k.2)
run_same setup u [] (a ∷ more) v w h k = absurd h
run_same setup u (e ∷ es) [] v w h k = absurd h

-- A run with one event more, behind the run without it.
pub record IsLast (setup : Setup) (u : World) (events : List Event) (answers : List Answer) (e : Event) (a : Answer) (v : World) : Type 0 where
  pub mid : World
  pub front : Run (Happens setup) u events answers mid
  pub last : Happens setup mid e a v

pub run_last : (setup : Setup) (u : World) (events : List Event) (answers : List Answer) (e : Event) (a : Answer) (v : World) → Run (Happens setup) u (events ++ e ∷ []) (answers ++ a ∷ []) v → IsLast setup u events answers e a v
run_last setup u [] [] e a v h = record { mid = u; front = refl; last = subst (Happens setup u e a) (sym h.2) h.1 }
run_last setup u [] (b ∷ []) e a v h = absurd h.2
run_last setup u [] (b ∷ c ∷ more) e a v h = absurd h.2
run_last setup u (d ∷ []) [] e a v h = absurd h.2
run_last setup u (d ∷ f ∷ es) [] e a v h = absurd h.2
run_last setup u (d ∷ es) (b ∷ more) e a v h =
    let rest = run_last setup h.0 es more e a v h.2 in
    record { mid = rest.mid; front = (h.0, h.1, rest.front); last = rest.last }

pub answers_more : (ends : Ends) (events : List Event) (e : Event) → answers_of_ends ends (events ++ e ∷ []) ≡ answers_of_ends ends events ++ (answered (ends_after ends events) e).0 ∷ []
answers_more ends [] e = refl
answers_more ends (d ∷ es) e = ap (λ l. (answered ends d).0 ∷ l) (answers_more (answered ends d).1 es e)

pub ends_more : (ends : Ends) (events : List Event) (e : Event) → ends_after ends (events ++ e ∷ []) ≡ (answered (ends_after ends events) e).1
ends_more ends [] e = refl
ends_more ends (d ∷ es) e = ends_more (answered ends d).1 es e
