-- Where no memory is refused and nothing is kept, a step is one of the world, and nothing is kept after it. So a run without memory answers is a
-- run of the world.
use Rattle.std.proofs.Common.{◌≡◌, ℕ, Bool, true, false, List, [], ◌∷◌, refl, sym, ap, ◌∙◌, subst, if◌then◌else◌}
use Rattle.std.specs.List.{list_any}
use Rattle.std.specs.Prelude.{◌||◌}
use Rattle.h3_proto.specs.declared.stream.Side.{Side}
use Rattle.h3_proto.specs.declared.stream.Side.TheVariants.{Client, Server}
use Rattle.h3_connection.specs.OwnIds.{other, is_own}
use Rattle.h3_connection.specs.declared.event.Refusal.TheVariants as refusal
use Rattle.h3_world.specs.Setup.{Setup}
use Rattle.h3_world.specs.declared.event.Event.{Event}
use Rattle.h3_world.specs.declared.event.Event.TheVariants as event
use Rattle.h3_world.specs.declared.event.Answer.{Answer}
use Rattle.h3_world.specs.declared.event.Answer.TheVariants as answer
use Rattle.h3_world.specs.Delivering.{delivery, end_delivery, reset_delivery, delivered, delivered_end, delivered_reset, is_closed, may_end}
use Rattle.h3_world.specs.Headline.{Happens, is_out_of_memory, ComesOut}
use Rattle.h3_memory.specs.Kept.{KeepingWorld, Bytes, End, Reset, nothing_kept, caught_up, with_kept, is_settled}
use Rattle.h3_memory.specs.MemoryStep.{HappensWithMemory, StepOf, Answers, Pulls, UnlessMemory, offered, read_behind, reader_world}
use Rattle.h3_world.specs.Refusals.{reset_refusal}
use Rattle.h3_world.specs.Run.{Run}
use Rattle.h3_world.specs.Sending.{cut_off}
use Rattle.h3_world.specs.Step.{Step, Does, IsExact}
use Rattle.h3_world.specs.Streams.{flow, has_outgoing, waiting}
use Rattle.std.specs.Prelude.{not, nat_lt}
use Rattle.h3_world.specs.World.{World}

caught : (setup : Setup) (w : World) (side : Side) → caught_up setup (nothing_kept w) side ≡ w
caught setup w Client = refl
caught setup w Server = refl

kept_none : (w v : World) (side : Side) → with_kept (nothing_kept w) side v [] ≡ nothing_kept v
kept_none w v Client = refl
kept_none w v Server = refl

-- A step of the world, behind which nothing is kept.
pub record IsPlain (setup : Setup) (w : World) (e : Event) (a : Answer) (new : KeepingWorld) : Type 0 where
  pub step : Step setup w e a new.world
  pub none : new ≡ nothing_kept new.world

-- the answer and the world of a delivery
record Same (given : Answer) (new : KeepingWorld) (x : Answer × World) : Type 0 where
  same : (given, new.world) ≡ x
  none : new ≡ nothing_kept new.world

same_as : (given a : Answer) (new : KeepingWorld) (v : World) → ◌≡◌ {A = Answer × KeepingWorld} (given, new) (a, nothing_kept v) → Same given new (a, v)
same_as given a new v e = record { same = ap (λ p. (p.0, p.1.world)) e; none = ap (λ p. p.1) e ∙ sym (ap (λ p. nothing_kept p.1.world) e) }

taken_as : (given a : Answer) (new : KeepingWorld) (w v : World) (reader : Side) → ◌≡◌ {A = Answer × KeepingWorld} (given, new) (a, with_kept (nothing_kept w) reader v []) → Same given new (a, v)
taken_as given a new w v reader e = same_as given a new v (e ∙ ap (λ k. (a, k)) (kept_none w v reader))

bytes_by : (given : Answer) (new : KeepingWorld) (w v : World) (reader : Side) (waits count : ℕ) (none short closed : Bool)
    → (given, new) ≡ read_behind (nothing_kept w) reader (if none then (answer.NoStream, w) else (if short then (answer.Short waits, w) else (if closed then (answer.Refused refusal.AfterEnd, w) else (answer.Delivered count, v))))
    → Same given new (if none then (answer.NoStream, w) else (if short then (answer.Short waits, w) else (if closed then (answer.Refused refusal.AfterEnd, w) else (answer.Delivered count, v))))
bytes_by given new w v reader waits count true short closed e = same_as given answer.NoStream new w e
bytes_by given new w v reader waits count false true closed e = same_as given (answer.Short waits) new w e
bytes_by given new w v reader waits count false false true e = same_as given (answer.Refused refusal.AfterEnd) new w e
bytes_by given new w v reader waits count false false false e = taken_as given (answer.Delivered count) new w v reader e

told_by : (given : Answer) (new : KeepingWorld) (w v : World) (reader : Side) (none early closed : Bool)
    → (given, new) ≡ read_behind (nothing_kept w) reader (if none then (answer.NoStream, w) else (if early then (answer.Early, w) else (if closed then (answer.Refused refusal.AfterEnd, w) else (answer.Done, v))))
    → Same given new (if none then (answer.NoStream, w) else (if early then (answer.Early, w) else (if closed then (answer.Refused refusal.AfterEnd, w) else (answer.Done, v))))
told_by given new w v reader true early closed e = same_as given answer.NoStream new w e
told_by given new w v reader false true closed e = same_as given answer.Early new w e
told_by given new w v reader false false true e = same_as given (answer.Refused refusal.AfterEnd) new w e
told_by given new w v reader false false false e = taken_as given answer.Done new w v reader e

plain_bytes : (setup : Setup) (w : World) (writer : Side) (id count : ℕ) (given : Answer) (new : KeepingWorld)
    → (given, new) ≡ read_behind (nothing_kept w) (other writer) (offered setup (nothing_kept w) writer (Bytes id count)) → Same given new (delivery setup w writer id count)
plain_bytes setup w writer id count given new e =
    bytes_by given new w (delivered setup w writer id count) (other writer) (waiting setup w writer id) count (not (has_outgoing w writer id)) (nat_lt (waiting setup w writer id) count) (is_closed w writer id)
    (subst (λ v. (given, new) ≡ read_behind (nothing_kept w) (other writer) (delivery setup v writer id count)) (caught setup w (other writer)) e)

plain_end : (setup : Setup) (w : World) (writer : Side) (id : ℕ) (given : Answer) (new : KeepingWorld)
    → (given, new) ≡ read_behind (nothing_kept w) (other writer) (offered setup (nothing_kept w) writer (End id)) → Same given new (end_delivery setup w writer id)
plain_end setup w writer id given new e =
    told_by given new w (delivered_end w writer id) (other writer) (not (has_outgoing w writer id)) (not (may_end setup w writer id)) (is_closed w writer id)
    (subst (λ v. (given, new) ≡ read_behind (nothing_kept w) (other writer) (end_delivery setup v writer id)) (caught setup w (other writer)) e)

plain_reset : (setup : Setup) (w : World) (writer : Side) (id : ℕ) (given : Answer) (new : KeepingWorld)
    → (given, new) ≡ read_behind (nothing_kept w) (other writer) (offered setup (nothing_kept w) writer (Reset id)) → Same given new (reset_delivery w writer id)
plain_reset setup w writer id given new e =
    told_by given new w (delivered_reset w writer id) (other writer) (not (has_outgoing w writer id)) (is_own writer id || not (flow w writer id).is_reset) (is_closed w writer id)
    (subst (λ v. (given, new) ≡ read_behind (nothing_kept w) (other writer) (reset_delivery v writer id)) (caught setup w (other writer)) e)

plain_pull : (setup : Setup) (w : World) (side : Side) (e : Event) (given : Answer) (new : KeepingWorld) (settled : Bool) → Pulls setup (nothing_kept w) side e settled given new → IsPlain setup w e given new
plain_pull setup w side e given new true h = record { step = h.0; none = h.1 ∙ sym (ap (λ k. nothing_kept k.world) h.1) }
plain_pull setup w side e given new false h =
    record {
      step = subst (λ v. Step setup v e given new.world) (caught setup w side) h.0;
      none = h.1 ∙ kept_none w new.world side;
    }

plain : (setup : Setup) (w : World) (e : Event) (a : Answer) (new : KeepingWorld) → Answers setup (nothing_kept w) e a new → IsPlain setup w e a new
plain setup w (event.Deliver writer id count) a new h = let x = plain_bytes setup w writer id count a new h in record { step = x.same; none = x.none }
plain setup w (event.DeliverEnd writer id) a new h = let x = plain_end setup w writer id a new h in record { step = x.same; none = x.none }
plain setup w (event.DeliverReset writer id) a new h = let x = plain_reset setup w writer id a new h in record { step = x.same; none = x.none }
plain setup w (event.Pull side id) a new h = plain_pull setup w side (event.Pull side id) a new (is_settled w side id) h
plain setup w (event.PullFields side id) a new h = plain_pull setup w side (event.PullFields side id) a new (is_settled w side id) h
plain setup w (event.Reset side id) a new h =
    record { step = subst (λ v. Does (reset_refusal v side id) w answer.Done (cut_off w side id) a new.world) (caught setup w (other side)) h.0; none = h.1 }
plain setup w (event.OpenRequest side) a new h = record { step = h.0; none = h.1 }
plain setup w (event.Head side id head) a new h = record { step = h.0; none = h.1 }
plain setup w (event.Fields side id fields) a new h = record { step = h.0; none = h.1 }
plain setup w (event.Body side id bytes) a new h = record { step = h.0; none = h.1 }
plain setup w (event.Trailer side id trailer) a new h = record { step = h.0; none = h.1 }
plain setup w (event.TrailerFields side id fields) a new h = record { step = h.0; none = h.1 }
plain setup w (event.Finish side id) a new h = record { step = h.0; none = h.1 }
plain setup w (event.Cancel side id) a new h = record { step = h.0; none = h.1 }
plain setup w (event.Goaway side id) a new h = record { step = h.0; none = h.1 }
plain setup w (event.Show side) a new h = record { step = h.0; none = h.1 }

-- where a pull stands
at_reader : (setup : Setup) (w : World) (e : Event) → reader_world setup (nothing_kept w) e ≡ w
at_reader setup w (event.Pull side id) = caught setup w side
at_reader setup w (event.PullFields side id) = caught setup w side
at_reader setup w (event.Deliver writer id count) = refl
at_reader setup w (event.DeliverEnd writer id) = refl
at_reader setup w (event.DeliverReset writer id) = refl
at_reader setup w (event.Reset side id) = refl
at_reader setup w (event.OpenRequest side) = refl
at_reader setup w (event.Head side id head) = refl
at_reader setup w (event.Fields side id fields) = refl
at_reader setup w (event.Body side id bytes) = refl
at_reader setup w (event.Trailer side id trailer) = refl
at_reader setup w (event.TrailerFields side id fields) = refl
at_reader setup w (event.Finish side id) = refl
at_reader setup w (event.Cancel side id) = refl
at_reader setup w (event.Goaway side id) = refl
at_reader setup w (event.Show side) = refl

-- **Such a step happens in the world.**
pub record HappensPlainly (setup : Setup) (w : World) (e : Event) (a : Answer) (new : KeepingWorld) : Type 0 where
  pub happens : Happens setup w e a new.world
  pub none : new ≡ nothing_kept new.world

pub happens_plainly : (setup : Setup) (w : World) (e : Event) (a : Answer) (new : KeepingWorld) → is_out_of_memory a ≡ false → HappensWithMemory setup (nothing_kept w) e a new → HappensPlainly setup w e a new
happens_plainly setup w e a new not_memory h =
    let p = plain setup w e a new (subst (λ b. StepOf b setup (nothing_kept w) e a new) not_memory h.step) in
    record {
      happens = record {
        step = p.step;
        exact = subst (λ v. IsExact v e a) (at_reader setup w e) (subst (λ b. UnlessMemory b (IsExact (reader_world setup (nothing_kept w) e) e a)) not_memory h.exact);
        comes_out = subst (λ v. ComesOut setup v e a) (at_reader setup w e) (subst (λ b. UnlessMemory b (ComesOut setup (reader_world setup (nothing_kept w) e) e a)) not_memory h.comes_out);
        no_connection_fault = h.no_connection_fault;
        within_limits = h.within_limits;
      };
      none = p.none;
    }

-- **A run without memory answers is a run of the world.**
pub record RunsPlainly (setup : Setup) (w : World) (events : List Event) (answers : List Answer) (new : KeepingWorld) : Type 0 where
  pub run : Run (Happens setup) w events answers new.world
  pub none : new ≡ nothing_kept new.world

neither : (first rest : Bool) → (first || rest) ≡ false → (first ≡ false) × (rest ≡ false)
neither true rest h = absurd (cc)
neither false rest h = (refl, h)

pub runs_plainly : (setup : Setup) (w : World) (events : List Event) (answers : List Answer) (new : KeepingWorld) → list_any is_out_of_memory answers ≡ false
    → Run (HappensWithMemory setup) (nothing_kept w) events answers new → RunsPlainly setup w events answers new
runs_plainly setup w [] [] new none run = record { run = ap (λ k. k.world) run; none = run ∙ sym (ap (λ k. nothing_kept k.world) run) }
runs_plainly setup w (e ∷ events) (a ∷ answers) new none run =
    let parts = neither (is_out_of_memory a) (list_any is_out_of_memory answers) none in
    let first = happens_plainly setup w e a run.0 parts.0 run.1 in
    let rest = runs_plainly setup run.0.world events answers new parts.1 (subst (λ k. Run (HappensWithMemory setup) k events answers new) first.none run.2) in
    record { run = (run.0.world, first.happens, rest.run); none = rest.none }
runs_plainly setup w [] (a ∷ answers) new none run = absurd run
runs_plainly setup w (e ∷ events) [] new none run = absurd run
