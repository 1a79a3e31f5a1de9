-- All that is said of a step holds of every one that is allowed, with an exact pause, between sound worlds.
use Rattle.std.proofs.Common.{◌≡◌, ℕ, Bool, true, false, refl, sym, ap, ◌∙◌, subst, Option, Some, None, MatchOption}
use Rattle.h3_proto.specs.declared.stream.Side.{Side}
use Rattle.h3_proto.specs.declared.stream.Side.TheVariants.{Client}
use Rattle.h3_connection.specs.OwnIds.{other}
use Rattle.h3_connection.specs.declared.event.Pull.{Pull}
use Rattle.h3_connection.specs.declared.event.Refusal.{Refusal}
use Rattle.h3_connection.specs.Lists.{pull_of}
use Rattle.h3_world.specs.Setup.{Setup}
use Rattle.h3_world.specs.declared.event.Event.{Event}
use Rattle.h3_world.specs.declared.event.Event.TheVariants as event
use Rattle.h3_world.specs.declared.event.Answer.{Answer}
use Rattle.h3_world.specs.declared.event.Answer.TheVariants as answer
use Rattle.h3_world.specs.Came.{insertions_came}
use Rattle.h3_world.specs.Delivering.{delivery, end_delivery, reset_delivery}
use Rattle.h3_world.specs.Ends.{Ends}
use Rattle.h3_world.specs.Headline.{ComesOut, Happens, is_connection_fault, is_out_of_memory}
use Rattle.h3_world.specs.Order.{next_part}
use Rattle.h3_world.specs.Pauses.{pause_before, pause_of}
use Rattle.h3_world.specs.Pulling.{PausesExactly, settled}
use Rattle.h3_world.specs.Refusals.{reset_refusal}
use Rattle.h3_world.specs.Sendable.{IsSendable}
use Rattle.h3_world.specs.Sending.{cut_off}
use Rattle.h3_world.specs.Shown.{limits_shown, sizes_shown, streams_waiting}
use Rattle.h3_world.specs.Sound.{IsSoundWorld}
use Rattle.h3_world.specs.Step.{Does, IsExact, IsWithinLimits, Step}
use Rattle.h3_world.specs.Streams.{flow}
use Rattle.h3_world.specs.World.{World, party}
use Rattle.h3_headline.specs.Cited.{WorldLaws}
use Rattle.h3_memory.specs.Kept.{KeepingWorld, caught_up, is_settled}
use Rattle.h3_memory.specs.Keeping.{StandsKeeping}
use Rattle.h3_memory.specs.MemoryStep.{Answers, HappensWithMemory, Pulls, StepOf, StepWithMemory, UnlessMemory, read_behind, reader_world}
use Rattle.h3_memory.specs.SoundKeeping.{IsSoundKeeping}
use Rattle.h3_memory.specs.Theorem.{StandsOn}
use Rattle.h3_memory.proofs.EventsKept.{catches_up}
use Rattle.h3_memory.proofs.KeptLaws.{KeptLaws}
use Rattle.h3_memory.proofs.MemoryAnswers.{LacksIt, lacks_it}
use Rattle.h3_memory.proofs.MemoryAnswers.LacksIt.{LacksRoom, KeepsIt, HandsNothing, HandsNoList}
use Rattle.h3_memory.proofs.SettledKept.{settled_here, settled_stays}
use Rattle.h3_memory.proofs.StepsKept.{step_keeps}

-- no more streams wait than a side allows
within : (laws : WorldLaws) (setup : Setup) (w : World) → IsSoundWorld setup w → IsWithinLimits setup w
within laws setup w h = (laws.both setup w w (event.Show Client) (answer.Shown (limits_shown setup w Client) (sizes_shown w Client) (streams_waiting w Client)) tt (refl, refl) tt h).0.within_limits

-- What holds of an answer, where no memory was refused.
record TellsWell (setup : Setup) (k : KeepingWorld) (e : Event) (a : Answer) : Type 0 where
  comes_out : ComesOut setup (reader_world setup k e) e a
  no_fault : is_connection_fault a ≡ false

happens_at : (laws : WorldLaws) (setup : Setup) (w v : World) (e : Event) (a : Answer) → IsSendable setup e → IsSoundWorld setup w → Step setup w e a v → IsExact w e a → Happens setup w e a v
happens_at laws setup w v e a sendable h step exact = (laws.both setup w v e a sendable step exact h).0

-- an answer of a delivery is that where its receiver has caught up
same_answer : (k : KeepingWorld) (reader : Side) (given : Answer) (new : KeepingWorld) (x : Answer × World) → (given, new) ≡ read_behind k reader x → given ≡ x.0
same_answer k reader given new (answer.Delivered n, w) e = ap (λ p. p.0) e
same_answer k reader given new (answer.Done, w) e = ap (λ p. p.0) e
same_answer k reader given new (answer.Opened n, w) e = ap (λ p. p.0) e
same_answer k reader given new (answer.Short n, w) e = ap (λ p. p.0) e
same_answer k reader given new (answer.NoStream, w) e = ap (λ p. p.0) e
same_answer k reader given new (answer.Early, w) e = ap (λ p. p.0) e
same_answer k reader given new (answer.Shown limits sizes n, w) e = ap (λ p. p.0) e
same_answer k reader given new (answer.Refused r, w) e = ap (λ p. p.0) e
same_answer k reader given new (answer.Pulled p, w) e = ap (λ p. p.0) e
same_answer k reader given new (answer.Listed l, w) e = ap (λ p. p.0) e

delivered_well : (laws : WorldLaws) (setup : Setup) (k new : KeepingWorld) (e : Event) (reader : Side) (u : World) (x : Answer × World) (a : Answer) → IsSendable setup e → IsSoundWorld setup u → Step setup u e x.0 x.1 → IsExact u e x.0
    → (a, new) ≡ read_behind k reader x → is_connection_fault a ≡ false
delivered_well laws setup k new e reader u x a sendable sound step exact is = ap is_connection_fault (same_answer k reader a new x is) ∙ (happens_at laws setup u x.1 e x.0 sendable sound step exact).no_connection_fault

-- a reset
reset_well : (laws : WorldLaws) (setup : Setup) (u w v : World) (side : Side) (id : ℕ) (a : Answer) (o : Option Refusal) → IsSendable setup (event.Reset side id) → IsSoundWorld setup u → reset_refusal u side id ≡ o → Does o w answer.Done (cut_off w side id) a v
    → is_connection_fault a ≡ false
reset_well laws setup u w v side id a (Some r) sendable h e d =
    ap is_connection_fault d.0
    ∙ (happens_at laws setup u u (event.Reset side id) (answer.Refused r) sendable h (subst (λ o. Does o u answer.Done (cut_off u side id) (answer.Refused r) u) (sym e) (refl, refl)) tt).no_connection_fault
reset_well laws setup u w v side id a None sendable h e d = ap is_connection_fault d.0

-- a pull
exact_told : (w : World) (side : Side) (id : ℕ) (p : Pull) → (settled w side id ≡ None → ⊥) → PausesExactly w side id p
exact_told w side id p told = by_settled (settled w side id) refl
  where
    by_settled : (o : Option Pull) → settled w side id ≡ o
        → MatchOption o (pause_of p ≡ pause_before (flow w (other side) id) (insertions_came (party w (other side))) (next_part (flow w (other side) id))) (λ q. Unit {0})
    by_settled (Some q) e = tt
    by_settled None e = absurd (told e)

exact_here : (w : World) (side : Side) (id : ℕ) (a : Answer) → (settled w side id ≡ None → ⊥) → IsExact w (event.Pull side id) a
exact_here w side id (answer.Pulled p) told = exact_told w side id p told
exact_here w side id (answer.Opened n) told = tt
exact_here w side id answer.Done told = tt
exact_here w side id (answer.Delivered n) told = tt
exact_here w side id (answer.Short n) told = tt
exact_here w side id answer.NoStream told = tt
exact_here w side id answer.Early told = tt
exact_here w side id (answer.Shown limits sizes n) told = tt
exact_here w side id (answer.Refused r) told = tt
exact_here w side id (answer.Listed l) told = tt

listed_here : (w : World) (side : Side) (id : ℕ) (a : Answer) → (settled w side id ≡ None → ⊥) → IsExact w (event.PullFields side id) a
listed_here w side id (answer.Listed l) told = exact_told w side id (pull_of l) told
listed_here w side id (answer.Opened n) told = tt
listed_here w side id answer.Done told = tt
listed_here w side id (answer.Delivered n) told = tt
listed_here w side id (answer.Short n) told = tt
listed_here w side id answer.NoStream told = tt
listed_here w side id answer.Early told = tt
listed_here w side id (answer.Shown limits sizes n) told = tt
listed_here w side id (answer.Refused r) told = tt
listed_here w side id (answer.Pulled p) told = tt

comes_out_here : (setup : Setup) (w : World) (side : Side) (id : ℕ) (a : Answer) → (settled w side id ≡ None → ⊥) → ComesOut setup w (event.Pull side id) a
comes_out_here setup w side id (answer.Pulled p) told = λ delivered unsettled pauses. absurd (told unsettled)
comes_out_here setup w side id (answer.Opened n) told = tt
comes_out_here setup w side id answer.Done told = tt
comes_out_here setup w side id (answer.Delivered n) told = tt
comes_out_here setup w side id (answer.Short n) told = tt
comes_out_here setup w side id answer.NoStream told = tt
comes_out_here setup w side id answer.Early told = tt
comes_out_here setup w side id (answer.Shown limits sizes n) told = tt
comes_out_here setup w side id (answer.Refused r) told = tt
comes_out_here setup w side id (answer.Listed l) told = tt

listed_out_here : (setup : Setup) (w : World) (side : Side) (id : ℕ) (a : Answer) → (settled w side id ≡ None → ⊥) → ComesOut setup w (event.PullFields side id) a
listed_out_here setup w side id (answer.Listed l) told = λ delivered unsettled pauses. absurd (told unsettled)
listed_out_here setup w side id (answer.Opened n) told = tt
listed_out_here setup w side id answer.Done told = tt
listed_out_here setup w side id (answer.Delivered n) told = tt
listed_out_here setup w side id (answer.Short n) told = tt
listed_out_here setup w side id answer.NoStream told = tt
listed_out_here setup w side id answer.Early told = tt
listed_out_here setup w side id (answer.Shown limits sizes n) told = tt
listed_out_here setup w side id (answer.Refused r) told = tt
listed_out_here setup w side id (answer.Pulled p) told = tt

-- with lists or without, where an answer that is settled says nothing of the pause
pull_well : (q : KeptLaws) (laws : WorldLaws) (setup : Setup) (k new : KeepingWorld) (side : Side) (id : ℕ) (e : Event) (a : Answer) (is_told : Bool) → ((w : World) → (settled w side id ≡ None → ⊥) → IsExact w e a)
    → ((w : World) → (settled w side id ≡ None → ⊥) → ComesOut setup w e a) → IsSendable setup e → IsSoundKeeping setup k → is_settled k.world side id ≡ is_told → Pulls setup k side e is_told a new → IsExact (caught_up setup k side) e a
    → ComesOut setup (caught_up setup k side) e a × (is_connection_fault a ≡ false)
pull_well q laws setup k new side id e a false here out sendable h is step exact =
    let happens = happens_at laws setup (caught_up setup k side) new.world e a sendable (catches_up q setup k side h).sound step.0 exact in
    (happens.comes_out, happens.no_connection_fault)
pull_well q laws setup k new side id e a true here out sendable h is step exact = (
  out (caught_up setup k side) (settled_stays q setup k side id h is),
  (happens_at laws setup k.world new.world e a sendable h.sound step.0 (here k.world (settled_here k.world side id is))).no_connection_fault,
)

-- of each event
answers_well : (q : KeptLaws) (laws : WorldLaws) (setup : Setup) (k new : KeepingWorld) (e : Event) (a : Answer) → IsSendable setup e → IsSoundKeeping setup k → Answers setup k e a new → IsExact (reader_world setup k e) e a → TellsWell setup k e a
answers_well q laws setup k new (event.OpenRequest side) a sendable h step exact =
    record { comes_out = tt; no_fault = (happens_at laws setup k.world new.world (event.OpenRequest side) a sendable h.sound step.0 exact).no_connection_fault }
answers_well q laws setup k new (event.Head side id head) a sendable h step exact =
    record { comes_out = tt; no_fault = (happens_at laws setup k.world new.world (event.Head side id head) a sendable h.sound step.0 exact).no_connection_fault }
answers_well q laws setup k new (event.Fields side id fields) a sendable h step exact =
    record { comes_out = tt; no_fault = (happens_at laws setup k.world new.world (event.Fields side id fields) a sendable h.sound step.0 exact).no_connection_fault }
answers_well q laws setup k new (event.TrailerFields side id fields) a sendable h step exact =
    record { comes_out = tt; no_fault = (happens_at laws setup k.world new.world (event.TrailerFields side id fields) a sendable h.sound step.0 exact).no_connection_fault }
answers_well q laws setup k new (event.Body side id bytes) a sendable h step exact =
    record { comes_out = tt; no_fault = (happens_at laws setup k.world new.world (event.Body side id bytes) a sendable h.sound step.0 exact).no_connection_fault }
answers_well q laws setup k new (event.Trailer side id trailer) a sendable h step exact =
    record { comes_out = tt; no_fault = (happens_at laws setup k.world new.world (event.Trailer side id trailer) a sendable h.sound step.0 exact).no_connection_fault }
answers_well q laws setup k new (event.Finish side id) a sendable h step exact =
    record { comes_out = tt; no_fault = (happens_at laws setup k.world new.world (event.Finish side id) a sendable h.sound step.0 exact).no_connection_fault }
answers_well q laws setup k new (event.Cancel side id) a sendable h step exact =
    record { comes_out = tt; no_fault = (happens_at laws setup k.world new.world (event.Cancel side id) a sendable h.sound step.0 exact).no_connection_fault }
answers_well q laws setup k new (event.Goaway side id) a sendable h step exact =
    record { comes_out = tt; no_fault = (happens_at laws setup k.world new.world (event.Goaway side id) a sendable h.sound step.0 exact).no_connection_fault }
answers_well q laws setup k new (event.Show side) a sendable h step exact =
    record { comes_out = tt; no_fault = (happens_at laws setup k.world new.world (event.Show side) a sendable h.sound step.0 exact).no_connection_fault }
answers_well q laws setup k new (event.Reset side id) a sendable h step exact =
    let u = caught_up setup k (other side) in
    record { comes_out = tt; no_fault = reset_well laws setup u k.world new.world side id a (reset_refusal u side id) sendable (catches_up q setup k (other side) h).sound refl step.0 }
answers_well q laws setup k new (event.Deliver writer id count) a sendable h step exact =
    let u = caught_up setup k (other writer) in
    record {
      comes_out = tt;
      no_fault = delivered_well laws setup k new (event.Deliver writer id count) (other writer) u (delivery setup u writer id count) a sendable (catches_up q setup k (other writer) h).sound refl tt step;
    }
answers_well q laws setup k new (event.DeliverEnd writer id) a sendable h step exact =
    let u = caught_up setup k (other writer) in
    record {
      comes_out = tt;
      no_fault = delivered_well laws setup k new (event.DeliverEnd writer id) (other writer) u (end_delivery setup u writer id) a sendable (catches_up q setup k (other writer) h).sound refl tt step;
    }
answers_well q laws setup k new (event.DeliverReset writer id) a sendable h step exact =
    let u = caught_up setup k (other writer) in
    record {
      comes_out = tt;
      no_fault = delivered_well laws setup k new (event.DeliverReset writer id) (other writer) u (reset_delivery u writer id) a sendable (catches_up q setup k (other writer) h).sound refl tt step;
    }
answers_well q laws setup k new (event.Pull side id) a sendable h step exact =
    let x = pull_well q laws setup k new side id (event.Pull side id) a (is_settled k.world side id) (λ w. exact_here w side id a) (λ w. comes_out_here setup w side id a) sendable h refl step exact in
    record { comes_out = x.0; no_fault = x.1 }
answers_well q laws setup k new (event.PullFields side id) a sendable h step exact =
    let x = pull_well q laws setup k new side id (event.PullFields side id) a (is_settled k.world side id) (λ w. listed_here w side id a) (λ w. listed_out_here setup w side id a) sendable h refl step exact in
    record { comes_out = x.0; no_fault = x.1 }

-- an answer that tells of refused memory tells of no connection fault
lacks_well : (a : Answer) → LacksIt a → is_connection_fault a ≡ false
lacks_well a (LacksRoom is) = ap is_connection_fault is
lacks_well a (KeepsIt is) = ap is_connection_fault is
lacks_well a (HandsNothing is) = ap is_connection_fault is
lacks_well a (HandsNoList is) = ap is_connection_fault is

-- **A step that is allowed happens, and leaves a sound world.**
pub record HappensSoundly (setup : Setup) (k : KeepingWorld) (e : Event) (a : Answer) (new : KeepingWorld) : Type 0 where
  pub happens : HappensWithMemory setup k e a new
  pub sound : IsSoundKeeping setup new

pub step_happens : (q : KeptLaws) (laws : WorldLaws) (setup : Setup) (k new : KeepingWorld) (e : Event) (a : Answer) → IsSendable setup e → IsSoundKeeping setup k → StepWithMemory setup k e a new
    → UnlessMemory (is_out_of_memory a) (IsExact (reader_world setup k e) e a) → HappensSoundly setup k e a new
step_happens q laws setup k new e a sendable h step exact = by_memory (is_out_of_memory a) refl
  where
    after : IsSoundKeeping setup new
    after = step_keeps q laws setup k new e a sendable h step exact

    memory_or : (b : Bool) (P : Type 0) → b ≡ true → UnlessMemory b P
    memory_or true P e = tt
    memory_or false P e = absurd (cc)

    by_memory : (b : Bool) → is_out_of_memory a ≡ b → HappensSoundly setup k e a new
    by_memory true told =
        record {
          happens = record {
            step = step;
            exact = exact;
            comes_out = memory_or (is_out_of_memory a) (ComesOut setup (reader_world setup k e) e a) told;
            no_connection_fault = lacks_well a (lacks_it a told);
            within_limits = within laws setup new.world after.sound;
          };
          sound = after;
        }
    by_memory false told =
        let t = answers_well q laws setup k new e a sendable h (subst (λ b. StepOf b setup k e a new) told step) (subst (λ b. UnlessMemory b (IsExact (reader_world setup k e) e a)) told exact) in
        record {
          happens = record {
            step = step;
            exact = exact;
            comes_out = subst (λ b. UnlessMemory b (ComesOut setup (reader_world setup k e) e a)) (sym told) t.comes_out;
            no_connection_fault = t.no_fault;
            within_limits = within laws setup new.world after.sound;
          };
          sound = after;
        }

-- **So it is of what two endpoints do that stand in a world before and after it.**
pub stands_sound : (setup : Setup) (k : KeepingWorld) (ends : Ends) → StandsKeeping setup k ends → IsSoundKeeping setup k
stands_sound setup k ends h = record { sound = h.stands.sound; client = h.client.may; server = h.server.may }

pub stands_happen : (q : KeptLaws) (laws : WorldLaws) (setup : Setup) (k : KeepingWorld) (ends after : Ends) (e : Event) (a : Answer) → IsSendable setup e → StandsKeeping setup k ends → (on : StandsOn setup k e a after) → HappensWithMemory setup k e a on.new
stands_happen q laws setup k ends after e a sendable h on = (step_happens q laws setup k on.new e a sendable (stands_sound setup k ends h) on.step on.exact).happens
