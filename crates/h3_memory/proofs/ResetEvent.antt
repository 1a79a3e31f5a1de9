-- A reset leaves a world sound, and what is kept readable: it is judged where what the other side keeps counts as handed over.
use Rattle.std.proofs.Common.{◌≡◌, inr, ℕ, ◌-◌, ◌≤◌, Bool, true, false, not, ◌&&◌, ◌||◌, List, [], ◌∷◌, length, refl, sym, ap, ◌∙◌, subst, arith, if◌then◌else◌, Option, Some, None}
use Rattle.std.specs.Prelude.{◌==◌, flat_map}
use Rattle.std.proofs.lemmas.Grind.{common_steps}
use Rattle.h3_proto.specs.declared.stream.Side.{Side}
use Rattle.h3_proto.specs.declared.stream.Side.TheVariants.{Client, Server}
use Rattle.h3_connection.specs.OwnIds.{other, is_own}
use Rattle.h3_connection.specs.Refusals.{first_of}
use Rattle.h3_connection.specs.declared.event.Refusal.{Refusal}
use Rattle.h3_connection.specs.declared.event.Refusal.TheVariants as refusal
use Rattle.h3_world.specs.Setup.{Setup}
use Rattle.h3_world.specs.declared.event.Event.TheVariants as event
use Rattle.h3_world.specs.declared.event.Answer.{Answer}
use Rattle.h3_world.specs.declared.event.Answer.TheVariants as answer
use Rattle.h3_world.specs.Delivering.{is_closed}
use Rattle.h3_world.specs.Flow.{Flow, part_bytes, flow_bytes}
use Rattle.h3_world.specs.Order.{is_finished, is_sent_off}
use Rattle.h3_world.specs.Refusals.{is_critical, reset_refusal}
use Rattle.h3_world.specs.Sending.{cut_off}
use Rattle.h3_world.specs.Sendable.{IsSendable}
use Rattle.h3_world.specs.Sound.{IsSoundWorld}
use Rattle.h3_world.specs.Step.{Does}
use Rattle.h3_world.specs.Streams.{flow, is_open}
use Rattle.h3_world.specs.World.{World}
use Rattle.h3_headline.specs.Cited.{WorldLaws}
use Rattle.h3_headline.specs.FlowLaws.{open_there, other-other}
use Rattle.h3_memory.specs.Kept.{Delivery, KeepingWorld, kept_at, with_world, caught_up}
use Rattle.h3_memory.specs.Keeping.{came_of}
use Rattle.h3_memory.specs.SoundKeeping.{CanBeRead, IsSoundKeeping}
use Rattle.h3_memory.proofs.EventsKept.{kept_readable, catches_up}
use Rattle.h3_memory.proofs.Growing.{may_on}
use Rattle.h3_memory.proofs.KeptLaws.{KeptLaws}
use Rattle.h3_memory.proofs.Offered.{came_before}
use Rattle.h3_memory.proofs.ReadAll.{ReadsAll, came_behind}
use Rattle.h3_memory.proofs.Reading.{finished_goes, message_came}
use Rattle.h3_memory.proofs.ReadsLeave.{open_apart}
use Rattle.h3_memory.proofs.ResetKept.{has_end, ended_whole, cut, cut_readable}
use Rattle.h3_memory.proofs.SameSent.{same_finished}
use Rattle.h3_memory.proofs.Written.{message_text}
use Rattle.h3_memory.proofs.WorldsWritten.{other_on}

pub record MayReset (w : World) (side : Side) (id : ℕ) : Type 0 where
  pub plain : is_critical id ≡ false
  pub opened : is_open w side id ≡ true
  pub goes : is_sent_off (flow w side id) ≡ false

pub may_reset : (w : World) (side : Side) (id : ℕ) → reset_refusal w side id ≡ None → MayReset w side id
may_reset w side id e = by_tests (is_critical id) refl (is_open w side id) refl (is_sent_off (flow w side id)) refl e
  where
    by_tests : (a : Bool) → is_critical id ≡ a → (b : Bool) → is_open w side id ≡ b → (c : Bool) → is_sent_off (flow w side id) ≡ c → first_of ((a, refusal.Critical) ∷ (not b, refusal.NotOpen) ∷ (c, refusal.Ended) ∷ []) ≡ None → MayReset w side id
    by_tests true z b x c y k = absurd (cc)
    by_tests false z false x c y k = absurd (cc)
    by_tests false z true x true y k = absurd (cc)
    by_tests false z true x false y k = record { plain = z; opened = x; goes = y }

-- whether all of a flow was handed over
abbrev over : Bool → Bool → ℕ → ℕ → Bool
over reset finished size came = reset || (finished && ((if reset then 0 else size - came) == 0))

less_over : (reset finished : Bool) (size came come : ℕ) → came ≤ come → over reset finished size come ≡ false → over reset finished size came ≡ false
less_over true finished size came come more e = absurd (cc)
less_over false false size came come more e = refl
less_over false true size came come more e = grind (arith, common_steps, more, e)

not_over : (reset finished : Bool) (size came : ℕ) → size ≤ came → reset ≡ false → finished ≡ true → over reset finished size came ≡ true
not_over true finished size came fits r f = absurd (cc)
not_over false false size came fits r f = absurd (cc)
not_over false true size came fits r f = let none : size - came ≡ 0 = omega (arith, fits) in ap (λ n. n == 0) none

-- What the other side's reader makes of the flow once it has caught up.
pub record CanReset (w : World) (side : Side) (id : ℕ) (ds : List Delivery) : Type 0 where
  pub opened : is_open w side id ≡ true
  pub goes : is_sent_off (flow w side id) ≡ false
  pub no_end : has_end id ds ≡ false

resets : (setup : Setup) (w u : World) (side : Side) (id : ℕ) (ds : List Delivery) → IsSoundWorld setup w → CanBeRead setup w side ds → ReadsAll setup w u side ds → MayReset u side id → CanReset w side id ds
resets setup w u side id ds sound may c m =
    record {
      opened = opened;
      goes = less_over f.is_reset (is_finished f) (length (flow_bytes f)) f.delivered g.delivered more goes;
      no_end = by_end (has_end id ds) refl;
    }
  where
    f : Flow
    f = flow w side id

    g : Flow
    g = flow u side id

    opened : is_open w side id ≡ true
    opened = sym (c.same.opens id) ∙ m.opened

    off : is_own side id ≡ false
    off = open_apart w side id opened

    came : g.delivered ≡ came_behind (came_of w side) ds id
    came = sym (message_came u side id off) ∙ c.came id

    more : f.delivered ≤ g.delivered
    more = omega (arith, message_came w side id off, came_before (came_of w side) ds id, came)

    goes : over f.is_reset (is_finished f) (length (flow_bytes f)) g.delivered ≡ false
    goes =
        sym (ap (λ r. over r (is_finished g) (length (flow_bytes g)) g.delivered) (c.same.flows id).reset
        ∙ ap (λ b. over f.is_reset b (length (flow_bytes g)) g.delivered) (same_finished f g (c.same.flows id))
        ∙ ap (λ l. over f.is_reset (is_finished f) (length (flat_map part_bytes l)) g.delivered) (c.same.flows id).sent)
        ∙ m.goes

    differ : (b : Bool) → b ≡ true → b ≡ false → ⊥
    differ true e f = cc
    differ false e f = cc

    by_end : (b : Bool) → has_end id ds ≡ b → b ≡ false
    by_end false e = refl
    by_end true e =
        let whole = ended_whole setup w side (came_of w side) (is_closed w side) ds id may e in
        let fits : length (flow_bytes f) ≤ g.delivered = omega (arith, whole.whole, ap length (message_text setup w side id off), came) in
        absurd (differ (over f.is_reset (is_finished f) (length (flow_bytes f)) g.delivered) (not_over f.is_reset (is_finished f) (length (flow_bytes f)) g.delivered fits (finished_goes f whole.finished) whole.finished) goes)

-- so it is judged here too
pub refused_not : (w : World) (side : Side) (id : ℕ) → is_critical id ≡ false → is_open w side id ≡ true → is_sent_off (flow w side id) ≡ false → reset_refusal w side id ≡ None
refused_not w side id plain opened goes =
    ap (λ b. first_of ((b, refusal.Critical) ∷ (not (is_open w side id), refusal.NotOpen) ∷ (is_sent_off (flow w side id), refusal.Ended) ∷ [])) plain
    ∙ ap (λ b. first_of ((false, refusal.Critical) ∷ (not b, refusal.NotOpen) ∷ (is_sent_off (flow w side id), refusal.Ended) ∷ [])) opened
    ∙ ap (λ b. first_of ((false, refusal.Critical) ∷ (false, refusal.NotOpen) ∷ (b, refusal.Ended) ∷ [])) goes

-- what was cut off, by the side and the other one
cut_both : (setup : Setup) (k : KeepingWorld) (side : Side) (v : World) → IsSoundWorld setup v → CanBeRead setup v side (kept_at k (other side)) → CanBeRead setup v (other side) (kept_at k side) → IsSoundKeeping setup (with_world k v)
cut_both setup k Client v sound here there = record { sound = sound; client = there; server = here }
cut_both setup k Server v sound here there = record { sound = sound; client = here; server = there }

-- by what the other side keeps
pub resets_at : (q : KeptLaws) (setup : Setup) (k : KeepingWorld) (side : Side) (id : ℕ) → IsSoundKeeping setup k → reset_refusal (caught_up setup k (other side)) side id ≡ None → CanReset k.world side id (kept_at k (other side))
resets_at q setup k side id h e =
    let u = caught_up setup k (other side) in
    let ds = kept_at k (other side) in
    resets setup k.world u side id ds h.sound (subst (λ s. CanBeRead setup k.world s ds) (other-other side) (kept_readable setup k (other side) h))
    (subst (λ s. ReadsAll setup k.world u s ds) (other-other side) (catches_up q setup k (other side) h)) (may_reset u side id e)

pub reset_kept : (q : KeptLaws) (laws : WorldLaws) (setup : Setup) (k new : KeepingWorld) (side : Side) (id : ℕ) (a : Answer) → IsSendable setup (event.Reset side id) → IsSoundKeeping setup k
    → Does (reset_refusal (caught_up setup k (other side)) side id) k.world answer.Done (cut_off k.world side id) a new.world → new ≡ with_world k new.world → IsSoundKeeping setup new
reset_kept q laws setup k new side id a sendable h does is = subst (IsSoundKeeping setup) (sym is) (by_refusal (reset_refusal u side id) refl does)
  where
    w : World
    w = k.world

    u : World
    u = caught_up setup k (other side)

    ds : List Delivery
    ds = kept_at k (other side)

    may : CanBeRead setup w side ds
    may = subst (λ s. CanBeRead setup w s ds) (other-other side) (kept_readable setup k (other side) h)

    by_refusal : (o : Option Refusal) → reset_refusal u side id ≡ o → Does o w answer.Done (cut_off w side id) a new.world → IsSoundKeeping setup (with_world k new.world)
    by_refusal (Some r) e d = subst (λ v. IsSoundKeeping setup (with_world k v)) (sym d.1) h
    by_refusal None e d =
        let m = may_reset u side id e in
        let r = resets_at q setup k side id h e in
        let v = cut_off w side id in
        let there = open_there w side id r.opened in
        let none = refused_not w side id m.plain r.opened r.goes in
        subst (λ v. IsSoundKeeping setup (with_world k v)) (sym d.1)
        (cut_both setup k side v
        (laws.both setup w v (event.Reset side id) answer.Done sendable (subst (λ o. Does o w answer.Done v answer.Done v) (sym none) (refl, refl)) tt h.sound).1
        (cut_readable setup w side id ds there r.no_end may)
        (may_on setup w v (other side) (kept_at k side) (other_on setup w side id (cut (flow w side id)) there (inr refl)) (kept_readable setup k side h)))
