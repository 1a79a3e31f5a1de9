-- A reset of an endpoint that handed over what the other side keeps is refused as the world says where all of that has been read.
use Rattle.std.proofs.Common.{◌≡◌, ℕ, ◌+◌, Bool, true, false, List, [], ◌∷◌, refl, sym, ap, ◌∙◌, subst, arith, if◌then◌else◌, Option, Some, None}
use Rattle.std.specs.Prelude.{not, ◌==◌, is_some, unwrap_or, option_map}
use Rattle.std.proofs.lemmas.Grind.{common_steps}
use Rattle.h3_proto.specs.declared.stream.Side.{Side}
use Rattle.h3_proto.specs.declared.stream.Side.TheVariants.{Client, Server}
use Rattle.h3_connection.specs.Endpoint.{EndpointHistory, is_critical_id}
use Rattle.h3_connection.specs.Outgoing.{Outgoing, nothing_sent, is_sent_off}
use Rattle.h3_connection.specs.OwnIds.{other}
use Rattle.h3_connection.specs.Refusals.{first_of}
use Rattle.h3_connection.specs.Sending.{closed_or}
use Rattle.h3_connection.specs.Sending as sender
use Rattle.h3_connection.specs.declared.event.Refusal.{Refusal}
use Rattle.h3_connection.specs.declared.event.Refusal.TheVariants as refusal
use Rattle.h3_world.specs.Setup.{Setup}
use Rattle.h3_world.specs.Ends.{Ends, end_at}
use Rattle.h3_world.specs.Flow.{Flow, Part}
use Rattle.h3_world.specs.Order.{outgoing_of}
use Rattle.h3_world.specs.Order as order
use Rattle.h3_world.specs.Refusals.{is_critical, reset_refusal}
use Rattle.h3_world.specs.Streams.{flow, is_open}
use Rattle.h3_world.specs.World.{World}
use Rattle.h3_headline.specs.FlowLaws.{other-other}
use Rattle.h3_headline.specs.SendingLaws.{both_of}
use Rattle.h3_headline.specs.SentLaws.{critical_agrees, sent_off_agrees}
use Rattle.h3_headline.specs.Standing.{StandsAt}
use Rattle.h3_memory.specs.Kept.{Delivery, Bytes, End, Reset, KeepingWorld, kept_at, caught_up, read_deliveries}
use Rattle.h3_memory.specs.Keeping.{Keeps, StandsKeeping, bytes_in, came_of, with_count}
use Rattle.h3_memory.specs.SoundKeeping.{CanBeRead}
use Rattle.h3_memory.proofs.Ahead.{further_taken, at_mapped}
use Rattle.h3_memory.proofs.KeptLaws.{KeptLaws}
use Rattle.h3_memory.proofs.ReadAll.{ReadsAll, all_read, came_behind}
use Rattle.h3_memory.proofs.ReadsLeave.{open_apart}
use Rattle.h3_memory.proofs.SendingEvents.{keeps_at}
use Rattle.h3_memory.proofs.TextsOf.{message_came_is}

-- the bytes that were handed over of a stream
came_with : (came : ℕ → ℕ) (ds : List Delivery) (i : ℕ) → came_behind came ds i ≡ came i + bytes_in i ds
came_with came [] i = omega arith
came_with came (Bytes id count ∷ ds) i = came_with (with_count came id count) ds i ∙ by_test (i == id) (id == i) refl refl
  where
    turned : (a b : ℕ) → (a == b) ≡ true → (b == a) ≡ false → ⊥
    turned a b e f = grind (arith, common_steps, e, f)

    by_test : (x y : Bool) → (i == id) ≡ x → (id == i) ≡ y → (if x then came i + count else came i) + bytes_in i ds ≡ came i + ((if y then count else 0) + bytes_in i ds)
    by_test true true e f = omega arith
    by_test false false e f = omega arith
    by_test true false e f = absurd (turned i id e f)
    by_test false true e f = absurd (turned id i f e)
came_with came (End id ∷ ds) i = came_with came ds i
came_with came (Reset id ∷ ds) i = came_with came ds i

-- a flow, where more of it came
abbrev with_delivered : Flow → ℕ → Flow
with_delivered f n = record f { delivered = n }

abbrev off_by : List Part → Bool → ℕ → Flow → Bool
off_by sent reset delivered f = order.is_sent_off (record f { sent = sent; is_reset = reset; delivered = delivered })

same_off : (f g : Flow) (n : ℕ) → g.sent ≡ f.sent → g.is_reset ≡ f.is_reset → g.delivered ≡ n → order.is_sent_off (with_delivered f n) ≡ order.is_sent_off g
same_off f g n sent reset delivered =
    sym (ap (λ x. off_by x g.is_reset g.delivered f) sent ∙ ap (λ b. off_by f.sent b g.delivered f) reset ∙ ap (λ m. off_by f.sent f.is_reset m f) delivered)

-- What is kept of a side can be read.
mine_readable : (setup : Setup) (k : KeepingWorld) (ends : Ends) (side : Side) → StandsKeeping setup k ends → CanBeRead setup k.world side (kept_at k (other side))
mine_readable setup k ends Client h = h.server.may
mine_readable setup k ends Server h = h.client.may

module _ (qpack : KeptLaws) (setup : Setup) (k : KeepingWorld) (ends : Ends) (h : StandsKeeping setup k ends) (side : Side) (id : ℕ) where
  abbrev mine : List Delivery
  mine = kept_at k (other side)

  -- the world once the other side has read all of it
  abbrev v : World
  v = caught_up setup k (other side)

  mine_read : ReadsAll setup k.world (caught_up setup k (other side)) side (kept_at k (other side))
  mine_read = subst (λ s. ReadsAll setup k.world (read_deliveries setup k.world s (kept_at k (other side))) side (kept_at k (other side))) (sym (other-other side)) (all_read qpack setup k.world side (kept_at k (other side)) h.stands.sound (mine_readable setup k ends side h))

  abbrev f : Flow
  f = flow k.world side id

  abbrev came_then : ℕ
  came_then = (flow k.world side id).delivered + bytes_in id (kept_at k (other side))

  sent_off : is_open k.world side id ≡ true → order.is_sent_off (with_delivered (flow k.world side id) came_then) ≡ order.is_sent_off (flow (caught_up setup k (other side)) side id)
  sent_off opened =
      let off = open_apart k.world side id opened in
      same_off f (flow v side id) came_then (mine_read.same.flows id).sent (mine_read.same.flows id).reset
      (sym (message_came_is v side id off) ∙ mine_read.came id ∙ came_with (came_of k.world side) mine id ∙ ap (λ n. n + bytes_in id mine) (message_came_is k.world side id off))

  -- **So it is refused.**
  pub reset_judged : sender.reset_refusal (end_at ends side) id ≡ reset_refusal (caught_up setup k (other side)) side id
  reset_judged =
      ap (λ e. sender.reset_refusal e id) c.is
      ∙ ap by_stream (at_mapped mine b.outgoing id ∙ ap (option_map (further_taken mine id)) (stands.outgoing id))
      ∙ ap (λ t. closed_or b.closed (first_of ((t, refusal.Critical) ∷ rules (option_map (further_taken mine id) (if is_open k.world side id then Some (outgoing_of f) else None))))) (critical_agrees setup k.world side id b stands)
      ∙ ap (λ x. closed_or x (first_of ((is_critical id, refusal.Critical) ∷ rules (option_map (further_taken mine id) (if is_open k.world side id then Some (outgoing_of f) else None))))) stands.no_fault
      ∙ by_open (is_open k.world side id) refl
    where
      b : EndpointHistory
      b = end_at h.behind side

      c : Keeps setup k side (end_at h.behind side) (end_at ends side)
      c = keeps_at setup k ends side h

      stands : StandsAt setup k.world side (end_at h.behind side)
      stands = (both_of setup k.world side h.behind h.stands).here

      rules : Option Outgoing → List (Bool × Refusal)
      rules o = (not (is_some o), refusal.NotOpen) ∷ (is_sent_off (unwrap_or o nothing_sent), refusal.Ended) ∷ []

      by_stream : Option Outgoing → Option Refusal
      by_stream o = closed_or b.closed (first_of ((is_critical_id b id, refusal.Critical) ∷ rules o))

      by_open : (t : Bool) → is_open k.world side id ≡ t
          → first_of ((is_critical id, refusal.Critical) ∷ rules (option_map (further_taken mine id) (if t then Some (outgoing_of f) else None))) ≡ reset_refusal (caught_up setup k (other side)) side id
      by_open true e =
          ap (λ x. first_of ((is_critical id, refusal.Critical) ∷ (false, refusal.NotOpen) ∷ (x, refusal.Ended) ∷ [])) (sent_off_agrees (with_delivered f came_then) ∙ sent_off e)
          ∙ ap (λ x. first_of ((is_critical id, refusal.Critical) ∷ (not x, refusal.NotOpen) ∷ (order.is_sent_off (flow v side id), refusal.Ended) ∷ [])) (sym (mine_read.same.opens id ∙ e))
      by_open false e = ap (λ x. first_of ((is_critical id, refusal.Critical) ∷ (not x, refusal.NotOpen) ∷ (order.is_sent_off (flow v side id), refusal.Ended) ∷ [])) (sym (mine_read.same.opens id ∙ e))
