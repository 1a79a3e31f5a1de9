-- A world stays sound where what is kept is read.
use Rattle.std.proofs.Common.{◌≡◌, ℕ, ◌+◌, ◌-◌, ◌≤◌, ◌&&◌, ◌||◌, Bool, true, false, not, List, ◌∷◌, length, refl, sym, ap, ◌∙◌, subst, arith, if◌then◌else◌}
use Rattle.std.specs.Prelude.{◌==◌, nat_lt}
use Rattle.std.proofs.lemmas.Grind.{common_steps}
use Rattle.h3_proto.specs.declared.stream.Side.{Side}
use Rattle.h3_connection.specs.Endpoint.{Own}
use Rattle.h3_connection.specs.OwnIds.{is_own, control_id, encoder_id, decoder_id}
use Rattle.h3_connection.specs.declared.event.Refusal.TheVariants as refusal
use Rattle.h3_world.specs.declared.event.Answer.{Answer}
use Rattle.h3_world.specs.declared.event.Answer.TheVariants as answer
use Rattle.h3_world.specs.declared.event.Event.TheVariants as event
use Rattle.h3_world.specs.Delivering.{delivery, end_delivery, reset_delivery, delivered, delivered_own, delivered_message, delivered_end, delivered_reset, is_closed, may_end}
use Rattle.h3_world.specs.Flow.{Flow, flow_bytes, bytes_waiting}
use Rattle.h3_world.specs.Order.{is_end, is_finished, last_part}
use Rattle.h3_world.specs.OwnStreams.{control_stream, encoder_stream, decoder_stream}
use Rattle.h3_world.specs.Pulling.{own_delivered}
use Rattle.h3_world.specs.Setup.{Setup, announced_at}
use Rattle.h3_world.specs.Sound.{IsSoundWorld}
use Rattle.h3_world.specs.Streams.{flow, is_open, has_outgoing, waiting}
use Rattle.h3_world.specs.World.{World, party}
use Rattle.h3_headline.specs.DeliverLaws.{waiting_is}
use Rattle.h3_memory.specs.Kept.{Delivery, Bytes, End, Reset, read_delivery}
use Rattle.h3_memory.specs.Keeping.{MayAllBeRead, came_of, text_of}
use Rattle.h3_memory.proofs.KeptLaws.{KeptLaws}
use Rattle.h3_memory.proofs.ReadsLeave.{open_apart, second_of}
use Rattle.h3_memory.proofs.Written.{message_text}

neither : (a b : Bool) → (a || b) ≡ false → (a ≡ false) × (b ≡ false)
neither true b h = absurd (cc)
neither false b h = (refl, h)

-- an own stream has so many bytes left
own_fits : (setup : Setup) (w : World) (writer : Side) (id count : ℕ) → is_own writer id ≡ true → came_of w writer id + count ≤ length (text_of setup w writer id) → count ≤ waiting setup w writer id
own_fits setup w writer id count own fits =
    by_tests (id == control_id writer) (id == encoder_id writer) (id == decoder_id writer) own
    (subst (λ n. n + count ≤ length (text_of setup w writer id)) (ap (λ b. if b then own_delivered w writer id else (flow w writer id).delivered) own) fits)
  where
    o : Own
    o = (party w writer).own

    by_tests : (a b c : Bool) → (a || b || c) ≡ true
        → (if a then o.control_taken else (if b then o.encoder_taken else (if c then o.decoder_taken else 0))) + count
        ≤ length (if a then control_stream (announced_at setup writer) (party w writer) else (if b then encoder_stream (party w writer) else (if c then decoder_stream (party w writer) else flow_bytes (flow w writer id))))
        → count ≤ (if a then length (control_stream (announced_at setup writer) (party w writer)) - o.control_taken else (
        if b then length (encoder_stream (party w writer)) - o.encoder_taken else (if c then length (decoder_stream (party w writer)) - o.decoder_taken else bytes_waiting (flow w writer id))))
    by_tests true b c e h = omega (arith, h)
    by_tests false true c e h = omega (arith, h)
    by_tests false false true e h = omega (arith, h)
    by_tests false false false e h = absurd (cc)

pub message_came : (w : World) (writer : Side) (id : ℕ) → is_own writer id ≡ false → came_of w writer id ≡ (flow w writer id).delivered
message_came w writer id off = ap (λ b. if b then own_delivered w writer id else (flow w writer id).delivered) off

not_short : (n m : ℕ) → m ≤ n → nat_lt n m ≡ false
not_short n m h = grind (arith, common_steps, h)

-- what is taken
bytes_taken : (setup : Setup) (w : World) (writer : Side) (id count : ℕ) → has_outgoing w writer id ≡ true → nat_lt (waiting setup w writer id) count ≡ false → is_closed w writer id ≡ false
    → ◌≡◌ {A = Answer × World} (answer.Delivered count, delivered setup w writer id count) (delivery setup w writer id count)
bytes_taken setup w writer id count there enough goes =
    sym (ap (λ a. if not a then (answer.NoStream, w) else (if nat_lt (waiting setup w writer id) count then (answer.Short (waiting setup w writer id), w) else (if is_closed w writer id then (answer.Refused refusal.AfterEnd, w) else (answer.Delivered count, delivered setup w writer id count)))) there
    ∙ ap (λ b. if b then (answer.Short (waiting setup w writer id), w) else (if is_closed w writer id then (answer.Refused refusal.AfterEnd, w) else (answer.Delivered count, delivered setup w writer id count))) enough
    ∙ ap (λ c. if c then (answer.Refused refusal.AfterEnd, w) else (answer.Delivered count, delivered setup w writer id count)) goes)

end_taken : (setup : Setup) (w : World) (writer : Side) (id : ℕ) → has_outgoing w writer id ≡ true → may_end setup w writer id ≡ true → is_closed w writer id ≡ false
    → ◌≡◌ {A = Answer × World} (answer.Done, delivered_end w writer id) (end_delivery setup w writer id)
end_taken setup w writer id there ends goes =
    sym (ap (λ a. if not a then (answer.NoStream, w) else (if not (may_end setup w writer id) then (answer.Early, w) else (if is_closed w writer id then (answer.Refused refusal.AfterEnd, w) else (answer.Done, delivered_end w writer id)))) there
    ∙ ap (λ b. if not b then (answer.Early, w) else (if is_closed w writer id then (answer.Refused refusal.AfterEnd, w) else (answer.Done, delivered_end w writer id))) ends
    ∙ ap (λ c. if c then (answer.Refused refusal.AfterEnd, w) else (answer.Done, delivered_end w writer id)) goes)

reset_taken : (w : World) (writer : Side) (id : ℕ) → has_outgoing w writer id ≡ true → is_own writer id ≡ false → (flow w writer id).is_reset ≡ true → is_closed w writer id ≡ false
    → ◌≡◌ {A = Answer × World} (answer.Done, delivered_reset w writer id) (reset_delivery w writer id)
reset_taken w writer id there off reset goes =
    sym (ap (λ a. if not a then (answer.NoStream, w) else (if is_own writer id || not (flow w writer id).is_reset then (answer.Early, w) else (if is_closed w writer id then (answer.Refused refusal.AfterEnd, w) else (answer.Done, delivered_reset w writer id)))) there
    ∙ ap (λ o. if o || not (flow w writer id).is_reset then (answer.Early, w) else (if is_closed w writer id then (answer.Refused refusal.AfterEnd, w) else (answer.Done, delivered_reset w writer id))) off
    ∙ ap (λ b. if not b then (answer.Early, w) else (if is_closed w writer id then (answer.Refused refusal.AfterEnd, w) else (answer.Done, delivered_reset w writer id))) reset
    ∙ ap (λ c. if c then (answer.Refused refusal.AfterEnd, w) else (answer.Done, delivered_reset w writer id)) goes)

bytes_sound : (q : KeptLaws) (setup : Setup) (w : World) (writer : Side) (id count : ℕ) → IsSoundWorld setup w → has_outgoing w writer id ≡ true → is_closed w writer id ≡ false
    → came_of w writer id + count ≤ length (text_of setup w writer id) → IsSoundWorld setup (delivered setup w writer id count)
bytes_sound q setup w writer id count h there goes fits = by_own (is_own writer id) refl
  where
    by_own : (b : Bool) → is_own writer id ≡ b → IsSoundWorld setup (delivered setup w writer id count)
    by_own true own =
        (q.worlds.both setup w (delivered setup w writer id count) (event.Deliver writer id count) (answer.Delivered count) tt
        (bytes_taken setup w writer id count there (not_short (waiting setup w writer id) count (own_fits setup w writer id count own fits)) goes) tt h).1
    by_own false off =
        subst (λ b. IsSoundWorld setup (if b then delivered_own setup w writer id count else delivered_message w writer id count)) (sym off)
        (q.bytes setup w writer id count h (second_of (is_own writer id) (is_open w writer id) off there)
        (subst (λ n. n + count ≤ length (flow_bytes (flow w writer id))) (message_came w writer id off) (subst (λ l. came_of w writer id + count ≤ length l) (message_text setup w writer id off) fits))
        (neither (flow w writer id).ended (flow w writer id).reset_came (ap (λ b. not b && ((flow w writer id).ended || (flow w writer id).reset_came)) (sym off) ∙ goes)).0)

pub finished_goes : (f : Flow) → is_finished f ≡ true → f.is_reset ≡ false
finished_goes f e = by_test f.is_reset (is_end (last_part f.sent)) e
  where
    by_test : (r b : Bool) → (not r && b) ≡ true → r ≡ false
    by_test true b k = absurd (cc)
    by_test false b k = refl

-- all of it was handed over
ends_there : (setup : Setup) (w : World) (writer : Side) (id : ℕ) → is_own writer id ≡ false → is_finished (flow w writer id) ≡ true → came_of w writer id ≡ length (text_of setup w writer id) → may_end setup w writer id ≡ true
ends_there setup w writer id off finished whole =
    let f = flow w writer id in
    let size : f.delivered ≡ length (flow_bytes f) = sym (message_came w writer id off) ∙ whole ∙ ap length (message_text setup w writer id off) in
    let none : length (flow_bytes f) - f.delivered ≡ 0 = omega (arith, size) in
    let waits : waiting setup w writer id ≡ 0 = waiting_is setup w writer id off ∙ ap (λ r. if r then 0 else length (flow_bytes f) - f.delivered) (finished_goes f finished) ∙ none in
    ap (λ o. not o && is_finished f && (waiting setup w writer id == 0)) off ∙ ap (λ b. b && (waiting setup w writer id == 0)) finished ∙ ap (λ n. n == 0) waits

pub open_outgoing : (w : World) (writer : Side) (id : ℕ) → is_open w writer id ≡ true → has_outgoing w writer id ≡ true
open_outgoing w writer id opened = by_own (is_own writer id)
  where
    by_own : (b : Bool) → (b || is_open w writer id) ≡ true
    by_own true = refl
    by_own false = opened

-- **What is kept is read, and the world stays sound.**
pub read_sound : (q : KeptLaws) (setup : Setup) (w : World) (writer : Side) (d : Delivery) (ds : List Delivery) → IsSoundWorld setup w → MayAllBeRead setup w writer (came_of w writer) (is_closed w writer) (d ∷ ds)
    → IsSoundWorld setup (read_delivery setup w writer d)
read_sound q setup w writer (Bytes id count) ds h may = bytes_sound q setup w writer id count h may.0 may.1 may.2
read_sound q setup w writer (End id) ds h may =
    (q.worlds.both setup w (delivered_end w writer id) (event.DeliverEnd writer id) answer.Done tt
    (end_taken setup w writer id (open_outgoing w writer id may.0) (ends_there setup w writer id (open_apart w writer id may.0) may.2 may.3) may.1) tt h).1
read_sound q setup w writer (Reset id) ds h may =
    (q.worlds.both setup w (delivered_reset w writer id) (event.DeliverReset writer id) answer.Done tt
    (reset_taken w writer id (open_outgoing w writer id may.0) (open_apart w writer id may.0) may.2 may.1) tt h).1
