-- A delivery that its receiver would have taken: it can be read behind all that is kept.
use Rattle.std.proofs.Common.{◌≡◌, ℕ, ◌+◌, ◌-◌, ◌≤◌, Bool, true, false, not, ◌||◌, List, [], ◌∷◌, ◌++◌, length, refl, ap, ◌∙◌, arith, if◌then◌else◌}
use Rattle.std.specs.Prelude.{◌==◌, nat_lt}
use Rattle.std.proofs.lemmas.Grind.{common_steps}
use Rattle.h3_proto.specs.declared.stream.Side.{Side}
use Rattle.h3_connection.specs.OwnIds.{other, is_own, control_id, encoder_id, decoder_id}
use Rattle.h3_connection.specs.declared.event.Refusal.TheVariants as refusal
use Rattle.h3_world.specs.declared.event.Answer.{Answer}
use Rattle.h3_world.specs.declared.event.Answer.TheVariants as answer
use Rattle.h3_world.specs.Delivering.{delivery, end_delivery, reset_delivery, delivered, delivered_end, delivered_reset, is_closed, may_end}
use Rattle.h3_world.specs.Flow.{Flow, flow_bytes, bytes_waiting}
use Rattle.h3_world.specs.OwnStreams.{control_stream, encoder_stream, decoder_stream}
use Rattle.h3_world.specs.Setup.{Setup, announced_at}
use Rattle.h3_world.specs.Sound.{IsSoundWorld}
use Rattle.h3_world.specs.Streams.{flow, is_open, has_outgoing, waiting}
use Rattle.h3_world.specs.World.{World, party}
use Rattle.h3_headline.specs.ComingLaws.{sound_flow}
use Rattle.h3_headline.specs.FlowLaws.{open_there}
use Rattle.h3_headline.specs.WritingLaws.{sound_party}
use Rattle.h3_memory.specs.Kept.{Delivery, Bytes, End, Reset}
use Rattle.h3_memory.specs.Keeping.{MayAllBeRead, came_of, text_of}
use Rattle.h3_memory.proofs.OwnReads.{came_after, closed_after}
use Rattle.h3_memory.proofs.ReadAll.{came_behind, closed_behind}
use Rattle.h3_memory.proofs.ReadsLeave.{second_of}

abbrev answer_of : Answer × World → Answer
answer_of x = x.0

-- what each answer says
pub record GoesOver (setup : Setup) (w : World) (writer : Side) (id count : ℕ) : Type 0 where
  pub outgoing : has_outgoing w writer id ≡ true
  pub waits : nat_lt (waiting setup w writer id) count ≡ false
  pub goes_on : is_closed w writer id ≡ false

pub bytes_go_over : (setup : Setup) (w : World) (writer : Side) (id count : ℕ) → (delivery setup w writer id count).0 ≡ answer.Delivered count → GoesOver setup w writer id count
bytes_go_over setup w writer id count e = by_tests (has_outgoing w writer id) refl (nat_lt (waiting setup w writer id) count) refl (is_closed w writer id) refl e
  where
    by_tests : (a : Bool) → has_outgoing w writer id ≡ a → (b : Bool) → nat_lt (waiting setup w writer id) count ≡ b → (c : Bool) → is_closed w writer id ≡ c
        → answer_of (if not a then (answer.NoStream, w) else (if b then (answer.Short (waiting setup w writer id), w) else (if c then (answer.Refused refusal.AfterEnd, w) else (answer.Delivered count, delivered setup w writer id count)))) ≡ answer.Delivered count
        → GoesOver setup w writer id count
    by_tests false x b y c z k = absurd (cc)
    by_tests true x true y c z k = absurd (cc)
    by_tests true x false y true z k = absurd (cc)
    by_tests true x false y false z k = record { outgoing = x; waits = y; goes_on = z }

pub record EndGoesOver (setup : Setup) (w : World) (writer : Side) (id : ℕ) : Type 0 where
  pub outgoing : has_outgoing w writer id ≡ true
  pub ends : may_end setup w writer id ≡ true
  pub goes_on : is_closed w writer id ≡ false

pub end_goes_over : (setup : Setup) (w : World) (writer : Side) (id : ℕ) → (end_delivery setup w writer id).0 ≡ answer.Done → EndGoesOver setup w writer id
end_goes_over setup w writer id e = by_tests (has_outgoing w writer id) refl (may_end setup w writer id) refl (is_closed w writer id) refl e
  where
    by_tests : (a : Bool) → has_outgoing w writer id ≡ a → (b : Bool) → may_end setup w writer id ≡ b → (c : Bool) → is_closed w writer id ≡ c
        → answer_of (if not a then (answer.NoStream, w) else (if not b then (answer.Early, w) else (if c then (answer.Refused refusal.AfterEnd, w) else (answer.Done, delivered_end w writer id)))) ≡ answer.Done → EndGoesOver setup w writer id
    by_tests false x b y c z k = absurd (cc)
    by_tests true x false y c z k = absurd (cc)
    by_tests true x true y true z k = absurd (cc)
    by_tests true x true y false z k = record { outgoing = x; ends = y; goes_on = z }

pub record ResetGoesOver (w : World) (writer : Side) (id : ℕ) : Type 0 where
  pub outgoing : has_outgoing w writer id ≡ true
  pub off : is_own writer id ≡ false
  pub reset : (flow w writer id).is_reset ≡ true
  pub goes_on : is_closed w writer id ≡ false

pub reset_goes_over : (w : World) (writer : Side) (id : ℕ) → (reset_delivery w writer id).0 ≡ answer.Done → ResetGoesOver w writer id
reset_goes_over w writer id e = by_tests (has_outgoing w writer id) refl (is_own writer id) refl (flow w writer id).is_reset refl (is_closed w writer id) refl e
  where
    by_tests : (a : Bool) → has_outgoing w writer id ≡ a → (o : Bool) → is_own writer id ≡ o → (b : Bool) → (flow w writer id).is_reset ≡ b → (c : Bool) → is_closed w writer id ≡ c
        → answer_of (if not a then (answer.NoStream, w) else (if o || not b then (answer.Early, w) else (if c then (answer.Refused refusal.AfterEnd, w) else (answer.Done, delivered_reset w writer id)))) ≡ answer.Done → ResetGoesOver w writer id
    by_tests false x o t b y c z k = absurd (cc)
    by_tests true x true t b y c z k = absurd (cc)
    by_tests true x false t false y c z k = absurd (cc)
    by_tests true x false t true y true z k = absurd (cc)
    by_tests true x false t true y false z k = record { outgoing = x; off = t; reset = y; goes_on = z }

-- No stream counts more as delivered than it has.
pub message_within : (setup : Setup) (w : World) (writer : Side) (id : ℕ) → IsSoundWorld setup w → has_outgoing w writer id ≡ true → is_own writer id ≡ false → (flow w writer id).delivered ≤ length (flow_bytes (flow w writer id))
message_within setup w writer id h there off = (sound_flow setup w writer id h (open_there w writer id (second_of (is_own writer id) (is_open w writer id) off there))).delivered

not_short : (n m : ℕ) → nat_lt n m ≡ false → m ≤ n
not_short n m h = grind (arith, common_steps, h)

-- **So many bytes are there.**
pub bytes_there : (setup : Setup) (w : World) (writer : Side) (id count : ℕ) → IsSoundWorld setup w → has_outgoing w writer id ≡ true → nat_lt (waiting setup w writer id) count ≡ false
    → came_of w writer id + count ≤ length (text_of setup w writer id)
bytes_there setup w writer id count h there enough = by_tests (id == control_id writer) refl (id == encoder_id writer) refl (id == decoder_id writer) refl (not_short (waiting setup w writer id) count enough)
  where
    o : Rattle.h3_connection.specs.Endpoint.Own
    o = (party w writer).own

    f : Flow
    f = flow w writer id

    writes : Rattle.h3_world.specs.Sound.IsSoundWriter setup writer (party w writer) (Rattle.h3_world.specs.Came.settings_came setup w (other writer))
    writes = (sound_party setup w writer h).writer

    by_tests : (a : Bool) → (id == control_id writer) ≡ a → (b : Bool) → (id == encoder_id writer) ≡ b → (c : Bool) → (id == decoder_id writer) ≡ c
        → count ≤ (if a then length (control_stream (announced_at setup writer) (party w writer)) - o.control_taken else (
        if b then length (encoder_stream (party w writer)) - o.encoder_taken else (if c then length (decoder_stream (party w writer)) - o.decoder_taken else bytes_waiting f)))
        → (if (a || b || c) then (if a then o.control_taken else (if b then o.encoder_taken else (if c then o.decoder_taken else 0))) else f.delivered) + count
        ≤ length (if a then control_stream (announced_at setup writer) (party w writer) else (if b then encoder_stream (party w writer) else (if c then decoder_stream (party w writer) else flow_bytes f)))
    by_tests true x b y c z k = omega (arith, k, writes.control)
    by_tests false x true y c z k = omega (arith, k, writes.encoder)
    by_tests false x false y true z k = omega (arith, k, writes.decoder)
    by_tests false x false y false z k =
        let off : is_own writer id ≡ false = ap (λ b. b || (id == encoder_id writer) || (id == decoder_id writer)) x ∙ ap (λ b. b || (id == decoder_id writer)) y ∙ z in
        by_reset f.is_reset (message_within setup w writer id h there off) k
      where
        by_reset : (r : Bool) → f.delivered ≤ length (flow_bytes f) → count ≤ (if r then 0 else length (flow_bytes f) - f.delivered) → f.delivered + count ≤ length (flow_bytes f)
        by_reset true within k = omega (arith, within, k)
        by_reset false within k = omega (arith, within, k)

-- One more is kept behind the rest.
pub may_append : (setup : Setup) (w : World) (writer : Side) (came : ℕ → ℕ) (closed : ℕ → Bool) (ds : List Delivery) (d : Delivery) → MayAllBeRead setup w writer came closed ds
    → MayAllBeRead setup w writer (came_behind came ds) (closed_behind closed ds) (d ∷ []) → MayAllBeRead setup w writer came closed (ds ++ d ∷ [])
may_append setup w writer came closed [] d may last = last
may_append setup w writer came closed (Bytes id count ∷ ds) d may last = (may.0, may.1, may.2, may_append setup w writer (came_after came (Bytes id count)) closed ds d may.3 last)
may_append setup w writer came closed (End id ∷ ds) d may last = (may.0, may.1, may.2, may.3, may_append setup w writer came (closed_after closed (End id)) ds d may.4 last)
may_append setup w writer came closed (Reset id ∷ ds) d may last = (may.0, may.1, may.2, may_append setup w writer came (closed_after closed (Reset id)) ds d may.3 last)

-- what was closed stays closed
pub closed_before : (closed : ℕ → Bool) (ds : List Delivery) (i : ℕ) → closed_behind closed ds i ≡ false → closed i ≡ false
closed_before closed [] i e = e
closed_before closed (Bytes id count ∷ ds) i e = closed_before closed ds i e
closed_before closed (End id ∷ ds) i e = by_test (i == id) (closed_before (closed_after closed (End id)) ds i e)
  where
    by_test : (b : Bool) → (if b then true else closed i) ≡ false → closed i ≡ false
    by_test true k = absurd (cc)
    by_test false k = k
closed_before closed (Reset id ∷ ds) i e = by_test (i == id) (closed_before (closed_after closed (Reset id)) ds i e)
  where
    by_test : (b : Bool) → (if b then true else closed i) ≡ false → closed i ≡ false
    by_test true k = absurd (cc)
    by_test false k = k

-- and what came has come
pub came_before : (came : ℕ → ℕ) (ds : List Delivery) (i : ℕ) → came i ≤ came_behind came ds i
came_before came [] i = omega arith
came_before came (Bytes id count ∷ ds) i = by_test (i == id) (came_before (came_after came (Bytes id count)) ds i)
  where
    by_test : (b : Bool) → (if b then came i + count else came i) ≤ came_behind (came_after came (Bytes id count)) ds i → came i ≤ came_behind (came_after came (Bytes id count)) ds i
    by_test true k = omega (arith, k)
    by_test false k = k
came_before came (End id ∷ ds) i = came_before came ds i
came_before came (Reset id ∷ ds) i = came_before came ds i
