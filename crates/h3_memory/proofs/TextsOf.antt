-- The text of a stream and how much of it came, by what kind of stream it is.
use Rattle.std.proofs.Common.{◌≡◌, ℕ, ◌||◌, ◌&&◌, Bool, true, false, not, refl, ap, arith, if◌then◌else◌, sym, ◌∙◌}
use Rattle.std.specs.Prelude.{◌==◌, [], drop}
use Rattle.h3_proto.specs.StreamIds.{is_request_stream}
use Rattle.h3_proto.specs.declared.stream.Side.{Side}
use Rattle.h3_proto.specs.declared.stream.Side.TheVariants.{Client, Server}
use Rattle.h3_connection.specs.OwnIds.{is_own, control_id, encoder_id, decoder_id}
use Rattle.h3_world.specs.Delivering.{is_closed}
use Rattle.h3_world.specs.Flow.{flow_bytes}
use Rattle.h3_world.specs.OwnStreams.{control_stream, encoder_stream, decoder_stream}
use Rattle.h3_world.specs.Pulling.{own_delivered}
use Rattle.h3_world.specs.Setup.{Setup, announced_at}
use Rattle.h3_world.specs.Streams.{flow, is_open}
use Rattle.h3_world.specs.World.{World, party}
use Rattle.h3_headline.specs.FlowLaws.{same_number}
use Rattle.h3_headline.specs.OwnEventLaws.{each_own, own_closed, without_updates}
use Rattle.h3_headline.specs.OwnStreams.{left_of}
use Rattle.h3_headline.specs.Standing.{WritesNoMore}
use Rattle.h3_headline.specs.WaitingLaws.{self}
use Rattle.h3_memory.specs.Keeping.{came_of, text_of}

pub neither_is : (a b : Bool) → (a || b) ≡ false → (a ≡ false) × (b ≡ false)
neither_is true b h = absurd (cc)
neither_is false b h = (refl, h)

pub second_is : (a b : Bool) → a ≡ false → (a || b) ≡ true → b ≡ true
second_is true b e h = absurd (cc)
second_is false b e h = h

pub by_truth : {X : Type 0} (b : Bool) → (b ≡ true → X) → (b ≡ false → X) → X
by_truth true holds fails = holds refl
by_truth false holds fails = fails refl

-- Of a stream that is none of the own ones.
pub message_text_is : (setup : Setup) (w : World) (writer : Side) (id : ℕ) → is_own writer id ≡ false → text_of setup w writer id ≡ flow_bytes (flow w writer id)
message_text_is setup w writer id off = by_tests (id == control_id writer) (id == encoder_id writer) (id == decoder_id writer) off
  where
    by_tests : (a b c : Bool) → (a || b || c) ≡ false
        → (if a then control_stream (announced_at setup writer) (party w writer) else (if b then encoder_stream (party w writer) else (if c then decoder_stream (party w writer) else flow_bytes (flow w writer id)))) ≡ flow_bytes (flow w writer id)
    by_tests true b c e = absurd (cc)
    by_tests false true c e = absurd (cc)
    by_tests false false true e = absurd (cc)
    by_tests false false false e = refl

pub message_came_is : (w : World) (writer : Side) (id : ℕ) → is_own writer id ≡ false → came_of w writer id ≡ (flow w writer id).delivered
message_came_is w writer id off = ap (λ b. if b then own_delivered w writer id else (flow w writer id).delivered) off

pub message_closed_is : (w : World) (writer : Side) (id : ℕ) → is_own writer id ≡ false → is_closed w writer id ≡ ((flow w writer id).ended || (flow w writer id).reset_came)
message_closed_is w writer id off = ap (λ b. not b && ((flow w writer id).ended || (flow w writer id).reset_came)) off

pub own_closed_never : (w : World) (writer : Side) (id : ℕ) → is_own writer id ≡ true → is_closed w writer id ≡ false
own_closed_never w writer id own = ap (λ b. not b && ((flow w writer id).ended || (flow w writer id).reset_came)) own

-- What waits of an own stream is what has not come of it.
pub own_left_is : (setup : Setup) (w : World) (writer : Side) (id : ℕ) → WritesNoMore (party w writer).own → is_own writer id ≡ true → left_of writer (party w writer).own (announced_at setup writer) id ≡ drop (came_of w writer id) (text_of setup w writer id)
own_left_is setup w Client id none own =
    without_updates Client (party w Client).own (announced_at setup Client) id none
    ∙ each_own (λ i. left_of Client (record (party w Client).own { updates = []; further = [] }) (announced_at setup Client) i ≡ drop (came_of w Client i) (text_of setup w Client i)) Client id own refl refl refl
own_left_is setup w Server id none own =
    without_updates Server (party w Server).own (announced_at setup Server) id none
    ∙ each_own (λ i. left_of Server (record (party w Server).own { updates = []; further = [] }) (announced_at setup Server) i ≡ drop (came_of w Server i) (text_of setup w Server i)) Server id own refl refl refl

-- an open stream is no own one
pub open_apart : (w : World) (writer : Side) (id : ℕ) → is_open w writer id ≡ true → is_own writer id ≡ false
open_apart w writer id opened = by_truth (is_own writer id) (λ own. absurd (clash (own_closed w writer id own) opened)) (λ off. off)
  where
    clash : is_open w writer id ≡ false → is_open w writer id ≡ true → ⊥
    clash a b = grind (arith, a, b)

-- nor is a request stream
pub request_apart : (side : Side) (id : ℕ) → is_request_stream id ≡ true → is_own side id ≡ false
request_apart side id request = by_truth (is_own side id) (λ own. absurd (clash (none_requested side own) request)) (λ off. off)
  where
    clash : is_request_stream id ≡ false → is_request_stream id ≡ true → ⊥
    clash a b = grind (arith, a, b)

    none_requested : (side : Side) → is_own side id ≡ true → is_request_stream id ≡ false
    none_requested Client own = each_own (λ i. is_request_stream i ≡ false) Client id own refl refl refl
    none_requested Server own = each_own (λ i. is_request_stream i ≡ false) Server id own refl refl refl

-- a test the other way round
pub flipped : (a b : ℕ) → (a == b) ≡ (b == a)
flipped a b = by_truth (a == b) (λ e. e ∙ sym (ap (λ n. n == a) (sym (same_number a b e)) ∙ self a)) (λ e. e ∙ sym (by_truth (b == a) (λ f. absurd (clash e (ap (λ n. n == b) (sym (same_number b a f)) ∙ self b))) (λ f. f)))
  where
    clash : {c : Bool} → c ≡ false → c ≡ true → ⊥
    clash e f = grind (arith, e, f)
