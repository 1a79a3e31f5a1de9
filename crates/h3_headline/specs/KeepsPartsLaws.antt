-- Events that change no message: no part is sent, and none is handed out.
use Rattle.std.proofs.Common.{◌≡◌, ℕ, true, sym, ap, arith, refl, ◌∙◌, subst, Bool, false, [], ◌∷◌, ◌++◌, ◌+◌, Some, not}
use Rattle.std.specs.Prelude.{if◌then◌else◌, ◌||◌, nat_lt, ◌&&◌, ◌==◌, is_some}
use Rattle.h3_proto.specs.declared.stream.Side.{Side}
use Rattle.h3_proto.specs.declared.stream.Side.TheVariants.{Client, Server}
use Rattle.h3_world.specs.Flow.{Flow}
use Rattle.h3_world.specs.Streams.{flow, with_flow, exchange, is_open, has_outgoing, waiting}
use Rattle.h3_world.specs.World.{World, Party, with_party, party}
use Rattle.h3_proto.specs.StreamIds.{index_of}
use Rattle.h3_field.specs.Instruction.DecoderInstruction.{CancelStream}
use Rattle.h3_connection.specs.OwnIds.{other, is_own}
use Rattle.h3_connection.specs.declared.event.StreamFault.{StreamFault}
use Rattle.h3_world.specs.Sending.{given_up}
use Rattle.std.proofs.lemmas.Grind.{common_steps}
use Rattle.h3_world.specs.Setup.{Setup}
use Rattle.h3_world.specs.Delivering.{delivered_own, further, having_listened, delivered_message, delivery, is_closed, may_end, delivered_end, end_delivery, delivered_reset, reset_delivery, reset_code}
use Rattle.h3_connection.specs.declared.event.Refusal.TheVariants as refusal
use Rattle.h3_world.specs.declared.event.Answer.TheVariants as answer
use Rattle.h3_world.specs.Order.{is_finished}
use Rattle.h3_connection.specs.declared.event.StreamFault.TheVariants as stream_fault
use Rattle.h3_headline.specs.Contents.{HasSameParts, KeepsAfter, KeepsParts}
use Rattle.h3_headline.specs.FlowLaws.{and_first, flow-with_flow, flow-with_other, flow-with_party, open_there, same_number, set_length, there-with_party}
use Rattle.h3_headline.specs.Messages.{is_on}
use Rattle.h3_headline.specs.Steps.{IsThere}

-- the flow that changes, and all others
pub flow_at : (w : World) (s writer : Side) (i id : ℕ) (f : Flow) → IsThere w i → flow (with_flow w s i f) writer id ≡ (if is_on writer id s i then f else flow w writer id)
flow_at w Client Client i id f there = flow-with_flow w Client i id f there
flow_at w Server Server i id f there = flow-with_flow w Server i id f there
flow_at w Client Server i id f there = flow-with_other w Client i id f there
flow_at w Server Client i id f there = flow-with_other w Server i id f there

pub same_flow : (w : World) (s writer : Side) (i id : ℕ) → is_on writer id s i ≡ true → flow w writer id ≡ flow w s i
same_flow w Client Client i id e = ap (λ j. flow w Client j) (sym (same_number i id e))
same_flow w Server Server i id e = ap (λ j. flow w Server j) (sym (same_number i id e))
same_flow w Client Server i id e = cc
same_flow w Server Client i id e = cc

pub there_with_flow : (w : World) (s : Side) (i : ℕ) (f : Flow) → IsThere w i → IsThere (with_flow w s i f) i
there_with_flow w Client i f h = record { request = h.request; place = omega (arith, h.place, set_length w.exchanges (index_of i) (record (exchange w i) { request = f })) }
there_with_flow w Server i f h = record { request = h.request; place = omega (arith, h.place, set_length w.exchanges (index_of i) (record (exchange w i) { response = f })) }

pub keeps_same : (w : World) → KeepsParts w w
keeps_same w writer id = record { sent = refl; parts_out = refl; body_out = refl }

keeps_then : (w mid new : World) → KeepsParts w mid → KeepsParts mid new → KeepsParts w new
keeps_then w mid new first later writer id =
    let a = first writer id in
    let b = later writer id in
    record { sent = b.sent ∙ a.sent; parts_out = b.parts_out ∙ a.parts_out; body_out = b.body_out ∙ a.body_out }

pub keeps_flows : (w new : World) → ((writer : Side) (id : ℕ) → flow new writer id ≡ flow w writer id) → KeepsParts w new
keeps_flows w new same writer id = subst (HasSameParts (flow w writer id)) (sym (same writer id)) (keeps_same w writer id)

pub keeps_with_party : (w : World) (s : Side) (p : Party) → KeepsParts w (with_party w s p)
keeps_with_party w s p = keeps_flows w (with_party w s p) (λ writer id. flow-with_party w s writer p id)

pub keeps_with_flow : (w : World) (s : Side) (i : ℕ) (g : Flow) → IsThere w i → HasSameParts (flow w s i) g → KeepsParts w (with_flow w s i g)
keeps_with_flow w s i g there same writer id = subst (HasSameParts (flow w writer id)) (sym (flow_at w s writer i id g there)) (by_on (is_on writer id s i) refl)
  where
    by_on : (b : Bool) → is_on writer id s i ≡ b → HasSameParts (flow w writer id) (if b then g else flow w writer id)
    by_on true e = subst (λ f. HasSameParts f g) (sym (same_flow w s writer i id e)) same
    by_on false e = keeps_same w writer id

pub keeps_given_up : (w : World) (receiver : Side) (i : ℕ) (fault : StreamFault) → IsThere w i → KeepsParts w (given_up w receiver i fault)
keeps_given_up w receiver i fault there =
    let q : Party = record (party w receiver) { own = record (party w receiver).own { replies = (party w receiver).own.replies ++ CancelStream i ∷ [] } } in
    let g : Flow = record (flow w (other receiver) i) { fault = Some fault; waits_for = 0 } in
    let v = with_party w receiver q in
    keeps_then w v (with_flow v (other receiver) i g) (keeps_with_party w receiver q)
    (keeps_with_flow v (other receiver) i g (there-with_party w receiver q i there)
    (subst (λ f. HasSameParts f g) (sym (flow-with_party w receiver (other receiver) q i)) (record { sent = refl; parts_out = refl; body_out = refl })))

differ : true ≡ false → ⊥
differ h = grind (arith, common_steps, h)

true_then : (b c : Bool) → (b || c) ≡ true → b ≡ false → c ≡ true
true_then true c e f = absurd (differ f)
true_then false c e f = e

pub neither : (b c : Bool) → (b || c) ≡ false → b ≡ false
neither true c e = absurd (differ e)
neither false c e = refl

pub not_is : (b : Bool) → not b ≡ true → b ≡ false
not_is true e = absurd (differ (sym e))
not_is false e = refl

pub request_there : (w : World) (s : Side) (i : ℕ) → has_outgoing w s i ≡ true → is_own s i ≡ false → IsThere w i
request_there w s i there request = open_there w s i (true_then (is_own s i) (is_open w s i) there request)

keeps_own : (setup : Setup) (w : World) (s : Side) (i count : ℕ) → KeepsParts w (delivered_own setup w s i count)
keeps_own setup w s i count =
    let v = with_party w s (further (party w s) s i count) in
    keeps_then w v (delivered_own setup w s i count) (keeps_with_party w s (further (party w s) s i count)) (keeps_with_party v (other s) (having_listened setup w v s))

pub keeps_delivery : (setup : Setup) (w : World) (s : Side) (i count : ℕ) → KeepsParts w (delivery setup w s i count).1
keeps_delivery setup w s i count = by_tests (has_outgoing w s i) (nat_lt (waiting setup w s i) count) (is_closed w s i) (is_own s i) refl refl
  where
    by_tests : (there short closed own : Bool) → has_outgoing w s i ≡ there → is_own s i ≡ own
        → KeepsAfter w (if not there then (answer.NoStream, w) else (if short then (answer.Short (waiting setup w s i), w) else (if closed then (answer.Refused refusal.AfterEnd, w) else
        (answer.Delivered count, if own then delivered_own setup w s i count else delivered_message w s i count))))
    by_tests false short closed own t o = keeps_same w
    by_tests true true closed own t o = keeps_same w
    by_tests true false true own t o = keeps_same w
    by_tests true false false true t o = keeps_own setup w s i count
    by_tests true false false false t o =
        keeps_with_flow w s i (record (flow w s i) { delivered = (flow w s i).delivered + count; seen = true }) (request_there w s i t o) (record { sent = refl; parts_out = refl; body_out = refl })

pub keeps_end : (setup : Setup) (w : World) (s : Side) (i : ℕ) → KeepsParts w (end_delivery setup w s i).1
keeps_end setup w s i = by_tests (has_outgoing w s i) (may_end setup w s i) (is_closed w s i) refl refl
  where
    request : may_end setup w s i ≡ true → is_own s i ≡ false
    request e = not_is (is_own s i) (and_first (not (is_own s i)) (is_finished (flow w s i)) (and_first (not (is_own s i) && is_finished (flow w s i)) (waiting setup w s i == 0) e))

    by_tests : (there may closed : Bool) → has_outgoing w s i ≡ there → may_end setup w s i ≡ may
        → KeepsAfter w (if not there then (answer.NoStream, w) else (if not may then (answer.Early, w) else (if closed then (answer.Refused refusal.AfterEnd, w) else (answer.Done, delivered_end w s i))))
    by_tests false may closed t m = keeps_same w
    by_tests true false closed t m = keeps_same w
    by_tests true true true t m = keeps_same w
    by_tests true true false t m = keeps_with_flow w s i (record (flow w s i) { seen = true; ended = true }) (request_there w s i t (request m)) (record { sent = refl; parts_out = refl; body_out = refl })

pub keeps_reset : (w : World) (s : Side) (i : ℕ) → KeepsParts w (reset_delivery w s i).1
keeps_reset w s i = by_tests (has_outgoing w s i) (is_own s i || not (flow w s i).is_reset) (is_closed w s i) refl refl
  where
    marked : Flow
    marked = record (flow w s i) { seen = true; reset_came = true }

    lost : (there : IsThere w i) (b : Bool) → KeepsParts w (if b then with_flow w s i marked else given_up (with_flow w s i marked) (other s) i (stream_fault.Reset reset_code))
    lost there true = keeps_with_flow w s i marked there (record { sent = refl; parts_out = refl; body_out = refl })
    lost there false =
        keeps_then w (with_flow w s i marked) (given_up (with_flow w s i marked) (other s) i (stream_fault.Reset reset_code))
        (keeps_with_flow w s i marked there (record { sent = refl; parts_out = refl; body_out = refl }))
        (keeps_given_up (with_flow w s i marked) (other s) i (stream_fault.Reset reset_code) (there_with_flow w s i marked there))

    by_tests : (there early closed : Bool) → has_outgoing w s i ≡ there → (is_own s i || not (flow w s i).is_reset) ≡ early
        → KeepsAfter w (if not there then (answer.NoStream, w) else (if early then (answer.Early, w) else (if closed then (answer.Refused refusal.AfterEnd, w) else (answer.Done, delivered_reset w s i))))
    by_tests false early closed t r = keeps_same w
    by_tests true true closed t r = keeps_same w
    by_tests true false true t r = keeps_same w
    by_tests true false false t r = lost (request_there w s i t (neither (is_own s i) (not (flow w s i).is_reset) r)) (is_some (flow w s i).fault)
