-- Each event is answered alike by two endpoints of which nothing is known of what sends first.
use Rattle.std.proofs.Common.{◌≡◌, ℕ, Bool, true, false, if◌then◌else◌, length, take, refl, ap, ◌∙◌, Option, Some, None}
use Rattle.std.specs.Prelude.{◌==◌, ◌&&◌, not, nat_lt}
use Rattle.h3_proto.specs.declared.stream.Side.{Side}
use Rattle.h3_proto.specs.declared.stream.Side.TheVariants.{Client, Server}
use Rattle.h3_connection.specs.declared.arrival.Arrival.{Arrival}
use Rattle.h3_connection.specs.declared.arrival.Arrival.TheVariants.{BytesCame, EndCame, ResetCame}
use Rattle.h3_connection.specs.Endpoint.{EndpointHistory, bytes_waiting}
use Rattle.h3_connection.specs.Keeping.{arrives}
use Rattle.h3_connection.specs.OwnIds.{other}
use Rattle.h3_connection.specs.Sending.{advance}
use Rattle.h3_connection.specs.Shown.{has_outgoing, is_finished, is_reset, waiting}
use Rattle.h3_connection.specs.declared.event.Refusal.{Refusal}
use Rattle.h3_world.specs.Delivering.{reset_code}
use Rattle.h3_world.specs.Ends.{Ends, answered, delivery, done, end_at, end_delivery, reset_delivery, was_offered, with_end}
use Rattle.h3_world.specs.declared.event.Answer.{Answer}
use Rattle.h3_world.specs.declared.event.Answer.TheVariants as answer
use Rattle.h3_world.specs.declared.event.Event.{Event}
use Rattle.h3_world.specs.declared.event.Event.TheVariants as event
use Rattle.h3_c.proofs.Unordered.{advance_unordered, bytes_unordered, finished_unordered, has_unordered, keeps_plain, reset_unordered, unordered}
use Rattle.h3_c.proofs.Views.{plain}
use Rattle.h3_c.proofs.ViewsReading as reading
use Rattle.h3_c.proofs.ViewsSending as sending
use Rattle.h3_c.proofs.ViewsSteps.{IsOfC, KeepBoth, ResetsAlike, Views, answered_seen, both_seen, so_answered as so_answered_by}

abbrev pub both_plain : Views
both_plain = record { client = plain; server = plain }

pub keep_plain : KeepBoth both_plain
keep_plain = record { client = keeps_plain; server = keeps_plain }

abbrev pub both_unordered : Ends → Ends
both_unordered ends = both_seen both_plain ends

pub end_unordered : (ends : Ends) (side : Side) → end_at (both_unordered ends) side ≡ unordered (end_at ends side)
end_unordered ends Client = refl
end_unordered ends Server = refl

pub with_end_unordered : (ends : Ends) (side : Side) (e : EndpointHistory) → with_end (both_unordered ends) side (unordered e) ≡ both_unordered (with_end ends side e)
with_end_unordered ends Client e = refl
with_end_unordered ends Server e = refl

abbrev so_answered : Answer × Ends → Answer × Ends
so_answered x = so_answered_by both_plain x

abbrev so_done : Option Refusal × EndpointHistory → Option Refusal × EndpointHistory
so_done x = reading.so_done plain keeps_plain.new x

arrives_unordered : (e : EndpointHistory) (a : Arrival) → arrives (unordered e) a ≡ so_done (arrives e a)
arrives_unordered e a = reading.arrives_seen plain keeps_plain.new e a

done_mapped : (ends : Ends) (side : Side) (success : Answer) (x : Option Refusal × EndpointHistory) → done (both_unordered ends) side success (so_done x) ≡ so_answered (done ends side success x)
done_mapped ends side success (None, e) = ap (λ n. (success, n)) (with_end_unordered ends side e)
done_mapped ends side success (Some r, e) = ap (λ n. (answer.Refused r, n)) (with_end_unordered ends side e)

offered_mapped : (ends : Ends) (writer : Side) (id count : ℕ) (x : Option Refusal × EndpointHistory) → was_offered (both_unordered ends) writer id count (so_done x) ≡ so_answered (was_offered ends writer id count x)
offered_mapped ends writer id count (None, e) =
    ap (λ y. (answer.Delivered count, with_end (with_end (both_unordered ends) writer (advance y id count)) (other writer) (unordered e))) (end_unordered ends writer)
    ∙ ap (λ y. (answer.Delivered count, with_end (with_end (both_unordered ends) writer y) (other writer) (unordered e))) (advance_unordered (end_at ends writer) id count)
    ∙ ap (λ n. (answer.Delivered count, with_end n (other writer) (unordered e))) (with_end_unordered ends writer (advance (end_at ends writer) id count))
    ∙ ap (λ n. (answer.Delivered count, n)) (with_end_unordered (with_end ends writer (advance (end_at ends writer) id count)) (other writer) e)
offered_mapped ends writer id count (Some r, e) = ap (λ n. (answer.Refused r, n)) (with_end_unordered ends (other writer) e)

answered_if : (b : Bool) (one two : Answer × Ends) → (if b then so_answered one else so_answered two) ≡ so_answered (if b then one else two)
answered_if true one two = refl
answered_if false one two = refl

-- what comes at the other end
comes_unordered : (ends : Ends) (side : Side) (a : Arrival) → arrives (end_at (both_unordered ends) side) a ≡ so_done (arrives (end_at ends side) a)
comes_unordered ends side a = ap (λ e. arrives e a) (end_unordered ends side) ∙ arrives_unordered (end_at ends side) a

delivery_unordered : (ends : Ends) (writer : Side) (id count : ℕ) → delivery (both_unordered ends) writer id count ≡ so_answered (delivery ends writer id count)
delivery_unordered ends writer id count =
    let e = end_at ends writer in
    let front = take count (bytes_waiting e id) in
    let offered = was_offered ends writer id count (arrives (end_at ends (other writer)) (BytesCame id front)) in
    let waits = ap (λ l. length l) (bytes_unordered e id) in
    let comes : was_offered (both_unordered ends) writer id count (arrives (end_at (both_unordered ends) (other writer)) (BytesCame id front)) ≡ so_answered offered =
    ap (λ x. was_offered (both_unordered ends) writer id count x) (comes_unordered ends (other writer) (BytesCame id front)) ∙ offered_mapped ends writer id count (arrives (end_at ends (other writer)) (BytesCame id front)) in
    ap (λ x. if not (has_outgoing x id) then (answer.NoStream, both_unordered ends) else (
    if nat_lt (waiting x id) count then (answer.Short (waiting x id), both_unordered ends) else
    was_offered (both_unordered ends) writer id count (arrives (end_at (both_unordered ends) (other writer)) (BytesCame id (take count (bytes_waiting x id)))))) (end_unordered ends writer)
    ∙ ap (λ b. if not b then (answer.NoStream, both_unordered ends) else (
    if nat_lt (waiting (unordered e) id) count then (answer.Short (waiting (unordered e) id), both_unordered ends) else
    was_offered (both_unordered ends) writer id count (arrives (end_at (both_unordered ends) (other writer)) (BytesCame id (take count (bytes_waiting (unordered e) id)))))) (has_unordered e id)
    ∙ ap (λ l. if not (has_outgoing e id) then (answer.NoStream, both_unordered ends) else (
    if nat_lt (length l) count then (answer.Short (length l), both_unordered ends) else
    was_offered (both_unordered ends) writer id count (arrives (end_at (both_unordered ends) (other writer)) (BytesCame id (take count l))))) (bytes_unordered e id)
    ∙ ap (λ x. if not (has_outgoing e id) then (answer.NoStream, both_unordered ends) else (
    if nat_lt (waiting e id) count then (answer.Short (waiting e id), both_unordered ends) else x)) comes
    ∙ ap (λ x. if not (has_outgoing e id) then (answer.NoStream, both_unordered ends) else x) (answered_if (nat_lt (waiting e id) count) (answer.Short (waiting e id), ends) offered)
    ∙ answered_if (not (has_outgoing e id)) (answer.NoStream, ends) (if nat_lt (waiting e id) count then (answer.Short (waiting e id), ends) else offered)

-- an end or a reset
arrived : (ends : Ends) (writer : Side) (a : Arrival) → done (both_unordered ends) (other writer) answer.Done (arrives (end_at (both_unordered ends) (other writer)) a) ≡ so_answered (done ends (other writer) answer.Done (arrives (end_at ends (other writer)) a))
arrived ends writer a = ap (λ x. done (both_unordered ends) (other writer) answer.Done x) (comes_unordered ends (other writer) a) ∙ done_mapped ends (other writer) answer.Done (arrives (end_at ends (other writer)) a)

told_unordered : (ends : Ends) (writer : Side) (has may : Bool) (a : Arrival)
    → (if not has then (answer.NoStream, both_unordered ends) else (if not may then (answer.Early, both_unordered ends) else done (both_unordered ends) (other writer) answer.Done (arrives (end_at (both_unordered ends) (other writer)) a)))
    ≡ so_answered (if not has then (answer.NoStream, ends) else (if not may then (answer.Early, ends) else done ends (other writer) answer.Done (arrives (end_at ends (other writer)) a)))
told_unordered ends writer false may a = refl
told_unordered ends writer true false a = refl
told_unordered ends writer true true a = arrived ends writer a

end_delivery_unordered : (ends : Ends) (writer : Side) (id : ℕ) → end_delivery (both_unordered ends) writer id ≡ so_answered (end_delivery ends writer id)
end_delivery_unordered ends writer id =
    let e = end_at ends writer in
    let go = λ (has may : Bool). if not has then (answer.NoStream, both_unordered ends) else (if not may then (answer.Early, both_unordered ends) else done (both_unordered ends) (other writer) answer.Done (arrives (end_at (both_unordered ends) (other writer)) (EndCame id))) in
    ap (λ x. go (has_outgoing x id) (is_finished x id && (waiting x id == 0))) (end_unordered ends writer)
    ∙ ap (λ b. go b (is_finished (unordered e) id && (waiting (unordered e) id == 0))) (has_unordered e id)
    ∙ ap (λ b. go (has_outgoing e id) (b && (waiting (unordered e) id == 0))) (finished_unordered e id)
    ∙ ap (λ l. go (has_outgoing e id) (is_finished e id && (length l == 0))) (bytes_unordered e id)
    ∙ told_unordered ends writer (has_outgoing e id) (is_finished e id && (waiting e id == 0)) (EndCame id)

reset_delivery_unordered : (ends : Ends) (writer : Side) (id : ℕ) → reset_delivery (both_unordered ends) writer id ≡ so_answered (reset_delivery ends writer id)
reset_delivery_unordered ends writer id =
    let e = end_at ends writer in
    let go = λ (has may : Bool). if not has then (answer.NoStream, both_unordered ends) else (if not may then (answer.Early, both_unordered ends) else done (both_unordered ends) (other writer) answer.Done (arrives (end_at (both_unordered ends) (other writer)) (ResetCame id reset_code))) in
    ap (λ x. go (has_outgoing x id) (is_reset x id)) (end_unordered ends writer)
    ∙ ap (λ b. go b (is_reset (unordered e) id)) (has_unordered e id)
    ∙ ap (λ b. go (has_outgoing e id) b) (reset_unordered e id)
    ∙ told_unordered ends writer (has_outgoing e id) (is_reset e id) (ResetCame id reset_code)

resets_alike : (ends : Ends) (side : Side) (id : ℕ) → ResetsAlike (event.Reset side id) both_plain ends
resets_alike ends Client id = sending.sent_off_seen plain keeps_plain ends.client id refl
resets_alike ends Server id = sending.sent_off_seen plain keeps_plain ends.server id refl

-- **Each is answered alike.**
pub answered_unordered : (ends : Ends) (e : Event) → IsOfC e → answered (both_unordered ends) e ≡ so_answered (answered ends e)
answered_unordered ends (event.OpenRequest side) of = answered_seen both_plain keep_plain ends (event.OpenRequest side) of tt tt
answered_unordered ends (event.Head side id head) of = absurd of
answered_unordered ends (event.Fields side id fields) of = answered_seen both_plain keep_plain ends (event.Fields side id fields) of tt tt
answered_unordered ends (event.Body side id bytes) of = answered_seen both_plain keep_plain ends (event.Body side id bytes) of tt tt
answered_unordered ends (event.Trailer side id trailer) of = absurd of
answered_unordered ends (event.TrailerFields side id fields) of = answered_seen both_plain keep_plain ends (event.TrailerFields side id fields) of tt tt
answered_unordered ends (event.Finish side id) of = answered_seen both_plain keep_plain ends (event.Finish side id) of tt tt
answered_unordered ends (event.Reset side id) of = answered_seen both_plain keep_plain ends (event.Reset side id) of tt (resets_alike ends side id)
answered_unordered ends (event.Cancel side id) of = answered_seen both_plain keep_plain ends (event.Cancel side id) of tt tt
answered_unordered ends (event.Goaway side id) of = answered_seen both_plain keep_plain ends (event.Goaway side id) of tt tt
answered_unordered ends (event.Deliver side id count) of = delivery_unordered ends side id count
answered_unordered ends (event.DeliverEnd side id) of = end_delivery_unordered ends side id
answered_unordered ends (event.DeliverReset side id) of = reset_delivery_unordered ends side id
answered_unordered ends (event.Pull side id) of = absurd of
answered_unordered ends (event.PullFields side id) of = answered_seen both_plain keep_plain ends (event.PullFields side id) of tt tt
answered_unordered ends (event.Show side) of = absurd of
