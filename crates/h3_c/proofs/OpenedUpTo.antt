-- Requests that are opened one after the other are so many events.
use Rattle.std.proofs.Common.{arith, ◌≡◌, ◌<◌, ◌≤◌, ◌+◌, ℕ, zero, suc, Bool, true, false, if◌then◌else◌, refl, sym, ap, subst, ◌∙◌, Option, Some, None}
use Rattle.std.specs.Prelude.{◌*◌, ◌^◌, ◌-◌, not, nat_le, nat_lt}
use Rattle.std.proofs.lemmas.Grind.{common_steps}
use Rattle.std.proofs.lemmas.Nat.{div-add-mod'}
use Rattle.h3_proto.specs.StreamIds.{is_request_stream}
use Rattle.h3_proto.specs.declared.stream.Side.{Side}
use Rattle.h3_proto.specs.declared.stream.Side.TheVariants.{Client, Server}
use Rattle.h3_connection.specs.Delivering.{opened_at}
use Rattle.h3_connection.specs.Endpoint.{EndpointHistory}
use Rattle.h3_connection.specs.Lasts.{last_id}
use Rattle.h3_connection.specs.Pulling.{is_client}
use Rattle.h3_connection.specs.Refusals.{going_away, or_later}
use Rattle.h3_connection.specs.Sending.{closed_or, does, open_refusal, open_request}
use Rattle.h3_connection.specs.declared.event.Refusal.{Refusal}
use Rattle.h3_connection.specs.declared.event.Refusal.TheVariants as refusal
use Rattle.h3_world.specs.Ends.{Ends, done, with_end}
use Rattle.h3_world.specs.declared.event.Answer.{Answer}
use Rattle.h3_world.specs.declared.event.Answer.TheVariants as answer
use Rattle.h3_world.specs.declared.event.Event.TheVariants as event
use Rattle.h3_memory.specs.Refused.{EndsRun, EndsStep}
use Rattle.h3_session.specs.OpeningAt.{id_refused, opened_more, opening_refusal, to_open}
use Rattle.h3_session.specs.Running.{answer_of}
use Rattle.h3_c.specs.Programs.{opened_answers, opened_events}
use Rattle.h3_c.proofs.Comings.{done_is}
use Rattle.h3_c.proofs.ViewsSteps.{AreOfC}

-- The first one of them is opened, and then the others.
opened_first : (count : ℕ) (e : EndpointHistory) → opened_more (suc count) e ≡ opened_more count (open_request e).1
opened_first zero e = refl
opened_first (suc count) e = ap (λ x. (open_request x).1) (opened_first count e)

-- One that is not refused is opened, and leaves what refuses the next one, but for the ids.
still_opens : (closed : Option ℕ) (is_server : Bool) (last : Option ℕ) (far : Bool)
    → closed_or closed (if is_server then Some refusal.NotClient else going_away last (if far then Some refusal.IdsUsedUp else None)) ≡ None
    → closed_or closed (if is_server then Some refusal.NotClient else going_away last None) ≡ None
still_opens (Some code) server last far is = absurd (cc)
still_opens None true last far is = absurd (cc)
still_opens None false (Some id) far is = absurd (cc)
still_opens None false None far is = refl

not_far : (next : ℕ) → next < 2 ^ 62 → nat_le (2 ^ 62) next ≡ false
not_far next h = grind (arith, common_steps, h)

-- the endpoint with one more
abbrev one_more : EndpointHistory → EndpointHistory
one_more e = record (opened_at e e.next_id None) { next_id = e.next_id + 4 }

opened_is : (e : EndpointHistory) → open_refusal e ≡ None → open_request e ≡ (None, one_more e)
opened_is e is = ap (λ r. does r e (one_more e)) is

opens_next : (e : EndpointHistory) → open_refusal e ≡ None → e.next_id + 4 < 2 ^ 62 → open_refusal (open_request e).1 ≡ None
opens_next e is few =
    let far = not_far (e.next_id + 4) few in
    let still = still_opens e.closed (not (is_client e.side)) (last_id e.peer.goaways) (nat_le (2 ^ 62) e.next_id) is in
    ap (λ x. open_refusal x.1) (opened_is e is)
    ∙ ap (λ b. closed_or e.closed (if not (is_client e.side) then Some refusal.NotClient else going_away (last_id e.peer.goaways) (if b then Some refusal.IdsUsedUp else None))) far ∙ still

next_is : (e : EndpointHistory) → open_refusal e ≡ None → (open_request e).1.next_id ≡ e.next_id + 4
next_is e is = ap (λ x. x.1.next_id) (opened_is e is)

opened_by : (side : Side) (ends : Ends) (e : EndpointHistory) → open_refusal e ≡ None → done (with_end ends side e) side (answer.Opened e.next_id) (open_request e) ≡ (answer.Opened e.next_id, with_end (with_end ends side e) side (open_request e).1)
opened_by side ends e is =
    done_is (with_end ends side e) side (answer.Opened e.next_id) (open_request e)
    ∙ ap (λ (r : Option Refusal × EndpointHistory). (answer_of (answer.Opened e.next_id) r.0, with_end (with_end ends side e) side (open_request e).1)) (opened_is e is)

step_opens : (side : Side) (ends : Ends) (e : EndpointHistory) → open_refusal e ≡ None → EndsStep (with_end ends side e) (event.OpenRequest side) (answer.Opened e.next_id) (with_end ends side (open_request e).1)
step_opens Client ends e is = let by = opened_by Client ends e is in (sym (ap (λ x. x.0) by), sym (ap (λ x. x.1) by))
step_opens Server ends e is = let by = opened_by Server ends e is in (sym (ap (λ x. x.0) by), sym (ap (λ x. x.1) by))

pub opens_run : (side : Side) (count : ℕ) (ends : Ends) (e : EndpointHistory) → (0 < count → open_refusal e ≡ None) → e.next_id + 4 * count < 2 ^ 62 + 4
    → EndsRun (with_end ends side e) (opened_events side count) (opened_answers e.next_id count) (with_end ends side (opened_more count e))
opens_run side zero ends e may few = refl
opens_run side (suc count) ends e may few =
    let is = may (omega arith) in
    let next = (open_request e).1 in
    let next_id_is = next_is e is in
    let rest = opens_run side count ends next (λ some. opens_next e is (omega (arith, some, few))) (omega (arith, few, next_id_is)) in (
      with_end ends side next,
      step_opens side ends e is,
      subst (λ f. EndsRun (with_end ends side next) (opened_events side count) (opened_answers (e.next_id + 4) count) (with_end ends side f)) (sym (opened_first count e))
          (subst (λ n. EndsRun (with_end ends side next) (opened_events side count) (opened_answers n count) (with_end ends side (opened_more count next))) next_id_is rest),
    )

pub are_opened : (side : Side) (count : ℕ) → AreOfC (opened_events side count)
are_opened side zero = tt
are_opened side (suc count) = (tt, are_opened side count)

-- what is not refused has an id that is not below the next one
later_none : (first later : Option Refusal) → or_later first later ≡ None → (first ≡ None) × (later ≡ None)
later_none None later is = (refl, is)
later_none (Some r) later is = absurd (cc)

id_at : (is_request is_below : Bool) → (if not is_request then Some refusal.NotRequestId else (if is_below then Some refusal.OutOfOrder else None)) ≡ None → is_below ≡ false
id_at false below is = absurd (cc)
id_at true true is = absurd (cc)
id_at true false is = refl

not_below : (id next : ℕ) → nat_lt id next ≡ false → next ≤ id
not_below id next h = grind (arith, common_steps, h)

pub opening_opens : (e : EndpointHistory) (id : ℕ) → opening_refusal e id ≡ None → (open_refusal e ≡ None) × (e.next_id ≤ id)
opening_opens e id is =
    let both = later_none (open_refusal e) (id_refused e.next_id id) is in
    (both.0, not_below id e.next_id (id_at (is_request_stream id) (nat_lt id e.next_id) both.1))

-- no id is too large
pub all_known : (next id count : ℕ) → next ≤ id → id < 2 ^ 62 → count ≤ to_open next id → next + 4 * count < 2 ^ 62 + 4
all_known next id count there known few = let split = div-add-mod' (id - next) 4 in omega (arith, there, known, few, split)
