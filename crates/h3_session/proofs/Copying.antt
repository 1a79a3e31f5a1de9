-- A copy of what waits is that of every history.
use Rattle.std.proofs.Common.{arith, ◌≡◌, ◌≤◌, ℕ, ◌+◌, ◌-◌, Bool, false, List, ◌++◌, take, drop, length, Some, None, inl, inr, ap, sym, subst, ◌∙◌}
use Rattle.std.specs.Prelude.{◌==◌, ◌&&◌, option_map, unwrap_or}
use Rattle.std.proofs.lemmas.Bool.{cases_eq, eq-eqb, ne_eqb}
use Rattle.h3_connection.specs.Endpoint.{bytes_waiting}
use Rattle.h3_connection.specs.Shown.{is_finished}
use Rattle.h3_connection.specs.State.{EndpointState, OutgoingState}
use Rattle.h3_connection.specs.WaitingPieces.{bytes_of}
use Rattle.h3_outgoing.specs.Copied.{Filled}
use Rattle.h3_outgoing.specs.Held.{AreApart, Fronts, front_of, past_of}
use Rattle.h3_outgoing.specs.HeldLaws.{front_within}
use Rattle.h3_unidirectional.specs.Owned.{waiting_on}
use Rattle.h3_session.specs.Copied.{CopiesTo, TellsEnd}
use Rattle.h3_session.specs.Running.{CopiesOutgoing}
use Rattle.h3_session.proofs.Taking.{found, not_found, request_waits, own_waits, waiting_apart}
use Rattle.h3_session.specs.Refused.{sender_in}

pub copies_request : (s : EndpointState) (id count : ℕ) (w : OutgoingState) (before after : List ℕ) → sender_in s id ≡ Some w → after ≡ before ++ take count (bytes_of w.pieces) → CopiesOutgoing s id count before after
copies_request s id count w before after was is e h = is ∙ ap (λ bytes. before ++ take count bytes) (request_waits s e id w h was)

pub copies_own : (s : EndpointState) (id count : ℕ) (before after : List ℕ) → sender_in s id ≡ None → after ≡ before ++ take count (waiting_on s.own s.side id) → CopiesOutgoing s id count before after
copies_own s id count before after was is e h = is ∙ ap (λ bytes. before ++ take count bytes) (own_waits s e id h was)

pub puts_request : (s : EndpointState) (id count past : ℕ) (w : OutgoingState) (before after : List ℕ) → sender_in s id ≡ Some w → Filled (front_of (bytes_of w.pieces)) before after count
    → (AreApart w.pieces → past ≡ past_of (drop count (bytes_of w.pieces))) → CopiesTo s id count past before after
puts_request s id count past w before after was copied follow e h =
    let f = found s e id w h was in
    let apart : AreApart w.pieces = subst AreApart (sym f.is.pieces) (waiting_apart f.o) in
    subst (λ bytes. Fronts bytes before after count past) (request_waits s e id w h was) (record { copied = copied; past = follow apart })

pub puts_own : (s : EndpointState) (id count : ℕ) (before after : List ℕ) → sender_in s id ≡ None → Fronts (waiting_on s.own s.side id) before after count 0 → CopiesTo s id count 0 before after
puts_own s id count before after was copied e h = subst (λ bytes. Fronts bytes before after count 0) (own_waits s e id h was) copied

pub within_waiting : (w : List ℕ) (before after : List ℕ) (count : ℕ) → Filled (front_of w) before after count → count ≤ length w
within_waiting w before after count copied = omega (arith, copied.place, front_within w)

-- Whether the end goes out behind what was copied, and what follows it.
same_sum : (n count past : ℕ) → count ≤ n → (n - count == past) ≡ (n == count + past)
same_sum n count past within = elim (cases_eq n (count + past)) [
  | inl is ↦ (let left : n - count ≡ past = omega (arith, is) in eq-eqb (n - count) past left ∙ sym (eq-eqb n (count + past) is))
  | inr other ↦ ne_eqb (n - count) past (λ left. other (omega (arith, left, within))) ∙ sym (ne_eqb n (count + past) other)
]

pub request_ends : (s : EndpointState) (id count past : ℕ) (w : OutgoingState) (ends : Bool) → sender_in s id ≡ Some w → count ≤ length (bytes_of w.pieces)
    → ends ≡ (w.is_finished && (length (bytes_of w.pieces) - count == past)) → TellsEnd s id (count + past) ends
request_ends s id count past w ends was within is e h =
    let f = found s e id w h was in
    let finished : w.is_finished ≡ is_finished e id = f.is.is_finished ∙ sym (ap (λ there. unwrap_or (option_map (λ o. o.is_finished) there) false) f.there) in
    is ∙ ap (λ b. w.is_finished && b) (same_sum (length (bytes_of w.pieces)) count past within)
    ∙ ap (λ b. b && (length (bytes_of w.pieces) == count + past)) finished ∙ ap (λ bytes. is_finished e id && (length bytes == count + past)) (request_waits s e id w h was)

pub own_goes_on : (s : EndpointState) (id count : ℕ) → sender_in s id ≡ None → TellsEnd s id count false
own_goes_on s id count was e h =
    let unfinished : is_finished e id ≡ false = ap (λ there. unwrap_or (option_map (λ o. o.is_finished) there) false) (not_found s e id h was) in
    sym (ap (λ b. b && (length (bytes_waiting e id) == count)) unfinished)
