-- A stream on which all was sent: nothing more is taken for it, and it stays so.
use Rattle.std.proofs.Common.{arith, ◌≡◌, ◌≤◌, ℕ, ◌+◌, Bool, true, false, List, [], ◌∷◌, length, drop, refl, subst}
use Rattle.std.specs.Prelude.{Option, Some, None, flat_map, if◌then◌else◌, ◌==◌, nat_lt, not, ◌&&◌, ◌||◌, unwrap_or}
use Rattle.std.proofs.lemmas.Bool.{and_parts, and_from, and_left, and_right, or_parts, or_from, not-true, not_from_true, not_from_false, ltb-false}
use Rattle.std.proofs.lemmas.List.{length-drop}
use Rattle.h3_header.specs.Head.{Head, head_fields}
use Rattle.h3_messages.specs.Content.{may_end}
use Rattle.h3_connection.specs.declared.event.Refusal.{Refusal}
use Rattle.h3_connection.specs.declared.event.Refusal.TheVariants as refusal
use Rattle.h3_connection.specs.Endpoint.{EndpointHistory, is_critical_id}
use Rattle.h3_connection.specs.Outgoing.{Outgoing, nothing_sent, is_unended, is_unsent, last_is_trailer, is_sent_off, takes_head, takes_body, takes_end, part_bytes_waiting, end_waits, written_part}
use Rattle.h3_connection.specs.Refusals.{SenderStream, first_of, not_next, of_list, refusal_to_stop, with_pseudo, wrong_length, wrong_side, unless_going}
use Rattle.h3_connection.specs.Remembering.{settings_known}
use Rattle.h3_connection.specs.Sending.{closed_or, outgoing_at, is_open, seen_at, head_refusal, body_refusal, trailer_refusal, finish_refusal, reset_refusal, sender_at, broken_head_at}
use Rattle.h3_connection.specs.StreamSets.{stream_at}
use Rattle.h3_connection.specs.StrictSending.{broken_protocol, broken_trailer, early_trailer, passes_content, unless_malformed}

-- all was sent on it, and nothing waits: by what ended it, and by how many bytes wait
abbrev sent_by : (reset finished ended : Bool) → ℕ → Bool
sent_by reset finished ended n = (reset || (finished && (n == 0))) && not (nat_lt 0 n || (finished && not ended))

abbrev pub is_sent : Outgoing → Bool
is_sent o = is_sent_off o && not (nat_lt 0 (length (part_bytes_waiting o)) || end_waits o)

abbrev pub sent_in : Option Outgoing → Bool
sent_in None = false
sent_in (Some o) = is_sent o

none_waits : (reset finished ended : Bool) (n : ℕ) → sent_by reset finished ended n ≡ true → n ≡ 0
none_waits reset finished ended n h =
    let parts = and_parts (reset || (finished && (n == 0))) (not (nat_lt 0 n || (finished && not ended))) h in
    let waits = or_parts (nat_lt 0 n) (finished && not ended) (not-true (nat_lt 0 n || (finished && not ended)) parts.1) in
    let few : n ≤ 0 = ltb-false 0 n waits.0 in
    omega (arith, few)

fewer_wait : (reset finished ended : Bool) (n m : ℕ) → m ≤ n → sent_by reset finished ended n ≡ true → sent_by reset finished ended m ≡ true
fewer_wait reset finished ended n m few h =
    let none = none_waits reset finished ended n h in
    let same : n ≡ m = omega (arith, few, none) in
    subst (λ k. sent_by reset finished ended k ≡ true) same h

end_too : (reset finished ended : Bool) (n : ℕ) → sent_by reset finished ended n ≡ true → sent_by reset finished true n ≡ true
end_too reset finished ended n h =
    let parts = and_parts (reset || (finished && (n == 0))) (not (nat_lt 0 n || (finished && not ended))) h in
    let waits = or_parts (nat_lt 0 n) (finished && not ended) (not-true (nat_lt 0 n || (finished && not ended)) parts.1) in
    and_from (reset || (finished && (n == 0))) (not (nat_lt 0 n || (finished && not true))) parts.0
    (not_from_false (nat_lt 0 n || (finished && not true)) (or_from (nat_lt 0 n) (finished && not true) waits.0 (and_right finished (not true) refl)))

is_over : (reset finished ended : Bool) (n : ℕ) → sent_by reset finished ended n ≡ true → (not finished && not reset) ≡ false
is_over true finished ended n h = and_right (not finished) false refl
is_over false true ended n h = refl
is_over false false ended n h = let wrong = and_parts false (not (nat_lt 0 n || (false && not ended))) h in absurd (let no : false ≡ true = wrong.0 in cc)

-- more of it is taken
fewer_bytes : (o : Outgoing) (count : ℕ) (reset : Bool) → length (if reset then [] else drop (o.taken + count) (flat_map written_part o.parts)) ≤ length (if reset then [] else drop o.taken (flat_map written_part o.parts))
fewer_bytes o count true = omega arith
fewer_bytes o count false =
    let after = length-drop (o.taken + count) (flat_map written_part o.parts) in
    let before = length-drop o.taken (flat_map written_part o.parts) in
    omega (arith, after, before)

pub taken_sent : (o : Outgoing) (count : ℕ) → is_sent o ≡ true → is_sent (record o { taken = o.taken + count }) ≡ true
taken_sent o count h =
    fewer_wait o.is_reset o.is_finished o.end_taken (length (part_bytes_waiting o)) (length (part_bytes_waiting (record o { taken = o.taken + count }))) (fewer_bytes o count o.is_reset) h

pub ended_sent : (o : Outgoing) → is_sent o ≡ true → is_sent (record o { end_taken = true }) ≡ true
ended_sent o h = end_too o.is_reset o.is_finished o.end_taken (length (part_bytes_waiting o)) h

-- nothing more is taken for it
unended : (o : Option Outgoing) → sent_in o ≡ true → is_unended (unwrap_or o nothing_sent) ≡ false
unended None h = absurd (cc)
unended (Some o) h = is_over o.is_reset o.is_finished o.end_taken (length (part_bytes_waiting o)) h

sent_off : (o : Option Outgoing) → sent_in o ≡ true → is_sent_off (unwrap_or o nothing_sent) ≡ true
sent_off None h = absurd (cc)
sent_off (Some o) h = (and_parts (is_sent_off o) (not (nat_lt 0 (length (part_bytes_waiting o)) || end_waits o)) h).0

none_next : (there takes : Bool) (later : List (Bool × Refusal)) → takes ≡ false → first_of ((not there, refusal.NotOpen) ∷ (not takes, refusal.OutOfOrder) ∷ later) ≡ None → ⊥
none_next false takes later fails none = cc
none_next true false later fails none = cc
none_next true true later fails none = cc

next_refused : (closed : Option ℕ) (s : SenderStream) (takes : Bool) (later : List (Bool × Refusal)) → takes ≡ false → closed_or closed (first_of (not_next s takes later)) ≡ None → ⊥
next_refused (Some code) s takes later fails none = cc
next_refused None s takes later fails none = none_next s.is_open takes later fails none

-- a direction that is not there, or over, is not stopped
none_stopped : (critical there over : Bool) → (there && not over) ≡ false → refusal_to_stop critical there over ≡ None → ⊥
none_stopped true there over fails none = cc
none_stopped false false over fails none = cc
none_stopped false true true fails none = cc
none_stopped false true false fails none = cc

pub stop_refused : (closed : Option ℕ) (critical there over : Bool) → (there && not over) ≡ false → closed_or closed (refusal_to_stop critical there over) ≡ None → ⊥
stop_refused (Some code) critical there over fails none = cc
stop_refused None critical there over fails none = none_stopped critical there over fails none

module _ (e : EndpointHistory) (id : ℕ) (sent : sent_in (stream_at e.outgoing id) ≡ true) where
  abbrev o : Outgoing
  o = outgoing_at e id

  over : is_unended o ≡ false
  over = unended (stream_at e.outgoing id) sent

  takes_none : takes_body o ≡ false
  takes_none = and_left (is_unended o && not (is_unsent o.parts)) (not (last_is_trailer o.parts)) (and_left (is_unended o) (not (is_unsent o.parts)) over)

  pub head_refused : (head : Head) → head_refusal e id head ≡ None → ⊥
  head_refused head none =
      let fields = head_fields head in
      next_refused e.closed (seen_at e id) (takes_head o)
      (unless_going (sender_at e id).going (unless_malformed (broken_protocol e.announced head) (wrong_side e.side head ∷ of_list (broken_head_at e id fields) (settings_known e.announced e.peer.settings) fields)))
      (and_left (is_unended o) (is_unsent o.parts) over) none

  pub body_refused : (size : ℕ) → body_refusal e id size ≡ None → ⊥
  body_refused size none = next_refused e.closed (seen_at e id) (takes_body o) (wrong_length (passes_content o.content size) ∷ []) takes_none none

  pub trailer_refused : (head : Head) → trailer_refusal e id head ≡ None → ⊥
  trailer_refused head none =
      let fields = head_fields head in
      next_refused e.closed (seen_at e id) (takes_body o) (unless_malformed (broken_protocol e.announced head) (with_pseudo head ∷ unless_malformed (early_trailer o.content) (of_list (broken_trailer e.announced fields) (settings_known e.announced e.peer.settings) fields))) takes_none none

  pub finish_refused : finish_refusal e id ≡ None → ⊥
  finish_refused none = next_refused e.closed (seen_at e id) (takes_end o) (wrong_length (not (may_end o.content)) ∷ []) (and_left (is_unended o) (not (is_unsent o.parts)) over) none

  pub reset_refused : reset_refusal e id ≡ None → ⊥
  reset_refused none = stop_refused e.closed (is_critical_id e id) (is_open e id) (is_sent_off o)
      (and_right (is_open e id) (not (is_sent_off o)) (not_from_true (is_sent_off o) (sent_off (stream_at e.outgoing id) sent))) none
