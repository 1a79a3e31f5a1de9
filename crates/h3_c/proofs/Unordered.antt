-- An endpoint of which nothing is known of what sends first, by its own calls or its peer's PRIORITY_UPDATE frames, and whose FINs QUIC took: what it
-- answers to all other calls rests on neither.
use Rattle.std.proofs.Common.{◌≡◌, ℕ, ◌+◌, Bool, true, false, if◌then◌else◌, List, refl, ap, ◌∙◌, Option, Some, None}
use Rattle.std.specs.Prelude.{◌==◌, ◌||◌, option_map, unwrap_or}
use Rattle.h3_connection.specs.Endpoint.{EndpointHistory, bytes_waiting, own_waiting}
use Rattle.h3_connection.specs.Order.{no_order}
use Rattle.h3_connection.specs.Outgoing.{Outgoing as Out, part_bytes_waiting}
use Rattle.h3_connection.specs.Sending.{advance, advance_at, order_after}
use Rattle.h3_connection.specs.Shown.{has_outgoing, is_finished, is_reset}
use Rattle.h3_connection.specs.OwnIds.{is_own}
use Rattle.h3_connection.specs.StreamSets.{set_stream, stream_at}
use Rattle.h3_c.proofs.Views.{Keeps, at_seen, open_seen, plain, seen, set_seen, streams_seen, unordered_out}

abbrev pub unordered : EndpointHistory → EndpointHistory
unordered e = seen plain e

pub keeps_plain : Keeps plain
keeps_plain = record {
  new = λ id. refl;
  finished = λ id o. refl;
  reset = λ id o. refl;
  content = λ id o. refl;
  sender = λ id b o. refl;
  part = λ id part o section. refl;
  said = λ id said o. refl;
  body = λ id bytes o all. refl;
  finish = λ id o. refl;
  with_reset = λ id o. refl;
}

-- what is shown of the streams
abbrev pub waits_of : EndpointHistory → ℕ → Option Out → List ℕ
waits_of e id None = own_waiting e id
waits_of e id (Some o) = part_bytes_waiting o

waiting_mapped : (e : EndpointHistory) (id : ℕ) (o : Option Out) → waits_of e id (option_map unordered_out o) ≡ waits_of e id o
waiting_mapped e id None = refl
waiting_mapped e id (Some o) = refl

pub bytes_unordered : (e : EndpointHistory) (id : ℕ) → bytes_waiting (unordered e) id ≡ bytes_waiting e id
bytes_unordered e id = ap (λ o. waits_of e id o) (at_seen e.outgoing plain.out id) ∙ waiting_mapped e id (stream_at e.outgoing id)

pub has_unordered : (e : EndpointHistory) (id : ℕ) → has_outgoing (unordered e) id ≡ has_outgoing e id
has_unordered e id = ap (λ b. is_own e.side id || b) (open_seen plain keeps_plain e id)

finished_mapped : (o : Option Out) → unwrap_or (option_map (λ (o : Out). o.is_finished) (option_map unordered_out o)) false ≡ unwrap_or (option_map (λ (o : Out). o.is_finished) o) false
finished_mapped None = refl
finished_mapped (Some o) = refl

pub finished_unordered : (e : EndpointHistory) (id : ℕ) → is_finished (unordered e) id ≡ is_finished e id
finished_unordered e id = ap (λ o. unwrap_or (option_map (λ (o : Out). o.is_finished) o) false) (at_seen e.outgoing plain.out id) ∙ finished_mapped (stream_at e.outgoing id)

reset_mapped : (o : Option Out) → unwrap_or (option_map (λ (o : Out). o.is_reset) (option_map unordered_out o)) false ≡ unwrap_or (option_map (λ (o : Out). o.is_reset) o) false
reset_mapped None = refl
reset_mapped (Some o) = refl

pub reset_unordered : (e : EndpointHistory) (id : ℕ) → is_reset (unordered e) id ≡ is_reset e id
reset_unordered e id = ap (λ o. unwrap_or (option_map (λ (o : Out). o.is_reset) o) false) (at_seen e.outgoing plain.out id) ∙ reset_mapped (stream_at e.outgoing id)

-- What QUIC takes.
same_order : (b : Bool) → (if b then no_order else no_order) ≡ no_order
same_order true = refl
same_order false = refl

advance_mapped : (e : EndpointHistory) (id count : ℕ) (o : Option Out) → advance_at (unordered e) id count (option_map unordered_out o) ≡ unordered (advance_at e id count o)
advance_mapped e id count None = refl
advance_mapped e id count (Some o) =
    let taken : Out = record o { taken = o.taken + count } in
    ap (λ l. record (unordered e) { outgoing = l; order = order_after (unordered e) id count (Some (unordered_out o)) }) (set_seen e.outgoing plain.out plain.out id taken (unordered_out taken) refl (λ i x differs. refl))
    ∙ ap (λ r. record (unordered e) { outgoing = streams_seen (set_stream e.outgoing id taken) plain.out; order = r }) (same_order (count == 0))

pub advance_unordered : (e : EndpointHistory) (id count : ℕ) → advance (unordered e) id count ≡ unordered (advance e id count)
advance_unordered e id count = ap (λ o. advance_at (unordered e) id count o) (at_seen e.outgoing plain.out id) ∙ advance_mapped e id count (stream_at e.outgoing id)
