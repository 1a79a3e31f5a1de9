-- What an end does where it judges plainly, beside what it does: the calls that memory may be refused for.
use Rattle.std.specs.Prelude.{◌≡◌, ◌⊎◌, ℕ, List, Option, Some, None, option_map}
use Rattle.h3_field.specs.Field.{Field}
use Rattle.h3_header.specs.Head.{Head}
use Rattle.h3_connection.specs.Coming.{fields_behind}
use Rattle.h3_connection.specs.Delivering.{with_incoming}
use Rattle.h3_connection.specs.Endpoint.{EndpointHistory, bytes_waiting}
use Rattle.h3_connection.specs.Incoming.{Incoming}
use Rattle.h3_connection.specs.Keeping.{arrival_refusal, pulls, settles}
use Rattle.h3_connection.specs.PartReading.{ReadsPart}
use Rattle.h3_connection.specs.Sending.{advance, cancel, goaway, open_request, send_head, send_trailer}
use Rattle.h3_connection.specs.Shown.{has_outgoing, is_finished, is_reset}
use Rattle.h3_connection.specs.StreamSets.{stream_at}
use Rattle.h3_connection.specs.StrictSending.{broken_protocol}
use Rattle.h3_connection.specs.declared.arrival.Arrival.{Arrival}
use Rattle.h3_connection.specs.declared.event.Malformation.{Malformation}
use Rattle.h3_connection.specs.declared.event.Refusal.{Refusal}
use Rattle.h3_connection.specs.declared.event.Refusal.TheVariants as refusal
use Rattle.h3_connection.specs.Lists.{listed_pull}
use Rattle.h3_world.specs.EndLists.{send_fields, send_trailer_fields}
use Rattle.h3_world.specs.Lists.{unreadable}
use Rattle.h3_world.specs.Setup.{takes_any}
use Rattle.h3_strict.specs.Plainly.{plain_incoming, plainly}

-- Two refusals of a call: of an end, and of the same end that judges plainly. They are the same; or the end refuses what it does not read itself.
abbrev pub SameUnless : Option Malformation → Option Refusal → Option Refusal → Type 0
SameUnless unread p q = (q ≡ p) ⊎ ((why : Malformation) × (unread ≡ Some why) × (p ≡ Some (refusal.Malformed why)))

-- So it is; or the end refuses the call as malformed, and the other end accepts it, or finds a list too large.
pub data RulesPlainly (unread : Option Malformation) (p q : Option Refusal) : Type 0 where
  Breaks : (why : Malformation) → p ≡ Some (refusal.Malformed why) → (q ≡ None) ⊎ ((size : ℕ) × (q ≡ Some (refusal.TooLarge size))) → RulesPlainly unread p q
  Agrees : SameUnless unread p q → RulesPlainly unread p q

-- It sends and gives up so, has the same to send, takes the same, and reads what came up to the same point.
pub record DoesPlainly (e : EndpointHistory) : Type 0 where
  pub opens : RulesPlainly None (open_request e).0 (open_request (plainly e)).0
  pub head : (id : ℕ) (head : Head) → RulesPlainly (broken_protocol e.announced head) (send_head e id head).0 (send_head (plainly e) id head).0
  pub fields : (id : ℕ) (fields : List Field) → RulesPlainly (unreadable (takes_any e.announced) fields) (send_fields e id fields).0 (send_fields (plainly e) id fields).0
  pub trailer : (id : ℕ) (trailer : Head) → RulesPlainly (broken_protocol e.announced trailer) (send_trailer e id trailer).0 (send_trailer (plainly e) id trailer).0
  pub trailer_fields : (id : ℕ) (fields : List Field) → RulesPlainly (unreadable (takes_any e.announced) fields) (send_trailer_fields e id fields).0 (send_trailer_fields (plainly e) id fields).0
  pub cancels : (id : ℕ) → RulesPlainly None (cancel e id).0 (cancel (plainly e) id).0
  pub goes_away : (id : ℕ) → RulesPlainly None (goaway e id).0 (goaway (plainly e) id).0
  pub advances : (id count : ℕ) → advance (plainly e) id count ≡ plainly (advance e id count)
  pub waits : (id : ℕ) → bytes_waiting (plainly e) id ≡ bytes_waiting e id
  pub has_one : (id : ℕ) → has_outgoing (plainly e) id ≡ has_outgoing e id
  pub finished : (id : ℕ) → is_finished (plainly e) id ≡ is_finished e id
  pub was_reset : (id : ℕ) → is_reset (plainly e) id ≡ is_reset e id
  pub accepts : (id : ℕ) → arrival_refusal (plainly e) id ≡ arrival_refusal e id
  pub settles : (id : ℕ) → settles (plainly e) id ≡ settles e id
  pub stream : (id : ℕ) → stream_at (plainly e).incoming id ≡ option_map plain_incoming (stream_at e.incoming id)
  pub sets : (id : ℕ) (i : Incoming) → with_incoming (plainly e) id (plain_incoming i) ≡ plainly (with_incoming e id i)
  pub lists : (id : ℕ) → listed_pull (fields_behind e.kept (plainly e) id) (pulls e id).0 ≡ listed_pull (fields_behind e.kept e id) (pulls e id).0
  pub reads : (arrivals : List Arrival) (new : EndpointHistory) → ReadsPart e arrivals new → ReadsPart (plainly e) arrivals (plainly new)
