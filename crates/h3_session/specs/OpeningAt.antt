-- A request of an id that QUIC gave is opened, with all below it that are not open.
use Rattle.std.specs.Prelude.{◌≡◌, ◌≢◌, ◌<◌, ◌+◌, ◌-◌, ◌/◌, ℕ, zero, suc, not, [], ◌∷◌, nat_lt, Option, Some, None, Result}
use Rattle.h3_proto.specs.StreamIds.{is_request_stream}
use Rattle.h3_connection.specs.Answers.{call_refused}
use Rattle.h3_connection.specs.Calls.{IsSame}
use Rattle.h3_connection.specs.Endpoint.{EndpointHistory}
use Rattle.h3_connection.specs.Refusals.{first_of, or_later}
use Rattle.h3_connection.specs.Sending.{does, open_refusal, open_request}
use Rattle.h3_connection.specs.State.{EndpointState, StandsFor}
use Rattle.h3_connection.specs.declared.event.Refusal.{Refusal}
use Rattle.h3_connection.specs.declared.event.Refusal.TheVariants as refusal

-- the id is one of a request, and not below the next one
abbrev pub id_refused : ℕ → ℕ → Option Refusal
id_refused next id = first_of ((not (is_request_stream id), refusal.NotRequestId) ∷ (nat_lt id next, refusal.OutOfOrder) ∷ [])

-- as `open_request` is refused, and then by the id
abbrev pub opening_refusal : EndpointHistory → ℕ → Option Refusal
opening_refusal e id = or_later (open_refusal e) (id_refused e.next_id id)

-- so many requests are opened, the next ones
abbrev pub opened_more : ℕ → EndpointHistory → EndpointHistory
opened_more zero e = e
opened_more (suc n) e = (open_request (opened_more n e)).1

-- how many are to be opened, up to that id
abbrev pub to_open : ℕ → ℕ → ℕ
to_open next id = (id - next) / 4 + 1

abbrev pub open_request_at : EndpointHistory → ℕ → Option Refusal × EndpointHistory
open_request_at e id = does (opening_refusal e id) e (opened_more (to_open e.next_id id) e)

-- fewer were opened, where memory was refused
pub record OpensFewer (old new : EndpointState) (count : ℕ) : Type 0 where
  pub opened : ℕ
  pub fewer : opened < count
  pub stands : (e : EndpointHistory) → StandsFor old e → StandsFor new (opened_more opened e)

-- `open_request_at`
pub record OpensAt (old new : EndpointState) (id : ℕ) (refused : Option Refusal) : Type 0 where
  pub done : (e : EndpointHistory) → StandsFor old e → refused ≢ Some refusal.OutOfMemory → (refused ≡ (open_request_at e id).0) × StandsFor new (open_request_at e id).1
  pub same : refused ≢ None → refused ≢ Some refusal.OutOfMemory → IsSame old new
  pub memory : (e : EndpointHistory) → StandsFor old e → refused ≡ Some refusal.OutOfMemory → (open_request_at e id).0 ≡ None
  pub fewer : refused ≡ Some refusal.OutOfMemory → OpensFewer old new (to_open old.next_id id)

-- the same by what the call answers
abbrev pub OpensRequestAt : EndpointState → EndpointState → ℕ → Result Unit Refusal → Type 0
OpensRequestAt old new id result = OpensAt old new id (call_refused result)
