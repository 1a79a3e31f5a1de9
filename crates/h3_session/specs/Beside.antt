-- What another part of a connection asks of its endpoint, one beside it that has streams of its own.
use Rattle.std.specs.Prelude.{◌≡◌, ◌≢◌, ◌+◌, ℕ, Bool, true, false, not, if◌then◌else◌, Option, Some, None, is_some, Result, Ok, unwrap_or}
use Rattle.h3_connection.specs.Answers.{call_refused}
use Rattle.h3_connection.specs.Delivering.{unidirectional_at, with_unidirectional}
use Rattle.h3_connection.specs.Endpoint.{EndpointHistory}
use Rattle.h3_connection.specs.Keeping.{arrival_refusal, settles}
use Rattle.h3_connection.specs.ReadingContracts.{Shows}
use Rattle.h3_connection.specs.Sending.{does, open_refusal, unless_closed}
use Rattle.h3_connection.specs.SendingContracts.{DoesAlways}
use Rattle.h3_connection.specs.State.{EndpointState, StandsFor}
use Rattle.h3_connection.specs.Unidirectional.{reset_with}
use Rattle.h3_connection.specs.declared.event.Refusal.{Refusal}
use Rattle.h3_connection.specs.declared.event.Refusal.TheVariants as refusal
use Rattle.h3_unidirectional.specs.declared.stream.Kind.{Kind}
use Rattle.h3_unidirectional.specs.declared.stream.Kind.TheVariants as kind
use Rattle.h3_session.specs.PeerKinds.{stream_kind}

-- the next id of a request is passed over
abbrev pub take_request_id : EndpointHistory → Option Refusal × EndpointHistory
take_request_id e = does (open_refusal e) e (record e { next_id = e.next_id + 4 })

-- `take_request_id` answers it
pub record TakesId (old new : EndpointState) (result : Result ℕ Refusal) : Type 0 where
  pub takes : DoesAlways take_request_id old new (call_refused result)
  pub id : (taken : ℕ) → result ≡ Ok taken → taken ≡ old.next_id

-- the first fault closes an endpoint
abbrev pub closed_for : ℕ → EndpointHistory → EndpointHistory
closed_for code e = record e { closed = Some (unwrap_or e.closed code) }

-- `close_for`
abbrev pub ClosesFor : EndpointState → EndpointState → ℕ → Type 0
ClosesFor old new code = (e : EndpointHistory) → StandsFor old e → StandsFor new (closed_for code e)

-- `has_ended`: nothing more is taken on a stream
abbrev pub ShowsEnd : EndpointState → ℕ → Bool → Type 0
ShowsEnd s id result = Shows (λ e. is_some (arrival_refusal e id)) s result

-- a unidirectional stream of the peer is one of a session
abbrev pub is_of_session : Option Kind → Bool
is_of_session (Some (kind.Session id)) = true
is_of_session _ = false

-- nothing is given up of another stream, nor of one that is over
abbrev pub drop_rules : Bool → Bool → Option Refusal
drop_rules is_there is_over = if not is_there then Some refusal.NotOpen else (if is_over then Some refusal.Ended else None)

abbrev pub drop_refusal : EndpointHistory → ℕ → Option Refusal
drop_refusal e id = unless_closed e (drop_rules (is_of_session (stream_kind e id)) (settles e id))

-- what came on it is dropped, and nothing more is taken, as if its sender had reset it
abbrev pub drop_session : EndpointHistory → ℕ → ℕ → Option Refusal × EndpointHistory
drop_session e id code = does (drop_refusal e id) e (with_unidirectional e id (reset_with (unidirectional_at e id) code))

-- `drop_session`: want of memory comes last, and loses nothing
pub record DropsSession (old new : EndpointState) (id code : ℕ) (result : Result Unit Refusal) : Type 0 where
  pub done : (e : EndpointHistory) → StandsFor old e → call_refused result ≢ Some refusal.OutOfMemory
      → (call_refused result ≡ (drop_session e id code).0) × StandsFor new (drop_session e id code).1
  pub memory : (e : EndpointHistory) → StandsFor old e → call_refused result ≡ Some refusal.OutOfMemory → ((drop_session e id code).0 ≡ None) × StandsFor new e
