-- What the steps of a pull promise.
use Rattle.std.specs.Prelude.{◌≡◌, ℕ, Bool, true, false, Option, Some, None, option_map, Result, Ok, Err}
use Rattle.h3_connection.specs.Endpoint.{EndpointHistory, Kind, kind_of}
use Rattle.h3_connection.specs.Endpoint.Kind.{Request, PeerUnidirectional}
use Rattle.h3_connection.specs.Keeping.{read_all, unkept, settles, is_settled_request, is_settled_peer}
use Rattle.h3_connection.specs.PartReading.{StandsAsked}
use Rattle.h3_connection.specs.Pulling.{is_memory}
use Rattle.h3_connection.specs.Sending.{pull_at}
use Rattle.h3_connection.specs.State.{EndpointState, StandsFor, kept_at}
use Rattle.h3_connection.specs.declared.event.Pull.{Pull}
use Rattle.h3_connection.specs.declared.event.Pull.TheVariants as answer
use Rattle.h3_connection.specs.declared.event.Fault.{Fault}
use Rattle.h3_connection.specs.declared.event.Fault.TheVariants as fault
use Rattle.h3_session.specs.Reading.{Finds, KeepsRest}

-- the connection's fault that it tells
abbrev pub fault_code : Fault → Option ℕ
fault_code (fault.Connection code) = Some code
fault_code _ = None

abbrev pub answer_code : Pull → Option ℕ
answer_code (answer.Fault f) = fault_code f
answer_code _ = None

-- which closes the endpoint
abbrev pub closed_with : Option ℕ → EndpointState → EndpointState
closed_with None s = s
closed_with (Some code) s = record s { closed = Some code }

-- the answer of a stream is settled, by what is stored
abbrev pub settled_in : EndpointState → ℕ → Kind → Bool
settled_in s id Request = is_settled_request (option_map (λ r. r.incoming) (kept_at s.requests id))
settled_in s id PeerUnidirectional = is_settled_peer (kept_at s.unidirectional id)
settled_in s id _ = false

-- The stream's next item, whatever is kept.
pub record PullsItem (s new : EndpointState) (id : ℕ) (result : Pull) : Type 0 where
  pub done : (e : EndpointHistory) → StandsFor s e → is_memory result ≡ false → (result ≡ (pull_at e id (kind_of e.side id)).0) × StandsFor new (pull_at e id (kind_of e.side id)).1
  pub memory : (e : EndpointHistory) → StandsFor s e → is_memory result ≡ true → StandsAsked new e id
  pub settled : (e : EndpointHistory) → StandsFor s e → is_memory result ≡ true → settles e id ≡ false

-- All that is kept was read up to the first fault; or memory was refused.
abbrev pub ReadsKept : {E : Type 0} → EndpointHistory → Result (Option ℕ) E → EndpointState → Type 0
ReadsKept e (Ok found) new = Finds found new (read_all e.kept (unkept e))
ReadsKept e (Err refused) new = KeepsRest (unkept e) e.kept new
