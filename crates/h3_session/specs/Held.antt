-- Bodies that the caller holds: what is announced of them, and what goes out of them.
use Rattle.std.specs.Prelude.{◌≡◌, ℕ, List, Result}
use Rattle.h3_connection.specs.Answers.{call_refused}
use Rattle.h3_connection.specs.Endpoint.{EndpointHistory, bytes_waiting}
use Rattle.h3_connection.specs.ReadingContracts.{IsSomeFront}
use Rattle.h3_connection.specs.Sending.{send_body}
use Rattle.h3_connection.specs.SendingContracts.{DoesOrRefuses}
use Rattle.h3_connection.specs.State.{EndpointState, StandsFor}
use Rattle.h3_connection.specs.declared.event.Refusal.{Refusal}
use Rattle.h3_outgoing.specs.Held.{held, front_of}

-- `send_body_of`: what `send_body` does with the places of so many bytes
abbrev pub SendsBodyOf : EndpointState → EndpointState → ℕ → ℕ → Result Unit Refusal → Type 0
SendsBodyOf old new id len result = DoesOrRefuses (λ e. send_body e id (held len)) old new (call_refused result)

-- `outgoing`: some of the bytes in front of the first place, and none only where there are none
abbrev pub LendsFront : EndpointState → ℕ → List ℕ → Type 0
LendsFront s id lent = (e : EndpointHistory) → StandsFor s e → IsSomeFront lent (front_of (bytes_waiting e id))

-- no place of the caller's is among the bytes that wait
abbrev pub HoldsNone : EndpointState → ℕ → Type 0
HoldsNone s id = (e : EndpointHistory) → StandsFor s e → front_of (bytes_waiting e id) ≡ bytes_waiting e id
