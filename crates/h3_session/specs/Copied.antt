-- What waits, copied into a buffer.
use Rattle.std.specs.Prelude.{◌≡◌, ◌==◌, ◌&&◌, ℕ, Bool, List, length}
use Rattle.h3_connection.specs.Endpoint.{EndpointHistory, bytes_waiting}
use Rattle.h3_connection.specs.Shown.{is_finished}
use Rattle.h3_connection.specs.State.{EndpointState, StandsFor}
use Rattle.h3_outgoing.specs.Held.{Fronts}

-- The first bytes that wait on the stream stand at the front of the buffer, up to a payload that the caller holds and as many as fit; they are so
-- many, and so many bytes of that payload follow them.
abbrev pub CopiesTo : EndpointState → ℕ → ℕ → ℕ → List ℕ → List ℕ → Type 0
CopiesTo s id count past before after = (e : EndpointHistory) → StandsFor s e → Fronts (bytes_waiting e id) before after count past

-- the message on the stream was finished, and so many bytes are all that wait of it
abbrev pub TellsEnd : EndpointState → ℕ → ℕ → Bool → Type 0
TellsEnd s id count ends = (e : EndpointHistory) → StandsFor s e → ends ≡ (is_finished e id && (length (bytes_waiting e id) == count))
