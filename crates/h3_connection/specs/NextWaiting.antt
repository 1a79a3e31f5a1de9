-- The next stream on which bytes wait.
use Rattle.std.specs.Prelude.{◌≡◌, ◌<◌, ◌≤◌, ℕ, Bool, true, false, length, nat_lt, Option, Some, None}
use Rattle.h3_connection.specs.Endpoint.{EndpointHistory, bytes_waiting}
use Rattle.h3_connection.specs.State.{EndpointState, StandsFor}

-- the least number from there on that passes a test; none where none passes
abbrev pub IsLeast : (ℕ → Bool) → ℕ → Option ℕ → Type 0
IsLeast passes from None = (q : ℕ) → from ≤ q → passes q ≡ false
IsLeast passes from (Some id) = (from ≤ id) × (passes id ≡ true) × ((q : ℕ) → from ≤ q → q < id → passes q ≡ false)

-- whether bytes wait on the stream
abbrev pub has_waiting : EndpointHistory → ℕ → Bool
has_waiting e id = nat_lt 0 (length (bytes_waiting e id))

-- `next_waiting`
abbrev pub ShowsNextWaiting : EndpointState → ℕ → Option ℕ → Type 0
ShowsNextWaiting s from result = (e : EndpointHistory) → StandsFor s e → IsLeast (has_waiting e) from result
