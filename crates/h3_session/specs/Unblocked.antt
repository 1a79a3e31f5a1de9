-- The next stream that is unblocked: the insert count reached the required insert count that it waits for (RFC 9204, section 2.1.2).
use Rattle.std.specs.Prelude.{ℕ, Bool, Option}
use Rattle.h3_connection.specs.Delivering.{incoming_at}
use Rattle.h3_connection.specs.Endpoint.{EndpointHistory}
use Rattle.h3_connection.specs.NextWaiting.{IsLeast}
use Rattle.h3_connection.specs.State.{EndpointState, StandsFor}
use Rattle.h3_requests.specs.Unblocked.{unblocks}

-- a pull of it answered that it waits, and the insert count reached its required insert count since
abbrev pub is_unblocked : EndpointHistory → ℕ → Bool
is_unblocked e id = unblocks e.decoding.decoder.table.inserted (incoming_at e id).waits_for

-- `next_unblocked`
abbrev pub ShowsNextUnblocked : EndpointState → ℕ → Option ℕ → Type 0
ShowsNextUnblocked s from result = (e : EndpointHistory) → StandsFor s e → IsLeast (is_unblocked e) from result
