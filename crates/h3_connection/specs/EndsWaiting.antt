-- The end of a stream that is sent: it waits until QUIC took its FIN, and no longer.
use Rattle.std.specs.Prelude.{◌≡◌, ℕ, Bool, true, false, ◌||◌, Option, Some, None, option_map, unwrap_or}
use Rattle.h3_connection.specs.Endpoint.{EndpointHistory}
use Rattle.h3_connection.specs.NextWaiting.{IsLeast, has_waiting}
use Rattle.h3_connection.specs.Outgoing.{Outgoing, end_waits, is_end_next}
use Rattle.h3_connection.specs.Sending.{with_outgoing}
use Rattle.h3_connection.specs.State.{EndpointState, StandsFor}
use Rattle.h3_connection.specs.StreamSets.{stream_at}

-- whether an end waits on the stream
abbrev pub has_end : EndpointHistory → ℕ → Bool
has_end e id = unwrap_or (option_map end_waits (stream_at e.outgoing id)) false

-- whether bytes or an end wait on it
abbrev pub has_to_send : EndpointHistory → ℕ → Bool
has_to_send e id = has_waiting e id || has_end e id

-- The FIN of a stream was taken, where its end is next. It answers whether that is so, and changes nothing where it is not.
abbrev pub end_taken_if : Bool → EndpointHistory → ℕ → Outgoing → Bool × EndpointHistory
end_taken_if true e id o = (true, with_outgoing e id (record o { end_taken = true }))
end_taken_if false e id o = (false, e)

abbrev pub end_taken_at : EndpointHistory → ℕ → Option Outgoing → Bool × EndpointHistory
end_taken_at e id (Some o) = end_taken_if (is_end_next o) e id o
end_taken_at e id None = (false, e)

abbrev pub end_taken : EndpointHistory → ℕ → Bool × EndpointHistory
end_taken e id = end_taken_at e id (stream_at e.outgoing id)

-- `end_taken` takes no memory
abbrev pub TakesEnd : EndpointState → EndpointState → ℕ → Bool → Type 0
TakesEnd old new id result = (e : EndpointHistory) → StandsFor old e → (result ≡ (end_taken e id).0) × StandsFor new (end_taken e id).1

-- `next_to_send`
abbrev pub ShowsNextToSend : EndpointState → ℕ → Option ℕ → Type 0
ShowsNextToSend s from result = (e : EndpointHistory) → StandsFor s e → IsLeast (has_to_send e) from result
