-- The request that is opened next.
use Rattle.std.specs.Prelude.{ℕ, Option, Some, None, Result, Ok, Err}
use Rattle.h3_connection.specs.Endpoint.{EndpointHistory}
use Rattle.h3_connection.specs.ReadingContracts.{Shows}
use Rattle.h3_connection.specs.Sending.{open_refusal}
use Rattle.h3_connection.specs.State.{EndpointState}
use Rattle.h3_connection.specs.declared.event.Refusal.{Refusal}

abbrev pub id_unless : ℕ → Option Refusal → Result ℕ Refusal
id_unless id (Some refusal) = Err refusal
id_unless id None = Ok id

-- the id that `open_request` gives next, or the refusal that it answers
abbrev pub next_request : EndpointHistory → Result ℕ Refusal
next_request e = id_unless e.next_id (open_refusal e)

abbrev pub ShowsNextRequest : EndpointState → Result ℕ Refusal → Type 0
ShowsNextRequest s result = Shows next_request s result
