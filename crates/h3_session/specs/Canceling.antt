-- Why a cancellation is refused, by what is stored.
use Rattle.std.specs.Prelude.{◌≡◌, ℕ, List, ◌++◌, Option, Some, None, is_some}
use Rattle.h3_connection.specs.Calls.{Sets}
use Rattle.h3_connection.specs.Delivering.{given_up_once, cancellation}
use Rattle.h3_connection.specs.Refusals.{refusal_to_stop}
use Rattle.h3_connection.specs.Sending.{closed_or}
use Rattle.h3_connection.specs.State.{EndpointState, RequestState, kept_at}
use Rattle.h3_connection.specs.StreamSets.{Streams}
use Rattle.h3_connection.specs.declared.event.Refusal.{Refusal}
use Rattle.h3_connection.specs.declared.event.StreamFault.TheVariants as stream_fault
use Rattle.h3_incoming.specs.Replying.{encodings}
use Rattle.h3_requests.specs.Refused.{is_settled_in}
use Rattle.h3_session.specs.Refused.{is_critical_in}

abbrev pub cancel_refused : EndpointState → ℕ → Option Refusal
cancel_refused s id = closed_or s.closed (refusal_to_stop (is_critical_in s id) (is_some (kept_at s.requests id)) (is_settled_in (kept_at s.requests id)))

-- What a cancellation does to a stream, where it is there.
abbrev pub CancelsAt : Streams RequestState → Streams RequestState → List ℕ → List ℕ → ℕ → Option RequestState → Type 0
CancelsAt old new before after id None = Unit {0}
CancelsAt old new before after id (Some r) = Sets old new id (record r { incoming = given_up_once r.incoming stream_fault.Canceled }) × (after ≡ before ++ encodings (cancellation id r.incoming.fault))
