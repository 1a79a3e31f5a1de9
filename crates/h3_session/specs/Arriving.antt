-- What comes from the peer, by what is stored.
use Rattle.std.specs.Prelude.{◌≡◌, ℕ, Bool, true, false, List, [], ◌++◌, Option, Some, None, Result, Ok, Err, option_map, unwrap_or, IsSome}
use Rattle.h3_field.specs.Instruction.{DecoderInstruction}
use Rattle.h3_connection.specs.Arrivals.{stream_of, is_closed_in}
use Rattle.h3_connection.specs.Delivering.{kept, with_end, given_up_once, cancellation, closed_refusal, request_refusal, server_opened_refusal}
use Rattle.h3_connection.specs.Endpoint.{EndpointHistory, Kind, kind_of}
use Rattle.h3_connection.specs.Endpoint.Kind.{Request, ServerOpened, OwnUnidirectional, PeerUnidirectional}
use Rattle.h3_connection.specs.Incoming.{Incoming}
use Rattle.h3_connection.specs.Keeping.{refused_behind}
use Rattle.h3_connection.specs.ReceivingContracts.{IsTaken}
use Rattle.h3_connection.specs.State.{EndpointState, RequestState, StandsFor, kept_at}
use Rattle.h3_connection.specs.StreamSets.{Streams}
use Rattle.h3_connection.specs.Unidirectional.{is_closed, untold}
use Rattle.h3_connection.specs.declared.arrival.Arrival.{Arrival}
use Rattle.h3_connection.specs.declared.arrival.Arrival.TheVariants.{BytesCame, EndCame, ResetCame}
use Rattle.h3_connection.specs.declared.event.DeliverError.{DeliverError}
use Rattle.h3_connection.specs.declared.event.DeliverError.TheVariants as deliver_error
use Rattle.h3_connection.specs.declared.event.Refusal.{Refusal}
use Rattle.h3_connection.specs.declared.event.Refusal.TheVariants as refusal
use Rattle.h3_connection.specs.declared.event.StreamFault.TheVariants as stream_fault
use Rattle.h3_incoming.specs.Replying.{encodings}
use Rattle.h3_requests.specs.Changing.{opened_at, Receives}

-- why what comes on a stream is refused, a connection fault aside
abbrev pub delivery_refused : EndpointState → ℕ → Kind → Option Refusal
delivery_refused s id Request = request_refusal s.side (option_map (λ r. r.incoming) (kept_at s.requests id))
delivery_refused s id ServerOpened = server_opened_refusal s.side
delivery_refused s id OwnUnidirectional = Some refusal.NotReceiving
delivery_refused s id PeerUnidirectional = closed_refusal (is_closed (unwrap_or (kept_at s.unidirectional id) untold))

abbrev pub arrival_refused : EndpointState → ℕ → Option Refusal
arrival_refused s id = refused_behind (is_closed_in s.kept id) (delivery_refused s id (kind_of s.side id))

-- what it does to the receiver of a request stream
abbrev pub received : Arrival → Incoming → Incoming
received (BytesCame id bytes) i = kept i bytes
received (EndCame id) i = with_end i
received (ResetCame id code) i = given_up_once (record i { was_reset = true }) (stream_fault.Reset code)

abbrev pub replies_to : Arrival → Incoming → List DecoderInstruction
replies_to (BytesCame id bytes) i = []
replies_to (EndCame id) i = []
replies_to (ResetCame id code) i = cancellation id i.fault

-- it is its receiver's, and what is due is written behind the replies
pub record IsReceived (a : Arrival) (old new : Streams RequestState) (before after : List ℕ) : Type 0 where
  pub streams : Receives old new (stream_of a) (received a)
  pub replies : after ≡ before ++ encodings (replies_to a (opened_at old (stream_of a)).incoming)

-- What comes opens a request stream, and is not refused.
pub record ComesFirst (s : EndpointState) (a : Arrival) : Type 0 where
  pub closed : s.closed ≡ None
  pub accepted : arrival_refused s (stream_of a) ≡ None
  pub request : kind_of s.side (stream_of a) ≡ Request
  pub absent : kept_at s.requests (stream_of a) ≡ None

-- what came was stored
abbrev pub is_stored : Result Unit DeliverError → Bool
is_stored (Ok done) = true
is_stored (Err deliver_error.Kept) = true
is_stored (Err e) = false

-- What comes is taken. A request stream on which it comes is there.
pub record IsAccepted (s : EndpointState) (a : Arrival) : Type 0 where
  pub closed : s.closed ≡ None
  pub taken : (e : EndpointHistory) → StandsFor s e → IsTaken e (stream_of a)
  pub there : kind_of s.side (stream_of a) ≡ Request → IsSome (kept_at s.requests (stream_of a))
