-- Giving a stream up both ways, with sessions beside an endpoint.
use Rattle.std.specs.Prelude.{◌≡◌, ◌≢◌, ◌||◌, ℕ, Bool, true, false, not, if◌then◌else◌, Option, Some, None, is_none, Result, Ok, Err, ◌&&◌, is_some}
use Rattle.h3_proto.specs.StreamIds.{is_request_stream}
use Rattle.h3_connection.specs.Answers.{call_refused}
use Rattle.h3_connection.specs.ReceivingContracts.{DeliversReset}
use Rattle.h3_connection.specs.SendingContracts.{Resets}
use Rattle.h3_connection.specs.State.{EndpointState}
use Rattle.h3_connection.specs.declared.event.DeliverError.{DeliverError}
use Rattle.h3_connection.specs.declared.event.DeliverError.TheVariants as deliver_error
use Rattle.h3_connection.specs.declared.event.Refusal.{Refusal}
use Rattle.h3_connection.specs.declared.event.Refusal.TheVariants.{Closed, Connection, OutOfMemory}
use Rattle.h3_session.specs.Closing.{ClosesStream}
use Rattle.h3_session.specs.Lacking.{RefusesDeliveries}
use Rattle.h3_session.specs.declared.endpoint.closing.ClosedStream.{ClosedStream}
use Rattle.h3_webtransport_streams.specs.Begun.{refusal_of}
use Rattle.h3_webtransport_streams.specs.Receiver.{Receiver}
use Rattle.h3_webtransport_streams.specs.Sender.{Sender, is_end_next, is_sent_off}
use Rattle.h3_webtransport_streams.specs.SessionStream.{passes, receiver_of, sender_of}
use Rattle.h3_webtransport.specs.Joint.{Joint, has_stream, is_server_opened, stored_at}
use Rattle.h3_webtransport.specs.Keeping.{Drops, ReadsKept, given_up_code}
use Rattle.h3_webtransport.specs.Parts.{Parts, StreamsAlone}

-- whether STOP_SENDING is to be sent, as the endpoint's own call says of a request
abbrev pub stop_of : Result ClosedStream Refusal → Result Bool Refusal
stop_of (Ok frames) = Ok frames.stop_sending
stop_of (Err refusal) = Err refusal

-- What this call answers by that of a delivered reset: a fault that was found in what was kept before closes the connection, and a reset that is kept
-- is stored, so that nothing but it comes of the stream.
abbrev pub closed_as : Refusal → Refusal
closed_as (Connection code) = Closed code
closed_as r = r

abbrev pub ended_as : Result Unit DeliverError → Result Bool Refusal
ended_as (Ok done) = Ok true
ended_as (Err (deliver_error.Refused r)) = Err (closed_as r)
ended_as (Err (deliver_error.OutOfMemory bytes)) = Err OutOfMemory
ended_as (Err deliver_error.Kept) = Ok true

-- no message goes out on it
abbrev pub ResetsIf : Result Bool Refusal → EndpointState → EndpointState → ℕ → Type 0
ResetsIf (Ok stop) e f id = (result : Result Unit Refusal) × Resets e f id result
ResetsIf (Err refusal) e f id = f ≡ e

-- Nothing more of it is delivered, so where its end is still to come it ends as if its sender had reset it; for want of memory nothing is done,
pub record EndsRequest (e f : EndpointState) (id : ℕ) (result : Result Bool Refusal) : Type 0 where
  pub reset : Result Unit DeliverError
  pub mid : EndpointState
  pub delivers : DeliversReset e mid id given_up_code reset
  pub resets : ResetsIf result mid f id
  pub is : result ≡ ended_as reset

-- and else it is given up as by the endpoint's own call.
pub record GivesUpRequest (e f : EndpointState) (id : ℕ) (result : Result Bool Refusal) : Type 0 where
  pub inner : Result ClosedStream Refusal
  pub closes : ClosesStream e f id inner
  pub is : result ≡ stop_of inner

abbrev pub EndsUnless : Option Refusal → EndpointState → EndpointState → ℕ → Result Bool Refusal → Type 0
EndsUnless None e f id result = EndsRequest e f id result
EndsUnless (Some refusal) e f id result = GivesUpRequest e f id result

pub record StopsRequest (e f : EndpointState) (id : ℕ) (result : Result Bool Refusal) : Type 0 where
  pub why : Option Refusal
  pub shows : RefusesDeliveries e id why
  pub ends : EndsUnless why e f id result

-- What was kept is read first, so that no reset is kept.
abbrev pub StopsIf : Result Unit Refusal → EndpointState → EndpointState → ℕ → Result Bool Refusal → Type 0
StopsIf (Ok done) e f id result = StopsRequest e f id result
StopsIf (Err refusal) e f id result = (result ≡ Err refusal) × (f ≡ e)

pub record StopsBehind (e f : EndpointState) (id : ℕ) (result : Result Bool Refusal) : Type 0 where
  pub read : Result Unit Refusal
  pub mid : EndpointState
  pub reads : ReadsKept e mid read
  pub stops : StopsIf read mid f id result

-- as what refuses bytes says of one that goes one way, unless what came on it could not be dropped
abbrev pub dropped_as : Option Refusal → Option Refusal → Result Bool Refusal
dropped_as (Some OutOfMemory) why = Err OutOfMemory
dropped_as (Some (Closed code)) why = Err (Closed code)
dropped_as dropped why = Ok (is_none why)

pub record StopsOneWay (e f : EndpointState) (id : ℕ) (result : Result Bool Refusal) : Type 0 where
  pub why : Option Refusal
  pub dropped : Result Unit Refusal
  pub shows : RefusesDeliveries e id why
  pub drops : Drops e f id dropped
  pub is : result ≡ dropped_as (call_refused dropped) why

abbrev pub StopsAt : Bool → EndpointState → EndpointState → ℕ → Result Bool Refusal → Type 0
StopsAt true e f id result = StopsBehind e f id result
StopsAt false e f id result = StopsOneWay e f id result

-- What comes on a stream of a session is given up: where it is read here nothing is left to be done, and the endpoint gives up what it reads.
abbrev pub Stops : Option Receiver → EndpointState → EndpointState → ℕ → Result Bool Refusal → Type 0
Stops None e f id result = StopsAt (is_request_stream id) e f id result
Stops (Some receiver) e f id result = (result ≡ Ok (is_none (refusal_of (Some receiver)))) × (f ≡ e)

-- Nothing is kept of it then.
abbrev pub Forgets : Joint → Joint → ℕ → Type 0
Forgets s t id = (stored_at t id ≡ None) × ((q : ℕ) → q ≢ id → stored_at t q ≡ stored_at s q) × StreamsAlone s t

-- RESET_STREAM is to be sent unless it was sent before or QUIC took the FIN: nothing is kept of the stream, so no FIN waits on
abbrev pub is_cut : Sender → Bool
is_cut x = is_end_next x || not (is_sent_off x)

-- and so of one that a server opened of which no session is known yet: its client has sent nothing there
abbrev pub is_unheard : Joint → ℕ → Bool
is_unheard s id = is_server_opened s.side id && not (is_some (sender_of (stored_at s id)))

abbrev pub resets_raw : Joint → ℕ → Bool
resets_raw s id = is_unheard s id || passes is_cut (sender_of (stored_at s id))

abbrev pub Gives : Result Bool Refusal → Joint → Joint → ℕ → Result ClosedStream Refusal → Type 0
Gives (Ok stop) s t id result = (result ≡ Ok (record { stop_sending = stop; reset_stream = resets_raw s id })) × Forgets s t id
Gives (Err refusal) s t id result = (result ≡ Err refusal) × (t ≡ s)

pub record ClosesRaw (e f : EndpointState) (s t : Joint) (id : ℕ) (result : Result ClosedStream Refusal) : Type 0 where
  pub stopped : Result Bool Refusal
  pub stops : Stops (receiver_of (stored_at s id)) e f id stopped
  pub gives : Gives stopped s t id result

abbrev pub ClosesUnless : Option ℕ → EndpointState → EndpointState → Joint → Joint → ℕ → Result ClosedStream Refusal → Type 0
ClosesUnless (Some code) e f s t id result = (result ≡ Err (Closed code)) × (f ≡ e) × (t ≡ s)
ClosesUnless None e f s t id result = ClosesRaw e f s t id result

-- `close_stream`
abbrev pub ClosesOn : EndpointState → EndpointState → Joint → Joint → ℕ → Result ClosedStream Refusal → Type 0
ClosesOn e f s t id result = Parts (has_stream s id) (ClosesUnless e.closed e f s t id result) ((t ≡ s) × ClosesStream e f id result)
