-- Lists of calls of one endpoint.
use Rattle.std.specs.Prelude.{ℕ, Bool, List, [], ◌∷◌, Option, Some, None}
use Rattle.h3_header.specs.Head.{Head}
use Rattle.h3_connection.specs.declared.event.Refusal.{Refusal}
use Rattle.h3_connection.specs.declared.event.Pull.{Pull}
use Rattle.h3_connection.specs.declared.event.PeerLimits.{PeerLimits}
use Rattle.h3_connection.specs.declared.event.TableSizes.{TableSizes}
use Rattle.h3_connection.specs.Endpoint.{EndpointHistory, bytes_waiting}
use Rattle.h3_connection.specs.Shown.{peer_limits, table_sizes, waiting_heads}
use Rattle.h3_connection.specs.Delivering.{deliver, deliver_end, deliver_reset}
use Rattle.h3_connection.specs.EndsWaiting.{end_taken}
use Rattle.h3_connection.specs.Sending.{open_request, send_head, send_body, send_trailer, finish, reset, goaway, advance, cancel, pull}

pub data Call : Type 0 where
  OpenRequest : Call
  SendHead : (id : ℕ) (head : Head) → Call
  SendBody : (id : ℕ) (bytes : List ℕ) → Call
  SendTrailer : (id : ℕ) (head : Head) → Call
  Finish : (id : ℕ) → Call
  Reset : (id : ℕ) → Call
  Goaway : (id : ℕ) → Call
  Advance : (id count : ℕ) → Call
  TakeEnd : (id : ℕ) → Call
  Outgoing : (id : ℕ) → Call
  Deliver : (id : ℕ) (bytes : List ℕ) → Call
  DeliverEnd : (id : ℕ) → Call
  DeliverReset : (id code : ℕ) → Call
  PullStream : (id : ℕ) → Call
  Cancel : (id : ℕ) → Call
  Show : Call

pub data Result : Type 0 where
  Opened : (id : ℕ) → Result
  Done : Result
  Refused : (refusal : Refusal) → Result
  Waits : (bytes : List ℕ) → Result
  Took : (waited : Bool) → Result
  Pulled : (answer : Pull) → Result
  Shown : (limits : Option PeerLimits) (sizes : TableSizes) (waiting : ℕ) → Result

abbrev pub done : Result → Option Refusal × EndpointHistory → Result × EndpointHistory
done success (None, e) = (success, e)
done success (Some r, e) = (Refused r, e)

abbrev pub was_pulled : Pull × EndpointHistory → Result × EndpointHistory
was_pulled (answer, e) = (Pulled answer, e)

abbrev pub took : Bool × EndpointHistory → Result × EndpointHistory
took (waited, e) = (Took waited, e)

abbrev pub shown : EndpointHistory → Result
shown e = Shown (peer_limits e) (table_sizes e) (waiting_heads e)

abbrev pub called : EndpointHistory → Call → Result × EndpointHistory
called e OpenRequest = done (Opened e.next_id) (open_request e)
called e (SendHead id head) = done Done (send_head e id head)
called e (SendBody id bytes) = done Done (send_body e id bytes)
called e (SendTrailer id head) = done Done (send_trailer e id head)
called e (Finish id) = done Done (finish e id)
called e (Reset id) = done Done (reset e id)
called e (Goaway id) = done Done (goaway e id)
called e (Advance id count) = (Done, advance e id count)
called e (TakeEnd id) = took (end_taken e id)
called e (Outgoing id) = (Waits (bytes_waiting e id), e)
called e (Deliver id bytes) = done Done (deliver e id bytes)
called e (DeliverEnd id) = done Done (deliver_end e id)
called e (DeliverReset id code) = done Done (deliver_reset e id code)
called e (PullStream id) = was_pulled (pull e id)
called e (Cancel id) = done Done (cancel e id)
called e Show = (shown e, e)

-- the answers to the calls, in order, and the endpoint after them
abbrev pub answers : EndpointHistory → List Call → List Result
answers e [] = []
answers e (call ∷ calls) = let next = called e call in next.0 ∷ answers next.1 calls

abbrev pub endpoint_after : EndpointHistory → List Call → EndpointHistory
endpoint_after e [] = e
endpoint_after e (call ∷ calls) = endpoint_after (called e call).1 calls
