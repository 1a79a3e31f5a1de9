-- What comes on streams, with sessions beside an endpoint.
use Rattle.std.specs.List.{concat}
use Rattle.std.specs.Prelude.{◌≡◌, ℕ, Bool, true, false, length, List, Option, Some, None, Result, Ok, Err, is_ok, unwrap_or}
use Rattle.h3_field.specs.Field.{Field}
use Rattle.h3_proto.specs.StreamIds.{is_request_stream}
use Rattle.h3_connection.specs.Answers.{call_refused}
use Rattle.h3_connection.specs.Calls.{AllSame, Sets}
use Rattle.h3_connection.specs.Codes.{id_error, stream_creation_error}
use Rattle.h3_connection.specs.EndsWaiting.{TakesEnd}
use Rattle.h3_connection.specs.ReceivingContracts.{Delivers, DeliversEnd, DeliversReset, PullsNext}
use Rattle.h3_connection.specs.SendingContracts.{Cancels, Resets}
use Rattle.h3_connection.specs.State.{EndpointState}
use Rattle.h3_connection.specs.StreamSets.{Streams}
use Rattle.h3_connection.specs.declared.event.DeliverError.{DeliverError}
use Rattle.h3_connection.specs.declared.event.DeliverError.TheVariants.{Refused}
use Rattle.h3_connection.specs.declared.event.Fault.TheVariants.{Connection as Closing, Memory}
use Rattle.h3_connection.specs.declared.event.Item.TheVariants as item
use Rattle.h3_connection.specs.declared.event.Pull.{Pull}
use Rattle.h3_connection.specs.declared.event.Pull.TheVariants as pull
use Rattle.h3_connection.specs.declared.event.Refusal.{Refusal}
use Rattle.h3_connection.specs.declared.event.Refusal.TheVariants.{Connection, NotOpen}
use Rattle.h3_session.specs.Beside.{ShowsEnd}
use Rattle.h3_session.specs.Lacking.{delivery_error}
use Rattle.h3_webtransport_streams.specs.Begun.{Delivers as DeliversRaw, stream_or_unseen}
use Rattle.h3_webtransport_streams.specs.Closing.{Closes}
use Rattle.h3_webtransport_streams.specs.Receiver.{canceled, pulled}
use Rattle.h3_webtransport_streams.specs.Sender.{cut_off, finished}
use Rattle.h3_webtransport_streams.specs.SessionStream.{SessionStream, Changes, entered, gives_up, receiving, sending, unread_of}
use Rattle.h3_webtransport_streams.specs.declared.receiver.Begun.{Begun}
use Rattle.h3_webtransport_streams.specs.declared.receiver.Begun.TheVariants as begun
use Rattle.h3_webtransport.specs.Closing.{Forgets}
use Rattle.h3_webtransport.specs.Joint.{Joint, is_one_way, is_read, may_begin, stored_at}
use Rattle.h3_webtransport.specs.Keeping.{Drops}
use Rattle.h3_webtransport.specs.Parts.{Parts, ActsHere, StreamsAlone, UnlessClosed}

-- bytes that are no front of a session's stream, or whose front names no session, are a fault of the connection
abbrev pub fault_of : Begun → Option ℕ
fault_of (begun.Taken session) = None
fault_of begun.NoFront = Some stream_creation_error
fault_of begun.NoSession = Some id_error

abbrev pub closed_by : Option ℕ → EndpointState → Result Unit DeliverError × EndpointState
closed_by None e = (Ok tt, e)
closed_by (Some code) e = (Err (Refused (Connection code)), record e { closed = Some code })

abbrev pub delivered : Result Begun DeliverError → EndpointState → Result Unit DeliverError × EndpointState
delivered (Ok answer) e = closed_by (fault_of answer) e
delivered (Err error) e = (Err error, e)

-- behind a connection fault nothing is taken
abbrev pub UnlessFaulty : Option ℕ → EndpointState → EndpointState → Joint → Joint → Result Unit DeliverError → Type 0 → Type 0
UnlessFaulty (Some code) e f s t result goes = (result ≡ Err (Refused (Connection code))) × (f ≡ e) × (t ≡ s)
UnlessFaulty None e f s t result goes = goes

-- bytes on a stream that is read beside the endpoint
pub record Arrives (e f : EndpointState) (s t : Joint) (id : ℕ) (bytes : List ℕ) (result : Result Unit DeliverError) : Type 0 where
  pub inner : Result Begun DeliverError
  pub delivers : DeliversRaw s.sessions.streams t.sessions.streams id bytes inner
  pub alone : StreamsAlone s t
  pub is : (result, f) ≡ delivered inner e

-- `deliver`
abbrev pub DeliversOn : EndpointState → EndpointState → Joint → Joint → ℕ → List ℕ → Result Unit DeliverError → Type 0
DeliversOn e f s t id bytes result =
    Parts (is_read s id) (UnlessFaulty e.closed e f s t result (Arrives e f s t id bytes result)) ((t ≡ s) × Delivers e f id bytes result)

-- `bytes_refusal`: what a delivery answers of which there is no memory to copy the bytes
abbrev pub RefusesDeliveriesOn : EndpointState → Joint → ℕ → Option Refusal → Type 0
RefusesDeliveriesOn e s id why = (bytes : List ℕ) → DeliversOn e e s s id bytes (Err (delivery_error why bytes))

-- `unread`: what came and was not pulled, of which nothing counts behind a fault of the connection
abbrev pub raw_unread : Option ℕ → Joint → ℕ → ℕ
raw_unread (Some code) s id = 0
raw_unread None s id = length (concat (unread_of (stream_or_unseen s.sessions.streams id).receiver))

-- `deliver_end` (no code) and `deliver_reset`
abbrev pub Ends : EndpointState → EndpointState → ℕ → Option ℕ → Result Unit DeliverError → Type 0
Ends e f id None result = DeliversEnd e f id result
Ends e f id (Some code) result = DeliversReset e f id code result

abbrev pub EndsOn : EndpointState → EndpointState → Joint → Joint → ℕ → Option ℕ → Result Unit DeliverError → Type 0
EndsOn e f s t id code result =
    Parts (is_read s id)
    (UnlessFaulty e.closed e f s t result ((f ≡ e) × Closes s.sessions.streams t.sessions.streams id code result × StreamsAlone s t))
    ((t ≡ s) × Ends e f id code result)

-- A stream of the peer that goes one way is given up where the endpoint reads it, and what comes from then on is read beside the endpoint: it is thrown away.
abbrev pub GivesUp : Option Refusal → Joint → Joint → ℕ → Bool → Type 0
GivesUp None s t id ended = Changes (λ x. gives_up x ended) s.sessions.streams t.sessions.streams id × StreamsAlone s t
GivesUp (Some r) s t id ended = t ≡ s

pub record CancelsOneWay (e f : EndpointState) (s t : Joint) (id : ℕ) (result : Result Unit Refusal) : Type 0 where
  pub ended : Bool
  pub shows : ShowsEnd e id ended
  pub drops : Drops e f id result
  pub gives_up : GivesUp (call_refused result) s t id ended

-- `cancel`
pub record CancelsOn (e f : EndpointState) (s t : Joint) (id : ℕ) (result : Result Unit Refusal) : Type 0 where
  pub own : is_read s id ≡ true
      → (f ≡ e) × UnlessClosed e.closed s t (call_refused result) (ActsHere (Some NotOpen) (receiving (Some NotOpen) canceled) s t id (call_refused result))
  pub one_way : is_read s id ≡ false → is_one_way s id ≡ true → CancelsOneWay e f s t id result
  pub other : is_read s id ≡ false → is_one_way s id ≡ false → (t ≡ s) × Cancels e f id result

-- What comes next on a stream that is read beside the endpoint, where it is there
abbrev pub pulls_raw : SessionStream → Pull × SessionStream
pulls_raw s = receiving pull.NoMessages (λ r. pulled r s.session) s

abbrev pub PullsThere : Joint → Joint → ℕ → Pull → Option SessionStream → Type 0
PullsThere s t id answer None = (answer ≡ pull.Pending) × (t ≡ s)
PullsThere s t id answer (Some there) = ActsHere pull.NoMessages pulls_raw s t id answer

abbrev pub PullsRaw : Option ℕ → Joint → Joint → ℕ → Pull → Type 0
PullsRaw (Some code) s t id answer = (answer ≡ pull.Fault (Closing code)) × (t ≡ s)
PullsRaw None s t id answer = PullsThere s t id answer (stored_at s id)

-- A stream that the endpoint reads, and that may turn out to be of a session.
abbrev pub session_of : Pull → Option ℕ
session_of (pull.Item (item.Session session)) = Some session
session_of _ = None

-- It goes both ways, and this side sends on it. Where sending there has ended before it has ended here, and an end that waited there waits here.
abbrev pub joined : ℕ → Bool → Bool → SessionStream
joined session true waited = entered session true
joined session false true = (sending (Some NotOpen) finished (entered session true)).1
joined session false false = (sending (Some NotOpen) cut_off (entered session true)).1

-- where sending has ended before: whether its end waits, which is taken there
abbrev pub TakesWaiting : Bool → EndpointState → EndpointState → ℕ → Bool → Type 0
TakesWaiting true e f id waited = (waited ≡ false) × (f ≡ e)
TakesWaiting false e f id waited = TakesEnd e f id waited

-- it is entered, and no message goes out on it
pub record EntersBothWays (e f : EndpointState) (old new : Streams SessionStream) (id session : ℕ) : Type 0 where
  pub result : Result Unit Refusal
  pub mid : EndpointState
  pub waited : Bool
  pub resets : Resets e mid id result
  pub takes : TakesWaiting (is_ok result) mid f id waited
  pub sets : Sets old new id (joined session (is_ok result) waited)

abbrev pub Enters : EndpointState → EndpointState → Streams SessionStream → Streams SessionStream → ℕ → ℕ → Bool → Type 0
Enters e f old new id session true = EntersBothWays e f old new id session
Enters e f old new id session false = (f ≡ e) × Sets old new id (entered session false)

abbrev pub Begins : Bool → EndpointState → EndpointState → Joint → Joint → ℕ → ℕ → Pull → Pull → Type 0
Begins true e f s t id session inner answer = (answer ≡ inner) × Enters e f s.sessions.streams t.sessions.streams id session (is_request_stream id)
Begins false e f s t id session inner answer =
    (answer ≡ pull.Fault (Closing (unwrap_or e.closed id_error))) × AllSame s.sessions.streams t.sessions.streams × (f ≡ record e { closed = Some (unwrap_or e.closed id_error) })

-- the same of one for which there is room already
abbrev pub BeginsAt : Bool → EndpointState → EndpointState → Joint → Joint → ℕ → ℕ → Pull → Pull → Type 0
BeginsAt true e f s t id session inner answer = (answer ≡ inner) × Enters e f s.sessions.streams t.sessions.streams id session (is_request_stream id)
BeginsAt false e f s t id session inner answer =
    (answer ≡ pull.Fault (Closing (unwrap_or e.closed id_error))) × Forgets s t id × (f ≡ record e { closed = Some (unwrap_or e.closed id_error) })

-- the list of fields that is kept then, if any
abbrev pub ListsAgain : Bool → Option (List Field) → Option (List Field) → Type 0
ListsAgain true old new = new ≡ old
ListsAgain false old new = new ≡ None

abbrev pub BeginsIf : Option ℕ → EndpointState → EndpointState → Joint → Joint → ℕ → Pull → Pull → Type 0
BeginsIf None e f s t id inner answer = (answer ≡ inner) × (f ≡ e) × AllSame s.sessions.streams t.sessions.streams
BeginsIf (Some session) e f s t id inner answer = Begins (is_request_stream session) e f s t id session inner answer

-- there was no room for it, and nothing was pulled; or it was pulled
pub data PullsFirst (e f : EndpointState) (s t : Joint) (id : ℕ) (answer : Pull) : Type 0 where
  lacks : answer ≡ pull.Fault Memory → f ≡ e → AllSame s.sessions.streams t.sessions.streams → PullsFirst e f s t id answer
  pulls : (inner : Pull) (next : EndpointState) → PullsNext e next id inner → BeginsIf (session_of inner) next f s t id inner answer → PullsFirst e f s t id answer

-- `pull_block`
pub record PullsOn (e f : EndpointState) (s t : Joint) (id : ℕ) (answer : Pull) : Type 0 where
  pub first : may_begin s id ≡ true → PullsFirst e f s t id answer × StreamsAlone s t
  pub own : is_read s id ≡ true → (f ≡ e) × PullsRaw e.closed s t id answer
  pub other : may_begin s id ≡ false → is_read s id ≡ false → (t ≡ s) × PullsNext e f id answer
