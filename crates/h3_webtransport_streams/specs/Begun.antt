-- What bytes did that came on a stream, by what its receiving half answers.
use Rattle.std.specs.Prelude.{◌≡◌, ℕ, Bool, false, List, drop, Option, Some, None, is_some, unwrap_or, Result, Ok, Err}
use Rattle.h3_connection.specs.Calls.{AllSame, Sets}
use Rattle.h3_connection.specs.State.{kept_at}
use Rattle.h3_connection.specs.StreamSets.{Streams}
use Rattle.h3_connection.specs.declared.event.DeliverError.{DeliverError}
use Rattle.h3_connection.specs.declared.event.DeliverError.TheVariants as deliver_error
use Rattle.h3_connection.specs.declared.event.Refusal.{Refusal}
use Rattle.h3_connection.specs.declared.event.Refusal.TheVariants.{NotReceiving}
use Rattle.h3_capsule.specs.ReaderStates.{place_of_state}
use Rattle.h3_webtransport_streams.specs.Receiver.{Receiver, Arrived, came, closed_refusal, with_bytes}
use Rattle.h3_webtransport_streams.specs.Receiver.Arrived.{Taken, NoFront, NoSession}
use Rattle.h3_webtransport_streams.specs.SessionStream.{SessionStream, told_by, unseen}
use Rattle.h3_webtransport_streams.specs.declared.receiver.Begun.{Begun}
use Rattle.h3_webtransport_streams.specs.declared.receiver.Begun.TheVariants as begun
use Rattle.h3_webtransport_streams.specs.declared.receiver.FrontRead.{FrontRead}
use Rattle.h3_webtransport_streams.specs.declared.receiver.FrontRead.TheVariants as front

-- a receiver's answer says what the bytes did; if they are no front of a session's stream nothing changes
abbrev pub ArrivesAs : Receiver → Receiver → Begun → Arrived → Type 0
ArrivesAs old new (begun.Taken session) arrived = arrived ≡ Taken session new
ArrivesAs old new begun.NoFront arrived = (arrived ≡ NoFront) × (new ≡ old)
ArrivesAs old new begun.NoSession arrived = (arrived ≡ NoSession) × (new ≡ old)

-- what bytes told of a front, and the receiver behind them
abbrev pub arrived_by : FrontRead → Receiver → List ℕ → Arrived
arrived_by (front.Partly state) r bytes = Taken None (record r { front = Some (place_of_state state) })
arrived_by (front.Whole session used) r bytes = Taken (Some session) (with_bytes r (drop used bytes))
arrived_by front.NoFront r bytes = NoFront
arrived_by front.NoSession r bytes = NoSession

abbrev pub used_of : FrontRead → ℕ
used_of (front.Whole session used) = used
used_of _ = 0

-- what is answered of it
abbrev pub begun_by : Arrived → Begun
begun_by (Taken session receiver) = begun.Taken session
begun_by NoFront = begun.NoFront
begun_by NoSession = begun.NoSession

-- they told a session
abbrev pub tells_session : Begun → Bool
tells_session (begun.Taken session) = is_some session
tells_session begun.NoFront = false
tells_session begun.NoSession = false

-- a stream of the peer, of which perhaps nothing came
abbrev pub stream_or_unseen : Streams SessionStream → ℕ → SessionStream
stream_or_unseen streams id = unwrap_or (kept_at streams id) unseen

-- why nothing is taken on a stream
abbrev pub refusal_of : Option Receiver → Option Refusal
refusal_of None = Some NotReceiving
refusal_of (Some r) = closed_refusal r

-- the bytes were taken, or the first of them are no front
abbrev pub TakesBytes : Streams SessionStream → Streams SessionStream → ℕ → List ℕ → SessionStream → Option Receiver → Begun → Type 0
TakesBytes old new id bytes s None answer = ⊥
TakesBytes old new id bytes s (Some r) answer = (answer ≡ begun_by (came r bytes)) × Sets old new id (told_by s (came r bytes))

-- they were not: refused by a rule, or an allocation failed, and they come back
abbrev pub LeavesBytes : Streams SessionStream → Streams SessionStream → List ℕ → Option Refusal → DeliverError → Type 0
LeavesBytes old new bytes why (deliver_error.Refused r) = (why ≡ Some r) × AllSame old new
LeavesBytes old new bytes why (deliver_error.OutOfMemory back) = (why ≡ None) × (back ≡ bytes) × AllSame old new
LeavesBytes old new bytes why deliver_error.Kept = ⊥

abbrev pub Delivers : Streams SessionStream → Streams SessionStream → ℕ → List ℕ → Result Begun DeliverError → Type 0
Delivers old new id bytes (Ok answer) =
    (refusal_of (stream_or_unseen old id).receiver ≡ None) × TakesBytes old new id bytes (stream_or_unseen old id) (stream_or_unseen old id).receiver answer
Delivers old new id bytes (Err e) = LeavesBytes old new bytes (refusal_of (stream_or_unseen old id).receiver) e
