-- The end or the reset of a stream, at a receiving half.
use Rattle.std.specs.Prelude.{◌≡◌, ℕ, [], Option, Some, None, Result, Ok, Err}
use Rattle.h3_connection.specs.Calls.{Sets}
use Rattle.h3_connection.specs.StreamSets.{Streams}
use Rattle.h3_connection.specs.declared.event.DeliverError.{DeliverError}
use Rattle.h3_webtransport_streams.specs.Begun.{LeavesBytes, refusal_of, stream_or_unseen}
use Rattle.h3_webtransport_streams.specs.Receiver.{Receiver, with_end, with_reset}
use Rattle.h3_webtransport_streams.specs.SessionStream.{SessionStream}

-- its end (no code), or its reset
abbrev pub closed_by : Option ℕ → Receiver → Receiver
closed_by None r = with_end r
closed_by (Some code) r = with_reset r code

abbrev pub closing : Option ℕ → SessionStream → Option Receiver → SessionStream
closing code s None = s
closing code s (Some r) = record s { receiver = Some (closed_by code r) }

abbrev pub Closes : Streams SessionStream → Streams SessionStream → ℕ → Option ℕ → Result Unit DeliverError → Type 0
Closes old new id code (Ok done) =
    (refusal_of (stream_or_unseen old id).receiver ≡ None) × Sets old new id (closing code (stream_or_unseen old id) (stream_or_unseen old id).receiver)
Closes old new id code (Err e) = LeavesBytes old new [] (refusal_of (stream_or_unseen old id).receiver) e
