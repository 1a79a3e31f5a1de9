-- A stream that is given up both ways: `cancel`, and then `reset`.
use Rattle.std.specs.Prelude.{ℕ, Bool, true, false, if◌then◌else◌, Option, Some, None, is_none, Result, IfOk}
use Rattle.h3_connection.specs.Answers.{call_refused}
use Rattle.h3_connection.specs.Endpoint.{EndpointHistory}
use Rattle.h3_connection.specs.Keeping.{arrival_refusal}
use Rattle.h3_connection.specs.ReadingContracts.{Shows}
use Rattle.h3_connection.specs.Sending.{cancel, does, reset}
use Rattle.h3_connection.specs.SendingContracts.{DoesOrRefuses}
use Rattle.h3_connection.specs.State.{EndpointState}
use Rattle.h3_connection.specs.declared.event.Refusal.{Refusal}
use Rattle.h3_connection.specs.declared.event.Refusal.TheVariants as refusal
use Rattle.h3_session.specs.declared.endpoint.closing.ClosedStream.{ClosedStream}

abbrev pub is_ended : Refusal → Bool
is_ended refusal.Ended = true
is_ended _ = false

-- that a direction is over already refuses nothing
abbrev pub unless_ended : Option Refusal → Option Refusal
unless_ended None = None
unless_ended (Some refused) = if is_ended refused then None else Some refused

-- nothing more is taken of the stream, and what waits on it is dropped, each unless that direction is over
abbrev pub close_stream : EndpointHistory → ℕ → Option Refusal × EndpointHistory
close_stream e id = does (unless_ended (cancel e id).0) e (reset (cancel e id).1 id).1

-- STOP_SENDING is to be sent where neither the end nor a reset came, and RESET_STREAM where the reset is done (RFC 9000, section 3.5)
abbrev pub frames_to_send : EndpointHistory → ℕ → ClosedStream
frames_to_send e id = record { stop_sending = is_none (arrival_refusal e id); reset_stream = is_none (reset (cancel e id).1 id).0 }

-- `close_stream`
pub record ClosesStream (old new : EndpointState) (id : ℕ) (result : Result ClosedStream Refusal) : Type 0 where
  pub closes : DoesOrRefuses (λ e. close_stream e id) old new (call_refused result)
  pub sends : IfOk result (λ frames. Shows (λ e. frames_to_send e id) old frames)
