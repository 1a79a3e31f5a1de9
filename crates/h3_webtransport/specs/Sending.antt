-- What calls that send do, with sessions beside an endpoint.
use Rattle.std.specs.Prelude.{◌≡◌, ◌+◌, ◌==◌, ◌&&◌, ◌++◌, ℕ, Bool, false, List, length, take, drop, min, Option, Some, None, Result, Ok, Err, unwrap_or}
use Rattle.h3_connection.specs.Answers.{call_refused}
use Rattle.h3_connection.specs.EndsWaiting.{TakesEnd}
use Rattle.h3_connection.specs.SendingContracts.{Finishes, Resets}
use Rattle.h3_connection.specs.State.{EndpointState}
use Rattle.h3_connection.specs.declared.event.Refusal.{Refusal}
use Rattle.h3_connection.specs.declared.event.Refusal.TheVariants.{Closed, NotOpen, OutOfMemory}
use Rattle.h3_webtransport_streams.specs.Sender.{cut_off, end_told, finished, sent}
use Rattle.h3_webtransport_streams.specs.SessionStream.{SessionStream, answer_at, passes, sender_of, sending, waiting_of}
use Rattle.h3_webtransport.specs.Joint.{Joint, has_stream, stored_at}
use Rattle.h3_webtransport.specs.Parts.{Parts, ActsHere, StreamsAlone, UnlessClosed}

-- sending bytes on a stream
abbrev pub sends_raw : List ℕ → SessionStream → Option Refusal × SessionStream
sends_raw bytes s = sending (Some NotOpen) (λ x. sent x bytes) s

-- `send_raw`: what refuses bytes, out of memory aside,
abbrev pub raw_refusal : Option ℕ → Option SessionStream → List ℕ → Option Refusal
raw_refusal (Some code) there bytes = Some (Closed code)
raw_refusal None there bytes = answer_at (Some NotOpen) (sends_raw bytes) there

-- and what it does
abbrev pub SendsRaw : EndpointState → Joint → Joint → ℕ → List ℕ → Result Unit (Refusal × List ℕ) → Type 0
SendsRaw e s t id bytes (Ok done) = (e.closed ≡ None) × ActsHere (Some NotOpen) (sends_raw bytes) s t id None
SendsRaw e s t id bytes (Err (refusal, back)) = (refusal ≡ unwrap_or (raw_refusal e.closed (stored_at s id) bytes) OutOfMemory) × (back ≡ bytes)
    × ((q : ℕ) → stored_at t q ≡ stored_at s q) × StreamsAlone s t

-- `finish` and `reset`
abbrev pub FinishesOn : EndpointState → EndpointState → Joint → Joint → ℕ → Result Unit Refusal → Type 0
FinishesOn e f s t id result =
    Parts (has_stream s id)
    ((f ≡ e) × UnlessClosed e.closed s t (call_refused result) (ActsHere (Some NotOpen) (sending (Some NotOpen) finished) s t id (call_refused result)))
    ((t ≡ s) × Finishes e f id result)

abbrev pub ResetsOn : EndpointState → EndpointState → Joint → Joint → ℕ → Result Unit Refusal → Type 0
ResetsOn e f s t id result =
    Parts (has_stream s id)
    ((f ≡ e) × UnlessClosed e.closed s t (call_refused result) (ActsHere (Some NotOpen) (sending (Some NotOpen) cut_off) s t id (call_refused result)))
    ((t ≡ s) × Resets e f id result)

-- `end_taken`
abbrev pub TakesEndOn : EndpointState → EndpointState → Joint → Joint → ℕ → Bool → Type 0
TakesEndOn e f s t id result =
    Parts (has_stream s id) ((f ≡ e) × ActsHere false (sending false end_told) s t id result) ((t ≡ s) × TakesEnd e f id result)

-- what waits on a stream of a session
abbrev pub raw_waiting : Joint → ℕ → List ℕ
raw_waiting s id = waiting_of (sender_of (stored_at s id))

abbrev pub raw_finished : Joint → ℕ → Bool
raw_finished s id = passes (λ x. x.is_finished) (sender_of (stored_at s id))

abbrev pub raw_reset : Joint → ℕ → Bool
raw_reset s id = passes (λ x. x.is_reset) (sender_of (stored_at s id))

-- the first of these bytes stand at the front of the buffer, as many as fit; whether they are all, and the stream was finished
pub record CopiesRaw (s : Joint) (id : ℕ) (before after : List ℕ) (count past : ℕ) (is_last : Bool) : Type 0 where
  pub count_is : count ≡ min (length (raw_waiting s id)) (length before)
  pub front : after ≡ take (length before) (raw_waiting s id) ++ drop (length (raw_waiting s id)) before
  pub none : past ≡ 0
  pub last : is_last ≡ (raw_finished s id && (length (raw_waiting s id) == count))
