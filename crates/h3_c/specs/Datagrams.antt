-- What the exports promise of HTTP Datagrams and of capsules (RFC 9297).
use Rattle.std.specs.Prelude.{◌≡◌, ℕ, ◌^◌, ◌&&◌, ◌++◌, List, length, drop, nat_lt, if◌then◌else◌, Result, Ok, Err}
use Rattle.h3_capsule.specs.Capsule.{capsule_head, is_between, read_on}
use Rattle.h3_capsule.specs.ReaderStates.{place_of_state}
use Rattle.h3_capsule.specs.declared.capsule.Capsule.{Capsule}
use Rattle.h3_capsule.specs.declared.capsule.Capsule.TheVariants.{Head, Value, End, Pending}
use Rattle.h3_capsule.specs.declared.capsule.ReaderState.{ReaderState}
use Rattle.h3_connection.specs.Endpoint.{EndpointHistory}
use Rattle.h3_connection.specs.State.{StandsFor}
use Rattle.h3_session.specs.Datagrams.{datagram_head, ReadsDatagram}
use Rattle.h3_session.specs.declared.endpoint.datagrams.DatagramError.{DatagramError}
use Rattle.h3_session.specs.declared.endpoint.datagrams.DatagramRead.{DatagramRead}
use Rattle.h3_session.specs.declared.endpoint.datagrams.DatagramRead.TheVariants.{For, Early, Late, Off, Fault}
use Rattle.h3_c.specs.declared.capsules.CapsuleTold.{CapsuleTold}
use Rattle.h3_c.specs.declared.numbers.Told.{Told}
use Rattle.h3_c.specs.Numbers.{argument, datagram_told, no_datagrams, number, ok, room}
use Rattle.h3_c.specs.Seen.{Seen}
use Rattle.h3_c.specs.Bits.{bit}

-- A number, C's buffer, and how many bytes of it were written. What stands in front of a payload or a value is written at the front of the buffer,
-- whose rest stays; or nothing is, since the buffer is too small.
abbrev pub Put : Type 0
Put = Told × List ℕ × ℕ

abbrev pub put_head : List ℕ → List ℕ → ℕ → Put
put_head head buffer count =
    if nat_lt (length buffer) (length head) then (room, buffer, count) else (ok, head ++ drop (length head) buffer, length head)

-- `h3_datagram_head`: a refusal writes nothing
abbrev pub head_given : Result (List ℕ) DatagramError → List ℕ → ℕ → Put
head_given (Ok head) buffer count = put_head head buffer count
head_given (Err error) buffer count = (datagram_told error, buffer, count)

abbrev pub GivesHead : Seen → ℕ → Told → List ℕ → List ℕ → ℕ → ℕ → Type 0
GivesHead v id n before after count count_after =
    (e : EndpointHistory) → StandsFor v.endpoint e → (n, after, count_after) ≡ head_given (datagram_head e id) before count

-- A number, an id, and where a payload begins: what is not told stays as it was.
abbrev pub read_given : DatagramRead → ℕ → ℕ → Told × ℕ × ℕ
read_given (For stream place) id from = (ok, stream, place)
read_given (Early stream) id from = (number 9 0, stream, from)
read_given Late id from = (number 4 0, id, from)
read_given Off id from = (no_datagrams, id, from)
read_given (Fault code) id from = (number 2 code, id, from)

-- `h3_read_datagram`: a fault closes the connection, and nothing else changes
pub record ReadsOne (v w : Seen) (bytes : List ℕ) (n : Told) (id id_after from from_after : ℕ) : Type 0 where
  pub answer : DatagramRead
  pub is : (n, id_after, from_after) ≡ read_given answer id from
  pub done : ReadsDatagram v.endpoint w.endpoint bytes answer
  pub rest : w.endpoint ≡ record v.endpoint { closed = w.endpoint.closed }
  pub last : w.last ≡ v.last
  pub events : w.events ≡ v.events

-- `h3_capsule`
abbrev pub capsule_shown : Capsule → CapsuleTold
capsule_shown Pending = record { part = 0; capsule_type = 0; length = 0 }
capsule_shown (Head kind len) = record { part = 1; capsule_type = kind; length = len }
capsule_shown (Value count) = record { part = 2; capsule_type = 0; length = count }
capsule_shown End = record { part = 3; capsule_type = 0; length = 0 }

-- `h3_read_capsule`
pub record ReadsCapsule (before after : ReaderState) (bytes : List ℕ) (n used : ℕ) (shown : CapsuleTold) : Type 0 where
  pub answer : Capsule
  pub reads : read_on (place_of_state before) bytes ≡ (used, answer, place_of_state after)
  pub is : shown ≡ capsule_shown answer
  pub done : n ≡ ok.number

-- `h3_capsule_head`: a type or a length of 2^62 or more is refused, and nothing is written
abbrev pub capsule_head_given : ℕ → ℕ → List ℕ → ℕ → Put
capsule_head_given kind len buffer count =
    if nat_lt kind (2 ^ 62) && nat_lt len (2 ^ 62) then put_head (capsule_head kind len) buffer count else (argument, buffer, count)

-- `h3_capsule_ends`: 1 or 0
abbrev pub ShowsEnds : ReaderState → ℕ → ℕ → Type 0
ShowsEnds reader n ends = (n ≡ ok.number) × (ends ≡ bit (is_between (place_of_state reader)))
