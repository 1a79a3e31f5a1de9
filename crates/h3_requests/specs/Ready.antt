-- Which streams are ready: bytes wait on them.
use Rattle.std.specs.Prelude.{◌≡◌, ◌≢◌, ◌≤◌, ℕ, ◌+◌, ◌*◌, Bool, true, false, ◌&&◌, ◌||◌, ◌==◌, if◌then◌else◌, nat_lt, IfSome}
use Rattle.h3_blocked.specs.declared.counts.Blocked.{Blocked}
use Rattle.h3_connection.specs.State.{RequestState, kept_at}
use Rattle.h3_connection.specs.StreamSets.{Streams}
use Rattle.h3_scheduler.specs.Places.{Places}
use Rattle.h3_requests.specs.Classes.{class_at}
use Rattle.h3_requests.specs.Counted.{AreCounted}
use Rattle.h3_requests.specs.Waiting.{has_place, is_waiting}
use Rattle.h3_requests.specs.HasBytes.{has_bytes, has_end, may_end}
use Rattle.h3_requests.specs.Seen.{AreSeen}
use Rattle.h3_requests.specs.declared.waiting.WaitingStreams.{WaitingStreams}
use Rattle.h3_requests.specs.declared.ready.ReadyStreams.{ReadyStreams}
use Rattle.h3_requests.specs.declared.ready.Waits.{Waits}

-- it has a place in the class, so that bytes can come to wait on it
abbrev pub is_listed : ReadyStreams → ℕ → ℕ → Bool
is_listed s = has_place s.bytes

-- bytes wait on it, and it is of this class
abbrev pub is_ready : ReadyStreams → ℕ → ℕ → Bool
is_ready s = is_waiting s.bytes

-- bytes or an end wait on it
abbrev pub stands : ReadyStreams → ℕ → ℕ → Bool
stands s class id = is_ready s class id || is_waiting s.ends class id

-- The places of those that are not held: an urgency has two classes.
abbrev pub stands_in : ReadyStreams → Places
stands_in s urgency incremental id = nat_lt urgency 8 && stands s (urgency * 2 + (if incremental then 1 else 0)) id

-- Until a stream is of a class of its own nothing waits in any class but one.
abbrev pub ArePlain : ReadyStreams → Type 0
ArePlain s = s.has_classes ≡ false → (class id : ℕ) → class ≢ 6 → stands s class id ≡ false

-- the test once a stream left one class for another, in which it passes if it is to, or did
abbrev pub moved : (before after id : ℕ) → Bool → (ℕ → ℕ → Bool) → ℕ → ℕ → Bool
moved before after id is test c q =
    if (c == before) && (q == id) then false else (if (c == after) && (q == id) then is || test c q else test c q)

-- A stream left its class for another, with what of it waits.
pub record Moves (before after id : ℕ) (waits : Waits) (s t : ReadyStreams) : Type 0 where
  pub bytes : (c q : ℕ) → is_ready t c q ≡ moved before after id waits.bytes (is_ready s) c q
  pub ends : (c q : ℕ) → is_waiting t.ends c q ≡ moved before after id waits.end (is_waiting s.ends) c q
  pub places : (c q : ℕ) → q ≢ id → has_place s.ends c q ≡ true → has_place t.ends c q ≡ true
  pub placed : waits.may_end ≡ true → has_place t.ends after id ≡ true
  pub classes : t.has_classes ≡ true

-- ready are the streams on which bytes wait, and no others, each in its class
abbrev pub AreReady : ReadyStreams → Streams RequestState → Type 0
AreReady s streams = (c q : ℕ) → is_ready s c q ≡ (has_bytes (kept_at streams q) && (c == class_at (kept_at streams q)))

-- the ends that wait are those of the streams, and each stream that may be finished has a place in its class
pub record AreEnding (e : WaitingStreams) (streams : Streams RequestState) : Type 0 where
  pub ending : (c q : ℕ) → is_waiting e c q ≡ (has_end (kept_at streams q) && (c == class_at (kept_at streams q)))
  pub placed : (q : ℕ) → may_end (kept_at streams q) ≡ true → has_place e (class_at (kept_at streams q)) q ≡ true

-- an urgency is at most 7
abbrev pub HasUrgency : RequestState → Type 0
HasUrgency r = r.outgoing.precedence.priority.urgency ≤ 7

-- there are eight urgencies, and all streams are of one class until one is of another
pub record AreClassed (s : ReadyStreams) (streams : Streams RequestState) : Type 0 where
  pub few : (q : ℕ) → IfSome (kept_at streams q) HasUrgency
  pub plain : s.has_classes ≡ false → (q : ℕ) → class_at (kept_at streams q) ≡ 6

-- What is kept beside the streams is what they say.
pub record AreKept (counts : Blocked) (s : ReadyStreams) (seen : ℕ) (streams : Streams RequestState) : Type 0 where
  pub counted : AreCounted counts streams
  pub ready : AreReady s streams
  pub ends : AreEnding s.ends streams
  pub seen_at_least : AreSeen seen streams
  pub classed : AreClassed s streams
