-- What is sent on a stream of a session: bytes as they are, behind the stream's front (draft-ietf-webtrans-http3-02, section 4).
use Rattle.std.specs.Prelude.{ℕ, Bool, true, false, not, ◌&&◌, ◌||◌, ◌==◌, nat_lt, List, [], ◌++◌, length, drop, Option, Some, None, if◌then◌else◌}
use Rattle.h3_coding.specs.Encodings.{encoding}
use Rattle.h3_connection.specs.declared.event.Refusal.{Refusal}
use Rattle.h3_connection.specs.declared.event.Refusal.TheVariants.{OutOfOrder, Ended}

pub record Sender : Type 0 where
  -- what was written and not taken
  pub waiting : List ℕ
  pub is_finished : Bool
  pub is_reset : Bool
  -- QUIC took its FIN
  pub end_taken : Bool
  -- QUIC has no credit for it
  pub is_held : Bool

-- what a stream begins with that is opened for a session: its type and the id of the session
abbrev pub front_both_ways : ℕ → List ℕ
front_both_ways session = encoding 0x41 ++ encoding session

abbrev pub front_one_way : ℕ → List ℕ
front_one_way session = encoding 0x54 ++ encoding session

-- nothing was sent behind this front, which the peer wrote where it is empty
abbrev pub beginning : List ℕ → Sender
beginning front = record { waiting = front; is_finished = false; is_reset = false; end_taken = false; is_held = false }

abbrev pub goes_on : Sender → Bool
goes_on s = not s.is_finished && not s.is_reset

-- nothing is left to be sent
abbrev pub is_sent_off : Sender → Bool
is_sent_off s = s.is_reset || (s.is_finished && (length s.waiting == 0))

abbrev pub end_waits : Sender → Bool
end_waits s = s.is_finished && not s.end_taken

-- its end is next: no bytes wait ahead of it
abbrev pub is_end_next : Sender → Bool
is_end_next s = end_waits s && (length s.waiting == 0)

abbrev pub has_to_send : Sender → Bool
has_to_send s = nat_lt 0 (length s.waiting) || end_waits s

-- it has something to send, and QUIC has credit for it
abbrev pub sends : Sender → Bool
sends s = not s.is_held && has_to_send s

-- What a call answers, and the sender after it.
abbrev pub sent : Sender → List ℕ → Option Refusal × Sender
sent s bytes = if goes_on s then (None, record s { waiting = s.waiting ++ bytes }) else (Some OutOfOrder, s)

abbrev pub finished : Sender → Option Refusal × Sender
finished s = if goes_on s then (None, record s { is_finished = true }) else (Some OutOfOrder, s)

-- sending ends here, and what waits is dropped
abbrev pub cut_off : Sender → Option Refusal × Sender
cut_off s = if is_sent_off s then (Some Ended, s) else (None, record s { waiting = []; is_finished = false; is_reset = true })

-- so many bytes are taken
abbrev pub taken : Sender → ℕ → Sender
taken s count = record s { waiting = drop count s.waiting }

-- QUIC took its FIN, if that is next
abbrev pub end_told : Sender → Bool × Sender
end_told s = if is_end_next s then (true, record s { end_taken = true }) else (false, s)

abbrev pub held : Sender → Bool → Sender
held s is_held = record s { is_held = is_held }
