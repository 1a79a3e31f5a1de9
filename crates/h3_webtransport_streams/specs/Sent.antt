-- What is taken of a session's stream is what was written on it.
use Rattle.std.specs.Prelude.{◌≡◌, ℕ, List, [], ◌∷◌, ◌++◌, length, take, min, Some, None}
use Rattle.h3_webtransport_streams.specs.Sender.{Sender, finished, sent, taken, end_told, held}

-- a call of a sender, but a reset, which drops what waits
pub data Call : Type 0 where
  Sends : (bytes : List ℕ) → Call
  Finishes : Call
  Takes : (count : ℕ) → Call
  TakesEnd : Call

abbrev pub done : Sender → Call → Sender
done s (Sends bytes) = (sent s bytes).1
done s Finishes = (finished s).1
done s (Takes count) = taken s (min count (length s.waiting))
done s TakesEnd = (end_told s).1

-- the bytes that a call takes, and those that it writes: none once the stream was finished
abbrev pub bytes_taken : Sender → Call → List ℕ
bytes_taken s (Takes count) = take (min count (length s.waiting)) s.waiting
bytes_taken s _ = []

abbrev pub bytes_written : Sender → Call → List ℕ
bytes_written s (Sends bytes) = elim (sent s bytes).0 [ None ↦ bytes | Some refusal ↦ [] ]
bytes_written s _ = []

-- over calls
abbrev pub all_done : Sender → List Call → Sender
all_done s [] = s
all_done s (call ∷ calls) = all_done (done s call) calls

abbrev pub all_taken : Sender → List Call → List ℕ
all_taken s [] = []
all_taken s (call ∷ calls) = bytes_taken s call ++ all_taken (done s call) calls

abbrev pub all_written : Sender → List Call → List ℕ
all_written s [] = []
all_written s (call ∷ calls) = bytes_written s call ++ all_written (done s call) calls
