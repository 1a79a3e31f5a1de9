-- Frames that wait on a stream, and room for more.
use Rattle.std.specs.Prelude.{ℕ, Bool, true, false, ◌==◌, List, [], ◌∷◌, ◌++◌, length, Option, Some, None}
use Rattle.h3_frames.specs.Outgoing.{Outgoing}

-- the frames in the order in which they go out, and how many more find a place
pub record Queue : Type 0 where
  pub frames : List Outgoing
  pub room : ℕ

-- what stands in a place for one frame
abbrev pub at_most_one : Option Outgoing → List Outgoing
at_most_one None = []
at_most_one (Some frame) = frame ∷ []

-- two places, and behind them a queue
abbrev pub frames_in : Option Outgoing → Option Outgoing → List Outgoing → List Outgoing
frames_in first second later = at_most_one first ++ (at_most_one second ++ later)

-- whether one of the two places may be taken: no frame waits behind the first one
abbrev pub has_own_place : Option Outgoing → List Outgoing → Bool
has_own_place None later = length later == 0
has_own_place (Some frame) later = false

abbrev pub own_room : Bool → ℕ
own_room true = 1
own_room false = 0
