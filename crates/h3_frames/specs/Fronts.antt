-- What is said of the front of bytes: whether it still waits, and what stands behind it.
use Rattle.std.specs.Prelude.{◌≡◌, ℕ, ◌+◌, ◌-◌, ◌<◌, Bool, List, ◌++◌, length, take, drop, nat_lt, if◌then◌else◌, [], Option, Some, None}
use Rattle.h3_frames.specs.declared.proto.frame.Frame.TheVariants as frame
use Rattle.h3_frames.specs.declared.frame.kinds.FrameKinds.{FrameKinds}
use Rattle.h3_frames.specs.Frames.{Front, Whole, Unknown, Refused, Unfinished, frame_known, frame_by}

-- a front that is no longer waiting
abbrev pub IsFinished : Front → Type 0
IsFinished (Unfinished least) = ⊥
IsFinished _ = Unit {0}

-- the same front with more bytes at its end
abbrev pub with_more : Front → List ℕ → Front
with_more (Whole f rest) more = Whole f (rest ++ more)
with_more (Unknown kind rest) more = Unknown kind (rest ++ more)
with_more (Refused e) more = Refused e
with_more (Unfinished least) more = Unfinished least

-- what follows a frame or an unknown frame is r
abbrev pub IsBefore : List ℕ → Front → Type 0
IsBefore r (Whole f rest) = rest ≡ r
IsBefore r (Unknown kind rest) = rest ≡ r
IsBefore r _ = Unit {0}

-- `with_head`, where its two tests have values
abbrev pub tested : FrameKinds → Bool → Bool → ℕ → ℕ → ℕ → List ℕ → Front
tested kinds a b size kind number behind =
    if a then Whole (frame.WebTransportStream number) behind
    else (if b then Whole (frame.Data (record { 0 = number })) behind
    else (if nat_lt (length behind) number then Unfinished (size - length behind + number)
    else frame_known kinds kind (take number behind) (drop number behind)))

-- what follows a front is shorter
abbrev pub IsShorter : ℕ → Front → Type 0
IsShorter n (Whole f rest) = length rest < n
IsShorter n (Unknown kind rest) = length rest < n
IsShorter n _ = Unit {0}

-- no unknown frame
abbrev pub IsKnown : Front → Type 0
IsKnown (Unknown kind rest) = ⊥
IsKnown _ = Unit {0}

-- the bytes begin a frame, and another try needs so many
abbrev pub IsUnfinishedFront : FrameKinds → List ℕ → Type 0
IsUnfinishedFront kinds bytes = (least : ℕ) × (frame_by kinds bytes ≡ Unfinished least)

abbrev pub behind_number : Option (ℕ × List ℕ) → List ℕ
behind_number None = []
behind_number (Some p) = p.1

-- no unknown frame, and none of DATA
abbrev pub IsKept : Front → Type 0
IsKept (Unknown kind rest) = ⊥
IsKept (Whole (frame.Data len) rest) = ⊥
IsKept _ = Unit {0}
