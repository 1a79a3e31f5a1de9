-- How often a decoder tries the frame at the front of its bytes.
use Rattle.std.specs.Prelude.{◌≡◌, ℕ, ◌+◌, ◌<◌, ◌≤◌, Bool, true, false, List, ◌++◌, length, Option, Some, None, Result, Ok, Err}
use Rattle.std.specs.Option.{unwrap_or}
use Rattle.h3_frames.specs.declared.frame.kinds.FrameKinds.{FrameKinds}
use Rattle.h3_frames.specs.declared.proto.frame.PayloadLen.{PayloadLen}
use Rattle.h3_frames.specs.declared.proto.frame.Frame.{Frame}
use Rattle.h3_frames.specs.declared.frame.errors.FrameProtocolError.{FrameProtocolError}
use Rattle.h3_frames.specs.declared.frame.errors.FrameStreamError.{FrameStreamError}
use Rattle.h3_frames.specs.declared.frame.errors.FrameStreamError.TheVariants as stream
use Rattle.h3_frames.specs.Frames.{Whole, Unknown, Refused, Unfinished, frame_by, has_head, TakesMemory}
use Rattle.h3_frames.specs.Known.{refusal}

-- What is seen of a decoder: how many bytes its next try needs, where a frame is under way, and how often that frame was
-- tried, or else the last one that was taken.
pub record Decoding : Type 0 where
  pub expected : Option ℕ
  pub tries : ℕ

-- how many bytes the next try needs
abbrev pub needed : Decoding → ℕ
needed d = unwrap_or d.expected 1

-- the tries with one more, which is the first of another frame where none is under way
abbrev pub one_more : Option ℕ → ℕ → ℕ
one_more None tries = 1
one_more (Some least) tries = tries + 1

-- the decoder after a try that counts, and what it expects then
abbrev pub counted : Decoding → Option ℕ → Decoding
counted d expected = record { expected = expected; tries = one_more d.expected d.tries }

-- What a call does to the count. It makes no try where fewer bytes are there than it needs. A try counts that finds a
-- frame, an unknown one, which is passed, or less than a frame. A try of a frame that is refused does not count, nor
-- does one that ends for want of memory.
pub data Counts (kinds : FrameKinds) : Decoding → List ℕ → Result (Option (Frame PayloadLen)) FrameStreamError → Decoding → Type 0 where
  no_try : (old new : Decoding) (bytes : List ℕ) → length bytes < needed old → new ≡ old → Counts kinds old bytes (Ok None) new
  finds : (old new : Decoding) (bytes rest : List ℕ) (f : Frame PayloadLen) → needed old ≤ length bytes → frame_by kinds bytes ≡ Whole f rest → new ≡ counted old None → Counts kinds old bytes (Ok (Some f)) new
  passes : (old new : Decoding) (bytes rest : List ℕ) (kind : ℕ) (answer : Result (Option (Frame PayloadLen)) FrameStreamError) → needed old ≤ length bytes → frame_by kinds bytes ≡ Unknown kind rest → Counts kinds (counted old None) rest answer new → Counts kinds old bytes answer new
  finds_less : (old new : Decoding) (bytes : List ℕ) (least : ℕ) → needed old ≤ length bytes → frame_by kinds bytes ≡ Unfinished least → new ≡ counted old (Some least) → Counts kinds old bytes (Ok None) new
  refuses : (old new : Decoding) (bytes : List ℕ) (e : FrameProtocolError) → needed old ≤ length bytes → frame_by kinds bytes ≡ Refused (refusal e) → new ≡ old → Counts kinds old bytes (Err (stream.Proto e)) new
  wants_memory : (old new : Decoding) (bytes : List ℕ) → needed old ≤ length bytes → TakesMemory (frame_by kinds bytes) → new ≡ old → Counts kinds old bytes (Err stream.OutOfMemory) new

-- How often the front of a frame can have been tried: each try found more of its head than the one before, of which
-- 15 bytes at most are less than the whole, and one found the whole head.
abbrev pub FewTries : Bool → ℕ → ℕ → Type 0
FewTries false size tries = (tries ≤ size) × (tries ≤ 15)
FewTries true size tries = tries ≤ 16

-- The bytes begin with those that an earlier try found to be less than a frame, and so many are needed for the next.
abbrev pub Awaits : FrameKinds → Option ℕ → ℕ → List ℕ → Type 0
Awaits kinds None tries bytes = Unit {0}
Awaits kinds (Some least) tries bytes = (front : List ℕ) × (more : List ℕ) × (bytes ≡ front ++ more) × (frame_by kinds front ≡ Unfinished least) × FewTries (has_head front) (length front) tries

-- what a decoder may count on
abbrev pub Expects : FrameKinds → Decoding → List ℕ → Type 0
Expects kinds d bytes = Awaits kinds d.expected d.tries bytes
