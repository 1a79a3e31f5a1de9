-- What a reader of frames finds behind those that give nothing, and what it leaves.
use Rattle.std.specs.Prelude.{◌≡◌, ℕ, Bool, true, false, List, ◌++◌, Result, Ok, Err, Option, Some, None}
use Rattle.h3_proto.specs.declared.stream.Side.{Side}
use Rattle.h3_frames.specs.declared.frame.errors.FrameProtocolError.{FrameProtocolError}
use Rattle.h3_frames.specs.declared.frame.errors.FrameStreamError.{FrameStreamError}
use Rattle.h3_frames.specs.declared.frame.errors.FrameStreamError.TheVariants as stream
use Rattle.h3_frames.specs.declared.frame.kinds.FrameKinds.{FrameKinds}
use Rattle.h3_frames.specs.declared.proto.frame.PayloadLen.{PayloadLen}
use Rattle.h3_frames.specs.declared.proto.frame.Frame.{Frame}
use Rattle.h3_frames.specs.ExcessiveFrames.{begins_section, is_excessive_by}
use Rattle.h3_frames.specs.Frames.{Whole, Refused, frame_by}
use Rattle.h3_frames.specs.Known.{Gives, known_by, refusal, IsWaiting}
use Rattle.h3_frames.specs.UnreadFrames.{UnreadFrames, AreBetween}
use Rattle.h3_connection.specs.declared.place.Place.{Place}
use Rattle.h3_connection.specs.Incoming.{is_body}
use Rattle.h3_connection.specs.Skipping.{skipped}
use Rattle.h3_messages.specs.declared.content.Content.{Content}
use Rattle.h3_incoming.specs.Beginning.{IsBegun, is_empty}
use Rattle.h3_incoming.specs.declared.stream.begun.Begun.{Begun}
use Rattle.h3_incoming.specs.declared.stream.front.Found.{Found}
use Rattle.h3_incoming.specs.declared.stream.front.Found.TheVariants as found

-- The bytes that were passed give nothing, whatever follows.
abbrev pub PassesFrames : FrameKinds → Bool → List ℕ → List ℕ → Type 0
PassesFrames kinds in_body old new = (more : List ℕ) → skipped kinds in_body (new ++ more) ≡ skipped kinds in_body (old ++ more)

-- What the next known frame begins, which is taken; or what a buffer of frames answers where there is none. If memory is refused, nothing but
-- unknown frames was passed.
abbrev pub GivesBegun : FrameKinds → Side → Place → Content → Result (Option Begun) FrameStreamError → List ℕ → List ℕ → Type 0
GivesBegun kinds side place content (Ok (Some b)) old new = (f : Frame PayloadLen) × IsBegun side place content f b × (frame_by kinds (known_by kinds old) ≡ Whole f new)
GivesBegun kinds _ _ _ (Ok None) old new = Gives kinds (Ok None) old new
GivesBegun kinds _ place _ (Err stream.OutOfMemory) old new = PassesFrames kinds (is_body place) old new
GivesBegun kinds _ _ _ (Err e) old new = Gives kinds (Err e) old new

-- This frame stands behind those that give nothing, whatever follows, and was taken.
abbrev pub FindsFrame : FrameKinds → Bool → Frame PayloadLen → List ℕ → List ℕ → Type 0
FindsFrame kinds in_body f old new = (more : List ℕ) → frame_by kinds (skipped kinds in_body (old ++ more)) ≡ Whole f (new ++ more)

-- Less than a frame stands there.
abbrev pub FindsLess : FrameKinds → Bool → List ℕ → List ℕ → Type 0
FindsLess kinds in_body old new = (new ≡ skipped kinds in_body old) × IsWaiting (frame_by kinds new) × PassesFrames kinds in_body old new

-- A frame stands there that is refused.
abbrev pub FindsRefused : FrameKinds → Bool → FrameProtocolError → List ℕ → List ℕ → Type 0
FindsRefused kinds in_body e old new = (new ≡ skipped kinds in_body old) × (frame_by kinds new ≡ Refused (refusal e))

abbrev pub Finds : FrameKinds → Side → Place → Content → Found → List ℕ → List ℕ → Type 0
Finds kinds side place content (found.Begun b) old new = (f : Frame PayloadLen) × IsBegun side place content f b × FindsFrame kinds (is_body place) f old new
Finds kinds _ place _ found.Unfinished old new = FindsLess kinds (is_body place) old new
Finds kinds _ place _ (found.Refused e) old new = FindsRefused kinds (is_body place) e old new
Finds kinds _ place _ found.LongSection old new = PassesFrames kinds (is_body place) old new
Finds kinds _ place _ found.Excessive old new = Unit {0}

-- The frame that stands there is no longer than this, whatever follows.
abbrev pub KeepsWithin : FrameKinds → ℕ → Bool → List ℕ → Type 0
KeepsWithin kinds most in_body old = (more : List ℕ) → is_excessive_by kinds most (skipped kinds in_body (old ++ more)) ≡ false

-- The frame that stands there is longer, and is a field section or none.
abbrev pub IsTooLong : FrameKinds → ℕ → Bool → Bool → List ℕ → Type 0
IsTooLong kinds most in_body is_section old = (is_excessive_by kinds most (skipped kinds in_body old) ≡ true) × (begins_section (skipped kinds in_body old) ≡ is_section)

-- What stands behind the frames that give nothing is no longer than this, or is told as longer.
abbrev pub IsWithin : FrameKinds → ℕ → Bool → Found → List ℕ → Type 0
IsWithin kinds most in_body (found.Begun b) old = KeepsWithin kinds most in_body old
IsWithin kinds most in_body found.LongSection old = IsTooLong kinds most in_body true old
IsWithin kinds most in_body found.Excessive old = IsTooLong kinds most in_body false old
IsWithin kinds most in_body _ old = is_excessive_by kinds most (skipped kinds in_body old) ≡ false

-- Behind a frame no other one is under way, and it begins no empty payload.
abbrev pub LeavesBetween : Found → UnreadFrames → Type 0
LeavesBetween (found.Begun b) unread = AreBetween unread × (is_empty b ≡ false)
LeavesBetween _ unread = Unit {0}
