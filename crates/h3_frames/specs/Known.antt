-- The frames that bytes begin with, unknown ones left out.
use Rattle.std.specs.Prelude.{◌≡◌, ℕ, zero, suc, List, length, Option, Some, None, Result, Ok, Err}
use Rattle.h3_frames.specs.declared.frame.kinds.FrameKinds.{FrameKinds}
use Rattle.h3_frames.specs.declared.proto.frame.PayloadLen.{PayloadLen}
use Rattle.h3_frames.specs.declared.proto.frame.Frame.{Frame}
use Rattle.h3_frames.specs.declared.proto.frame.FrameError.{FrameError}
use Rattle.h3_frames.specs.declared.proto.frame.FrameError.TheVariants as error
use Rattle.h3_frames.specs.declared.frame.decoder.Tried.{Tried}
use Rattle.h3_frames.specs.declared.frame.decoder.Tried.TheVariants as tried
use Rattle.h3_frames.specs.declared.frame.errors.FrameProtocolError.{FrameProtocolError}
use Rattle.h3_frames.specs.declared.frame.errors.FrameProtocolError.TheVariants as protocol
use Rattle.h3_frames.specs.declared.frame.errors.FrameStreamError.{FrameStreamError}
use Rattle.h3_frames.specs.declared.frame.errors.FrameStreamError.TheVariants as stream
use Rattle.h3_frames.specs.Frames.{Front, Whole, Unknown, Refused, Unfinished, frame_by, plain_frames, TakesMemory}

abbrev pub past_unknown : Front → List ℕ → (List ℕ → List ℕ) → List ℕ
past_unknown (Unknown kind rest) bytes go = go rest
past_unknown _ bytes go = bytes

-- the bytes without the whole unknown frames at their front; no list has more frames than bytes
abbrev pub skipped : FrameKinds → ℕ → List ℕ → List ℕ
skipped kinds zero bytes = bytes
skipped kinds (suc n) bytes = past_unknown (frame_by kinds bytes) bytes (skipped kinds n)

-- RFC 9114 9: unknown frames skipped
-- the bytes from the first frame on that is not unknown
unfoldable pub known_by : FrameKinds → List ℕ → List ℕ
known_by kinds bytes = skipped kinds (length bytes) bytes

-- the same where frames of all kinds are known
abbrev pub known : List ℕ → List ℕ
known = known_by plain_frames

-- the error of a frame as a stream tells it
abbrev pub refusal : FrameProtocolError → FrameError
refusal protocol.Malformed = error.Malformed
refusal (protocol.ForbiddenFrame kind) = error.UnsupportedFrame kind
refusal protocol.InvalidFrameValue = error.InvalidFrameValue
refusal (protocol.Settings e) = error.Settings e
refusal (protocol.InvalidStreamId e) = error.InvalidStreamId e
refusal (protocol.InvalidPushId e) = error.InvalidPushId e

abbrev pub IsWaiting : Front → Type 0
IsWaiting (Unfinished least) = Unit {0}
IsWaiting _ = ⊥

-- the next known frame is taken and what follows it is left; else the bytes from it on are left
abbrev pub Gives : FrameKinds → Result (Option (Frame PayloadLen)) FrameStreamError → List ℕ → List ℕ → Type 0
Gives kinds (Ok (Some f)) old new = frame_by kinds (known_by kinds old) ≡ Whole f new
Gives kinds (Ok None) old new = (new ≡ known_by kinds old) × IsWaiting (frame_by kinds new)
Gives kinds (Err (stream.Proto e)) old new = (new ≡ known_by kinds old) × (frame_by kinds new ≡ Refused (refusal e))
Gives kinds (Err stream.OutOfMemory) old new = (new ≡ known_by kinds old) × TakesMemory (frame_by kinds new)
Gives kinds (Err (stream.Quic e)) old new = ⊥
Gives kinds (Err stream.UnexpectedEnd) old new = ⊥

-- a try takes the frame at the front, an unknown one too, and else nothing
abbrev pub Tries : Tried → Front → List ℕ → List ℕ → Type 0
Tries (tried.Frame f) front old new = front ≡ Whole f new
Tries tried.Unknown front old new = (kind : ℕ) × (front ≡ Unknown kind new)
Tries (tried.Waits least) front old new = (front ≡ Unfinished least) × (new ≡ old)
Tries (tried.Refused e) front old new = (front ≡ Refused (refusal e)) × (new ≡ old)
Tries tried.OutOfMemory front old new = TakesMemory front × (new ≡ old)
