-- Frames that give nothing are skipped: those of unknown types, and in a body those of DATA without a payload.
use Rattle.std.specs.Prelude.{ℕ, zero, suc, Bool, false, ◌&&◌, List, length, if◌then◌else◌, ◌==◌, ◌≡◌}
use Rattle.h3_frames.specs.Frames.{Front, Whole, Unknown, Refused, Unfinished, frame_by}
use Rattle.h3_frames.specs.Known.{known_by}
use Rattle.h3_frames.specs.declared.frame.kinds.FrameKinds.{FrameKinds}
use Rattle.h3_frames.specs.declared.proto.frame.PayloadLen.{PayloadLen}
use Rattle.h3_frames.specs.declared.proto.frame.Frame.{Frame}
use Rattle.h3_frames.specs.declared.proto.frame.Frame.TheVariants as frame

abbrev pub is_empty_data : Frame PayloadLen → Bool
is_empty_data (frame.Data len) = len.0 == 0
is_empty_data _ = false

abbrev pub skip_front : (List ℕ → List ℕ) → Bool → List ℕ → Front → List ℕ
skip_front go in_body bytes (Whole f rest) = if in_body && is_empty_data f then go rest else bytes
skip_front go in_body bytes (Unknown kind rest) = bytes
skip_front go in_body bytes (Unfinished least) = bytes
skip_front go in_body bytes (Refused e) = bytes

abbrev pub skipped_within : FrameKinds → Bool → ℕ → List ℕ → List ℕ
skipped_within kinds in_body zero bytes = bytes
skipped_within kinds in_body (suc most) bytes =
    skip_front (skipped_within kinds in_body most) in_body (known_by kinds bytes) (frame_by kinds (known_by kinds bytes))

-- the bytes without the whole frames at their front that give nothing
unfoldable pub skipped : FrameKinds → Bool → List ℕ → List ℕ
skipped kinds in_body bytes = skipped_within kinds in_body (length bytes) bytes

-- What stands behind the frames that give nothing gives something.
abbrev pub IsNotEmpty : Bool → Frame PayloadLen → Type 0
IsNotEmpty in_body f = (in_body && is_empty_data f) ≡ false
