-- What a frame that was written is read as.
use Rattle.std.specs.Prelude.{ℕ, List, ◌++◌, length}
use Rattle.h3_proto.specs.Pairs.{payload_of}
use Rattle.h3_proto.specs.Settings.{settings_of}
use Rattle.h3_frames.specs.Frames.{Front, Whole, Unknown, settings_frame}
use Rattle.h3_frames.specs.Update.{type_of_update}
use Rattle.h3_frames.specs.declared.proto.frame.Frame.{Frame}
use Rattle.h3_frames.specs.declared.proto.frame.Frame.TheVariants as frame

-- what a frame is read as, behind which these bytes stand. PRIORITY_UPDATE is unknown to those who did not choose it
abbrev pub read_back : {B : Type 0} → (B → List ℕ) → Frame B → List ℕ → Front
read_back unread (frame.Data b) rest = Whole (frame.Data (record { 0 = length (unread b) })) (unread b ++ rest)
read_back unread (frame.Headers section) rest = Whole (frame.Headers section) rest
read_back unread (frame.CancelPush id) rest = Whole (frame.CancelPush id) rest
read_back unread (frame.Settings pairs) rest = settings_frame (settings_of (payload_of pairs)) rest
read_back unread (frame.PushPromise p) rest = Whole (frame.PushPromise p) rest
read_back unread (frame.PriorityUpdate u) rest = Unknown (type_of_update u.is_push) rest
read_back unread (frame.Goaway id) rest = Whole (frame.Goaway id) rest
read_back unread (frame.MaxPushId id) rest = Whole (frame.MaxPushId id) rest
read_back unread (frame.WebTransportStream id) rest = Whole (frame.WebTransportStream id) rest
read_back unread (frame.Grease kind) rest = Unknown kind rest
