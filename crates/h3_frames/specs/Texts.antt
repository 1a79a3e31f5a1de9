-- What frames and their errors print.
use Rattle.std.specs.Prelude.{ℕ, List, ◌++◌, length, codes, false, Option, Some, None}
use Rattle.std.specs.Fmt.{decimal, digits}
use Rattle.h3_proto.specs.Settings.{error_text}
use Rattle.h3_frames.specs.declared.proto.frame.Frame.{Frame}
use Rattle.h3_frames.specs.declared.proto.frame.Frame.TheVariants as frame
use Rattle.h3_frames.specs.declared.proto.frame.PayloadLen.{PayloadLen}
use Rattle.h3_frames.specs.declared.proto.frame.FrameError.{FrameError}
use Rattle.h3_frames.specs.declared.proto.frame.FrameError.TheVariants as error

abbrev pub frame_error_text : FrameError → List ℕ
frame_error_text error.Malformed = codes "frame is malformed"
frame_error_text (error.UnsupportedFrame kind) = codes "frame 0x" ++ (digits 16 false kind ++ codes " is not allowed h3")
frame_error_text (error.UnknownFrame kind) = codes "frame 0x" ++ (digits 16 false kind ++ codes " ignored")
frame_error_text error.InvalidFrameValue = codes "frame value is invalid"
frame_error_text (error.Incomplete least) = codes "internal error: frame incomplete " ++ decimal least
frame_error_text (error.Settings e) = codes "invalid settings: " ++ error_text e
frame_error_text (error.InvalidStreamId e) = codes "invalid stream id: " ++ digits 16 false e.0
frame_error_text (error.InvalidPushId e) = codes "invalid push id: " ++ digits 16 false e.0
frame_error_text error.OutOfMemory = codes "out of memory"

-- the text of a frame but DATA
abbrev pub other_text : {B : Type 0} → Frame B → List ℕ
other_text (frame.Data b) = codes "Data"
other_text (frame.Headers section) = codes "Headers(" ++ (decimal (length section) ++ codes " entries)")
other_text (frame.CancelPush id) = codes "CancelPush(push " ++ (decimal id ++ codes ")")
other_text (frame.Settings pairs) = codes "Settings"
other_text (frame.PushPromise p) = codes "PushPromise(" ++ (decimal p.id ++ codes ")")
other_text (frame.PriorityUpdate u) = codes "PriorityUpdate(" ++ (decimal u.id ++ codes ")")
other_text (frame.Goaway id) = codes "GoAway(" ++ (decimal id ++ codes ")")
other_text (frame.MaxPushId id) = codes "MaxPushId(push " ++ (decimal id ++ codes ")")
other_text (frame.WebTransportStream id) = codes "WebTransportStream()"
other_text (frame.Grease kind) = codes "Grease()"

-- a frame whose text has no number but that of its entries
abbrev pub HasNoNumber : {B : Type 0} → Frame B → Type 0
HasNoNumber (frame.CancelPush id) = ⊥
HasNoNumber (frame.PushPromise p) = ⊥
HasNoNumber (frame.PriorityUpdate u) = ⊥
HasNoNumber (frame.Goaway id) = ⊥
HasNoNumber (frame.MaxPushId id) = ⊥
HasNoNumber _ = Unit {0}

abbrev pub data_text : ℕ → List ℕ
data_text len = codes "Data: " ++ (decimal len ++ codes " bytes")

-- what a frame that is written prints, and one that was read, whose session prints as derived
abbrev pub written_text : {B : Type 0} → (B → List ℕ) → Frame B → List ℕ
written_text unread (frame.Data b) = data_text (length (unread b))
written_text unread f = other_text f

abbrev pub read_text : Frame PayloadLen → Option (List ℕ)
read_text (frame.Data len) = Some (data_text len.0)
read_text (frame.WebTransportStream id) = None
read_text f = Some (other_text f)
