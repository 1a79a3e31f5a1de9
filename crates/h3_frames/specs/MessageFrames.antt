-- The frames of which a message consists (RFC 9114, section 4.1), among all frames.
use Rattle.std.specs.Prelude.{Option, Some, None}
use Rattle.h3_frames.specs.declared.frame.decoder.MessageFrame.{MessageFrame}
use Rattle.h3_frames.specs.declared.frame.decoder.MessageFrame.TheVariants as message
use Rattle.h3_frames.specs.declared.proto.frame.PayloadLen.{PayloadLen}
use Rattle.h3_frames.specs.declared.proto.frame.Frame.{Frame}
use Rattle.h3_frames.specs.declared.proto.frame.Frame.TheVariants as frame

abbrev pub as_frame : MessageFrame → Frame PayloadLen
as_frame (message.Data len) = frame.Data len
as_frame (message.Headers section) = frame.Headers section

abbrev pub any_frame : Option MessageFrame → Option (Frame PayloadLen)
any_frame None = None
any_frame (Some f) = Some (as_frame f)
