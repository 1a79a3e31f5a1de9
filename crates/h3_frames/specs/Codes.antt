-- The codes of frames that are refused (RFC 9114, section 8.1).
use Rattle.std.specs.Prelude.{ℕ}
use Rattle.h3_proto.specs.Codes.{frame_error, frame_unexpected, settings_code}
use Rattle.h3_frames.specs.declared.proto.frame.FrameError.{FrameError}
use Rattle.h3_frames.specs.declared.proto.frame.FrameError.TheVariants as error

-- the fault of a frame that is refused, wherever it stands
abbrev pub refusal_code : FrameError → ℕ
refusal_code (error.Settings e) = settings_code e
refusal_code (error.UnsupportedFrame kind) = frame_unexpected
refusal_code _ = frame_error
