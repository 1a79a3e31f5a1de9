-- What a control stream begins with, as it is written (RFC 9114, section 6.2).
use Rattle.std.specs.Prelude.{ℕ, List, ◌++◌}
use Rattle.h3_coding.specs.Encodings.{encoding}
use Rattle.h3_proto.specs.Pairs.{payload_of}
use Rattle.h3_frames.specs.Encoded.{frame_encoding}

-- the type, then a SETTINGS frame
abbrev pub control_encoding : List (ℕ × ℕ) → List ℕ
control_encoding pairs = encoding 0 ++ frame_encoding 4 (payload_of pairs)
