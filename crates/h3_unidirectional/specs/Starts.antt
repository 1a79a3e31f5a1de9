-- What a control stream begins with, as it is written: its type, then one SETTINGS frame over both lists (RFC 9114, sections 6.2.1 and 7.2.4).
use Rattle.std.specs.Prelude.{ℕ, ◌+◌, List, ◌++◌, length}
use Rattle.h3_coding.specs.Encodings.{encoding}
use Rattle.h3_proto.specs.Pairs.{payload_of}
use Rattle.h3_frames.specs.Encoded.{head_encoding}

abbrev pub start_of_both : List (ℕ × ℕ) → List (ℕ × ℕ) → List ℕ
start_of_both settings further = encoding 0 ++ (head_encoding 4 (length (payload_of settings) + length (payload_of further)) ++ (payload_of settings ++ payload_of further))
