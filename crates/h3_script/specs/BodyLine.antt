-- A line with a piece of a body, cut at its first three blanks. `ScriptLine.IsBody` says what it is.
use Rattle.std.specs.Prelude.{ℕ, List, codes, bytes_eq, if◌then◌else◌, Option, Some, None}
use Rattle.h3_proto.specs.declared.stream.Side.{Side}
use Rattle.h3_script.specs.Pieces.{cut}
use Rattle.h3_script.specs.Words.{id_of, side_of}

abbrev pub body_by : Option Side → Option ℕ → List ℕ → Option (Side × ℕ × List ℕ)
body_by (Some side) (Some id) bytes = Some (side, id, bytes)
body_by _ _ bytes = None

abbrev pub behind_side : List ℕ → Option (List ℕ × List ℕ) → Option (Side × ℕ × List ℕ)
behind_side side (Some parts) = body_by (side_of side) (id_of parts.0) parts.1
behind_side side None = None

abbrev pub behind_command : Option (List ℕ × List ℕ) → Option (Side × ℕ × List ℕ)
behind_command (Some parts) = behind_side parts.0 (cut 32 parts.1)
behind_command None = None

abbrev pub body_in : Option (List ℕ × List ℕ) → Option (Side × ℕ × List ℕ)
body_in (Some parts) = if bytes_eq parts.0 (codes "body") then behind_command (cut 32 parts.1) else None
body_in None = None

-- the side, the stream and the bytes
abbrev pub body_of : List ℕ → Option (Side × ℕ × List ℕ)
body_of line = body_in (cut 32 line)
