-- What a SETTINGS frame at the front says that has no meaning here (RFC 9114, section 7.2.4).
use Rattle.std.specs.Prelude.{ℕ, ◌==◌, List, [], length, nat_lt, take, if◌then◌else◌, Option, Some, None}
use Rattle.h3_coding.specs.Varint.{varint_at}
use Rattle.h3_proto.specs.OtherSettings.{others_of}

-- so many bytes, where they are there
abbrev pub payload_of_length : Option (ℕ × List ℕ) → List ℕ
payload_of_length None = []
payload_of_length (Some p) = if nat_lt (length p.1) p.0 then [] else take p.0 p.1

-- behind the type of SETTINGS
abbrev pub payload_of_settings : Option (ℕ × List ℕ) → List ℕ
payload_of_settings None = []
payload_of_settings (Some p) = if p.0 == 4 then payload_of_length (varint_at p.1) else []

-- behind a head, as far as it came: its type, and its length, or 0 where that is not there
abbrev pub payload_behind : Option (ℕ × ℕ) → List ℕ → List ℕ
payload_behind None bytes = []
payload_behind (Some h) bytes = if h.0 == 4 then payload_of_length (Some (h.1, bytes)) else []

-- of the settings that the bytes begin with, if they begin with such a frame and it is whole, those of no meaning: the first ones, so many at
-- most
abbrev pub others_at : ℕ → List ℕ → List (ℕ × ℕ)
others_at most bytes = others_of most (payload_of_settings (varint_at bytes))
