-- HTTP Datagrams (RFC 9297, section 2.1): a quarter of the stream's id, and the payload.
use Rattle.std.specs.Prelude.{ℕ, ◌*◌, ◌/◌, ◌^◌, nat_lt, List, Option, Some, None, if◌then◌else◌}
use Rattle.h3_coding.specs.Varint.{varint_at}
use Rattle.h3_coding.specs.Encodings.{encoding}

-- the id of the stream and the payload; none where no quarter is whole, or where no stream has four times the number
abbrev pub with_quarter : Option (ℕ × List ℕ) → Option (ℕ × List ℕ)
with_quarter None = None
with_quarter (Some p) = if nat_lt p.0 (2 ^ 60) then Some (p.0 * 4, p.1) else None

unfoldable pub datagram_of : List ℕ → Option (ℕ × List ℕ)
datagram_of bytes = with_quarter (varint_at bytes)

-- what stands in front of the payload of a datagram of a stream
abbrev pub datagram_head : ℕ → List ℕ
datagram_head id = encoding (id / 4)
