-- Where a piece of a body lies in bytes that came, where nothing before them is kept.
use Rattle.std.specs.Prelude.{◌≡◌, ℕ, ◌+◌, ◌-◌, ◌<◌, ◌≤◌, ◌==◌, Bool, not, ◌&&◌, ◌||◌, false, true, min, nat_lt, List, [], length, take, drop, if◌then◌else◌, Option, Some, None, is_some}
use Rattle.std.specs.List.{concat}
use Rattle.h3_coding.specs.Varint.{varint_at}
use Rattle.h3_messages.specs.Content.{left_behind, is_exceeded}
use Rattle.h3_messages.specs.declared.content.Content.{Content}
use Rattle.h3_proto.specs.declared.stream.Side.{Side}
use Rattle.h3_qpack.specs.DecoderState.{DecoderState}
use Rattle.h3_connection.specs.Delivering.{kept}
use Rattle.h3_connection.specs.Incoming.{Incoming, is_body}
use Rattle.h3_connection.specs.Pulling.{just, pull_stream}
use Rattle.h3_connection.specs.declared.event.Item.TheVariants as item
use Rattle.h3_connection.specs.declared.event.Pull.{Pull}
use Rattle.h3_connection.specs.declared.event.Pull.TheVariants as pull
use Rattle.h3_connection.specs.declared.setup.Announced.{Announced}
use Rattle.h3_incoming.specs.Placing.{is_session}
use Rattle.h3_incoming.specs.declared.body_place.BodyPlace.{BodyPlace}

-- behind the type of a DATA frame: its length, and what follows its head
abbrev pub length_of_data : Option (ℕ × List ℕ) → Option (ℕ × List ℕ)
length_of_data None = None
length_of_data (Some p) = if p.0 == 0 then varint_at p.1 else None

-- The length of the DATA frame that the bytes begin with, and what follows its head, where that is whole (RFC 9114, sections 7.1 and 7.2.1).
abbrev pub data_at : List ℕ → Option (ℕ × List ℕ)
data_at bytes = length_of_data (varint_at bytes)

-- nothing of the stream is kept, more may come, and what came of its content is not too much
abbrev pub keeps_nothing : Incoming → Bool
keeps_nothing i =
    (length (concat i.unread) == 0) && not (is_some i.section) && not (is_some i.fault) && not (i.is_over) && not (i.ended || i.was_reset) && not (is_session i.place)
    && not (is_exceeded i.content)

-- so much of a payload of so many bytes as came, behind so many bytes; nothing where there is none
abbrev pub piece_at : ℕ → ℕ → ℕ → Option BodyPlace
piece_at offset size came = if nat_lt 0 size && nat_lt 0 came then Some (record { offset = offset; len = min size came }) else None

-- behind the head of DATA, where its payload is not longer than the content may be (section 4.1.2)
abbrev pub place_behind : Content → ℕ → Option (ℕ × List ℕ) → Option BodyPlace
place_behind left all None = None
place_behind left all (Some p) = if is_exceeded (left_behind left p.0) then None else piece_at (all - length p.1) p.0 (length p.1)

-- in the payload that is under way, or behind the head of the next one
abbrev pub place_in : Incoming → List ℕ → Option BodyPlace
place_in i bytes =
    if nat_lt 0 i.body_left then piece_at 0 i.body_left (length bytes)
    else (if is_body i.place then place_behind i.content (length bytes) (data_at bytes) else None)

-- Where the first piece of a body lies in bytes that come on a stream of which nothing is kept: it reaches to their end, or that of its payload.
abbrev pub body_place : Incoming → List ℕ → Option BodyPlace
body_place i bytes = if keeps_nothing i then place_in i bytes else None

-- the bytes up to its end, and the piece
abbrev pub front_to : BodyPlace → List ℕ → List ℕ
front_to p bytes = take (p.offset + p.len) bytes

abbrev pub piece_of : BodyPlace → List ℕ → List ℕ
piece_of p bytes = drop p.offset (front_to p bytes)

abbrev pub body_pulled : BodyPlace → List ℕ → Pull
body_pulled p bytes = pull.Item (item.Body (piece_of p bytes))

-- The piece lies there, and what stands after it is what a delivery of these bytes up to its end leaves and a pull that hands it out.
pub record ReadsPiece (old new : Incoming) (bytes : List ℕ) (p : BodyPlace) : Type 0 where
  pub within : p.offset + p.len ≤ length bytes
  pub some : 0 < p.len
  pub pulls : (side : Side) (own : Announced) (id : ℕ) (r : DecoderState) → pull_stream side own id r (kept old (front_to p bytes)) ≡ just (body_pulled p bytes) new

-- The bytes are the type and length of a DATA frame with so many bytes, some and no more than the content may have. They are under way then.
pub record BeginsPayload (size : ℕ) (old new : Incoming) (bytes : List ℕ) : Type 0 where
  pub head : data_at bytes ≡ Some (size, [])
  pub body : is_body old.place ≡ true
  pub some : 0 < size
  pub within : is_exceeded (left_behind old.content size) ≡ false
  pub begun : new ≡ record old { unread = []; body_left = size; content = left_behind old.content size }

-- The bytes are a DATA frame's type and length, with none of its payload behind them: no piece lies there. What stands after them is what a
-- delivery of them leaves and a pull, which has nothing to hand out yet.
pub record BeginsData (old new : Incoming) (bytes : List ℕ) : Type 0 where
  pub some : 0 < length bytes
  pub clear : keeps_nothing old ≡ true
  pub nowhere : body_place old bytes ≡ None
  pub pulls : (side : Side) (own : Announced) (id : ℕ) (r : DecoderState) → pull_stream side own id r (kept old bytes) ≡ just pull.Pending new
