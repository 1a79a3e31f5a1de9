-- What bytes read as: the frames that they begin with, then a refused frame, or a rest (RFC 9114, section 7.1).
use Rattle.std.specs.Prelude.{ℕ, zero, suc, List, [], ◌∷◌, ◌++◌, length}
use Rattle.h3_frames.specs.declared.proto.frame.PayloadLen.{PayloadLen}
use Rattle.h3_frames.specs.declared.proto.frame.Frame.{Frame}
use Rattle.h3_frames.specs.declared.proto.frame.FrameError.{FrameError}
use Rattle.h3_wire.specs.declared.frame.payload_left.PayloadLeft.{PayloadLeft}
use Rattle.h3_wire.specs.declared.frame.payload_left.PayloadLeft.TheVariants as payload
use Rattle.h3_frames.specs.Frames.{Front, Whole, Unknown, Refused, Unfinished, frame_at}
use Rattle.h3_wire.specs.Streams.{payload_behind}

-- The known frames in order, of DATA and of WebTransport the head and then each byte of the payload. Then a frame is
-- refused, or the bytes end: what is left is the front of a frame, or nothing, with so much of a payload to come.
pub data Reads : Type 0 where
  Framed : (f : Frame PayloadLen) (others : Reads) → Reads
  Byte : (byte : ℕ) (others : Reads) → Reads
  Refuses : (e : FrameError) → Reads
  Leaves : (rest : List ℕ) (p : PayloadLeft) → Reads

abbrev pub read_front : Front → List ℕ → (PayloadLeft → List ℕ → Reads) → Reads
read_front (Whole f rest) bytes go = Framed f (go (payload_behind f) rest)
read_front (Unknown kind rest) bytes go = go (payload.Bytes 0) rest
read_front (Refused e) bytes go = Refuses e
read_front (Unfinished least) bytes go = Leaves bytes (payload.Bytes 0)

-- the same in at most n steps; each takes a byte
abbrev pub reads_within : ℕ → PayloadLeft → List ℕ → Reads
reads_within zero p bytes = Leaves bytes p
reads_within (suc n) (payload.Bytes zero) bytes = read_front (frame_at bytes) bytes (reads_within n)
reads_within (suc n) (payload.Bytes (suc k)) [] = Leaves [] (payload.Bytes (suc k))
reads_within (suc n) (payload.Bytes (suc k)) (byte ∷ bytes) = Byte byte (reads_within n (payload.Bytes k) bytes)
reads_within (suc n) payload.ToEnd [] = Leaves [] payload.ToEnd
reads_within (suc n) payload.ToEnd (byte ∷ bytes) = Byte byte (reads_within n payload.ToEnd bytes)

-- what the bytes read as, where so much of a payload is to come
unfoldable pub reads : PayloadLeft → List ℕ → Reads
reads p bytes = reads_within (length bytes) p bytes

-- bytes of a payload, and then the rest
abbrev pub bytes_then : List ℕ → Reads → Reads
bytes_then [] r = r
bytes_then (byte ∷ bytes) r = Byte byte (bytes_then bytes r)

-- more bytes are read where the rest was
abbrev pub then_more : Reads → List ℕ → Reads
then_more (Framed f r) more = Framed f (then_more r more)
then_more (Byte byte r) more = Byte byte (then_more r more)
then_more (Refuses e) more = Refuses e
then_more (Leaves rest p) more = reads p (rest ++ more)
