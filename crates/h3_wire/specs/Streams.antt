-- What is seen of a stream, of its frames, and what its calls do.
use Rattle.std.specs.Prelude.{◌≡◌, ◌⊎◌, ℕ, ◌-◌, ◌<◌, ◌≤◌, nat_lt, Bool, true, false, List, [], ◌++◌, length, Result, Ok, Err, Option, Some, None}
use Rattle.std.specs.List.{concat}
use Rattle.h3_wire.specs.declared.quic.Poll.{Poll}
use Rattle.h3_wire.specs.declared.quic.Poll.TheVariants.{Ready, Pending}
use Rattle.h3_frames.specs.declared.quic.StreamErrorIncoming.{StreamErrorIncoming}
use Rattle.h3_frames.specs.declared.quic.StreamErrorIncoming.TheVariants as incoming
use Rattle.h3_frames.specs.declared.proto.frame.PayloadLen.{PayloadLen}
use Rattle.h3_frames.specs.declared.proto.frame.Frame.{Frame}
use Rattle.h3_frames.specs.declared.proto.frame.Frame.TheVariants as frame
use Rattle.h3_frames.specs.declared.frame.errors.FrameStreamError.{FrameStreamError}
use Rattle.h3_frames.specs.declared.frame.errors.FrameStreamError.TheVariants as stream
use Rattle.h3_wire.specs.declared.frame.payload_left.PayloadLeft.{PayloadLeft}
use Rattle.h3_wire.specs.declared.frame.payload_left.PayloadLeft.TheVariants as payload
use Rattle.h3_wire.specs.declared.stream.Received.{Received}
use Rattle.h3_wire.specs.declared.stream.Received.TheVariants as received
use Rattle.h3_wire.specs.Source.{Answer, coming}
use Rattle.h3_frames.specs.Pieces.{with_piece}
use Rattle.h3_frames.specs.Frames.{Whole, Refused, frame_at}
use Rattle.h3_frames.specs.Known.{known, refusal, IsWaiting}
use Rattle.h3_frames.specs.Tries.{Decoding}

-- the pieces of what was read and not yet taken, where the rest comes from, and whether the end was told
pub record Buffered (S : Type 0) : Type 0 where
  pub pieces : List (List ℕ)
  pub source : S
  pub is_eos : Bool

-- the same, what is left of the payload under way, and the decoder of frames
pub record Framing (S : Type 0) : Type 0 where
  pub pieces : List (List ℕ)
  pub source : S
  pub is_eos : Bool
  pub payload : PayloadLeft
  pub decoder : Decoding

-- the bytes that are left
abbrev pub left : {S : Type 0} → (S → List ℕ) → Framing S → List ℕ
left rest s = concat s.pieces ++ coming s.is_eos (rest s.source)

-- what a read adds: a piece, the end, or nothing
abbrev pub ReadsMore : {S : Type 0} → (S → Answer → S → Type 0) → Poll (Result Bool StreamErrorIncoming) → Buffered S → Buffered S → Type 0
ReadsMore answers (Ready (Ok false)) old new = (piece : List ℕ) × answers old.source (Ready (Ok (Some piece))) new.source × (new.is_eos ≡ old.is_eos) × (new.pieces ≡ with_piece old.pieces piece)
ReadsMore answers (Ready (Ok true)) old new = answers old.source (Ready (Ok None)) new.source × (new.is_eos ≡ true) × (new.pieces ≡ old.pieces)
ReadsMore answers (Ready (Err incoming.OutOfMemory)) old new = (new.is_eos ≡ old.is_eos) × ((new.source ≡ old.source) ⊎ answers old.source (Ready (Err incoming.OutOfMemory)) new.source) × (new.pieces ≡ old.pieces)
ReadsMore answers (Ready (Err e)) old new = (new.is_eos ≡ old.is_eos) × answers old.source (Ready (Err e)) new.source × (new.pieces ≡ old.pieces)
ReadsMore answers Pending old new = answers old.source Pending new.source × (new.is_eos ≡ old.is_eos) × (new.pieces ≡ old.pieces)

-- the payload that is under way behind a frame
abbrev pub payload_behind : Frame PayloadLen → PayloadLeft
payload_behind (frame.Data len) = payload.Bytes len.0
payload_behind (frame.WebTransportStream id) = payload.ToEnd
payload_behind _ = payload.Bytes 0

-- a payload is under way
abbrev pub is_open : PayloadLeft → Bool
is_open (payload.Bytes count) = nat_lt 0 count
is_open payload.ToEnd = true

-- the source gave the answer, and is now as it left it
abbrev pub Answered : {S : Type 0} → (S → Answer → S → Type 0) → Answer → S → Type 0
Answered answers answer now = (before : _) × answers before answer now

-- what a read says: bytes were moved to the buffer, or the end is known, or the source gave none
abbrev pub Tells : {S : Type 0} → (S → List ℕ) → (S → Answer → S → Type 0) → Result Received FrameStreamError → Buffered S → Buffered S → Type 0
Tells rest answers (Ok received.More) old new = (length (coming new.is_eos (rest new.source)) < length (coming old.is_eos (rest old.source))) × (new.is_eos ≡ old.is_eos)
Tells rest answers (Ok received.End) old new = new.is_eos ≡ true
Tells rest answers (Err (stream.Quic e)) old new = Answered answers (Ready (Err e)) new.source
Tells rest answers (Err stream.OutOfMemory) old new = Unit {0}
Tells rest answers (Err stream.UnexpectedEnd) old new = ⊥
Tells rest answers (Err (stream.Proto e)) old new = ⊥
Tells rest answers (Ok received.Nothing) old new = Answered answers Pending new.source

-- only where bytes came are there more
abbrev pub Adds : Result Received FrameStreamError → List ℕ → List ℕ → Type 0
Adds (Ok received.More) old new = Unit {0}
Adds _ old new = new ≡ old

-- the next known frame of all bytes that are left is taken, and what follows it is left; else bytes that are no
-- unknown frame stay
abbrev pub PollsFrame : {S : Type 0} → (S → List ℕ) → (S → Answer → S → Type 0) → Poll (Result (Option (Frame PayloadLen)) FrameStreamError) → Framing S → Framing S → Type 0
PollsFrame rest answers (Ready (Ok (Some f))) old new = (frame_at (known (left rest old)) ≡ Whole f (left rest new)) × (new.payload ≡ payload_behind f)
PollsFrame rest answers (Ready (Ok None)) old new = (known (left rest old) ≡ []) × (left rest new ≡ []) × (new.is_eos ≡ true) × (new.payload ≡ old.payload)
PollsFrame rest answers (Ready (Err (stream.Proto e))) old new = (left rest new ≡ known (left rest old)) × (frame_at (left rest new) ≡ Refused (refusal e)) × (new.payload ≡ old.payload)
PollsFrame rest answers (Ready (Err (stream.Quic e))) old new = (known (left rest new) ≡ known (left rest old)) × Answered answers (Ready (Err e)) new.source × (new.payload ≡ old.payload)
PollsFrame rest answers (Ready (Err stream.UnexpectedEnd)) old new =
    (left rest new ≡ known (left rest old)) × IsWaiting (frame_at (left rest new)) × (0 < length (left rest new)) × (new.is_eos ≡ true) × (new.payload ≡ old.payload)
PollsFrame rest answers (Ready (Err stream.OutOfMemory)) old new = (known (left rest new) ≡ known (left rest old)) × (new.payload ≡ old.payload)
PollsFrame rest answers Pending old new =
    (known (left rest new) ≡ known (left rest old)) × IsWaiting (frame_at (concat new.pieces)) × Answered answers Pending new.source × (new.payload ≡ old.payload)

-- count bytes of a payload are taken
abbrev pub TakesPayload : ℕ → PayloadLeft → PayloadLeft → Type 0
TakesPayload count (payload.Bytes n) new = (count ≤ n) × (new ≡ payload.Bytes (n - count))
TakesPayload count payload.ToEnd new = new ≡ payload.ToEnd

-- the end stands where the payload has not ended
abbrev pub IsCutShort : ℕ → PayloadLeft → Type 0
IsCutShort there (payload.Bytes n) = there < n
IsCutShort there payload.ToEnd = ⊥

-- the payload has come to its end, at the stream's end where it lasts so long
abbrev pub IsAtItsEnd : {S : Type 0} → (S → List ℕ) → Framing S → Type 0
IsAtItsEnd rest s = (is_open s.payload ≡ false) ⊎ (s.payload ≡ payload.ToEnd) × (left rest s ≡ []) × (s.is_eos ≡ true)

-- some bytes at the front of all that are left are taken, as far as the payload goes; else all stay
abbrev pub PollsData : {S : Type 0} → (S → List ℕ) → (S → Answer → S → Type 0) → Poll (Result (Option (List ℕ)) FrameStreamError) → Framing S → Framing S → Type 0
PollsData rest answers (Ready (Ok (Some bytes))) old new = (0 < length bytes) × (left rest old ≡ bytes ++ left rest new) × TakesPayload (length bytes) old.payload new.payload
PollsData rest answers (Ready (Ok None)) old new = (left rest new ≡ left rest old) × IsAtItsEnd rest new × (new.payload ≡ old.payload)
PollsData rest answers (Ready (Err (stream.Proto e))) old new = ⊥
PollsData rest answers (Ready (Err (stream.Quic e))) old new = (left rest new ≡ left rest old) × Answered answers (Ready (Err e)) new.source × (new.payload ≡ old.payload)
PollsData rest answers (Ready (Err stream.UnexpectedEnd)) old new = (left rest new ≡ left rest old) × IsCutShort (length (left rest new)) new.payload × (new.is_eos ≡ true) × (new.payload ≡ old.payload)
PollsData rest answers (Ready (Err stream.OutOfMemory)) old new = (left rest new ≡ left rest old) × (new.payload ≡ old.payload)
PollsData rest answers Pending old new = (left rest new ≡ left rest old) × (concat new.pieces ≡ []) × Answered answers Pending new.source × (new.payload ≡ old.payload)

-- no frame has ended, and less is to come
abbrev pub Continues : {S : Type 0} → (S → List ℕ) → Framing S → Framing S → Type 0
Continues rest old new = (known (left rest new) ≡ known (left rest old)) × (length (coming new.is_eos (rest new.source)) < length (coming old.is_eos (rest old.source))) × (new.payload ≡ old.payload) × (new.is_eos ≡ old.is_eos)

-- what is seen of the stream under the frames
abbrev pub stream_part : {S : Type 0} → Framing S → Buffered S
stream_part s = record { pieces = s.pieces; source = s.source; is_eos = s.is_eos }

-- bytes at the front of what was read are taken, as far as the payload goes; none where none was read
abbrev pub TakesData : {S : Type 0} → Result (Option (List ℕ)) FrameStreamError → Framing S → Framing S → Type 0
TakesData (Ok (Some bytes)) old new = (0 < length bytes) × (concat old.pieces ≡ bytes ++ concat new.pieces) × TakesPayload (length bytes) old.payload new.payload
TakesData (Ok None) old new = (concat old.pieces ≡ []) × (concat new.pieces ≡ []) × (new.payload ≡ old.payload)
TakesData (Err stream.OutOfMemory) old new = (concat new.pieces ≡ concat old.pieces) × (new.payload ≡ old.payload)
TakesData (Err _) old new = ⊥

-- the end is known as before, or the source told it now
abbrev pub EndIsTold : {S : Type 0} → (S → Answer → S → Type 0) → S → Bool → Bool → Type 0
EndIsTold answers source was is = (is ≡ was) ⊎ Answered answers (Ready (Ok None)) source

-- an error of the source as the stream of frames tells it
abbrev pub stream_error : StreamErrorIncoming → FrameStreamError
stream_error incoming.OutOfMemory = stream.OutOfMemory
stream_error e = stream.Quic e

-- the error of an answer, if it is one
abbrev pub error_of : {T : Type 0} → Result T FrameStreamError → Option FrameStreamError
error_of (Ok v) = None
error_of (Err e) = Some e

abbrev pub poll_error : {T : Type 0} → Poll (Result T FrameStreamError) → Option FrameStreamError
poll_error (Ready r) = error_of r
poll_error Pending = None

abbrev pub round_error : {T : Type 0} → Option (Poll (Result T FrameStreamError)) → Option FrameStreamError
round_error None = None
round_error (Some p) = poll_error p

-- The source was asked first, and its error is answered, before anything that was read. Only want of memory comes before it.
abbrev pub AsksFirst : {S : Type 0} → (S → Answer → S → Type 0) → S → Option FrameStreamError → Type 0
AsksFirst answers s told = (told ≡ Some stream.OutOfMemory) ⊎ ((answer : Answer) × (after : _) × answers s answer after × ((e : StreamErrorIncoming) → answer ≡ Ready (Err e) → told ≡ Some (stream_error e)))
