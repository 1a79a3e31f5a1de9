-- What the calls of a stream of frames take of what all bytes read as, whatever follows them.
use Rattle.std.specs.Prelude.{◌≡◌, ℕ, List, ◌++◌, Result, Ok, Err, Option, Some}
use Rattle.h3_wire.specs.declared.quic.Poll.{Poll}
use Rattle.h3_wire.specs.declared.quic.Poll.TheVariants.{Ready}
use Rattle.h3_frames.specs.declared.proto.frame.PayloadLen.{PayloadLen}
use Rattle.h3_frames.specs.declared.proto.frame.Frame.{Frame}
use Rattle.h3_frames.specs.declared.frame.errors.FrameStreamError.{FrameStreamError}
use Rattle.h3_frames.specs.declared.frame.errors.FrameStreamError.TheVariants as stream
use Rattle.h3_frames.specs.Known.{refusal}
use Rattle.h3_wire.specs.Streams.{Framing, left}
use Rattle.h3_wire.specs.Reads.{Reads, Framed, Refuses, reads, bytes_then}

-- what the bytes that are left read as, with more behind them
abbrev pub reads_on : {S : Type 0} → (S → List ℕ) → Framing S → List ℕ → Reads
reads_on rest s more = reads s.payload (left rest s ++ more)

-- the frame is the first, or the refusal is; any other answer takes nothing
abbrev pub ReadsFrame : {S : Type 0} → (S → List ℕ) → Poll (Result (Option (Frame PayloadLen)) FrameStreamError) → Framing S → Framing S → List ℕ → Type 0
ReadsFrame rest (Ready (Ok (Some f))) old new more = reads_on rest old more ≡ Framed f (reads_on rest new more)
ReadsFrame rest (Ready (Err (stream.Proto e))) old new more = reads_on rest old more ≡ Refuses (refusal e)
ReadsFrame rest _ old new more = reads_on rest old more ≡ reads_on rest new more

-- the bytes are the first; any other answer takes nothing
abbrev pub ReadsData : {S : Type 0} → (S → List ℕ) → Poll (Result (Option (List ℕ)) FrameStreamError) → Framing S → Framing S → List ℕ → Type 0
ReadsData rest (Ready (Ok (Some bytes))) old new more = reads_on rest old more ≡ bytes_then bytes (reads_on rest new more)
ReadsData rest _ old new more = reads_on rest old more ≡ reads_on rest new more
