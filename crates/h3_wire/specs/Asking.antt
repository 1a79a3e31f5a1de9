-- How often a source is asked, and what a call makes of its answers.
use Rattle.std.specs.Prelude.{◌≡◌, ℕ, ◌-◌, Bool, true, false, List, [], ◌∷◌, ◌++◌, length, Result, Ok, Err, Option, Some, None}
use Rattle.std.specs.List.{concat}
use Rattle.h3_wire.specs.declared.quic.Poll.{Poll}
use Rattle.h3_wire.specs.declared.quic.Poll.TheVariants.{Ready, Pending}
use Rattle.h3_frames.specs.declared.proto.frame.PayloadLen.{PayloadLen}
use Rattle.h3_frames.specs.declared.proto.frame.Frame.{Frame}
use Rattle.h3_frames.specs.declared.frame.errors.FrameStreamError.{FrameStreamError}
use Rattle.h3_frames.specs.declared.frame.errors.FrameStreamError.TheVariants as stream
use Rattle.h3_wire.specs.declared.frame.payload_left.PayloadLeft.{PayloadLeft}
use Rattle.h3_wire.specs.declared.frame.payload_left.PayloadLeft.TheVariants as payload
use Rattle.h3_wire.specs.declared.stream.Received.{Received}
use Rattle.h3_wire.specs.declared.stream.Received.TheVariants as received
use Rattle.h3_wire.specs.Source.{Answer}
use Rattle.h3_wire.specs.Buffering.{ends}
use Rattle.h3_wire.specs.Given.{piece_in}
use Rattle.h3_frames.specs.Known.{Gives}
use Rattle.h3_frames.specs.Pieces.{ending}
use Rattle.h3_wire.specs.Cut.{cut, is_cut_short}
use Rattle.h3_frames.specs.Tries.{Decoding, Counts}
use Rattle.h3_wire.specs.Streams.{Buffered, Framing, stream_part, payload_behind, stream_error, is_open}
use Rattle.h3_frames.specs.Frames.{plain_frames}

-- an answer of the source as a read tells it
abbrev pub told_by : Answer → Result Received FrameStreamError
told_by (Ready (Ok (Some piece))) = Ok received.More
told_by (Ready (Ok None)) = Ok received.End
told_by (Ready (Err e)) = Err (stream_error e)
told_by Pending = Ok received.Nothing

-- A read asks the source once. It does not ask where the end was told, nor where there is no room for a piece.
pub data Asks {S : Type 0} (answers : S → Answer → S → Type 0) (old : Buffered S) (told : Result Received FrameStreamError) (new : Buffered S) : Type 0 where
  at_end : old.is_eos ≡ true → told ≡ Ok received.End → new ≡ old → Asks answers old told new
  no_room : old.is_eos ≡ false → told ≡ Err stream.OutOfMemory → new ≡ old → Asks answers old told new
  once : (answer : Answer) → old.is_eos ≡ false → answers old.source answer new.source → told ≡ told_by answer
      → new.pieces ≡ old.pieces ++ piece_in answer → new.is_eos ≡ ends answer → Asks answers old told new

-- A look at what was read: the next known frame is taken, and the tries are counted.
pub record Looks {S : Type 0} (old : Buffered S) (before : Decoding) (found : Result (Option (Frame PayloadLen)) FrameStreamError) (new : Buffered S) (after : Decoding) : Type 0 where
  pub gives : Gives plain_frames found (concat old.pieces) (concat new.pieces)
  pub counts : Counts plain_frames before (concat old.pieces) found after
  pub pieces : new.pieces ≡ ending (length (concat new.pieces)) old.pieces
  pub source : new.source ≡ old.source
  pub is_eos : new.is_eos ≡ old.is_eos

abbrev pub at_end_of : List ℕ → Poll (Result (Option (Frame PayloadLen)) FrameStreamError)
at_end_of [] = Ready (Ok None)
at_end_of (byte ∷ bytes) = Ready (Err stream.UnexpectedEnd)

-- What a round answers, by what the read told, what the look found and the bytes that are left. More bytes that end no
-- frame are followed by another round.
abbrev pub answer_of : Received → Result (Option (Frame PayloadLen)) FrameStreamError → List ℕ → Option (Poll (Result (Option (Frame PayloadLen)) FrameStreamError))
answer_of told (Err e) left = Some (Ready (Err e))
answer_of told (Ok (Some f)) left = Some (Ready (Ok (Some f)))
answer_of received.More (Ok None) left = None
answer_of received.Nothing (Ok None) left = Some Pending
answer_of received.End (Ok None) left = Some (at_end_of left)

-- the payload that is under way behind what a look found
abbrev pub payload_found : Result (Option (Frame PayloadLen)) FrameStreamError → PayloadLeft → PayloadLeft
payload_found (Ok (Some f)) old = payload_behind f
payload_found _ old = old

-- A round is one read and one look.
pub record IsRound {S : Type 0} (answers : S → Answer → S → Type 0) (old : Framing S) (told : Received) (found : Result (Option (Frame PayloadLen)) FrameStreamError) (new : Framing S) : Type 0 where
  pub read : Buffered S
  pub asks : Asks answers (stream_part old) (Ok told) read
  pub looks : Looks read old.decoder found (stream_part new) new.decoder
  pub payload : new.payload ≡ payload_found found old.payload

-- a round that another one follows
abbrev pub IsRoundBefore : {S : Type 0} → (S → Answer → S → Type 0) → Framing S → Framing S → Type 0
IsRoundBefore answers old new = (told : Received) × (found : Result (Option (Frame PayloadLen)) FrameStreamError) × IsRound answers old told found new × (answer_of told found (concat new.pieces) ≡ None)

-- `poll_next` goes in rounds: an error of the read is answered at once, and another round comes only where more bytes came
-- that end no frame.
pub data Rounds {S : Type 0} (answers : S → Answer → S → Type 0) : Framing S → Poll (Result (Option (Frame PayloadLen)) FrameStreamError) → Framing S → Type 0 where
  read_fails : (old new : Framing S) (e : FrameStreamError) → Asks answers (stream_part old) (Err e) (stream_part new) → new.payload ≡ old.payload → new.decoder ≡ old.decoder → Rounds answers old (Ready (Err e)) new
  answers_with : (old new : Framing S) (told : Received) (found : Result (Option (Frame PayloadLen)) FrameStreamError) (answer : Poll (Result (Option (Frame PayloadLen)) FrameStreamError)) → IsRound answers old told found new
      → answer_of told found (concat new.pieces) ≡ Some answer → Rounds answers old answer new
  goes_on : (old mid new : Framing S) (told : Received) (found : Result (Option (Frame PayloadLen)) FrameStreamError) (answer : Poll (Result (Option (Frame PayloadLen)) FrameStreamError)) → IsRound answers old told found mid
      → answer_of told found (concat mid.pieces) ≡ None → Rounds answers mid answer new → Rounds answers old answer new

abbrev pub bytes_of : Option (List ℕ) → List ℕ
bytes_of None = []
bytes_of (Some bytes) = bytes

-- what is left of a payload behind some of its bytes
abbrev pub payload_without : List ℕ → PayloadLeft → PayloadLeft
payload_without bytes (payload.Bytes count) = payload.Bytes (count - length bytes)
payload_without bytes payload.ToEnd = payload.ToEnd

-- the end is known, and cuts the payload short in what was read
abbrev pub is_short : {S : Type 0} → Received → PayloadLeft → Buffered S → Bool
is_short received.End left s = is_cut_short left (length (concat s.pieces)) (length s.pieces)
is_short _ left s = false

-- The first piece that was read is taken, as far as the payload goes.
pub record TakesFirst {S : Type 0} (old : Buffered S) (left : PayloadLeft) (taken : Option (List ℕ)) (new : Framing S) : Type 0 where
  pub pieces : (taken, new.pieces) ≡ cut left old.pieces
  pub buffered : concat old.pieces ≡ bytes_of taken ++ concat new.pieces
  pub payload : new.payload ≡ payload_without (bytes_of taken) left
  pub source : new.source ≡ old.source
  pub is_eos : new.is_eos ≡ old.is_eos

-- what `poll_data` answers, by what the read told and the bytes that were taken
abbrev pub data_of : Received → Option (List ℕ) → Poll (Result (Option (List ℕ)) FrameStreamError)
data_of told (Some bytes) = Ready (Ok (Some bytes))
data_of received.End None = Ready (Ok None)
data_of _ None = Pending

-- `poll_data` reads once where a payload is under way, and else not at all.
pub data ReadsOnce {S : Type 0} (answers : S → Answer → S → Type 0) (old : Framing S) (answer : Poll (Result (Option (List ℕ)) FrameStreamError)) (new : Framing S) : Type 0 where
  closed : is_open old.payload ≡ false → answer ≡ Ready (Ok None) → new ≡ old → ReadsOnce answers old answer new
  fails : (e : FrameStreamError) → is_open old.payload ≡ true → Asks answers (stream_part old) (Err e) (stream_part new) → answer ≡ Ready (Err e)
      → new.payload ≡ old.payload → new.decoder ≡ old.decoder → ReadsOnce answers old answer new
  cut_short : (told : Received) → is_open old.payload ≡ true → Asks answers (stream_part old) (Ok told) (stream_part new) → is_short told old.payload (stream_part new) ≡ true
      → answer ≡ Ready (Err stream.UnexpectedEnd) → new.payload ≡ old.payload → new.decoder ≡ old.decoder → ReadsOnce answers old answer new
  no_memory : (told : Received) → is_open old.payload ≡ true → Asks answers (stream_part old) (Ok told) (stream_part new) → is_short told old.payload (stream_part new) ≡ false
      → answer ≡ Ready (Err stream.OutOfMemory) → new.payload ≡ old.payload → new.decoder ≡ old.decoder → ReadsOnce answers old answer new
  takes : (told : Received) (read : Buffered S) (taken : Option (List ℕ)) → is_open old.payload ≡ true → Asks answers (stream_part old) (Ok told) read → is_short told old.payload read ≡ false
      → TakesFirst read old.payload taken new → answer ≡ data_of told taken → new.decoder ≡ old.decoder → ReadsOnce answers old answer new
