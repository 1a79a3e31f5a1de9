-- How the type of a stream is read: what was read of it is taken, and then the source is asked, in rounds.
use Rattle.std.specs.Prelude.{◌≡◌, ℕ, Bool, true, false, List, length, Result, Ok, Err, Option, Some, None, if◌then◌else◌}
use Rattle.std.specs.List.{concat}
use Rattle.h3_coding.specs.Varint.{varint_at}
use Rattle.h3_wire.specs.declared.quic.Poll.{Poll}
use Rattle.h3_wire.specs.declared.quic.Poll.TheVariants.{Ready, Pending}
use Rattle.h3_wire.specs.declared.stream.Received.{Received}
use Rattle.h3_wire.specs.declared.stream.Received.TheVariants as received
use Rattle.h3_frames.specs.declared.frame.errors.FrameStreamError.{FrameStreamError}
use Rattle.h3_frames.specs.declared.frame.errors.FrameStreamError.TheVariants as stream
use Rattle.h3_wire.specs.declared.stream.accept.PollTypeError.{PollTypeError}
use Rattle.h3_wire.specs.declared.stream.accept.PollTypeError.TheVariants as failed
use Rattle.h3_wire.specs.Source.{Answer}
use Rattle.h3_frames.specs.Pieces.{ending}
use Rattle.h3_wire.specs.Asking.{Asks}
use Rattle.h3_wire.specs.Accepting.{Accepting, stream_of, has_id, resolved, type_error}

-- a number that is read, and the bytes behind it; without one they stay
abbrev pub number_read : Option (ℕ × List ℕ) → Option ℕ
number_read None = None
number_read (Some p) = Some p.0

abbrev pub behind_read : Option (ℕ × List ℕ) → List ℕ → List ℕ
behind_read None bytes = bytes
behind_read (Some p) bytes = p.1

-- the type, which was read before or is whole
abbrev pub type_read : Option ℕ → List ℕ → Option ℕ
type_read (Some kind) bytes = Some kind
type_read None bytes = number_read (varint_at bytes)

abbrev pub behind_type_read : Option ℕ → List ℕ → List ℕ
behind_type_read (Some kind) bytes = bytes
behind_type_read None bytes = behind_read (varint_at bytes) bytes

-- an id is to be read
abbrev pub wants_id : Option ℕ → Option ℕ → Bool
wants_id (Some kind) None = has_id kind
wants_id _ _ = false

abbrev pub id_read : Option ℕ → Option ℕ → List ℕ → Option ℕ
id_read kind id bytes = if wants_id kind id then number_read (varint_at bytes) else id

abbrev pub behind_id_read : Option ℕ → Option ℕ → List ℕ → List ℕ
behind_id_read kind id bytes = if wants_id kind id then behind_read (varint_at bytes) bytes else bytes

-- What was read of type and id is taken, as far as it is whole.
pub record Starts {S : Type 0} (old new : Accepting S) : Type 0 where
  pub kind : new.kind ≡ type_read old.kind (concat old.pieces)
  pub id : new.id ≡ id_read new.kind old.id (behind_type_read old.kind (concat old.pieces))
  pub buffered : concat new.pieces ≡ behind_id_read new.kind old.id (behind_type_read old.kind (concat old.pieces))
  pub pieces : new.pieces ≡ ending (length (concat new.pieces)) old.pieces
  pub source : new.source ≡ old.source
  pub is_eos : new.is_eos ≡ old.is_eos

-- what `poll_type` answers where type and id are not whole, by what the read told; more bytes are followed by another round
abbrev pub type_answer : Result Received FrameStreamError → Option (Poll (Result (Unit {0}) PollTypeError))
type_answer (Ok received.More) = None
type_answer (Ok received.Nothing) = Some Pending
type_answer (Ok received.End) = Some (Ready (Err failed.EndOfStream))
type_answer (Err (stream.Quic e)) = Some (Ready (Err (type_error e)))
type_answer (Err _) = Some (Ready (Err failed.OutOfMemory))

-- `poll_type` goes in rounds: it takes what is there, and reads only where that does not suffice.
pub data StartRounds {S : Type 0} (answers : S → Answer → S → Type 0) : Accepting S → Poll (Result (Unit {0}) PollTypeError) → Accepting S → Type 0 where
  starts : (old new : Accepting S) → Starts old new → resolved new.kind new.id ≡ true → StartRounds answers old (Ready (Ok tt)) new
  stops : (old mid new : Accepting S) (told : Result Received FrameStreamError) (answer : Poll (Result (Unit {0}) PollTypeError)) → Starts old mid → resolved mid.kind mid.id ≡ false → Asks answers (stream_of mid) told (stream_of new)
      → new.kind ≡ mid.kind → new.id ≡ mid.id → type_answer told ≡ Some answer → StartRounds answers old answer new
  reads_on : (old mid next new : Accepting S) (told : Result Received FrameStreamError) (answer : Poll (Result (Unit {0}) PollTypeError)) → Starts old mid → resolved mid.kind mid.id ≡ false → Asks answers (stream_of mid) told (stream_of next)
      → next.kind ≡ mid.kind → next.id ≡ mid.id → type_answer told ≡ None → StartRounds answers next answer new → StartRounds answers old answer new
