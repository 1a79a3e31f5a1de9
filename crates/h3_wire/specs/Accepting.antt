-- What the bytes of a one-way stream begin with (RFC 9114, section 6.2).
use Rattle.std.specs.Prelude.{◌≡◌, ◌⊎◌, ℕ, Bool, true, false, ◌==◌, ◌||◌, List, ◌++◌, Option, Some, None, Result, Ok, Err, if◌then◌else◌}
use Rattle.std.specs.List.{concat}
use Rattle.h3_coding.specs.Varint.{varint_at}
use Rattle.h3_wire.specs.declared.quic.Poll.{Poll}
use Rattle.h3_wire.specs.declared.quic.Poll.TheVariants.{Ready, Pending}
use Rattle.h3_frames.specs.declared.quic.StreamErrorIncoming.{StreamErrorIncoming}
use Rattle.h3_frames.specs.declared.quic.StreamErrorIncoming.TheVariants as incoming
use Rattle.h3_wire.specs.declared.stream.accept.PollTypeError.{PollTypeError}
use Rattle.h3_wire.specs.declared.stream.accept.PollTypeError.TheVariants as failed
use Rattle.h3_wire.specs.Source.{Answer, coming}
use Rattle.h3_wire.specs.Streams.{Buffered, Answered}

-- The type, the id behind it where the type has one, and what follows; or less than that.
pub data Start : Type 0 where
  Typed : (kind : ℕ) (id : Option ℕ) (rest : List ℕ) → Start
  Short : Start

-- a push stream has a push id behind its type, a WebTransport stream a session id
abbrev pub has_id : ℕ → Bool
has_id kind = (kind == 1) || (kind == 0x54)

abbrev pub with_id : ℕ → Option (ℕ × List ℕ) → Start
with_id kind None = Short
with_id kind (Some p) = Typed kind (Some p.0) p.1

abbrev pub behind_type : ℕ → List ℕ → Start
behind_type kind bytes = if has_id kind then with_id kind (varint_at bytes) else Typed kind None bytes

abbrev pub with_type : Option (ℕ × List ℕ) → Start
with_type None = Short
with_type (Some p) = behind_type p.0 p.1

-- what the bytes begin with, where type and id were read already, or not
abbrev pub start_from : Option ℕ → Option ℕ → List ℕ → Start
start_from None id bytes = with_type (varint_at bytes)
start_from (Some kind) None bytes = behind_type kind bytes
start_from (Some kind) (Some id) bytes = Typed kind (Some id) bytes

-- the type was read, and the id if there is one
abbrev pub resolved : Option ℕ → Option ℕ → Bool
resolved None id = false
resolved (Some kind) None = if has_id kind then false else true
resolved (Some kind) (Some id) = true

-- What is seen of a one-way stream whose type is read: the pieces of what was read and not yet taken, where the rest comes
-- from, whether the end was told, and type and id as far as they were read.
pub record Accepting (S : Type 0) : Type 0 where
  pub pieces : List (List ℕ)
  pub source : S
  pub is_eos : Bool
  pub kind : Option ℕ
  pub id : Option ℕ

abbrev pub stream_of : {S : Type 0} → Accepting S → Buffered S
stream_of s = record { pieces = s.pieces; source = s.source; is_eos = s.is_eos }

-- the bytes that are left
abbrev pub all_left : {S : Type 0} → (S → List ℕ) → Accepting S → List ℕ
all_left rest s = concat s.pieces ++ coming s.is_eos (rest s.source)

-- an error of the source as it is told
abbrev pub type_error : StreamErrorIncoming → PollTypeError
type_error (incoming.ConnectionErrorIncoming code) = failed.IncomingError code
type_error (incoming.StreamTerminated code) = failed.EndOfStream
type_error incoming.Unknown = failed.EndOfStream
type_error incoming.OutOfMemory = failed.OutOfMemory

-- the peer gave the stream up, or the transport did
abbrev pub IsStop : StreamErrorIncoming → Type 0
IsStop (incoming.StreamTerminated code) = Unit {0}
IsStop incoming.Unknown = Unit {0}
IsStop _ = ⊥

abbrev pub PollsType : {S : Type 0} → (S → Answer → S → Type 0) → Poll (Result (Unit {0}) PollTypeError) → Accepting S → Type 0
PollsType answers (Ready (Ok _)) new = resolved new.kind new.id ≡ true
PollsType answers (Ready (Err failed.EndOfStream)) new =
    ((new.is_eos ≡ true) × (start_from new.kind new.id (concat new.pieces) ≡ Short))
    ⊎ ((e : StreamErrorIncoming) × (resolved new.kind new.id ≡ false) × IsStop e × Answered answers (Ready (Err e)) new.source)
PollsType answers (Ready (Err (failed.IncomingError code))) new = (resolved new.kind new.id ≡ false) × Answered answers (Ready (Err (incoming.ConnectionErrorIncoming code))) new.source
PollsType answers (Ready (Err failed.OutOfMemory)) new = resolved new.kind new.id ≡ false
PollsType answers Pending new = (start_from new.kind new.id (concat new.pieces) ≡ Short) × Answered answers Pending new.source
