-- What it means that a call has one answer, and leaves one state.
use Rattle.std.specs.Prelude.{◌≡◌, ◌⊎◌, Result, Err}
use Rattle.h3_wire.specs.declared.quic.Poll.{Poll}
use Rattle.h3_wire.specs.declared.quic.Poll.TheVariants.{Ready}
use Rattle.h3_frames.specs.declared.frame.errors.FrameStreamError.{FrameStreamError}
use Rattle.h3_frames.specs.declared.frame.errors.FrameStreamError.TheVariants as stream
use Rattle.h3_wire.specs.Source.{Answer}
use Rattle.h3_wire.specs.Streams.{Framing, stream_part}
use Rattle.h3_wire.specs.declared.stream.accept.PollTypeError.{PollTypeError}
use Rattle.h3_wire.specs.declared.stream.accept.PollTypeError.TheVariants as failed
use Rattle.h3_wire.specs.Accepting.{Accepting}

-- A source has one answer, and is then in one state.
abbrev pub IsFunction : {S : Type 0} → (S → Answer → S → Type 0) → Type 0
IsFunction {S} answers = (s t u : S) (a b : Answer) → answers s a t → answers s b u → (a ≡ b) × (t ≡ u)

-- there was no memory
abbrev pub IsMemory : {T : Type 0} → Poll (Result T FrameStreamError) → Type 0
IsMemory r = r ≡ Ready (Err stream.OutOfMemory)

-- From one state the call has one answer and leaves one state, but for want of memory. The count of tries is left out.
abbrev pub OneAnswer : {S T : Type 0} → (Framing S → Poll (Result T FrameStreamError) → Framing S → Type 0) → Type 0
OneAnswer {S} {T} call = (old new new' : Framing S) (r r' : Poll (Result T FrameStreamError)) → call old r new → call old r' new'
    → IsMemory r ⊎ (IsMemory r' ⊎ ((r ≡ r') × (stream_part new ≡ stream_part new') × (new.payload ≡ new'.payload)))

-- there was no memory
abbrev pub IsStartMemory : Poll (Result (Unit {0}) PollTypeError) → Type 0
IsStartMemory r = r ≡ Ready (Err failed.OutOfMemory)

-- From one state the call has one answer and leaves one state, but for want of memory.
abbrev pub OneStart : {S : Type 0} → (Accepting S → Poll (Result (Unit {0}) PollTypeError) → Accepting S → Type 0) → Type 0
OneStart {S} call = (old new new' : Accepting S) (r r' : Poll (Result (Unit {0}) PollTypeError)) → call old r new → call old r' new' → IsStartMemory r ⊎ (IsStartMemory r' ⊎ ((r ≡ r') × (new ≡ new')))
