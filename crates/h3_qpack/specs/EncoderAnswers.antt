-- What an encoder reads of its decoder's instructions (RFC 9204, section 4.4).
use Rattle.std.specs.Prelude.{◌≡◌, ◌⊎◌, ◌<◌, ◌≤◌, ◌^◌, ℕ, true, false, List, length, Result, Ok, Err, Bool}
use Rattle.h3_field.specs.Reading.{Reading, Whole, Unfinished, Bad}
use Rattle.h3_field.specs.Instruction.{DecoderInstruction}
use Rattle.h3_field.specs.Instruction.DecoderInstruction.{Acknowledge, CancelStream, Increment}
use Rattle.h3_field.specs.InstructionReading.{decoder_instruction}
use Rattle.h3_field.specs.declared.prefix_int.Error.TheVariants.{Overflow}
use Rattle.h3_field.specs.declared.dynamic.Error.TheVariants.{UnknownStreamId, InvalidTrackingCount, MaximumTableSizeTooLarge, MaxBlockedStreamsTooLarge}
use Rattle.h3_field.specs.declared.encoder_error.EncoderError.{EncoderError}
use Rattle.h3_field.specs.declared.encoder_error.EncoderError.TheVariants.{Insertion, InvalidInteger, InvalidString, UnknownDecoderInstruction, OutOfMemory}
use Rattle.h3_qpack.specs.EncoderHistory.{EncoderHistory, encoder_after, encoder_after_all, is_refused, was_canceled}
use Rattle.h3_qpack.specs.EncoderState.{EncoderState, encoder_state, MayHaveCapacity, IsCapacityRefusal}
use Rattle.h3_qpack.specs.Instructions.{AreDecoderInstructions, AreAccepted, BeginsRefused}

-- An encoder went from one value to another by the instructions in front of the bytes left: of each history that the first
-- value stands for, the other is that of the encoder after them, and it refused none.
pub record HasReadDecoderInstructions (old new : EncoderState) (bytes left : List ℕ) : Type 0 where
  pub instructions : List DecoderInstruction
  pub split : AreDecoderInstructions bytes instructions left
  pub after : (s : EncoderHistory) → old ≡ encoder_state s → new ≡ encoder_state (encoder_after_all s instructions)
  pub accepted : (s : EncoderHistory) → old ≡ encoder_state s → AreAccepted s instructions

-- the same of one instruction
pub record HasReadDecoderInstruction (old new : EncoderState) (bytes left : List ℕ) : Type 0 where
  pub i : DecoderInstruction
  pub here : decoder_instruction bytes ≡ Whole i left
  pub after : (s : EncoderHistory) → old ≡ encoder_state s → new ≡ encoder_state (encoder_after s i)
  pub accepted : (s : EncoderHistory) → old ≡ encoder_state s → is_refused s i ≡ false
  pub less : length left < length bytes

-- which error the instruction at the front is refused with, or left with for want of memory
abbrev pub IsDecoderInstructionRefusal : Reading DecoderInstruction → EncoderError → Type 0
IsDecoderInstructionRefusal Bad e = e ≡ InvalidInteger Overflow
IsDecoderInstructionRefusal Unfinished e = ⊥
IsDecoderInstructionRefusal (Whole (Acknowledge stream) rest) e = e ≡ Insertion (UnknownStreamId stream)
IsDecoderInstructionRefusal (Whole (CancelStream stream) rest) e = e ≡ OutOfMemory
IsDecoderInstructionRefusal (Whole (Increment count) rest) e = e ≡ Insertion InvalidTrackingCount

-- There is no memory to keep the id of a stream, of which this is the first cancellation.
pub record LacksMemory (s : EncoderHistory) (bytes : List ℕ) (e : EncoderError) : Type 0 where
  pub memory : e ≡ OutOfMemory
  pub stream : ℕ
  pub rest : List ℕ
  pub here : decoder_instruction bytes ≡ Whole (CancelStream stream) rest
  pub first : was_canceled s stream ≡ false

-- why the instruction at the front is left unread
abbrev pub IsLeft : EncoderHistory → List ℕ → EncoderError → Type 0
IsLeft s bytes e = BeginsRefused s bytes ⊎ LacksMemory s bytes e

-- One instruction is read, or the first is not whole, or it is refused and left unread.
abbrev pub AnswersDecoderInstruction : EncoderState → EncoderState → List ℕ → List ℕ → Result Bool EncoderError → Type 0
AnswersDecoderInstruction old new bytes left (Ok true) = HasReadDecoderInstruction old new bytes left
AnswersDecoderInstruction old new bytes left (Ok false) = (decoder_instruction bytes ≡ Unfinished) × (new ≡ old) × (left ≡ bytes)
AnswersDecoderInstruction old new bytes left (Err e) = ((s : EncoderHistory) → old ≡ encoder_state s → IsLeft s bytes e) × IsDecoderInstructionRefusal (decoder_instruction bytes) e × (new ≡ old) × (left ≡ bytes)

-- Why a table is not given a capacity: the table's own reason, which is judged first, or want of memory.
abbrev pub IsSizeRefusal : EncoderState → ℕ → EncoderError → Type 0
IsSizeRefusal s capacity OutOfMemory = MayHaveCapacity s capacity
IsSizeRefusal s capacity (Insertion e) = IsCapacityRefusal s capacity e
IsSizeRefusal s capacity (InvalidString e) = ⊥
IsSizeRefusal s capacity (InvalidInteger e) = ⊥
IsSizeRefusal s capacity (UnknownDecoderInstruction first) = ⊥

-- Why an encoder may not use a table of that capacity, for which so many sections may be blocked: the capacity is judged first, then
-- the limit, and memory last.
abbrev pub IsTableRefusal : ℕ → ℕ → EncoderError → Type 0
IsTableRefusal capacity limit (Insertion MaximumTableSizeTooLarge) = 2 ^ 30 ≤ capacity
IsTableRefusal capacity limit (Insertion MaxBlockedStreamsTooLarge) = (capacity < 2 ^ 30) × (65535 < limit)
IsTableRefusal capacity limit OutOfMemory = (capacity < 2 ^ 30) × (limit ≤ 65535)
IsTableRefusal capacity limit e = ⊥
