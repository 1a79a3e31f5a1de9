-- What the events of a run are expected to answer, told by the fields that were encoded and by how many insertions were read:
-- no byte and no table is in it.
use Rattle.std.specs.Prelude.{◌≡◌, ◌<◌, ◌≤◌, ℕ, ◌+◌, true, false, List, [], ◌∷◌, ◌++◌, length, take, drop, if◌then◌else◌, ◌==◌, Some, None}
use Rattle.h3_field.specs.Field.{Field}
use Rattle.h3_field.specs.declared.encoder_error.EncoderError.TheVariants as encoder_error
use Rattle.h3_field.specs.declared.decoder_error.DecoderError.TheVariants as decoder_error
use Rattle.h3_field.specs.declared.error.Error.TheVariants as of
use Rattle.h3_qpack.specs.EncoderHistory.{encoder_after_all, writing_on}
use Rattle.h3_qpack.specs.Session.{Session, UndecodedSection, is_canceled, count_of, encoded, inserted, oldest, decoded, after_cancellation}
use Rattle.h3_qpack.specs.Schedule.{without_section}
use Rattle.h3_qpack.specs.declared.session.SessionEvent.{SessionEvent}
use Rattle.h3_qpack.specs.declared.session.SessionEvent.TheVariants as event
use Rattle.h3_qpack.specs.declared.session.SessionAnswer.{SessionAnswer}
use Rattle.h3_qpack.specs.declared.session.SessionAnswer.TheVariants as answer

-- the section, or the insertions for a front of its fields where memory is refused
abbrev pub EncodesTo : Session → ℕ → List Field → SessionAnswer → Session → Type 0
EncodesTo s stream fields (answer.Encoded count) new = (new ≡ encoded s stream fields) × (count ≡ count_of (record { stream = stream; fields = fields; encoder = writing_on s.encoder stream }))
EncodesTo s stream fields (answer.Refused e) new =
    (e ≡ of.Encoder encoder_error.OutOfMemory) × ((front : ℕ) × (front ≤ length fields) × (new ≡ without_section s stream (take front fields)))
EncodesTo s stream fields other new = ⊥

-- some more insertions are read, and none is refused
abbrev pub ReadsInsertions : Session → Session → Type 0
ReadsInsertions s new = (count : ℕ) × (s.received + count ≤ length s.encoder.inserted) × (new ≡ (if count == 0 then s else inserted s count))

abbrev pub DeliversInsertions : Session → SessionAnswer → Session → Type 0
DeliversInsertions s (answer.Short most) new = new ≡ s
DeliversInsertions s answer.Delivered new = ReadsInsertions s new
DeliversInsertions s (answer.Refused e) new = (e ≡ of.Decoder decoder_error.OutOfMemory) × ReadsInsertions s new
DeliversInsertions s other new = ⊥

-- the oldest of the decoder's instructions are read, and none is refused
abbrev pub ReadsDecoderInstructions : Session → Session → Type 0
ReadsDecoderInstructions s new =
    (count : ℕ) × (new ≡ record s { encoder = encoder_after_all s.encoder (take count s.decoder_instructions); decoder_instructions = drop count s.decoder_instructions })

abbrev pub DeliversDecoderInstructions : Session → SessionAnswer → Session → Type 0
DeliversDecoderInstructions s (answer.Short most) new = new ≡ s
DeliversDecoderInstructions s answer.Delivered new = ReadsDecoderInstructions s new
DeliversDecoderInstructions s (answer.Refused e) new = (e ≡ of.Encoder encoder_error.OutOfMemory) × ReadsDecoderInstructions s new
DeliversDecoderInstructions s other new = ⊥

-- exactly the fields that were encoded, or the count that was answered then, which is above the insertions read
abbrev pub DecodesAs : Session → ℕ → SessionAnswer → Session → Type 0
DecodesAs s stream answer.Canceled new = (is_canceled s stream ≡ true) × (new ≡ s)
DecodesAs s stream answer.NoBlock new = (is_canceled s stream ≡ false) × (oldest stream s.sections ≡ None) × (new ≡ s)
DecodesAs s stream (answer.Decoded fields) new =
    (is_canceled s stream ≡ false) × ((b : UndecodedSection) × (oldest stream s.sections ≡ Some b) × (fields.items ≡ b.fields) × (count_of b ≤ s.received) × (new ≡ decoded s b))
DecodesAs s stream (answer.Missing count) new =
    (is_canceled s stream ≡ false) × ((b : UndecodedSection) × (oldest stream s.sections ≡ Some b) × (count ≡ count_of b) × (s.received < count) × (new ≡ s))
DecodesAs s stream (answer.Refused e) new = (e ≡ of.Decoder decoder_error.OutOfMemory) × (new ≡ s)
DecodesAs s stream other new = ⊥

abbrev pub CancelsAs : Session → ℕ → SessionAnswer → Session → Type 0
CancelsAs s stream answer.Canceled new = new ≡ (if is_canceled s stream then s else after_cancellation s stream)
CancelsAs s stream (answer.Refused e) new = (e ≡ of.Decoder decoder_error.OutOfMemory) × (new ≡ s)
CancelsAs s stream other new = ⊥

abbrev pub Expects : Session → SessionEvent → SessionAnswer → Session → Type 0
Expects s (event.Encode stream fields) a new = EncodesTo s stream fields.items a new
Expects s (event.EncoderBytes count) a new = DeliversInsertions s a new
Expects s (event.DecoderBytes count) a new = DeliversDecoderInstructions s a new
Expects s (event.Decode stream) a new = DecodesAs s stream a new
Expects s (event.Cancel stream) a new = CancelsAs s stream a new

-- One event after the other.
pub data Expected (first : Session) : List SessionEvent → List SessionAnswer → Session → Type 0 where
  NoEvent : Expected first [] [] first
  NextEvent : (events : List SessionEvent) (answers : List SessionAnswer) (mid new : Session) (e : SessionEvent) (a : SessionAnswer) →
      Expected first events answers mid → Expects mid e a new → Expected first (events ++ e ∷ []) (answers ++ a ∷ []) new
