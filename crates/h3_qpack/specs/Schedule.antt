-- Every schedule of one encoder and one decoder.
use Rattle.std.specs.Prelude.{◌≡◌, ℕ, ◌+◌, ◌++◌, ◌<◌, ◌≤◌, Bool, false, List, [], ◌∷◌, length, Option, Some}
use Rattle.h3_field.specs.Field.{Field}
use Rattle.h3_field.specs.Instruction.{DecoderInstruction}
use Rattle.h3_table.specs.Cancellations.{none_canceled}
use Rattle.h3_qpack.specs.EncoderHistory.{no_table, using_table, writing_on}
use Rattle.h3_qpack.specs.declared.encoder_choices.EncoderChoices.{EncoderChoices}
use Rattle.h3_qpack.specs.SectionEncoding.{having_inserted, instructions_for}
use Rattle.h3_qpack.specs.Session.{Session, UndecodedSection, encoded, inserted, oldest, is_canceled, count_of, decoded, after_cancellation, after_decoder_instruction}

pub data SessionEvent : Type 0 where
  -- the peer's limits come, before anything was inserted
  UseTable : (announced limit : ℕ) → SessionEvent
  -- from now on the encoder goes by these choices
  Choose : (choices : EncoderChoices) → SessionEvent
  -- from now on at most so many of the streams are kept whose cancellation is read, or all; those that were kept are forgotten
  KeepCanceled : (most : Option ℕ) → SessionEvent
  Encode : (stream : ℕ) (fields : List Field) → SessionEvent
  -- a section of the stream is withdrawn, or was cut off behind these fields: what was inserted for it stays
  CutOff : (stream : ℕ) (fields : List Field) → SessionEvent
  InsertionsRead : (count : ℕ) → SessionEvent
  Decode : (section : UndecodedSection) → SessionEvent
  Cancel : (stream : ℕ) → SessionEvent
  DecoderInstructionRead : (instruction : DecoderInstruction) (rest : List DecoderInstruction) → SessionEvent

-- the encoder may use a table from now on
abbrev pub with_table : Session → ℕ → ℕ → Session
with_table s announced limit = record s { encoder = using_table s.encoder announced limit }

abbrev pub choosing : Session → EncoderChoices → Session
choosing s choices = record s { encoder = record s.encoder { choices = choices } }

abbrev pub keeping_canceled : Session → Option ℕ → Session
keeping_canceled s most = record s { encoder = record s.encoder { canceled = none_canceled most } }

abbrev pub without_section : Session → ℕ → List Field → Session
without_section s stream fields =
    record s {
      encoder = having_inserted s.encoder stream fields;
      instructions = s.instructions ++ instructions_for (writing_on s.encoder stream) fields;
    }

abbrev pub SessionStep : Session → SessionEvent → Session → Type 0
SessionStep s (UseTable announced limit) new = (s.encoder.inserted ≡ []) × (s.encoder.limit ≡ 0) × (new ≡ with_table s announced limit)
SessionStep s (Choose choices) new = new ≡ choosing s choices
SessionStep s (KeepCanceled most) new = new ≡ keeping_canceled s most
SessionStep s (Encode stream fields) new = new ≡ encoded s stream fields
SessionStep s (CutOff stream fields) new = new ≡ without_section s stream fields
SessionStep s (InsertionsRead count) new = (0 < count) × (s.received + count ≤ length s.encoder.inserted) × (new ≡ inserted s count)
SessionStep s (Decode section) new =
    (oldest section.stream s.sections ≡ Some section) × (is_canceled s section.stream ≡ false) × (count_of section ≤ s.received) × (new ≡ decoded s section)
SessionStep s (Cancel stream) new = (is_canceled s stream ≡ false) × (new ≡ after_cancellation s stream)
SessionStep s (DecoderInstructionRead instruction rest) new = (s.decoder_instructions ≡ instruction ∷ rest) × (new ≡ after_decoder_instruction s instruction rest)

abbrev pub SessionRun : Session → List SessionEvent → Session → Type 0
SessionRun s [] new = new ≡ s
SessionRun s (event ∷ events) new = (mid : Session) × SessionStep s event mid × SessionRun mid events new

-- an encoder, for which acknowledgments count or do not and whose table has at most so much, and a decoder that announced this
-- capacity and this limit, before anything
abbrev pub beginning : Bool → ℕ → ℕ → ℕ → Session
beginning counts most announced limit =
    record { encoder = using_table (record no_table { most_capacity = most; counts_acknowledgments = counts }) announced limit; instructions = []; received = 0; sections = []; decoder_instructions = []; canceled = [] }
