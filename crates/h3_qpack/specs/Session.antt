-- One encoder and one decoder, and what is under way between them.
use Rattle.std.specs.Prelude.{◌≡◌, ℕ, ◌+◌, ◌^◌, ◌≤◌, ◌<◌, Bool, true, false, List, [], ◌∷◌, ◌++◌, length, filter, drop, take, ◌&&◌, nat_lt, ◌==◌, not, if◌then◌else◌, Option, Some, None}
use Rattle.std.specs.List.{AllByRecursion, list_any}
use Rattle.h3_field.specs.Field.{Field}
use Rattle.h3_field.specs.Instruction.{EncoderInstruction, DecoderInstruction}
use Rattle.h3_field.specs.Instruction.DecoderInstruction.{Acknowledge, CancelStream, Increment}
use Rattle.h3_qpack.specs.NamedFields.{StandFor}
use Rattle.h3_table.specs.Table.{evictions}
use Rattle.h3_qpack.specs.EncoderHistory.{EncoderHistory, UnacknowledgedSection, acknowledged_count, released, without_stream, encoder_after, blocks_out, referenced_entries, was_canceled, writing_on}
use Rattle.h3_qpack.specs.SectionEncoding.{guarded_fields, draft_of, instructions_for, required_insert_count, sent_section}
use Rattle.h3_qpack.specs.TableHistory.{IsReadAs}

-- a section that is written and not yet decoded
pub record UndecodedSection : Type 0 where
  pub stream : ℕ
  pub fields : List Field
  -- what it was written by
  pub encoder : EncoderHistory

pub record Session : Type 0 where
  pub encoder : EncoderHistory
  -- all that the encoder wrote on its stream behind the capacity, in order
  pub instructions : List EncoderInstruction
  -- how many insertions the decoder has read
  pub received : ℕ
  pub sections : List UndecodedSection
  -- what the decoder wrote and the encoder has not read, the oldest first
  pub decoder_instructions : List DecoderInstruction
  -- the streams that the decoder gave up
  pub canceled : List ℕ

abbrev pub is_canceled : Session → ℕ → Bool
is_canceled s stream = list_any (λ other. other == stream) s.canceled

-- the section that the stream decodes next
abbrev pub without_oldest : ℕ → List UndecodedSection → List UndecodedSection
without_oldest stream [] = []
without_oldest stream (b ∷ bs) = if b.stream == stream then bs else b ∷ without_oldest stream bs

abbrev pub count_of : UndecodedSection → ℕ
count_of b = required_insert_count (draft_of b.encoder b.fields)

abbrev pub encoded : Session → ℕ → List Field → Session
encoded s stream fields =
    record s {
      encoder = sent_section s.encoder stream fields;
      instructions = s.instructions ++ instructions_for (writing_on s.encoder stream) fields;
      sections = s.sections ++ record { stream = stream; fields = fields; encoder = writing_on s.encoder stream } ∷ [];
    }

-- more insertions were read, in one delivery
abbrev pub inserted : Session → ℕ → Session
inserted s count = record s { received = s.received + count; decoder_instructions = s.decoder_instructions ++ Increment count ∷ [] }

-- the oldest section of the stream
abbrev pub oldest : ℕ → List UndecodedSection → Option UndecodedSection
oldest stream [] = None
oldest stream (b ∷ bs) = if b.stream == stream then Some b else oldest stream bs

-- the stream's oldest section was decoded
abbrev pub decoded : Session → UndecodedSection → Session
decoded s b =
    record s {
      sections = without_oldest b.stream s.sections;
      decoder_instructions = s.decoder_instructions ++ (if count_of b == 0 then [] else Acknowledge b.stream ∷ []);
    }

abbrev pub after_cancellation : Session → ℕ → Session
after_cancellation s stream =
    record s {
      sections = filter (λ b. not (b.stream == stream)) s.sections;
      decoder_instructions = s.decoder_instructions ++ CancelStream stream ∷ [];
      canceled = stream ∷ s.canceled;
    }

-- the encoder reads the oldest instruction
abbrev pub after_decoder_instruction : Session → DecoderInstruction → List DecoderInstruction → Session
after_decoder_instruction s instruction rest = record s { encoder = encoder_after s.encoder instruction; decoder_instructions = rest }

-- what increments that are under way add up to
abbrev pub increments : List DecoderInstruction → ℕ
increments [] = 0
increments (Increment count ∷ decoder_instructions) = count + increments decoder_instructions
increments (Acknowledge stream ∷ decoder_instructions) = increments decoder_instructions
increments (CancelStream stream ∷ decoder_instructions) = increments decoder_instructions

-- how often the stream is acknowledged in the decoder_instructions under way
abbrev pub acknowledgments : ℕ → List DecoderInstruction → ℕ
acknowledgments stream [] = 0
acknowledgments stream (Acknowledge other ∷ decoder_instructions) = (if other == stream then 1 else 0) + acknowledgments stream decoder_instructions
acknowledgments stream (CancelStream other ∷ decoder_instructions) = acknowledgments stream decoder_instructions
acknowledgments stream (Increment count ∷ decoder_instructions) = acknowledgments stream decoder_instructions

-- what the tracked sections of a stream name, the oldest first
abbrev pub tracked_references : ℕ → List UnacknowledgedSection → List (List ℕ)
tracked_references stream [] = []
tracked_references stream (b ∷ bs) = if b.stream == stream then b.references ∷ tracked_references stream bs else tracked_references stream bs

-- the entries that a section names
abbrev pub references_of : UndecodedSection → List ℕ
references_of b = (draft_of b.encoder b.fields).references

-- what the sections of a stream name that are written and not decoded
abbrev pub undecoded_references : ℕ → List UndecodedSection → List (List ℕ)
undecoded_references stream [] = []
undecoded_references stream (b ∷ bs) =
    if (b.stream == stream) && nat_lt 0 (count_of b) then references_of b ∷ undecoded_references stream bs else undecoded_references stream bs

-- a cancellation is of a stream that was given up, and no acknowledgment of the stream follows it
abbrev pub CancelsAreLast : List ℕ → List DecoderInstruction → Type 0
CancelsAreLast canceled [] = Unit {0}
CancelsAreLast canceled (CancelStream stream ∷ decoder_instructions) =
    (list_any (λ other. other == stream) canceled ≡ true) × (acknowledgments stream decoder_instructions ≡ 0) × CancelsAreLast canceled decoder_instructions
CancelsAreLast canceled (Acknowledge stream ∷ decoder_instructions) = CancelsAreLast canceled decoder_instructions
CancelsAreLast canceled (Increment count ∷ decoder_instructions) = CancelsAreLast canceled decoder_instructions

-- What a decoder tells fits what is known and tracked: an increment is not 0, and an acknowledgment is of a section whose insertions
-- are known by then.
abbrev pub AreTold : ℕ → List UnacknowledgedSection → List DecoderInstruction → Type 0
AreTold known tracked [] = Unit {0}
AreTold known tracked (Increment count ∷ decoder_instructions) = (0 < count) × AreTold (known + count) tracked decoder_instructions
AreTold known tracked (Acknowledge stream ∷ decoder_instructions) =
    (list_any (λ section. section.stream == stream) tracked ≡ true) × (acknowledged_count stream tracked ≤ known) × AreTold known (released stream tracked) decoder_instructions
AreTold known tracked (CancelStream stream ∷ decoder_instructions) = AreTold known (without_stream stream tracked) decoder_instructions

-- the section was written over a front of these insertions
pub record IsWrittenOver (inserted : List Field) (b : UndecodedSection) : Type 0 where
  pub more : List Field
  pub begins : inserted ≡ (draft_of b.encoder b.fields).inserted ++ more

-- What holds of every session.
pub record IsSound (s : Session) : Type 0 where
  pub received : s.received ≤ length s.encoder.inserted
  -- each insertion that was read is known or about to be
  pub accounted : s.encoder.known_received + increments s.decoder_instructions ≡ s.received
  -- only what is known may be evicted
  pub evictions_known : evictions s.encoder.capacity s.encoder.inserted ≤ s.encoder.known_received
  -- what tracked sections name is still there
  pub references_present : AllByRecursion (λ number. evictions s.encoder.capacity s.encoder.inserted < number) (referenced_entries s.encoder)
  -- of a stream that is not given up, the sections tracked are those acknowledged under way and those not decoded
  pub tracked : (stream : ℕ) → is_canceled s stream ≡ false →
      drop (acknowledgments stream s.decoder_instructions) (tracked_references stream s.encoder.tracked) ≡ undecoded_references stream s.sections
  -- each acknowledgment under way finds a tracked section
  pub acknowledged : (stream : ℕ) → acknowledgments stream s.decoder_instructions ≤ length (tracked_references stream s.encoder.tracked)
  -- nothing under way is refused, or tells of an insertion that no increment told of
  pub told : AreTold s.encoder.known_received s.encoder.tracked s.decoder_instructions
  pub written : AllByRecursion (IsWrittenOver s.encoder.inserted) s.sections
  pub cancels : CancelsAreLast s.canceled s.decoder_instructions
  -- no tracked section is of a stream whose cancellation was read
  pub untracked : (stream : ℕ) → was_canceled s.encoder stream ≡ true → tracked_references stream s.encoder.tracked ≡ []
  -- so many sections may still be blocked
  pub within_limit : blocks_out s.encoder ≤ s.encoder.limit
  -- what the encoder wrote is read as what it inserted
  pub read : IsReadAs s.encoder.announced s.encoder.capacity s.instructions s.encoder.inserted
  -- the table is not larger than was announced
  pub within_announced : s.encoder.capacity ≤ s.encoder.announced
  -- numbers of entries stay below 2 ^ 62
  pub small : length s.encoder.inserted < 2 ^ 62

-- The decoder that has read so many insertions reads the section: its table holds what the lines name, and they stand
-- for the fields as the encoder took them.
pub record DecodesTo (s : Session) (b : UndecodedSection) : Type 0 where
  pub lines : StandFor (take s.received s.encoder.inserted) (length b.encoder.inserted) (draft_of b.encoder b.fields).lines (guarded_fields b.encoder b.fields)
  pub present : AllByRecursion (λ number. evictions s.encoder.capacity (take s.received s.encoder.inserted) < number) (references_of b)
