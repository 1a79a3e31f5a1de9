-- What a writer of a section takes, and the decoder that reads it.
use Rattle.std.specs.Prelude.{◌≡◌, ◌⊎◌, ◌<◌, ◌^◌, ℕ, false, List, [], length, take, nat_le, if◌then◌else◌, Some}
use Rattle.std.specs.List.{AllByRecursion}
use Rattle.h3_field.specs.Field.{Field}
use Rattle.h3_field.specs.Line.{FieldLine, line_bytes}
use Rattle.h3_field.specs.LineAnswer.{IsWritable}
use Rattle.h3_field.specs.ReadBack.{IsLineOfBytes, IsInstructionOfBytes}
use Rattle.h3_field.specs.Instruction.{EncoderInstruction, encoder_bytes}
use Rattle.h3_field.specs.InstructionAnswer.{IsSendable}
use Rattle.h3_qpack.specs.DecoderState.{DecoderState}
use Rattle.h3_qpack.specs.DecodedSection.{DecodedSection, Fields, Missing}
use Rattle.h3_qpack.specs.TableHistory.{table_state, table_of}
use Rattle.h3_qpack.specs.SectionEncoding.{guarded_fields, draft_of}
use Rattle.h3_qpack.specs.Session.{Session, UndecodedSection, count_of}

-- The indexes and strings of the line are small enough, and its strings are bytes.
abbrev pub IsWrittenLine : FieldLine → Type 0
IsWrittenLine l = IsWritable l × IsLineOfBytes l × (length (line_bytes l) < 2 ^ 63)

-- the same of an instruction
abbrev pub IsWrittenInstruction : EncoderInstruction → Type 0
IsWrittenInstruction i = IsSendable i × IsInstructionOfBytes i × (length (encoder_bytes i) < 2 ^ 63)

-- the decoder of a session, by the insertions that it has read
abbrev pub decoder_of : Session → DecoderState
decoder_of s = record { announced = Some s.encoder.announced; checks_count = false; table = table_state (table_of s.encoder.capacity (take s.received s.encoder.inserted)) }

-- What a writer takes: the lines, and a base and a count below 2 ^ 62. A section that names entries was written for the announced
-- capacity that the encoder goes by now.
pub record IsWritten (s : Session) (b : UndecodedSection) : Type 0 where
  pub lines : AllByRecursion IsWrittenLine (draft_of b.encoder b.fields).lines
  pub base : length b.encoder.inserted < 2 ^ 62
  pub announced : 0 < count_of b → b.encoder.announced ≡ s.encoder.announced

-- A decoder that announced this capacity and has read so many insertions of the session, whatever capacity it has read. The
-- encoder has learned the announced capacity, or has inserted nothing.
pub record IsDecoderAt (announced : ℕ) (s : Session) (r : DecoderState) : Type 0 where
  pub capacity : r.announced ≡ Some announced
  pub entries : r.table.entries ≡ (decoder_of s).table.entries
  pub inserted : r.table.inserted ≡ s.received
  pub learned : (s.encoder.announced ≡ announced) ⊎ (s.encoder.inserted ≡ [])

-- A decoder that announced a capacity and has read these insertions, and before them the capacity that was set where one was.
pub record HasInsertions (announced capacity : ℕ) (inserted : List Field) (r : DecoderState) : Type 0 where
  pub announced_is : r.announced ≡ Some announced
  pub entries : r.table.entries ≡ (table_state (table_of capacity inserted)).entries
  pub count : r.table.inserted ≡ length inserted

-- what such a decoder makes of a section whenever it is tried: its fields once the insertions came, and until then how many it needs
abbrev pub tried : Session → UndecodedSection → DecodedSection
tried s b = if nat_le (count_of b) s.received then Fields (guarded_fields b.encoder b.fields) (count_of b) else Missing (count_of b)
