-- The decoder of an endpoint, by the session of its sender's direction.
use Rattle.std.proofs.Common.{ℕ, ◌≡◌, ◌+◌, ◌^◌, ◌<◌, if◌then◌else◌, Bool, false, List, Some, take, length}
use Rattle.h3_qpack.specs.EncoderHistory.{EncoderHistory, using_table}
use Rattle.h3_qpack.specs.DecoderState.{DecoderState, decoder_after_all}
use Rattle.h3_field.specs.Instruction.{EncoderInstruction}
use Rattle.h3_qpack.specs.WholeInstructions.{is_insertion}
use Rattle.h3_qpack.specs.DecodedSection.{decode_section}
use Rattle.h3_qpack.specs.Encodings.{IsWritten, IsDecoderAt, tried, HasInsertions}
use Rattle.h3_qpack.specs.Schedule.{SessionEvent, SessionRun, beginning}
use Rattle.h3_qpack.specs.SectionEncoding.{encoded_section}
use Rattle.h3_qpack.specs.Session.{Session, UndecodedSection, oldest, is_canceled}
use Rattle.h3_world.specs.Following.{EncodedSection, undecoded, sections_left}
use Rattle.h3_field.specs.Field.{Field, section_size}
use Rattle.h3_proto.specs.declared.stream.Side.{Side}
use Rattle.h3_connection.specs.Endpoint.{first_decoder}
use Rattle.h3_connection.specs.OwnIds.{other}
use Rattle.h3_world.specs.Came.{instructions_came}
use Rattle.h3_world.specs.Setup.{Setup, announced_at}
use Rattle.h3_world.specs.World.{World, party, Exchange}
use Rattle.h3_qpack.specs.TableHistory.{table_of, table_state}
use Rattle.std.specs.List.{AllByRecursion}
use Rattle.h3_field.specs.ReadBack.{IsFieldOfBytes}

-- The limits of an encoder play no part in what it refuses.
abbrev pub limited : EncoderHistory → ℕ → ℕ → EncoderHistory
limited s capacity limit = using_table s capacity limit

-- A decoder counts the insertions that it reads.
pub record Counts (r new : DecoderState) (added : ℕ) : Type 0 where
  pub sum : new.table.inserted ≡ r.table.inserted + added
  pub bound : r.table.inserted < 2 ^ 62 → new.table.inserted < 2 ^ 62

abbrev pub counted : EncoderInstruction → ℕ
counted i = if is_insertion i then 1 else 0

-- the law of h3_qpack on what a decoder makes of a section whenever it is tried
abbrev pub SectionsHaveValues : Type 0
SectionsHaveValues =
    (counts : Bool) (most announced limit other : ℕ) (events : List SessionEvent) (s : Session) (b : UndecodedSection) (r : DecoderState) → SessionRun (beginning counts most announced limit) events s → IsDecoderAt other s r →
    oldest b.stream s.sections ≡ Some b → is_canceled s b.stream ≡ false → IsWritten s b → decode_section r (encoded_section b.encoder b.fields) ≡ tried s b

-- the first of the sections on a stream is its oldest one
pub record IsOldest (id : ℕ) (first : EncodedSection) (sections : List UndecodedSection) : Type 0 where
  pub b : UndecodedSection
  pub oldest_is : oldest id sections ≡ Some b
  pub stream : b.stream ≡ id
  pub is : undecoded b ≡ first

-- a decoder has read these first insertions
pub record HasRead (announced capacity : ℕ) (inserted : List Field) (r : DecoderState) : Type 0 where
  pub count : ℕ
  pub has : HasInsertions announced capacity (take count inserted) r

-- what the decoder of the other side is after the instructions that came
abbrev pub IsAfter : Setup → World → Side → DecoderState → Type 0
IsAfter setup w writer r = decoder_after_all (Some (first_decoder (announced_at setup (other writer)))) (instructions_came (party w writer)) ≡ Some r

abbrev pub held : ℕ → List Field → List Field
held capacity inserted = (table_state (table_of capacity inserted)).entries

-- what is known of each section that was sent
abbrev pub IsTaken : EncodedSection → Type 0
IsTaken x = AllByRecursion IsFieldOfBytes x.fields × (section_size x.fields < 2 ^ 62) × (length x.encoded < 2 ^ 63)

-- of each stream, whether it is there or not
abbrev pub AreTaken : Exchange → Type 0
AreTaken e = AllByRecursion IsTaken (sections_left e.request) × AllByRecursion IsTaken (sections_left e.response)
