-- What an encoder goes by: the insertions that it made, and what it read of the decoder.
use Rattle.std.specs.Prelude.{◌≡◌, ℕ, ◌+◌, ◌-◌, ◌^◌, min, max, Bool, false, not, ◌&&◌, ◌||◌, List, [], ◌∷◌, length, fold, filter, flat_map, count_by, nat_lt, if◌then◌else◌, ◌==◌, None}
use Rattle.std.specs.List.{list_any}
use Rattle.h3_field.specs.Field.{Field}
use Rattle.h3_table.specs.Tracking.{without_newest}
use Rattle.h3_table.specs.Cancellations.{Cancellations, none_canceled, with_canceled, counts_as_canceled}
use Rattle.h3_qpack.specs.Marks.{no_marks}
use Rattle.h3_field.specs.Instruction.{DecoderInstruction}
use Rattle.h3_field.specs.Instruction.DecoderInstruction.{Acknowledge, CancelStream, Increment}
use Rattle.h3_qpack.specs.declared.encoder_choices.EncoderChoices.{EncoderChoices}

-- a section that names entries and is neither acknowledged nor canceled
pub record UnacknowledgedSection : Type 0 where
  pub stream : ℕ
  pub references : List ℕ

pub record EncoderHistory : Type 0 where
  -- the most that its table may have, chosen once; what the decoder announced, by which counts are encoded (RFC 9204, 4.5.1.1); what it set
  pub most_capacity : ℕ
  pub announced : ℕ
  pub capacity : ℕ
  -- how many sections may be blocked at the decoder
  pub limit : ℕ
  pub inserted : List Field
  -- how many insertions are known to be received
  pub known_received : ℕ
  -- the required counts of all sections written
  pub required_insert_counts : List ℕ
  pub tracked : List UnacknowledgedSection
  -- the streams of which a cancellation was read
  pub canceled : Cancellations
  -- an acknowledgment tells of the insertions that its section needs (RFC 9204, section 2.1.4); else increments alone tell of any
  pub counts_acknowledgments : Bool
  pub choices : EncoderChoices
  -- marks of the last values that it wrote as literals while it was economical and its table could have entries, the newest first
  pub marks : List ℕ

-- by default it chooses nothing
abbrev pub no_choices : EncoderChoices
no_choices = record { economical = false; guards_secrets = false; shortest_strings = false }

-- an encoder that may not use a table yet, and then as large a one as is announced: a greater capacity than this is not used
abbrev pub no_table : EncoderHistory
no_table = record { most_capacity = 2 ^ 30 - 1; announced = 0; capacity = 0; limit = 0; inserted = []; known_received = 0; required_insert_counts = []; tracked = []; canceled = none_canceled None; counts_acknowledgments = false; choices = no_choices; marks = no_marks }

-- RFC 9204 3.2.3: capacity of the local encoder's table
-- The decoder announced this: the encoder sets the lesser of the capacity and the most that its table may have (RFC 9204, section 3.2.3).
abbrev pub using_table : EncoderHistory → ℕ → ℕ → EncoderHistory
using_table s announced limit = record s { announced = announced; capacity = min s.most_capacity announced; limit = limit }

-- It has no table: nothing fits, and no section may be blocked.
abbrev pub HasNoTable : EncoderHistory → Type 0
HasNoTable s = (s.limit ≡ 0) × (s.capacity ≡ 0)

-- how many sections may still be blocked for insertions. The limit is one on streams (RFC 9204, section 2.1.2); two sections of one
-- stream count twice here
abbrev pub blocks_out : EncoderHistory → ℕ
blocks_out s = count_by (λ count. nat_lt s.known_received count) s.required_insert_counts

-- the entries that tracked sections name
abbrev pub referenced_entries : EncoderHistory → List ℕ
referenced_entries s = flat_map (λ section. section.references) s.tracked

-- the sections without the oldest one of the stream
abbrev pub released : ℕ → List UnacknowledgedSection → List UnacknowledgedSection
released stream [] = []
released stream (section ∷ sections) = if section.stream == stream then sections else section ∷ released stream sections

-- the required insert count of the oldest section of the stream, or 0
abbrev pub acknowledged_count : ℕ → List UnacknowledgedSection → ℕ
acknowledged_count stream [] = 0
acknowledged_count stream (section ∷ sections) = if section.stream == stream then fold max 0 section.references else acknowledged_count stream sections

-- how many insertions are known to be received, once the oldest section of the stream is acknowledged (RFC 9204, section 2.1.4)
abbrev pub known_by : EncoderHistory → ℕ → ℕ
known_by s stream = if s.counts_acknowledgments then max s.known_received (acknowledged_count stream s.tracked) else s.known_received

-- the sections without those of the stream
abbrev pub without_stream : ℕ → List UnacknowledgedSection → List UnacknowledgedSection
without_stream stream sections = filter (λ section. not (section.stream == stream)) sections

-- A section of the stream is tracked.
abbrev pub is_tracked : EncoderHistory → ℕ → Bool
is_tracked s stream = list_any (λ section. section.stream == stream) s.tracked

-- The stream counts as canceled: nobody may acknowledge what is sent on it from now on. So does each whose cancellation was read, and
-- where at most so many are kept also one below them that has no tracked section.
abbrev pub was_canceled : EncoderHistory → ℕ → Bool
was_canceled s stream = counts_as_canceled s.canceled stream (is_tracked s stream)

-- What a section on the stream is written by (RFC 9204, section 2.1.2): where the stream counts as canceled, an encoder
-- of an announced capacity 0 whose sections may not be blocked, and which is not economical.
abbrev pub writing_on : EncoderHistory → ℕ → EncoderHistory
writing_on s stream = if was_canceled s stream then record s { announced = 0; capacity = 0; limit = 0; choices = record s.choices { economical = false } } else s

-- RFC 9204 2.1.4: known received count
-- the encoder after an instruction of the decoder. The known received count stops at the greatest number of 64 bits.
abbrev pub encoder_after : EncoderHistory → DecoderInstruction → EncoderHistory
encoder_after s (Acknowledge stream) = record s { known_received = known_by s stream; tracked = released stream s.tracked }
encoder_after s (CancelStream stream) = record s { tracked = without_stream stream s.tracked; canceled = with_canceled s.canceled stream }
encoder_after s (Increment count) = record s { known_received = min (s.known_received + count) (2 ^ 64 - 1) }

abbrev pub encoder_after_all : EncoderHistory → List DecoderInstruction → EncoderHistory
encoder_after_all s [] = s
encoder_after_all s (instruction ∷ rest) = encoder_after_all (encoder_after s instruction) rest

-- RFC 9204 4.4.1: section acknowledgment, read
-- an acknowledgment of a stream without a tracked section. An increment that is 0 or past what was inserted (RFC 9204, section 4.4.3)
-- is refused where acknowledgments count
abbrev pub is_refused : EncoderHistory → DecoderInstruction → Bool
is_refused s (Acknowledge stream) = not (is_tracked s stream)
is_refused s (CancelStream stream) = false
is_refused s (Increment count) = s.counts_acknowledgments && ((count == 0) || nat_lt (length s.inserted) (s.known_received + count))

-- the encoder after the instructions of any peer up to the first that it refuses, and what is left of them
abbrev pub encoder_after_front : EncoderHistory → List DecoderInstruction → EncoderHistory × List DecoderInstruction
encoder_after_front s [] = (s, [])
encoder_after_front s (instruction ∷ rest) =
    if is_refused s instruction then (s, instruction ∷ rest) else encoder_after_front (encoder_after s instruction) rest

-- the encoder without the newest section of the stream, which has that required insert count, as if it had not been sent
abbrev pub withdrawn : EncoderHistory → ℕ → ℕ → EncoderHistory
withdrawn s stream count =
    record s {
      required_insert_counts = without_newest (λ other. other == count) s.required_insert_counts;
      tracked = if count == 0 then s.tracked else without_newest (λ section. section.stream == stream) s.tracked;
    }
