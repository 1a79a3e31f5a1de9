-- A run of one encoder and one decoder, in bytes: what each event does, and what it answers.
use Rattle.std.specs.Prelude.{◌≡◌, ◌<◌, ◌≤◌, ℕ, ◌+◌, ◌-◌, ◌^◌, Bool, true, false, not, List, [], ◌∷◌, ◌++◌, length, take, drop, slice_index_or, filter, flat_map, if◌then◌else◌, ◌==◌, Option, Some, None}
use Rattle.std.specs.List.{list_any, AllByRecursion}
use Rattle.h3_field.specs.Field.{Field, section_size}
use Rattle.h3_field.specs.ReadBack.{IsFieldOfBytes}
use Rattle.h3_field.specs.Reading.{Unfinished}
use Rattle.h3_field.specs.InstructionReading.{instruction, decoder_instruction}
use Rattle.h3_field.specs.Instruction.{EncoderInstruction, encoder_bytes, DecoderInstruction, decoder_bytes}
use Rattle.h3_field.specs.Instruction.EncoderInstruction.{SetCapacity}
use Rattle.h3_field.specs.Instruction.DecoderInstruction.{Acknowledge, CancelStream}
use Rattle.h3_field.specs.declared.encoder_error.EncoderError.{EncoderError}
use Rattle.h3_field.specs.declared.encoder_error.EncoderError.TheVariants as encoder_error
use Rattle.h3_field.specs.declared.decoder_error.DecoderError.{DecoderError}
use Rattle.h3_field.specs.declared.decoder_error.DecoderError.TheVariants as decoder_error
use Rattle.h3_field.specs.declared.dynamic.Error.TheVariants.{MaximumTableSizeTooLarge, MaxBlockedStreamsTooLarge}
use Rattle.h3_field.specs.declared.error.Error.{Error}
use Rattle.h3_field.specs.declared.error.Error.TheVariants as of
use Rattle.h3_qpack.specs.EncoderState.{EncoderState, encoder_state}
use Rattle.h3_qpack.specs.EncoderHistory.{EncoderHistory, no_table, encoder_after_all, writing_on}
use Rattle.h3_qpack.specs.SectionEncoding.{draft_of, required_insert_count, encoded_section, instructions_for, having_inserted, sent_section}
use Rattle.h3_qpack.specs.DecoderState.{DecoderState, announcing}
use Rattle.h3_qpack.specs.Meaning.{MeansFields, IsMissing, IsBadSection}
use Rattle.h3_qpack.specs.SectionAnswers.{IsReasonFor}
use Rattle.h3_qpack.specs.Instructions.{HasRead, BeginsBad, AreDecoderInstructions, AreAccepted}
use Rattle.h3_qpack.specs.EncoderAnswers.{IsLeft}
use Rattle.h3_qpack.specs.Increments.{increment_for}
use Rattle.h3_qpack.specs.declared.session.SessionEvent.{SessionEvent}
use Rattle.h3_qpack.specs.declared.session.SessionEvent.TheVariants as event
use Rattle.h3_qpack.specs.declared.session.SessionAnswer.{SessionAnswer}
use Rattle.h3_qpack.specs.declared.session.SessionAnswer.TheVariants as answer

-- A one-way stream: all bytes that were written, and how many of them came and were read.
pub record Stream : Type 0 where
  pub bytes : List ℕ
  pub arrived : ℕ
  pub read : ℕ

abbrev pub no_bytes : Stream
no_bytes = record { bytes = []; arrived = 0; read = 0 }

-- what came and is not read
abbrev pub unread : Stream → List ℕ
unread t = take (t.arrived - t.read) (drop t.read t.bytes)

-- how many bytes are not delivered
abbrev pub undelivered : Stream → ℕ
undelivered t = length t.bytes - t.arrived

abbrev pub writing : Stream → List ℕ → Stream
writing t bytes = record t { bytes = t.bytes ++ bytes }

-- more bytes came
abbrev pub arriving : Stream → ℕ → Stream
arriving t count = record t { arrived = t.arrived + count }

-- all that came was read, but for so many bytes
abbrev pub reading : Stream → ℕ → Stream
reading t left = record t { read = t.arrived - left }

-- an encoded field section that is not decoded yet
pub record EncodedSection : Type 0 where
  pub stream : ℕ
  pub bytes : List ℕ

pub record ExchangeHistory : Type 0 where
  pub encoder : EncoderHistory
  pub decoder : DecoderState
  -- from the encoder to the decoder, and from the decoder to the encoder (RFC 9204, section 4.2)
  pub encoder_stream : Stream
  pub decoder_stream : Stream
  -- the oldest first
  pub sections : List EncodedSection
  -- the streams that were given up
  pub canceled : List ℕ

-- how an encoder's stream begins
abbrev pub opening : ℕ → List EncoderInstruction
opening capacity = if capacity == 0 then [] else SetCapacity capacity ∷ []

-- an encoder and a decoder of that capacity, before anything
abbrev pub start : ℕ → ℕ → ExchangeHistory
start capacity limit =
    record {
      encoder = record no_table { announced = capacity; capacity = capacity; limit = limit };
      decoder = announcing capacity;
      encoder_stream = writing no_bytes (if capacity == 0 then [] else encoder_bytes (SetCapacity capacity));
      decoder_stream = no_bytes;
      sections = [];
      canceled = [];
    }

-- the state of both ends
pub record ExchangeState : Type 0 where
  pub encoder : EncoderState
  pub decoder : DecoderState
  pub encoder_stream : Stream
  pub decoder_stream : Stream
  pub sections : List EncodedSection
  pub canceled : List ℕ

abbrev pub exchange_state : ExchangeHistory → ExchangeState
exchange_state w = record { encoder = encoder_state w.encoder; decoder = w.decoder; encoder_stream = w.encoder_stream; decoder_stream = w.decoder_stream; sections = w.sections; canceled = w.canceled }

-- streams and sizes that a writer takes
abbrev pub IsEvent : SessionEvent → Type 0
IsEvent (event.Encode stream fields) = (stream < 2 ^ 62) × (section_size fields.items < 2 ^ 62)
IsEvent (event.EncoderBytes count) = Unit {0}
IsEvent (event.DecoderBytes count) = Unit {0}
IsEvent (event.Decode stream) = stream < 2 ^ 62
IsEvent (event.Cancel stream) = stream < 2 ^ 62

abbrev pub is_given_up : List ℕ → ℕ → Bool
is_given_up canceled stream = list_any (λ other. other == stream) canceled

abbrev pub section_of : ℕ → List EncodedSection → Option EncodedSection
section_of stream [] = None
section_of stream (b ∷ bs) = if b.stream == stream then Some b else section_of stream bs

abbrev pub without_section_of : ℕ → List EncodedSection → List EncodedSection
without_section_of stream [] = []
without_section_of stream (b ∷ bs) = if b.stream == stream then bs else b ∷ without_section_of stream bs

-- The fields are of bytes, and all that was written of them is held in memory.
pub record AreInMemory (fields : List Field) (bytes : List ℕ) : Type 0 where
  pub are_bytes : AllByRecursion IsFieldOfBytes fields
  pub few : length bytes < 2 ^ 63

-- The section is written, or cut off behind some of its fields for want of memory.
abbrev pub Encodes : ExchangeHistory → ℕ → List Field → SessionAnswer → ExchangeHistory → Type 0
Encodes w stream fields (answer.Encoded count) new =
    (count ≡ required_insert_count (draft_of (writing_on w.encoder stream) fields)) × AreInMemory fields new.encoder_stream.bytes
    × (length (encoded_section (writing_on w.encoder stream) fields) < 2 ^ 63)
    × (new ≡ record w {
      encoder = sent_section w.encoder stream fields;
      encoder_stream = writing w.encoder_stream (flat_map encoder_bytes (instructions_for (writing_on w.encoder stream) fields));
      sections = w.sections ++ record { stream = stream; bytes = encoded_section (writing_on w.encoder stream) fields } ∷ [];
    })
Encodes w stream fields (answer.Refused e) new =
    (e ≡ of.Encoder encoder_error.OutOfMemory)
    × ((front : ℕ) × (front ≤ length fields) × AreInMemory (take front fields) new.encoder_stream.bytes × (new ≡ record w {
      encoder = having_inserted w.encoder stream (take front fields);
      encoder_stream = writing w.encoder_stream (flat_map encoder_bytes (instructions_for (writing_on w.encoder stream) (take front fields)));
    }))
Encodes w stream fields other new = ⊥

-- So many bytes more came to the decoder, which read the whole instructions and left the rest.
pub record DecoderReads (w : ExchangeHistory) (count : ℕ) (new : ExchangeHistory) : Type 0 where
  pub enough : count ≤ undelivered w.encoder_stream
  pub left : List ℕ
  pub read : HasRead w.decoder new.decoder (unread (arriving w.encoder_stream count)) left
  pub is : new ≡ record w {
    decoder = new.decoder;
    encoder_stream = reading (arriving w.encoder_stream count) (length left);
    decoder_stream = writing w.decoder_stream (increment_for (new.decoder.table.inserted - w.decoder.table.inserted));
  }

abbrev pub DeliversToDecoder : ExchangeHistory → ℕ → SessionAnswer → ExchangeHistory → Type 0
DeliversToDecoder w count (answer.Short most) new = (most ≡ undelivered w.encoder_stream) × (most < count) × (new ≡ w)
DeliversToDecoder w count answer.Delivered new = (d : DecoderReads w count new) × (instruction d.left ≡ Unfinished)
DeliversToDecoder w count (answer.Refused (of.Decoder e)) new = (d : DecoderReads w count new) × IsReasonFor (BeginsBad new.decoder d.left) (λ count. ⊥) e
DeliversToDecoder w count other new = ⊥

-- So many bytes more came to the encoder, which read the whole instructions and left the rest.
pub record EncoderReads (w : ExchangeHistory) (count : ℕ) (new : ExchangeHistory) : Type 0 where
  pub enough : count ≤ undelivered w.decoder_stream
  pub left : List ℕ
  pub instructions : List DecoderInstruction
  pub split : AreDecoderInstructions (unread (arriving w.decoder_stream count)) instructions left
  pub accepted : AreAccepted w.encoder instructions
  pub is : new ≡ record w { encoder = encoder_after_all w.encoder instructions; decoder_stream = reading (arriving w.decoder_stream count) (length left) }

abbrev pub DeliversToEncoder : ExchangeHistory → ℕ → SessionAnswer → ExchangeHistory → Type 0
DeliversToEncoder w count (answer.Short most) new = (most ≡ undelivered w.decoder_stream) × (most < count) × (new ≡ w)
DeliversToEncoder w count answer.Delivered new = (d : EncoderReads w count new) × (decoder_instruction d.left ≡ Unfinished)
DeliversToEncoder w count (answer.Refused (of.Encoder e)) new = (d : EncoderReads w count new) × IsLeft new.encoder d.left e
DeliversToEncoder w count other new = ⊥

-- The stream's oldest section is decoded and acknowledged where it names entries, or is left.
pub record HasSection (w : ExchangeHistory) (stream : ℕ) : Type 0 where
  pub alive : is_given_up w.canceled stream ≡ false
  pub section : EncodedSection
  pub is : section_of stream w.sections ≡ Some section

abbrev pub Decodes : ExchangeHistory → ℕ → SessionAnswer → ExchangeHistory → Type 0
Decodes w stream answer.Canceled new = (is_given_up w.canceled stream ≡ true) × (new ≡ w)
Decodes w stream answer.NoBlock new = (is_given_up w.canceled stream ≡ false) × (section_of stream w.sections ≡ None) × (new ≡ w)
Decodes w stream (answer.Decoded fields) new =
    (b : HasSection w stream) × (count : ℕ) × MeansFields w.decoder b.section.bytes count fields.items
    × (new ≡ record w { sections = without_section_of stream w.sections; decoder_stream = writing w.decoder_stream (if count == 0 then [] else decoder_bytes (Acknowledge stream)) })
Decodes w stream (answer.Missing count) new = (b : HasSection w stream) × IsMissing w.decoder b.section.bytes count × (new ≡ w)
Decodes w stream (answer.Refused (of.Decoder e)) new = (b : HasSection w stream) × IsReasonFor (IsBadSection w.decoder b.section.bytes) (λ count. ⊥) e × (new ≡ w)
Decodes w stream other new = ⊥

-- the stream is given up, once
abbrev pub giving_up : ExchangeHistory → ℕ → ExchangeHistory
giving_up w stream =
    record w {
      decoder_stream = writing w.decoder_stream (decoder_bytes (CancelStream stream));
      sections = filter (λ b. not (b.stream == stream)) w.sections;
      canceled = w.canceled ++ stream ∷ [];
    }

abbrev pub Cancels : ExchangeHistory → ℕ → SessionAnswer → ExchangeHistory → Type 0
Cancels w stream answer.Canceled new = new ≡ (if is_given_up w.canceled stream then w else giving_up w stream)
Cancels w stream (answer.Refused e) new = (e ≡ of.Decoder decoder_error.OutOfMemory) × (new ≡ w)
Cancels w stream other new = ⊥

abbrev pub Happens : ExchangeHistory → SessionEvent → SessionAnswer → ExchangeHistory → Type 0
Happens w (event.Encode stream fields) a new = Encodes w stream fields.items a new
Happens w (event.EncoderBytes count) a new = DeliversToDecoder w count a new
Happens w (event.DecoderBytes count) a new = DeliversToEncoder w count a new
Happens w (event.Decode stream) a new = Decodes w stream a new
Happens w (event.Cancel stream) a new = Cancels w stream a new

-- One event after the other.
pub data Exchange (first : ExchangeHistory) : List SessionEvent → List SessionAnswer → ExchangeHistory → Type 0 where
  Before : Exchange first [] [] first
  Then : (events : List SessionEvent) (answers : List SessionAnswer) (mid new : ExchangeHistory) (e : SessionEvent) (a : SessionAnswer) →
      Exchange first events answers mid → IsEvent e → Happens mid e a new → Exchange first (events ++ e ∷ []) (answers ++ a ∷ []) new

abbrev pub is_of : ℕ → EncodedSection → Bool
is_of stream b = b.stream == stream

-- The section at the place is the first of its stream.
pub record IsPlace (stream : ℕ) (sections : List EncodedSection) (place : ℕ) : Type 0 where
  pub inside : place < length sections
  pub before : list_any (is_of stream) (take place sections) ≡ false
  pub here : (b : EncodedSection) → b ≡ slice_index_or sections place b → is_of stream b ≡ true

-- what a refused section answers
abbrev pub refused_section : DecoderError → SessionAnswer
refused_section (decoder_error.MissingRefs count) = answer.Missing count
refused_section e = answer.Refused (of.Decoder e)

-- Why a session does not begin: the limit is judged first, then the capacity, and memory is asked for last.
abbrev pub IsNoBeginning : ℕ → ℕ → EncoderError → Type 0
IsNoBeginning capacity limit encoder_error.OutOfMemory = (limit ≤ 65535) × (capacity < 2 ^ 30)
IsNoBeginning capacity limit (encoder_error.Insertion MaxBlockedStreamsTooLarge) = 65535 < limit
IsNoBeginning capacity limit (encoder_error.Insertion MaximumTableSizeTooLarge) = (limit ≤ 65535) × (2 ^ 30 ≤ capacity)
IsNoBeginning capacity limit e = ⊥

abbrev pub IsNoRun : ℕ → ℕ → Error → Type 0
IsNoRun capacity limit (of.Encoder e) = IsNoBeginning capacity limit e
IsNoRun capacity limit (of.Decoder e) = ⊥
