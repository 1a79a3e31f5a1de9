-- Every run in bytes is a session: what it answers is what is expected.
use Rattle.std.specs.declared.alloc.Global.{Global}
use Rattle.std.proofs.Common.{Vec, ◌≡◌, ◌⊎◌, inl, inr, ℕ, zero, suc, ◌+◌, ◌-◌, ◌/◌, ◌^◌, ◌<◌, ◌≤◌, Bool, true, false, ◌||◌, List, [], ◌∷◌, ◌++◌, length, take, map, filter, min, cond, Some, None, unwrap_or, refl, sym, ◌∙◌, ap, subst, arith, length-append, append_assoc, append-nil, flat_map, if◌then◌else◌}
use Rattle.std.specs.Prelude.{◌==◌, not}
use Rattle.std.specs.List.{AllByRecursion}
use Rattle.std.proofs.lemmas.Grind.{common_steps, flat_map-append}
use Rattle.std.proofs.lemmas.List.{map-append, take-append-le}
use Rattle.std.proofs.lemmas.List.Folds.{list_any-append}
use Rattle.std.proofs.lemmas.List.Sums.{sum_by-take-le}
use Rattle.h3_field.specs.Field.{Field, field_size, section_size}
use Rattle.h3_field.specs.Integer.{groups}
use Rattle.h3_field.specs.Line.{line_bytes}
use Rattle.h3_field.specs.Prefix.{prefix_bytes}
use Rattle.h3_field.specs.Instruction.{EncoderInstruction, encoder_bytes, DecoderInstruction, decoder_bytes}
use Rattle.h3_field.specs.Instruction.EncoderInstruction.{SetCapacity}
use Rattle.h3_field.specs.Instruction.DecoderInstruction.{Acknowledge, CancelStream, Increment}
use Rattle.h3_field.specs.InstructionAnswer.{IsReply}
use Rattle.h3_field.specs.declared.decoder_error.DecoderError.{DecoderError}
use Rattle.h3_field.specs.declared.decoder_error.DecoderError.TheVariants as decoder_error
use Rattle.h3_field.specs.declared.error.Error.{Error}
use Rattle.h3_field.specs.declared.error.Error.TheVariants as of
use Rattle.h3_qpack.specs.EncoderHistory.{EncoderHistory, no_table, encoder_after, encoder_after_all, writing_on}
use Rattle.h3_qpack.specs.TableHistory.{IsReadAs}
use Rattle.h3_qpack.specs.DecoderState.{DecoderState, announcing, decoder_after_all}
use Rattle.h3_qpack.specs.declared.encoder_choices.EncoderChoices.{EncoderChoices}
use Rattle.h3_qpack.specs.GuardLaws.{as_given, guarded_on}
use Rattle.h3_qpack.specs.SectionEncoding.{guarded_fields, draft_of, required_insert_count, encoded_section, instructions_for, having_inserted, sent_section}
use Rattle.h3_qpack.specs.Meaning.{MeansFields, IsMissing, IsBadSection}
use Rattle.h3_qpack.specs.SectionAnswers.{IsReasonFor}
use Rattle.h3_qpack.specs.Instructions.{BeginsBad, BeginsRefused}
use Rattle.h3_qpack.specs.EncoderAnswers.{IsLeft}
use Rattle.h3_qpack.specs.Increments.{increment_for}
use Rattle.h3_qpack.specs.Encodings.{IsWrittenLine, IsWrittenInstruction, IsWritten}
use Rattle.h3_qpack.specs.Session.{Session, UndecodedSection, IsSound, is_canceled, oldest, without_oldest, count_of, encoded, inserted, decoded, after_cancellation}
use Rattle.h3_qpack.specs.Schedule.{beginning, without_section}
use Rattle.h3_qpack.specs.Exchange.{Stream, opening, no_bytes, EncodedSection, ExchangeHistory, writing, arriving, reading, start, is_given_up, section_of, without_section_of, DecoderReads, EncoderReads, HasSection, Encodes, DeliversToDecoder, DeliversToEncoder, Decodes, Cancels, giving_up, IsEvent, Happens, Exchange, Before, Then}
use Rattle.h3_qpack.specs.Expected.{EncodesTo, ReadsInsertions, DeliversInsertions, DeliversDecoderInstructions, DecodesAs, CancelsAs, Expects, Expected, NoEvent, NextEvent}
use Rattle.h3_qpack.specs.declared.session.SessionEvent.{SessionEvent}
use Rattle.h3_qpack.specs.declared.session.SessionEvent.TheVariants as event
use Rattle.h3_qpack.specs.declared.session.SessionAnswer.{SessionAnswer}
use Rattle.h3_qpack.specs.declared.session.SessionAnswer.TheVariants as answer
use Rattle.h3_table.specs.ReleasingLaws.{All-join}
use Rattle.h3_qpack.proofs.Schedules.{beginning_is_sound}
use Rattle.h3_qpack.proofs.Sessions.{section_written, insertions_kept, insertions_read, section_decoded, stream_abandoned}
use Rattle.h3_qpack.proofs.Decoding.{oldest_holds}
use Rattle.h3_qpack.proofs.TablesRead.{decoder_at}
use Rattle.h3_qpack.proofs.EncoderStreams.{EncoderStream, encoder_stream_is, encoder_stream_count, encoder_stream_reads}
use Rattle.h3_qpack.proofs.DecoderStreams.{DecoderStream, heard_so, heard_sound, decoder_stream_reads}
use Rattle.h3_qpack.proofs.DecodesAgree.{IsDecoderOf, decodes_right, misses_right, none_bad}
use Rattle.h3_qpack.proofs.Writable.{lines_written, instructions_written}
use Rattle.h3_qpack.proofs.Canceled.{on_inserted, on_announced}

abbrev pub encoded_section_of : UndecodedSection → EncodedSection
encoded_section_of b = record { stream = b.stream; bytes = encoded_section b.encoder b.fields }

pub record IsRunSection (capacity : ℕ) (b : UndecodedSection) : Type 0 where
  pub lines : AllByRecursion IsWrittenLine (draft_of b.encoder b.fields).lines
  pub base : length b.encoder.inserted < 2 ^ 62
  pub announced_is : 0 < count_of b → b.encoder.announced ≡ capacity
  pub as_given : guarded_fields b.encoder b.fields ≡ b.fields

-- The two ends are those of the session.
pub record Stands (capacity : ℕ) (w : ExchangeHistory) (s : Session) : Type 0 where
  pub sound : IsSound s
  pub encoder : w.encoder ≡ s.encoder
  pub capacity_is : s.encoder.capacity ≡ capacity
  pub announced_is : s.encoder.announced ≡ capacity
  -- no choice is made in a run
  pub guards_none : s.encoder.choices.guards_secrets ≡ false
  pub count : ℕ
  pub encoder_stream : EncoderStream capacity s.instructions w.encoder_stream w.decoder count
  pub received : s.received ≡ count - length (opening capacity)
  pub decoder_stream : DecoderStream w.decoder_stream s.decoder_instructions
  pub sections : w.sections ≡ map encoded_section_of s.sections
  pub written : AllByRecursion (IsRunSection capacity) s.sections
  pub canceled : (stream : ℕ) → is_given_up w.canceled stream ≡ is_canceled s stream

pub reads_as : (capacity : ℕ) (w : ExchangeHistory) (s : Session) → Stands capacity w s → IsReadAs capacity capacity s.instructions s.encoder.inserted
reads_as capacity w s st = subst (λ c. IsReadAs capacity c s.instructions s.encoder.inserted) st.capacity_is (subst (λ c. IsReadAs c s.encoder.capacity s.instructions s.encoder.inserted) st.announced_is st.sound.read)

-- more instructions are written
encoder_stream_more : (capacity : ℕ) (is more : List EncoderInstruction) (t : Stream) (r : DecoderState) (count : ℕ) → EncoderStream capacity is t r count → AllByRecursion IsWrittenInstruction more
    → EncoderStream capacity (is ++ more) (writing t (flat_map encoder_bytes more)) r count
encoder_stream_more capacity is more t r count f w =
    let all = opening capacity ++ is in
    let longer : opening capacity ++ (is ++ more) ≡ all ++ more = sym (append_assoc (opening capacity) is more) in
    let front : take count (opening capacity ++ (is ++ more)) ≡ take count all = ap (take count) longer ∙ take-append-le count all more f.within in
    record {
      bytes_are = ap (λ bs. bs ++ flat_map encoder_bytes more) f.bytes_are ∙ sym (flat_map-append encoder_bytes all more) ∙ ap (flat_map encoder_bytes) (sym longer);
      written = subst (AllByRecursion IsWrittenInstruction) (sym longer) (All-join IsWrittenInstruction all more f.written w);
      within = omega (arith, f.within, ap length longer, length-append all more);
      read = f.read ∙ ap (λ xs. length (flat_map encoder_bytes xs)) (sym front);
      before = f.before;
      after = omega (arith, f.after, length-append t.bytes (flat_map encoder_bytes more));
      decoder = ap (decoder_after_all (Some (announcing capacity))) front ∙ f.decoder;
    }

-- one more of the decoder's instructions is written, or none
decoder_stream_more : (t : Stream) (is : List DecoderInstruction) (i : DecoderInstruction) → DecoderStream t is → IsReply i → DecoderStream (writing t (decoder_bytes i)) (is ++ i ∷ [])
decoder_stream_more t is i b w =
    record {
      read_before = b.read_before;
      bytes_are = ap (λ bs. bs ++ decoder_bytes i) b.bytes_are ∙ append_assoc b.read_before (flat_map decoder_bytes is) (decoder_bytes i)
          ∙ ap (λ bs. b.read_before ++ bs) (ap (λ bs. flat_map decoder_bytes is ++ bs) (sym (append-nil (decoder_bytes i))) ∙ sym (flat_map-append decoder_bytes is (i ∷ [])));
      replies = All-join IsReply is (i ∷ []) b.replies (w, tt);
      read = b.read;
      before = b.before;
      after = omega (arith, b.after, length-append t.bytes (decoder_bytes i));
    }

decoder_stream_same : (t : Stream) (is : List DecoderInstruction) → DecoderStream t is → DecoderStream (writing t []) is
decoder_stream_same t is b =
    record { read_before = b.read_before; bytes_are = append-nil t.bytes ∙ b.bytes_are; replies = b.replies; read = b.read; before = b.before; after = omega (arith, b.after, length-append t.bytes ([])) }

-- before anything
groups_few : (k n : ℕ) → length (groups k n) ≤ k + 1
groups_few zero n = omega arith
groups_few (suc k) n = grind (arith, common_steps, groups_few k (n / 128))

capacity_few : (capacity : ℕ) → length (encoder_bytes (SetCapacity capacity)) < 2 ^ 63
capacity_few capacity = grind (arith, common_steps, groups_few 9 (capacity - (2 ^ 5 - 1)))

begun_encoder_stream : (capacity : ℕ) → capacity < 2 ^ 30 → EncoderStream capacity [] (writing no_bytes (if capacity == 0 then [] else encoder_bytes (SetCapacity capacity))) (announcing capacity) 0
begun_encoder_stream capacity small =
    let b = by_test (capacity == 0) in
    record { bytes_are = b.1; written = b.0; within = omega arith; read = refl; before = omega arith; after = omega arith; decoder = refl }
  where
    by_test : (b : Bool) → (bytes : AllByRecursion IsWrittenInstruction ((if b then [] else SetCapacity capacity ∷ []) ++ []))
        × ((if b then [] else encoder_bytes (SetCapacity capacity)) ≡ flat_map encoder_bytes ((if b then [] else SetCapacity capacity ∷ []) ++ []))
    by_test true = (tt, refl)
    by_test false = (((omega (arith, small), tt, capacity_few capacity), tt), sym (append-nil (encoder_bytes (SetCapacity capacity))))

begun_stands : (capacity limit : ℕ) → capacity < 2 ^ 30 → Stands capacity (start capacity limit) (beginning false (2 ^ 30 - 1) capacity limit)
begun_stands capacity limit small =
    record {
      sound = beginning_is_sound false (2 ^ 30 - 1) capacity limit;
      encoder = ap (λ c. record no_table { announced = capacity; capacity = c; limit = limit }) (sym whole);
      capacity_is = whole;
      announced_is = refl;
      guards_none = refl;
      count = 0;
      encoder_stream = begun_encoder_stream capacity small;
      received = omega arith;
      decoder_stream = record { read_before = []; bytes_are = refl; replies = tt; read = refl; before = omega arith; after = omega arith };
      sections = refl;
      written = tt;
      canceled = λ stream. refl;
    }
  where
    whole : min (2 ^ 30 - 1) capacity ≡ capacity
    whole = grind (arith, common_steps, small)

-- a section is written
encoded_stands : (capacity : ℕ) (w : ExchangeHistory) (s : Session) (stream : ℕ) (fields : List Field) (count : ℕ) (new : ExchangeHistory) → Stands capacity w s → section_size fields < 2 ^ 62 → Encodes w stream fields (answer.Encoded count) new
    → (t : Session) × EncodesTo s stream fields (answer.Encoded count) t × Stands capacity new t
encoded_stands capacity w s stream fields count new st size h =
    let by = writing_on s.encoder stream in
    let same : writing_on w.encoder stream ≡ by = ap (λ x. writing_on x stream) st.encoder in
    let small : length by.inserted < 2 ^ 62 = omega (arith, st.sound.small, ap length (on_inserted s.encoder stream)) in
    let held : length (w.encoder_stream.bytes ++ flat_map encoder_bytes (instructions_for by fields)) < 2 ^ 63 =
    subst (λ x. length (w.encoder_stream.bytes ++ flat_map encoder_bytes (instructions_for x fields)) < 2 ^ 63) same (subst (λ (x : ExchangeHistory). length x.encoder_stream.bytes < 2 ^ 63) h.3 h.1.few) in
    let encoder_after = instructions_written by fields small h.1.are_bytes size (omega (arith, held, length-append w.encoder_stream.bytes (flat_map encoder_bytes (instructions_for by fields)))) in
    let section : length (encoded_section by fields) < 2 ^ 63 = subst (λ x. length (encoded_section x fields) < 2 ^ 63) same h.2 in
    let lines = lines_written by fields small h.1.are_bytes size
    (omega (arith, section, length-append (prefix_bytes by.announced (required_insert_count (draft_of by fields)) (length by.inserted)) (flat_map line_bytes (draft_of by fields).lines))) in
    let one : UndecodedSection = record { stream = stream; fields = fields; encoder = by } in (
      encoded s stream fields,
      (refl, h.0 ∙ ap (λ x. required_insert_count (draft_of x fields)) same),
      subst (λ x. Stands capacity x (encoded s stream fields)) (sym h.3) (record {
        sound = section_written s stream fields st.sound;
        encoder = ap (λ x. sent_section x stream fields) st.encoder;
        capacity_is = st.capacity_is;
        announced_is = st.announced_is;
        guards_none = st.guards_none;
        count = st.count;
        encoder_stream = subst (λ x. EncoderStream capacity (s.instructions ++ instructions_for by fields) (writing w.encoder_stream (flat_map encoder_bytes (instructions_for x fields))) w.decoder st.count) (sym same)
            (encoder_stream_more capacity s.instructions (instructions_for by fields) w.encoder_stream w.decoder st.count st.encoder_stream encoder_after);
        received = st.received;
        decoder_stream = st.decoder_stream;
        sections = ap (λ bs. bs ++ record { stream = stream; bytes = encoded_section (writing_on w.encoder stream) fields } ∷ []) st.sections
            ∙ ap (λ x. map encoded_section_of s.sections ++ record { stream = stream; bytes = encoded_section x fields } ∷ []) same ∙ sym (map-append encoded_section_of s.sections (one ∷ []));
        written = All-join (IsRunSection capacity) s.sections (one ∷ []) st.written (record { lines = lines; base = small; announced_is = λ above. on_announced s.encoder stream fields above ∙ st.announced_is; as_given = guarded_on s.encoder stream fields ∙ as_given s.encoder fields st.guards_none }, tt);
        canceled = st.canceled;
      }),
    )

-- or cut off
cut_stands : (capacity : ℕ) (w : ExchangeHistory) (s : Session) (stream : ℕ) (fields : List Field) (e : Error) (new : ExchangeHistory) → Stands capacity w s → section_size fields < 2 ^ 62 → Encodes w stream fields (answer.Refused e) new
    → (t : Session) × EncodesTo s stream fields (answer.Refused e) t × Stands capacity new t
cut_stands capacity w s stream fields e new st size h =
    let front = take h.1.0 fields in
    let by = writing_on s.encoder stream in
    let same : writing_on w.encoder stream ≡ by = ap (λ x. writing_on x stream) st.encoder in
    let small : length by.inserted < 2 ^ 62 = omega (arith, st.sound.small, ap length (on_inserted s.encoder stream)) in
    let bytes : length (w.encoder_stream.bytes ++ flat_map encoder_bytes (instructions_for by front)) < 2 ^ 63 =
    subst (λ x. length (w.encoder_stream.bytes ++ flat_map encoder_bytes (instructions_for x front)) < 2 ^ 63) same (subst (λ (x : ExchangeHistory). length x.encoder_stream.bytes < 2 ^ 63) h.1.3 h.1.2.few) in
    let encoder_after = instructions_written by front small h.1.2.are_bytes (omega (arith, size, sum_by-take-le field_size fields h.1.0))
    (omega (arith, bytes, length-append w.encoder_stream.bytes (flat_map encoder_bytes (instructions_for by front)))) in (
      without_section s stream front,
      (h.0, (h.1.0, h.1.1, refl)),
      subst (λ x. Stands capacity x (without_section s stream front)) (sym h.1.3) (record {
        sound = insertions_kept s stream front st.sound;
        encoder = ap (λ (x : EncoderHistory). having_inserted x stream front) st.encoder;
        capacity_is = st.capacity_is;
        announced_is = st.announced_is;
        guards_none = st.guards_none;
        count = st.count;
        encoder_stream = subst (λ x. EncoderStream capacity (s.instructions ++ instructions_for by front) (writing w.encoder_stream (flat_map encoder_bytes (instructions_for x front))) w.decoder st.count) (sym same)
            (encoder_stream_more capacity s.instructions (instructions_for by front) w.encoder_stream w.decoder st.count st.encoder_stream encoder_after);
        received = st.received;
        decoder_stream = st.decoder_stream;
        sections = st.sections;
        written = st.written;
        canceled = st.canceled;
      }),
    )

pub encodes_stands : (capacity : ℕ) (w : ExchangeHistory) (s : Session) (stream : ℕ) (fields : List Field) (a : SessionAnswer) (new : ExchangeHistory) → Stands capacity w s → section_size fields < 2 ^ 62 → Encodes w stream fields a new
    → (t : Session) × EncodesTo s stream fields a t × Stands capacity new t
encodes_stands capacity w s stream fields (answer.Encoded count) new st size h = encoded_stands capacity w s stream fields count new st size h
encodes_stands capacity w s stream fields (answer.Refused e) new st size h = cut_stands capacity w s stream fields e new st size h
encodes_stands capacity w s stream fields answer.Delivered new st size h = absurd h
encodes_stands capacity w s stream fields (answer.Short most) new st size h = absurd h
encodes_stands capacity w s stream fields (answer.Decoded fs) new st size h = absurd h
encodes_stands capacity w s stream fields (answer.Missing count) new st size h = absurd h
encodes_stands capacity w s stream fields answer.NoBlock new st size h = absurd h
encodes_stands capacity w s stream fields answer.Canceled new st size h = absurd h

zero_of : (n : ℕ) → (n == 0) ≡ true → n ≡ 0
zero_of n e = grind (arith, common_steps)

some_of : (n : ℕ) → (n == 0) ≡ false → 0 < n
some_of n e = grind (arith, common_steps)

-- the decoder reads more
abbrev instructions_more : Session → ℕ → Session
instructions_more s count = if count == 0 then s else inserted s count

encoder_stream_step : (capacity : ℕ) (w : ExchangeHistory) (s : Session) (more : ℕ) (new : ExchangeHistory) → Stands capacity w s → (d : DecoderReads w more new)
    → (t : Session) × ReadsInsertions s t × Stands capacity new t × (BeginsBad new.decoder d.left → ⊥)
encoder_stream_step capacity w s more new st d =
    let reads = reads_as capacity w s st in
    let f = encoder_stream_reads capacity s.instructions s.encoder.inserted w.encoder_stream w.decoder new.decoder st.count more d.left reads st.encoder_stream d.enough d.read in
    let opened = length (opening capacity) in
    let gained = (st.count + f.more - opened) - (st.count - opened) in
    let before = encoder_stream_count capacity s.instructions s.encoder.inserted w.encoder_stream w.decoder st.count reads st.encoder_stream in
    let after = encoder_stream_count capacity s.instructions s.encoder.inserted (reading (arriving w.encoder_stream more) (length d.left)) new.decoder (st.count + f.more) reads f.encoder_stream in
    let gained_is : new.decoder.table.inserted - w.decoder.table.inserted ≡ gained = omega (arith, before, after) in
    let within : s.received + gained ≤ length s.encoder.inserted = omega (arith, st.received, f.encoder_stream.within, reads.one_each, length-append (opening capacity) s.instructions) in
    let few : gained < 2 ^ 62 = omega (arith, within, st.sound.small) in
    let received : s.received + gained ≡ st.count + f.more - opened = omega (arith, st.received) in
    let written : new.decoder_stream ≡ writing w.decoder_stream (increment_for gained) = ap (λ (x : ExchangeHistory). x.decoder_stream) d.is ∙ ap (λ n. writing w.decoder_stream (increment_for n)) gained_is in
    let encoder_stream : EncoderStream capacity s.instructions new.encoder_stream new.decoder (st.count + f.more) = subst (λ t. EncoderStream capacity s.instructions t new.decoder (st.count + f.more)) (sym (ap (λ (x : ExchangeHistory). x.encoder_stream) d.is)) f.encoder_stream in
    let choice = by_test gained (gained == 0) refl st few within (st.count + f.more) encoder_stream received written (ap (λ (x : ExchangeHistory). x.encoder) d.is) (ap (λ (x : ExchangeHistory). x.sections) d.is) (ap (λ (x : ExchangeHistory). x.canceled) d.is) in
    (instructions_more s gained, (gained, within, refl), choice, f.not_bad)
  where
    by_test : (gained : ℕ) (b : Bool) → (gained == 0) ≡ b → Stands capacity w s → gained < 2 ^ 62 → s.received + gained ≤ length s.encoder.inserted → (count : ℕ) → EncoderStream capacity s.instructions new.encoder_stream new.decoder count
        → s.received + gained ≡ count - length (opening capacity) → new.decoder_stream ≡ writing w.decoder_stream (increment_for gained) → new.encoder ≡ w.encoder → new.sections ≡ w.sections → new.canceled ≡ w.canceled
        → Stands capacity new (instructions_more s gained)
    by_test gained true e st few within count encoder_stream received written encoder sections canceled =
        let none = zero_of gained e in
        rw e (record {
          sound = st.sound;
          encoder = encoder ∙ st.encoder;
          capacity_is = st.capacity_is;
          announced_is = st.announced_is;
          guards_none = st.guards_none;
          count = count;
          encoder_stream = encoder_stream;
          received = omega (arith, received, none);
          decoder_stream = subst (λ t. DecoderStream t s.decoder_instructions) (sym (rw e at written)) (decoder_stream_same w.decoder_stream s.decoder_instructions st.decoder_stream);
          sections = sections ∙ st.sections;
          written = st.written;
          canceled = λ stream. ap (λ cs. is_given_up cs stream) canceled ∙ st.canceled stream;
        })
    by_test gained false e st few within count encoder_stream received written encoder sections canceled =
        rw e (record {
          sound = insertions_read s gained (some_of gained e) within st.sound;
          encoder = encoder ∙ st.encoder;
          capacity_is = st.capacity_is;
          announced_is = st.announced_is;
          guards_none = st.guards_none;
          count = count;
          encoder_stream = encoder_stream;
          received = received;
          decoder_stream = subst (λ t. DecoderStream t (s.decoder_instructions ++ Increment gained ∷ [])) (sym (rw e at written)) (decoder_stream_more w.decoder_stream s.decoder_instructions (Increment gained) st.decoder_stream few);
          sections = sections ∙ st.sections;
          written = st.written;
          canceled = λ stream. ap (λ cs. is_given_up cs stream) canceled ∙ st.canceled stream;
        })

-- a refusal that is no bad instruction is for want of memory
only_memory : (bad : Type 0) (e : DecoderError) → IsReasonFor bad (λ count. ⊥) e → (bad → ⊥) → e ≡ decoder_error.OutOfMemory
only_memory bad decoder_error.OutOfMemory h none = refl
only_memory bad (decoder_error.MissingRefs count) h none = absurd h
only_memory bad (decoder_error.HeaderTooLong size) h none = absurd h
only_memory bad (decoder_error.InvalidInteger x) h none = absurd (none h)
only_memory bad (decoder_error.InvalidString x) h none = absurd (none h)
only_memory bad (decoder_error.InvalidIndex x) h none = absurd (none h)
only_memory bad (decoder_error.DynamicTable x) h none = absurd (none h)
only_memory bad (decoder_error.InvalidStaticIndex x) h none = absurd (none h)
only_memory bad (decoder_error.UnknownPrefix x) h none = absurd (none h)
only_memory bad decoder_error.BadBaseIndex h none = absurd (none h)
only_memory bad decoder_error.UnexpectedEnd h none = absurd (none h)
only_memory bad decoder_error.BufSize h none = absurd (none h)

pub encoder_stream_stands : (capacity : ℕ) (w : ExchangeHistory) (s : Session) (more : ℕ) (a : SessionAnswer) (new : ExchangeHistory) → Stands capacity w s → DeliversToDecoder w more a new → (t : Session) × DeliversInsertions s a t × Stands capacity new t
encoder_stream_stands capacity w s more (answer.Short most) new st h = (s, refl, subst (λ x. Stands capacity x s) (sym h.2) st)
encoder_stream_stands capacity w s more answer.Delivered new st h = let f = encoder_stream_step capacity w s more new st h.0 in (f.0, f.1, f.2)
encoder_stream_stands capacity w s more (answer.Refused (of.Decoder e)) new st h =
    let f = encoder_stream_step capacity w s more new st h.0 in (f.0, (ap of.Decoder (only_memory (BeginsBad new.decoder h.0.left) e h.1 f.3), f.1), f.2)
encoder_stream_stands capacity w s more (answer.Refused (of.Encoder e)) new st h = absurd h
encoder_stream_stands capacity w s more (answer.Encoded count) new st h = absurd h
encoder_stream_stands capacity w s more (answer.Decoded fs) new st h = absurd h
encoder_stream_stands capacity w s more (answer.Missing count) new st h = absurd h
encoder_stream_stands capacity w s more answer.NoBlock new st h = absurd h
encoder_stream_stands capacity w s more answer.Canceled new st h = absurd h

-- the encoder reads more
encoder_after_capacity : (s : EncoderHistory) (i : DecoderInstruction) → (encoder_after s i).capacity ≡ s.capacity
encoder_after_capacity s (Acknowledge stream) = refl
encoder_after_capacity s (CancelStream stream) = refl
encoder_after_capacity s (Increment count) = refl

encoder_after_all_capacity : (s : EncoderHistory) (is : List DecoderInstruction) → (encoder_after_all s is).capacity ≡ s.capacity
encoder_after_all_capacity s [] = refl
encoder_after_all_capacity s (i ∷ is) = encoder_after_all_capacity (encoder_after s i) is ∙ encoder_after_capacity s i

encoder_after_announced : (s : EncoderHistory) (i : DecoderInstruction) → (encoder_after s i).announced ≡ s.announced
encoder_after_announced s (Acknowledge stream) = refl
encoder_after_announced s (CancelStream stream) = refl
encoder_after_announced s (Increment count) = refl

encoder_after_all_announced : (s : EncoderHistory) (is : List DecoderInstruction) → (encoder_after_all s is).announced ≡ s.announced
encoder_after_all_announced s [] = refl
encoder_after_all_announced s (i ∷ is) = encoder_after_all_announced (encoder_after s i) is ∙ encoder_after_announced s i

encoder_after_choices : (s : EncoderHistory) (i : DecoderInstruction) → (encoder_after s i).choices ≡ s.choices
encoder_after_choices s (Acknowledge stream) = refl
encoder_after_choices s (CancelStream stream) = refl
encoder_after_choices s (Increment count) = refl

encoder_after_all_choices : (s : EncoderHistory) (is : List DecoderInstruction) → (encoder_after_all s is).choices ≡ s.choices
encoder_after_all_choices s [] = refl
encoder_after_all_choices s (i ∷ is) = encoder_after_all_choices (encoder_after s i) is ∙ encoder_after_choices s i

decoder_stream_step : (capacity : ℕ) (w : ExchangeHistory) (s : Session) (more : ℕ) (new : ExchangeHistory) → Stands capacity w s → (d : EncoderReads w more new)
    → (count : ℕ) × Stands capacity new (heard_so s count) × (BeginsRefused new.encoder d.left → ⊥)
decoder_stream_step capacity w s more new st d =
    let b = decoder_stream_reads s w.decoder_stream more d.instructions d.left st.sound st.decoder_stream d.enough d.split in
    let encoder : new.encoder ≡ encoder_after_all s.encoder d.instructions = ap (λ (x : ExchangeHistory). x.encoder) d.is ∙ ap (λ x. encoder_after_all x d.instructions) st.encoder in (
      b.count,
      subst (λ x. Stands capacity x (heard_so s b.count)) (sym d.is) (record {
        sound = heard_sound b.count s st.sound;
        encoder = ap (λ x. encoder_after_all x d.instructions) st.encoder ∙ ap (encoder_after_all s.encoder) b.are;
        capacity_is = encoder_after_all_capacity s.encoder (take b.count s.decoder_instructions) ∙ st.capacity_is;
        announced_is = encoder_after_all_announced s.encoder (take b.count s.decoder_instructions) ∙ st.announced_is;
        guards_none = ap (λ (c : EncoderChoices). c.guards_secrets) (encoder_after_all_choices s.encoder (take b.count s.decoder_instructions)) ∙ st.guards_none;
        count = st.count;
        encoder_stream = st.encoder_stream;
        received = st.received;
        decoder_stream = b.decoder_stream;
        sections = st.sections;
        written = st.written;
        canceled = st.canceled;
      }),
      λ refused. b.not_refused (subst (λ x. BeginsRefused x d.left) encoder refused),
    )

pub decoder_stream_stands : (capacity : ℕ) (w : ExchangeHistory) (s : Session) (more : ℕ) (a : SessionAnswer) (new : ExchangeHistory) → Stands capacity w s → DeliversToEncoder w more a new → (t : Session) × DeliversDecoderInstructions s a t × Stands capacity new t
decoder_stream_stands capacity w s more (answer.Short most) new st h = (s, refl, subst (λ x. Stands capacity x s) (sym h.2) st)
decoder_stream_stands capacity w s more answer.Delivered new st h = let b = decoder_stream_step capacity w s more new st h.0 in (heard_so s b.0, (b.0, refl), b.1)
decoder_stream_stands capacity w s more (answer.Refused (of.Encoder e)) new st h = by_kind h.1
  where
    by_kind : IsLeft new.encoder h.0.left e → (t : Session) × DeliversDecoderInstructions s (answer.Refused (of.Encoder e)) t × Stands capacity new t
    by_kind (inl refused) = let b = decoder_stream_step capacity w s more new st h.0 in absurd (b.2 refused)
    by_kind (inr lacks) = let b = decoder_stream_step capacity w s more new st h.0 in (heard_so s b.0, (ap of.Encoder lacks.memory, (b.0, refl)), b.1)
decoder_stream_stands capacity w s more (answer.Refused (of.Decoder e)) new st h = absurd h
decoder_stream_stands capacity w s more (answer.Encoded count) new st h = absurd h
decoder_stream_stands capacity w s more (answer.Decoded fs) new st h = absurd h
decoder_stream_stands capacity w s more (answer.Missing count) new st h = absurd h
decoder_stream_stands capacity w s more answer.NoBlock new st h = absurd h
decoder_stream_stands capacity w s more answer.Canceled new st h = absurd h

-- the stream's oldest section
record SectionAt (stream : ℕ) (sections : List UndecodedSection) (c : EncodedSection) : Type 0 where
  section : UndecodedSection
  is : oldest stream sections ≡ Some section
  encoded_is : c ≡ encoded_section_of section
  of_stream : section.stream ≡ stream

section_at : (stream : ℕ) (sections : List UndecodedSection) (c : EncodedSection) → section_of stream (map encoded_section_of sections) ≡ Some c → SectionAt stream sections c
section_at stream [] c h = absurd (cc)
section_at stream (b ∷ bs) c h = by_test (b.stream == stream) refl h (λ k. section_at stream bs c k)
  where
    by_test : (t : Bool) → (b.stream == stream) ≡ t → (if t then Some (encoded_section_of b) else section_of stream (map encoded_section_of bs)) ≡ Some c
        → (section_of stream (map encoded_section_of bs) ≡ Some c → SectionAt stream bs c) → SectionAt stream (b ∷ bs) c
    by_test true e h later =
        record { section = b; is = rw e refl; encoded_is = sym (ap (λ o. unwrap_or o c) h); of_stream = grind (arith, common_steps) }
    by_test false e h later =
        let k = later h in record { section = k.section; is = rw e k.is; encoded_is = k.encoded_is; of_stream = k.of_stream }

no_section : (stream : ℕ) (sections : List UndecodedSection) → section_of stream (map encoded_section_of sections) ≡ None → oldest stream sections ≡ None
no_section stream [] h = refl
no_section stream (b ∷ bs) h = by_test (b.stream == stream) refl h (no_section stream bs)
  where
    by_test : (t : Bool) → (b.stream == stream) ≡ t → (if t then Some (encoded_section_of b) else section_of stream (map encoded_section_of bs)) ≡ None
        → (section_of stream (map encoded_section_of bs) ≡ None → oldest stream bs ≡ None) → oldest stream (b ∷ bs) ≡ None
    by_test true e h later = absurd (cc)
    by_test false e h later = rw e (later h)

without_same : (stream : ℕ) (sections : List UndecodedSection) → without_section_of stream (map encoded_section_of sections) ≡ map encoded_section_of (without_oldest stream sections)
without_same stream [] = refl
without_same stream (b ∷ bs) = by_test (b.stream == stream) (without_same stream bs)
  where
    by_test : (t : Bool) → without_section_of stream (map encoded_section_of bs) ≡ map encoded_section_of (without_oldest stream bs)
        → (if t then map encoded_section_of bs else encoded_section_of b ∷ without_section_of stream (map encoded_section_of bs)) ≡ map encoded_section_of (if t then bs else b ∷ without_oldest stream bs)
    by_test true h = refl
    by_test false h = ap (λ cs. encoded_section_of b ∷ cs) h

All-without : (P : UndecodedSection → Type 0) (stream : ℕ) (sections : List UndecodedSection) → AllByRecursion P sections → AllByRecursion P (without_oldest stream sections)
All-without P stream [] h = tt
All-without P stream (b ∷ bs) h = by_test (b.stream == stream) (All-without P stream bs h.1)
  where
    by_test : (t : Bool) → AllByRecursion P (without_oldest stream bs) → AllByRecursion P (if t then bs else b ∷ without_oldest stream bs)
    by_test true k = h.1
    by_test false k = (h.0, k)

-- the section is that of the session, and the decoder can read it
record Tried (capacity : ℕ) (w : ExchangeHistory) (s : Session) (stream : ℕ) (c : EncodedSection) : Type 0 where
  section : UndecodedSection
  is : oldest section.stream s.sections ≡ Some section
  is_there : oldest stream s.sections ≡ Some section
  encoded_is : c ≡ encoded_section_of section
  of_stream : section.stream ≡ stream
  alive : is_canceled s section.stream ≡ false
  alive_there : is_canceled s stream ≡ false
  written : IsWritten s section
  as_given : guarded_fields section.encoder section.fields ≡ section.fields
  decoder : IsDecoderOf s w.decoder

decoder_is : (capacity : ℕ) (w : ExchangeHistory) (s : Session) → Stands capacity w s → IsDecoderOf s w.decoder
decoder_is capacity w s st = by_case (encoder_stream_is capacity s.instructions s.encoder.inserted w.encoder_stream w.decoder st.count (reads_as capacity w s st) st.encoder_stream)
  where
    by_case : ((st.count ≡ 0) × (w.decoder ≡ announcing capacity)) ⊎ (w.decoder ≡ decoder_at capacity capacity (take (st.count - length (opening capacity)) s.encoder.inserted)) → IsDecoderOf s w.decoder
    by_case (inl none) = inr (omega (arith, st.received, none.0), none.1 ∙ ap announcing (sym st.announced_is))
    by_case (inr is) = inl (is ∙ ap (λ n. decoder_at capacity capacity (take n s.encoder.inserted)) (sym st.received) ∙ ap (λ c. decoder_at c capacity (take s.received s.encoder.inserted)) (sym st.announced_is)
        ∙ ap (λ c. decoder_at s.encoder.announced c (take s.received s.encoder.inserted)) (sym st.capacity_is))

tried : (capacity : ℕ) (w : ExchangeHistory) (s : Session) (stream : ℕ) → Stands capacity w s → (h : HasSection w stream) → Tried capacity w s stream h.section
tried capacity w s stream st h =
    let at = section_at stream s.sections h.section (subst (λ bs. section_of stream bs ≡ Some h.section) st.sections h.is) in
    let own = oldest_holds (IsRunSection capacity) stream s.sections at.section st.written at.is in
    let alive : is_canceled s stream ≡ false = sym (st.canceled stream) ∙ h.alive in
    record {
      section = at.section;
      is = subst (λ n. oldest n s.sections ≡ Some at.section) (sym at.of_stream) at.is;
      is_there = at.is;
      encoded_is = at.encoded_is;
      of_stream = at.of_stream;
      alive = subst (λ n. is_canceled s n ≡ false) (sym at.of_stream) alive;
      alive_there = alive;
      written = record { lines = own.lines; base = own.base; announced = λ above. own.announced_is above ∙ sym st.announced_is };
      as_given = own.as_given;
      decoder = decoder_is capacity w s st;
    }

decoded_stands : (capacity : ℕ) (w : ExchangeHistory) (s : Session) (stream : ℕ) (fields : Vec Field Global) (new : ExchangeHistory) → Stands capacity w s → stream < 2 ^ 62 → Decodes w stream (answer.Decoded fields) new
    → (t : Session) × DecodesAs s stream (answer.Decoded fields) t × Stands capacity new t
decoded_stands capacity w s stream fields new st few h =
    let k = tried capacity w s stream st h.0 in
    let right = decodes_right s k.section w.decoder h.1 fields.items st.sound k.decoder k.is k.alive k.written (subst (λ c. MeansFields w.decoder c.bytes h.1 fields.items) k.encoded_is h.2) in (
      decoded s k.section,
      (k.alive_there, (k.section, k.is_there, right.fields_are ∙ k.as_given, right.came, refl)),
      subst (λ x. Stands capacity x (decoded s k.section)) (sym h.3) (record {
        sound = section_decoded s k.section k.is k.alive right.came st.sound;
        encoder = st.encoder;
        capacity_is = st.capacity_is;
        announced_is = st.announced_is;
        guards_none = st.guards_none;
        count = st.count;
        encoder_stream = st.encoder_stream;
        received = st.received;
        decoder_stream = subst (λ n. DecoderStream (writing w.decoder_stream (if n == 0 then [] else decoder_bytes (Acknowledge stream))) (decoded s k.section).decoder_instructions) (sym right.count_is)
            (subst (λ n. DecoderStream (writing w.decoder_stream (if count_of k.section == 0 then [] else decoder_bytes (Acknowledge n))) (decoded s k.section).decoder_instructions) k.of_stream (by_test (count_of k.section == 0) k.section.stream (omega (arith, few, k.of_stream))));
        sections = ap (without_section_of stream) st.sections ∙ without_same stream s.sections ∙ ap (λ n. map encoded_section_of (without_oldest n s.sections)) (sym k.of_stream);
        written = All-without (IsRunSection capacity) k.section.stream s.sections st.written;
        canceled = st.canceled;
      }),
    )
  where
    by_test : (b : Bool) (n : ℕ) → n < 2 ^ 62 → DecoderStream (writing w.decoder_stream (if b then [] else decoder_bytes (Acknowledge n))) (s.decoder_instructions ++ (if b then [] else Acknowledge n ∷ []))
    by_test true n small = subst (DecoderStream (writing w.decoder_stream [])) (sym (append-nil s.decoder_instructions)) (decoder_stream_same w.decoder_stream s.decoder_instructions st.decoder_stream)
    by_test false n small = decoder_stream_more w.decoder_stream s.decoder_instructions (Acknowledge n) st.decoder_stream small

pub decodes_stands : (capacity : ℕ) (w : ExchangeHistory) (s : Session) (stream : ℕ) (a : SessionAnswer) (new : ExchangeHistory) → Stands capacity w s → stream < 2 ^ 62 → Decodes w stream a new → (t : Session) × DecodesAs s stream a t × Stands capacity new t
decodes_stands capacity w s stream answer.Canceled new st few h = (s, (sym (st.canceled stream) ∙ h.0, refl), subst (λ x. Stands capacity x s) (sym h.1) st)
decodes_stands capacity w s stream answer.NoBlock new st few h =
    (s, (sym (st.canceled stream) ∙ h.0, no_section stream s.sections (subst (λ bs. section_of stream bs ≡ None) st.sections h.1), refl), subst (λ x. Stands capacity x s) (sym h.2) st)
decodes_stands capacity w s stream (answer.Decoded fields) new st few h = decoded_stands capacity w s stream fields new st few h
decodes_stands capacity w s stream (answer.Missing count) new st few h =
    let k = tried capacity w s stream st h.0 in
    let right = misses_right s k.section w.decoder count st.sound k.decoder k.is k.alive k.written (subst (λ c. IsMissing w.decoder c.bytes count) k.encoded_is h.1) in
    (s, (k.alive_there, (k.section, k.is_there, right.0, right.1, refl)), subst (λ x. Stands capacity x s) (sym h.2) st)
decodes_stands capacity w s stream (answer.Refused (of.Decoder e)) new st few h =
    let k = tried capacity w s stream st h.0 in
    let memory = only_memory (IsBadSection w.decoder h.0.section.bytes) e h.1
    (λ bad. none_bad s k.section w.decoder st.sound k.decoder k.is k.alive k.written (subst (λ c. IsBadSection w.decoder c.bytes) k.encoded_is bad)) in
    (s, (ap of.Decoder memory, refl), subst (λ x. Stands capacity x s) (sym h.2) st)
decodes_stands capacity w s stream (answer.Refused (of.Encoder e)) new st few h = absurd h
decodes_stands capacity w s stream (answer.Encoded count) new st few h = absurd h
decodes_stands capacity w s stream answer.Delivered new st few h = absurd h
decodes_stands capacity w s stream (answer.Short most) new st few h = absurd h

-- a stream is given up
filter_same : (stream : ℕ) (sections : List UndecodedSection) → filter (λ c. not (c.stream == stream)) (map encoded_section_of sections) ≡ map encoded_section_of (filter (λ b. not (b.stream == stream)) sections)
filter_same stream [] = refl
filter_same stream (b ∷ bs) = by_test (not (b.stream == stream)) (filter_same stream bs)
  where
    by_test : (t : Bool) → filter (λ c. not (c.stream == stream)) (map encoded_section_of bs) ≡ map encoded_section_of (filter (λ c. not (c.stream == stream)) bs)
        → cond t (encoded_section_of b ∷ filter (λ c. not (c.stream == stream)) (map encoded_section_of bs)) (filter (λ c. not (c.stream == stream)) (map encoded_section_of bs))
        ≡ map encoded_section_of (cond t (b ∷ filter (λ c. not (c.stream == stream)) bs) (filter (λ c. not (c.stream == stream)) bs))
    by_test true h = ap (λ cs. encoded_section_of b ∷ cs) h
    by_test false h = h

All-filter : (P : UndecodedSection → Type 0) (test : UndecodedSection → Bool) (sections : List UndecodedSection) → AllByRecursion P sections → AllByRecursion P (filter test sections)
All-filter P test [] h = tt
All-filter P test (b ∷ bs) h = by_test (test b) (All-filter P test bs h.1)
  where
    by_test : (t : Bool) → AllByRecursion P (filter test bs) → AllByRecursion P (cond t (b ∷ filter test bs) (filter test bs))
    by_test true k = (h.0, k)
    by_test false k = k

or_turned : (a b : Bool) → (a || (b || false)) ≡ (b || a)
or_turned true true = refl
or_turned true false = refl
or_turned false true = refl
or_turned false false = refl

given_up_stands : (capacity : ℕ) (w : ExchangeHistory) (s : Session) (stream : ℕ) → Stands capacity w s → stream < 2 ^ 62 → Stands capacity (giving_up w stream) (after_cancellation s stream)
given_up_stands capacity w s stream st few =
    record {
      sound = stream_abandoned s stream st.sound;
      encoder = st.encoder;
      capacity_is = st.capacity_is;
      announced_is = st.announced_is;
      guards_none = st.guards_none;
      count = st.count;
      encoder_stream = st.encoder_stream;
      received = st.received;
      decoder_stream = decoder_stream_more w.decoder_stream s.decoder_instructions (CancelStream stream) st.decoder_stream few;
      sections = ap (λ bs. filter (λ c. not (c.stream == stream)) bs) st.sections ∙ filter_same stream s.sections;
      written = All-filter (IsRunSection capacity) (λ b. not (b.stream == stream)) s.sections st.written;
      canceled = λ other. list_any-append (λ n. n == other) w.canceled (stream ∷ []) ∙ ap (λ b. b || ((stream == other) || false)) (st.canceled other) ∙ or_turned (is_canceled s other) (stream == other);
    }

pub cancels_stands : (capacity : ℕ) (w : ExchangeHistory) (s : Session) (stream : ℕ) (a : SessionAnswer) (new : ExchangeHistory) → Stands capacity w s → stream < 2 ^ 62 → Cancels w stream a new → (t : Session) × CancelsAs s stream a t × Stands capacity new t
cancels_stands capacity w s stream answer.Canceled new st few h = (
  (if is_canceled s stream then s else after_cancellation s stream),
  refl,
  subst (λ x. Stands capacity x (if is_canceled s stream then s else after_cancellation s stream)) (sym h)
      (subst (λ b. Stands capacity (if b then w else giving_up w stream) (if is_canceled s stream then s else after_cancellation s stream)) (sym (st.canceled stream)) (by_test (is_canceled s stream))),
)
  where
    by_test : (b : Bool) → Stands capacity (if b then w else giving_up w stream) (if b then s else after_cancellation s stream)
    by_test true = st
    by_test false = given_up_stands capacity w s stream st few
cancels_stands capacity w s stream (answer.Refused e) new st few h = (s, (h.0, refl), subst (λ x. Stands capacity x s) (sym h.1) st)
cancels_stands capacity w s stream (answer.Encoded count) new st few h = absurd h
cancels_stands capacity w s stream answer.Delivered new st few h = absurd h
cancels_stands capacity w s stream (answer.Short most) new st few h = absurd h
cancels_stands capacity w s stream (answer.Decoded fs) new st few h = absurd h
cancels_stands capacity w s stream (answer.Missing count) new st few h = absurd h
cancels_stands capacity w s stream answer.NoBlock new st few h = absurd h

-- one event
event_stands : (capacity : ℕ) (w : ExchangeHistory) (s : Session) (e : SessionEvent) (a : SessionAnswer) (new : ExchangeHistory) → Stands capacity w s → IsEvent e → Happens w e a new → (t : Session) × Expects s e a t × Stands capacity new t
event_stands capacity w s (event.Encode stream fields) a new st small h = encodes_stands capacity w s stream fields.items a new st small.1 h
event_stands capacity w s (event.EncoderBytes count) a new st small h = encoder_stream_stands capacity w s count a new st h
event_stands capacity w s (event.DecoderBytes count) a new st small h = decoder_stream_stands capacity w s count a new st h
event_stands capacity w s (event.Decode stream) a new st small h = decodes_stands capacity w s stream a new st small h
event_stands capacity w s (event.Cancel stream) a new st small h = cancels_stands capacity w s stream a new st small h

pub record AsExpected (capacity limit : ℕ) (events : List SessionEvent) (answers : List SessionAnswer) (w : ExchangeHistory) : Type 0 where
  pub session : Session
  pub expected : Expected (beginning false (2 ^ 30 - 1) capacity limit) events answers session
  pub stands : Stands capacity w session

-- Every run answers what is expected.
pub run_as_expected : (capacity limit : ℕ) (events : List SessionEvent) (answers : List SessionAnswer) (w : ExchangeHistory) → capacity < 2 ^ 30 → Exchange (start capacity limit) events answers w → AsExpected capacity limit events answers w
run_as_expected capacity limit events answers w small Before = record { session = beginning false (2 ^ 30 - 1) capacity limit; expected = NoEvent; stands = begun_stands capacity limit small }
run_as_expected capacity limit events answers w small (Then before replies mid new e a run fits h) =
    let m = run_as_expected capacity limit before replies mid small run in
    let n = event_stands capacity mid m.session e a new m.stands fits h in
    record { session = n.0; expected = NextEvent before replies m.session n.0 e a m.expected n.1; stands = n.2 }
