-- What the events of a session do to what is kept of it.
use Rattle.std.specs.declared.alloc.Global.{Global}
use Rattle.std.proofs.Common.{Vec, ◌≡◌, ℕ, zero, suc, ◌+◌, ◌-◌, ◌^◌, ◌<◌, ◌≤◌, Bool, true, false, ◌||◌, List, [], ◌∷◌, ◌++◌, length, take, filter, get_or, flat_map, Some, None, refl, sym, ◌∙◌, ap, subst, arith, if◌then◌else◌, nat_lt}
use Rattle.std.specs.Prelude.{◌==◌, not}
use Rattle.std.specs.List.{list_any, remove, AllByRecursion}
use Rattle.std.proofs.lemmas.Grind.{common_steps}
use Rattle.std.proofs.lemmas.List.{take_more, take_all}
use Rattle.h3_field.specs.Field.{Field}
use Rattle.h3_field.specs.Reading.{Unfinished}
use Rattle.h3_field.specs.InstructionReading.{instruction, decoder_instruction}
use Rattle.h3_field.specs.Instruction.{encoder_bytes, decoder_bytes}
use Rattle.h3_field.specs.Instruction.DecoderInstruction.{Acknowledge, CancelStream}
use Rattle.h3_field.specs.declared.encoder_error.EncoderError.{EncoderError}
use Rattle.h3_field.specs.declared.encoder_error.EncoderError.TheVariants as encoder_error
use Rattle.h3_field.specs.declared.decoder_error.DecoderError.{DecoderError}
use Rattle.h3_field.specs.declared.decoder_error.DecoderError.TheVariants as decoder_error
use Rattle.h3_field.specs.declared.error.Error.TheVariants as of
use Rattle.h3_qpack.specs.EncoderHistory.{EncoderHistory, encoder_after_all, writing_on}
use Rattle.h3_qpack.specs.EncoderState.{EncoderState, encoder_state}
use Rattle.h3_qpack.specs.DecoderState.{DecoderState}
use Rattle.h3_qpack.specs.Meaning.{MeansFields}
use Rattle.h3_qpack.specs.SectionAnswers.{IsReasonFor, IsRefusal}
use Rattle.h3_qpack.specs.Instructions.{HasRead, BeginsBad, AreDecoderInstructions}
use Rattle.h3_qpack.specs.EncoderAnswers.{HasReadDecoderInstructions, IsLeft}
use Rattle.h3_qpack.specs.Increments.{increment_for}
use Rattle.h3_qpack.specs.SectionEncoding.{having_inserted, instructions_for}
use Rattle.h3_qpack.specs.Drafting.{IsCutOff}
use Rattle.h3_qpack.specs.Exchange.{EncodedSection, EncoderReads, ExchangeHistory, ExchangeState, exchange_state, unread, undelivered, arriving, reading, writing, is_given_up, is_of, section_of, without_section_of, IsPlace, HasSection, IsEvent, Happens, Exchange, Before, Then, start, Encodes, DeliversToDecoder, DeliversToEncoder, Decodes, Cancels, giving_up, refused_section}
use Rattle.h3_qpack.specs.declared.session.SessionEvent.{SessionEvent}
use Rattle.h3_qpack.specs.declared.session.SessionAnswer.{SessionAnswer}
use Rattle.h3_qpack.specs.declared.session.SessionAnswer.TheVariants as answer

neither : (a b : Bool) → (a || b) ≡ false → (a ≡ false) × (b ≡ false)
neither true b h = cc
neither false b h = (refl, h)

-- a section that was cut off
pub encoding_cut : (w : ExchangeHistory) (k : ExchangeState) (stream : ℕ) (fields : List Field) (encoder : EncoderState) (bytes : List ℕ) (e : EncoderError) → k ≡ exchange_state w
    → ((s : EncoderHistory) → k.encoder ≡ encoder_state s → IsCutOff s (writing_on s stream) fields encoder k.encoder_stream.bytes bytes) → length bytes < 2 ^ 63 → e ≡ encoder_error.OutOfMemory
    → (new : ExchangeHistory) × Encodes w stream fields (answer.Refused (of.Encoder e)) new × (record k { encoder = encoder; encoder_stream = record k.encoder_stream { bytes = bytes } } ≡ exchange_state new)
encoding_cut w k stream fields encoder bytes e same cut few is =
    let c = cut w.encoder (ap (λ (x : ExchangeState). x.encoder) same) in
    let by = writing_on w.encoder stream in
    let after : bytes ≡ w.encoder_stream.bytes ++ flat_map encoder_bytes (instructions_for by (take c.front fields)) =
    c.instructions_are ∙ ap (λ bs. bs ++ flat_map encoder_bytes (instructions_for by (take c.front fields))) (ap (λ (x : ExchangeState). x.encoder_stream.bytes) same) in (
      _,
      (ap of.Encoder is, (c.front, c.within, record { are_bytes = c.are_bytes; few = subst (λ bs. length bs < 2 ^ 63) after few }, refl)),
      ap (λ (x : ExchangeState). record x { encoder = encoder; encoder_stream = record x.encoder_stream { bytes = bytes } }) same
          ∙ ap (λ s. record (exchange_state w) { encoder = s; encoder_stream = record w.encoder_stream { bytes = bytes } }) c.stores
          ∙ ap (λ bs. record (exchange_state w) { encoder = encoder_state (having_inserted w.encoder stream (take c.front fields)); encoder_stream = record w.encoder_stream { bytes = bs } }) after,
    )

-- bytes came to the decoder
abbrev pub came : ExchangeState → ℕ → DecoderState → ℕ → List ℕ → ExchangeState
came k count decoder read written =
    record k { decoder = decoder; encoder_stream = record { bytes = k.encoder_stream.bytes; arrived = k.encoder_stream.arrived + count; read = read }; decoder_stream = record k.decoder_stream { bytes = written } }

abbrev encoder_stream_new : ExchangeHistory → ℕ → DecoderState → List ℕ → ExchangeHistory
encoder_stream_new w count decoder left =
    record w { decoder = decoder; encoder_stream = reading (arriving w.encoder_stream count) (length left); decoder_stream = writing w.decoder_stream (increment_for (decoder.table.inserted - w.decoder.table.inserted)) }

came_kept : (w : ExchangeHistory) (k : ExchangeState) (count : ℕ) (decoder : DecoderState) (left : List ℕ) (read : ℕ) (written : List ℕ) → k ≡ exchange_state w → read ≡ k.encoder_stream.arrived + count - length left
    → written ≡ k.decoder_stream.bytes ++ increment_for (decoder.table.inserted - k.decoder.table.inserted) → came k count decoder read written ≡ exchange_state (encoder_stream_new w count decoder left)
came_kept w k count decoder left read written same read_is written_is =
    ap (λ n. came k count decoder n written) read_is ∙ ap (λ bs. came k count decoder (k.encoder_stream.arrived + count - length left) bs) written_is
    ∙ ap (λ (x : ExchangeState). came x count decoder (x.encoder_stream.arrived + count - length left) (x.decoder_stream.bytes ++ increment_for (decoder.table.inserted - x.decoder.table.inserted))) same

pub encoder_stream_delivered : (w : ExchangeHistory) (k : ExchangeState) (count : ℕ) (decoder : DecoderState) (left : List ℕ) (read : ℕ) (written : List ℕ) → k ≡ exchange_state w → count ≤ undelivered k.encoder_stream
    → HasRead k.decoder decoder (unread (arriving k.encoder_stream count)) left → read ≡ k.encoder_stream.arrived + count - length left
    → written ≡ k.decoder_stream.bytes ++ increment_for (decoder.table.inserted - k.decoder.table.inserted) → instruction left ≡ Unfinished
    → (new : ExchangeHistory) × DeliversToDecoder w count answer.Delivered new × (came k count decoder read written ≡ exchange_state new)
encoder_stream_delivered w k count decoder left read written same enough has read_is written_is whole = (
  encoder_stream_new w count decoder left,
  (
    record {
      enough = subst (λ (x : ExchangeState). count ≤ undelivered x.encoder_stream) same enough;
      left = left;
      read = subst (λ (x : ExchangeState). HasRead x.decoder decoder (unread (arriving x.encoder_stream count)) left) same has;
      is = refl;
    },
    whole,
  ),
  came_kept w k count decoder left read written same read_is written_is,
)

pub encoder_stream_refused : (w : ExchangeHistory) (k : ExchangeState) (count : ℕ) (decoder : DecoderState) (left : List ℕ) (read : ℕ) (written : List ℕ) (e : DecoderError) → k ≡ exchange_state w → count ≤ undelivered k.encoder_stream
    → HasRead k.decoder decoder (unread (arriving k.encoder_stream count)) left → read ≡ k.encoder_stream.arrived + count - length left
    → written ≡ k.decoder_stream.bytes ++ increment_for (decoder.table.inserted - k.decoder.table.inserted) → IsReasonFor (BeginsBad decoder left) (λ count. ⊥) e
    → (new : ExchangeHistory) × DeliversToDecoder w count (answer.Refused (of.Decoder e)) new × (came k count decoder read written ≡ exchange_state new)
encoder_stream_refused w k count decoder left read written e same enough has read_is written_is reason = (
  encoder_stream_new w count decoder left,
  (
    record {
      enough = subst (λ (x : ExchangeState). count ≤ undelivered x.encoder_stream) same enough;
      left = left;
      read = subst (λ (x : ExchangeState). HasRead x.decoder decoder (unread (arriving x.encoder_stream count)) left) same has;
      is = refl;
    },
    reason,
  ),
  came_kept w k count decoder left read written same read_is written_is,
)

-- bytes came to the encoder
abbrev pub came_to_encoder : ExchangeState → ℕ → EncoderState → ℕ → ExchangeState
came_to_encoder k count encoder read = record k { encoder = encoder; decoder_stream = record { bytes = k.decoder_stream.bytes; arrived = k.decoder_stream.arrived + count; read = read } }

record CameToEncoder (w : ExchangeHistory) (k : ExchangeState) (count : ℕ) (encoder : EncoderState) (left : List ℕ) (read : ℕ) : Type 0 where
  pub new : ExchangeHistory
  pub reads : EncoderReads w count new
  pub left_is : reads.left ≡ left
  pub state_is : encoder ≡ encoder_state new.encoder
  pub kept_is : came_to_encoder k count encoder read ≡ exchange_state new

decoder_stream_came : (w : ExchangeHistory) (k : ExchangeState) (count : ℕ) (encoder : EncoderState) (left : List ℕ) (read : ℕ) → k ≡ exchange_state w → count ≤ undelivered k.decoder_stream
    → HasReadDecoderInstructions k.encoder encoder (unread (arriving k.decoder_stream count)) left → read ≡ k.decoder_stream.arrived + count - length left → CameToEncoder w k count encoder left read
decoder_stream_came w k count encoder left read same enough h read_is =
    let stores = ap (λ (x : ExchangeState). x.encoder) same in
    let after = h.after w.encoder stores in
    record {
      new = record w { encoder = encoder_after_all w.encoder h.instructions; decoder_stream = reading (arriving w.decoder_stream count) (length left) };
      reads = record {
        enough = subst (λ (x : ExchangeState). count ≤ undelivered x.decoder_stream) same enough;
        left = left;
        instructions = h.instructions;
        split = subst (λ (x : ExchangeState). AreDecoderInstructions (unread (arriving x.decoder_stream count)) h.instructions left) same h.split;
        accepted = h.accepted w.encoder stores;
        is = refl;
      };
      left_is = refl;
      state_is = after;
      kept_is = ap (λ n. came_to_encoder k count encoder n) read_is ∙ ap (λ (x : ExchangeState). came_to_encoder x count encoder (x.decoder_stream.arrived + count - length left)) same
          ∙ ap (λ s. came_to_encoder (exchange_state w) count s (w.decoder_stream.arrived + count - length left)) after;
    }

pub decoder_stream_delivered : (w : ExchangeHistory) (k : ExchangeState) (count : ℕ) (encoder : EncoderState) (left : List ℕ) (read : ℕ) → k ≡ exchange_state w → count ≤ undelivered k.decoder_stream
    → HasReadDecoderInstructions k.encoder encoder (unread (arriving k.decoder_stream count)) left → read ≡ k.decoder_stream.arrived + count - length left → decoder_instruction left ≡ Unfinished
    → (new : ExchangeHistory) × DeliversToEncoder w count answer.Delivered new × (came_to_encoder k count encoder read ≡ exchange_state new)
decoder_stream_delivered w k count encoder left read same enough h read_is whole =
    let c = decoder_stream_came w k count encoder left read same enough h read_is in
    (c.new, (c.reads, ap decoder_instruction c.left_is ∙ whole), c.kept_is)

pub decoder_stream_refused : (w : ExchangeHistory) (k : ExchangeState) (count : ℕ) (encoder : EncoderState) (left : List ℕ) (read : ℕ) (e : EncoderError) → k ≡ exchange_state w → count ≤ undelivered k.decoder_stream
    → HasReadDecoderInstructions k.encoder encoder (unread (arriving k.decoder_stream count)) left → read ≡ k.decoder_stream.arrived + count - length left → ((s : EncoderHistory) → encoder ≡ encoder_state s → IsLeft s left e)
    → (new : ExchangeHistory) × DeliversToEncoder w count (answer.Refused (of.Encoder e)) new × (came_to_encoder k count encoder read ≡ exchange_state new)
decoder_stream_refused w k count encoder left read e same enough h read_is refused =
    let c = decoder_stream_came w k count encoder left read same enough h read_is in
    (c.new, (c.reads, subst (λ bytes. IsLeft c.new.encoder bytes e) (sym c.left_is) (refused c.new.encoder c.state_is)), c.kept_is)

-- a stream is given up
pub given_up : (w : ExchangeHistory) (k : ExchangeState) (stream : ℕ) (decoder_stream canceled : List ℕ) (sections : List EncodedSection) → k ≡ exchange_state w → is_given_up k.canceled stream ≡ false
    → decoder_stream ≡ k.decoder_stream.bytes ++ decoder_bytes (CancelStream stream) → canceled ≡ k.canceled ++ stream ∷ [] → sections ≡ filter (λ b. not (b.stream == stream)) k.sections
    → (new : ExchangeHistory) × Cancels w stream answer.Canceled new × (record k { decoder_stream = record k.decoder_stream { bytes = decoder_stream }; sections = sections; canceled = canceled } ≡ exchange_state new)
given_up w k stream decoder_stream canceled sections same alive written more left =
    let here : is_given_up w.canceled stream ≡ false = subst (λ (x : ExchangeState). is_given_up x.canceled stream ≡ false) same alive in (
      giving_up w stream,
      rw here refl,
      rw (written, more, left) (ap (λ (x : ExchangeState). record x { decoder_stream = record x.decoder_stream { bytes = x.decoder_stream.bytes ++ decoder_bytes (CancelStream stream) }; sections = filter (λ b. not (b.stream == stream)) x.sections; canceled = x.canceled ++ stream ∷ [] }) same),
    )

-- the oldest section of a stream
none_of : (stream : ℕ) (bs : List EncodedSection) → list_any (is_of stream) bs ≡ false → section_of stream bs ≡ None
none_of stream [] h = refl
none_of stream (b ∷ bs) h = let e = neither (is_of stream b) (list_any (is_of stream) bs) h in rw e.0 (none_of stream bs e.1)

first_of : (stream : ℕ) (bs : List EncodedSection) (place : ℕ) (b : EncodedSection) → IsPlace stream bs place → b ≡ get_or bs place b → (section_of stream bs ≡ Some b) × (without_section_of stream bs ≡ remove bs place)
first_of stream [] place b p is = absurd (omega (arith, p.inside))
first_of stream (x ∷ bs) zero b p is = let yes : is_of stream x ≡ true = p.here x refl in (rw yes (ap Some (sym is)), rw yes refl)
first_of stream (x ∷ bs) (suc place) b p is =
    let e = neither (is_of stream x) (list_any (is_of stream) (take place bs)) p.before in
    let h = first_of stream bs place b (record { inside = omega (arith, p.inside); before = e.1; here = p.here }) is in
    (rw e.0 h.0, rw e.0 (ap (λ cs. x ∷ cs) h.1))

has_section : (w : ExchangeHistory) (k : ExchangeState) (stream place : ℕ) (b : EncodedSection) → k ≡ exchange_state w → is_given_up k.canceled stream ≡ false → IsPlace stream k.sections place → b ≡ get_or k.sections place b
    → (h : HasSection w stream) × (h.section ≡ b)
has_section w k stream place b same alive p is = (
  record {
    alive = subst (λ (x : ExchangeState). is_given_up x.canceled stream ≡ false) same alive;
    section = b;
    is = subst (λ (x : ExchangeState). section_of stream x.sections ≡ Some b) same (first_of stream k.sections place b p is).0;
  },
  refl,
)

pub decoding_none : (w : ExchangeHistory) (k : ExchangeState) (stream : ℕ) → k ≡ exchange_state w → is_given_up k.canceled stream ≡ false → list_any (is_of stream) k.sections ≡ false
    → (new : ExchangeHistory) × Decodes w stream answer.NoBlock new × (k ≡ exchange_state new)
decoding_none w k stream same alive none =
    (w, (subst (λ (x : ExchangeState). is_given_up x.canceled stream ≡ false) same alive, none_of stream w.sections (subst (λ (x : ExchangeState). list_any (is_of stream) x.sections ≡ false) same none), refl), same)

refused : (w : ExchangeHistory) (stream : ℕ) (h : HasSection w stream) (e : DecoderError) → IsRefusal w.decoder h.section.bytes e → Decodes w stream (refused_section e) w
refused w stream h (decoder_error.MissingRefs count) r = (h, r, refl)
refused w stream h (decoder_error.InvalidInteger x) r = (h, r, refl)
refused w stream h (decoder_error.InvalidString x) r = (h, r, refl)
refused w stream h (decoder_error.InvalidIndex x) r = (h, r, refl)
refused w stream h (decoder_error.DynamicTable x) r = (h, r, refl)
refused w stream h (decoder_error.InvalidStaticIndex x) r = (h, r, refl)
refused w stream h (decoder_error.UnknownPrefix x) r = (h, r, refl)
refused w stream h (decoder_error.HeaderTooLong x) r = (h, r, refl)
refused w stream h decoder_error.BadBaseIndex r = (h, r, refl)
refused w stream h decoder_error.UnexpectedEnd r = (h, r, refl)
refused w stream h decoder_error.BufSize r = (h, r, refl)
refused w stream h decoder_error.OutOfMemory r = (h, r, refl)

pub decoding_refused : (w : ExchangeHistory) (k : ExchangeState) (stream place : ℕ) (b : EncodedSection) (e : DecoderError) (a : SessionAnswer) → k ≡ exchange_state w → is_given_up k.canceled stream ≡ false → IsPlace stream k.sections place
    → b ≡ get_or k.sections place b → IsRefusal k.decoder b.bytes e → a ≡ refused_section e → (new : ExchangeHistory) × Decodes w stream a new × (k ≡ exchange_state new)
decoding_refused w k stream place b e a same alive p is reason is_answer =
    let h = has_section w k stream place b same alive p is in
    rw is_answer (w, refused w stream h.0 e (subst (λ r. IsRefusal r h.0.section.bytes e) (ap (λ (x : ExchangeState). x.decoder) same) (subst (λ c. IsRefusal k.decoder c.bytes e) (sym h.1) reason)), same)

pub decoding_kept : (w : ExchangeHistory) (k : ExchangeState) (stream place : ℕ) (b : EncodedSection) (new : ExchangeState) → k ≡ exchange_state w → is_given_up k.canceled stream ≡ false → IsPlace stream k.sections place
    → b ≡ get_or k.sections place b → new ≡ k → (x : ExchangeHistory) × Decodes w stream (answer.Refused (of.Decoder decoder_error.OutOfMemory)) x × (new ≡ exchange_state x)
decoding_kept w k stream place b new same alive p is unchanged =
    let h = has_section w k stream place b same alive p is in (w, (h.0, tt, refl), unchanged ∙ same)

needed : (count : ℕ) (x : List ℕ) → (if nat_lt 0 count then x else []) ≡ (if count == 0 then [] else x)
needed count x = by_test (nat_lt 0 count) (count == 0) refl refl
  where
    by_test : (a b : Bool) → nat_lt 0 count ≡ a → (count == 0) ≡ b → (if a then x else []) ≡ (if b then [] else x)
    by_test true true e f = absurd (grind (arith, common_steps))
    by_test true false e f = refl
    by_test false true e f = refl
    by_test false false e f = absurd (grind (arith, common_steps))

pub decoding_done : (w : ExchangeHistory) (k : ExchangeState) (stream place : ℕ) (b : EncodedSection) (fields : Vec Field Global) (is_needed : Bool) (decoder_stream : List ℕ) (sections : List EncodedSection) → k ≡ exchange_state w
    → is_given_up k.canceled stream ≡ false → IsPlace stream k.sections place → b ≡ get_or k.sections place b
    → ((count : ℕ) × MeansFields k.decoder b.bytes count fields.items × (is_needed ≡ nat_lt 0 count)) → decoder_stream ≡ k.decoder_stream.bytes ++ (if is_needed then decoder_bytes (Acknowledge stream) else [])
    → sections ≡ remove k.sections place → (x : ExchangeHistory) × Decodes w stream (answer.Decoded fields) x × (record k { decoder_stream = record k.decoder_stream { bytes = decoder_stream }; sections = sections } ≡ exchange_state x)
decoding_done w k stream place b fields is_needed decoder_stream sections same alive p is m written left =
    let h = has_section w k stream place b same alive p is in
    let means = subst (λ r. MeansFields r h.0.section.bytes m.0 fields.items) (ap (λ (x : ExchangeState). x.decoder) same) (subst (λ c. MeansFields k.decoder c.bytes m.0 fields.items) (sym h.1) m.1) in
    let without = (first_of stream k.sections place b p is).1 in
    let bytes : decoder_stream ≡ k.decoder_stream.bytes ++ (if m.0 == 0 then [] else decoder_bytes (Acknowledge stream)) =
    written ∙ ap (λ t. k.decoder_stream.bytes ++ (if t then decoder_bytes (Acknowledge stream) else [])) m.2 ∙ ap (λ bs. k.decoder_stream.bytes ++ bs) (needed m.0 (decoder_bytes (Acknowledge stream))) in (
      _,
      (h.0, m.0, means, refl),
      ap (λ bs. record k { decoder_stream = record k.decoder_stream { bytes = bs }; sections = sections }) bytes
          ∙ ap (λ cs. record k { decoder_stream = record k.decoder_stream { bytes = k.decoder_stream.bytes ++ (if m.0 == 0 then [] else decoder_bytes (Acknowledge stream)) }; sections = cs }) (left ∙ sym without)
          ∙ ap (λ (x : ExchangeState). record x { decoder_stream = record x.decoder_stream { bytes = x.decoder_stream.bytes ++ (if m.0 == 0 then [] else decoder_bytes (Acknowledge stream)) }; sections = without_section_of stream x.sections }) same,
    )

-- What a loop over the events keeps.
pub record HasRun (capacity limit : ℕ) (events : List SessionEvent) (index : ℕ) (answers : List SessionAnswer) (k : ExchangeState) : Type 0 where
  pub end : ExchangeHistory
  pub run : Exchange (start capacity limit) (take index events) answers end
  pub same : k ≡ exchange_state end

pub run_begun : (capacity limit : ℕ) (events : List SessionEvent) (answers : List SessionAnswer) (k : ExchangeState) → answers ≡ [] → k ≡ exchange_state (start capacity limit) → HasRun capacity limit events 0 answers k
run_begun capacity limit events answers k none same = rw none (record { end = start capacity limit; run = Before; same = same })

pub run_more : (capacity limit : ℕ) (events : List SessionEvent) (index : ℕ) (answers more : List SessionAnswer) (k new : ExchangeState) (e : SessionEvent) (a : SessionAnswer) → HasRun capacity limit events index answers k
    → index < length events → e ≡ get_or events index e → IsEvent e → ((w : ExchangeHistory) → k ≡ exchange_state w → (x : ExchangeHistory) × Happens w e a x × (new ≡ exchange_state x)) → more ≡ answers ++ a ∷ []
    → HasRun capacity limit events (index + 1) more new
run_more capacity limit events index answers more k new e a h lt is small step longer =
    let s = step h.end h.same in
    let front : take (index + 1) events ≡ take index events ++ e ∷ [] = take_more events index e lt ∙ ap (λ x. take index events ++ x ∷ []) (sym is) in
    record {
      end = s.0;
      run = subst (λ xs. Exchange (start capacity limit) (take (index + 1) events) xs s.0) (sym longer)
          (subst (λ es. Exchange (start capacity limit) es (answers ++ a ∷ []) s.0) (sym front) (Then (take index events) answers h.end s.0 e a h.run small s.1));
      same = s.2;
    }

pub run_done : (capacity limit : ℕ) (events : List SessionEvent) (index : ℕ) (answers : List SessionAnswer) (k : ExchangeState) → HasRun capacity limit events index answers k → length events ≤ index
    → (end : ExchangeHistory) × Exchange (start capacity limit) events answers end
run_done capacity limit events index answers k h all = (h.end, subst (λ es. Exchange (start capacity limit) es answers h.end) (take_all index events all) h.run)

pub event_at : (events : List SessionEvent) (index : ℕ) (e : SessionEvent) → index < length events → e ≡ get_or events index e → AllByRecursion IsEvent events → IsEvent e
event_at [] index e lt is h = absurd (omega (arith, lt))
event_at (x ∷ events) zero e lt is h = subst IsEvent (sym is) h.0
event_at (x ∷ events) (suc index) e lt is h = event_at events index e (omega (arith, lt)) is h.1
