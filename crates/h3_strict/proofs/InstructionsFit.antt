-- Instructions that are written within a limit, of which any front came, are never too long for it.
use Rattle.std.proofs.Common.{◌≡◌, ℕ, ◌+◌, ◌≤◌, Bool, true, false, List, [], ◌∷◌, ◌++◌, flat_map, Option, Some, None, refl, sym, ap, ◌∙◌, arith, inl, inr, length, take, drop, append-nil, append_assoc, take-append-drop, nat_lt}
use Rattle.std.specs.List.{AllByRecursion}
use Rattle.std.proofs.lemmas.Bool.{and_right, cases_lt, le-ltb}
use Rattle.std.proofs.lemmas.List.{length-drop, length-take}
use Rattle.h3_field.specs.Instruction.{DecoderInstruction, EncoderInstruction, decoder_bytes, encoder_bytes}
use Rattle.h3_field.specs.InstructionAnswer.{IsReply}
use Rattle.h3_field.specs.InstructionLaws.{decoder_instruction_stable, instruction_stable}
use Rattle.h3_field.specs.InstructionReading.{InstructionForm, decoder_instruction, instruction}
use Rattle.h3_field.specs.ReadBackLaws.{instruction_reads_back, reply_reads_back}
use Rattle.h3_field.specs.Reading.{Bad, Reading, Unfinished, Whole}
use Rattle.h3_field.specs.SectionLaws.{whole_same}
use Rattle.h3_field.specs.Values.{instruction_of}
use Rattle.h3_field.specs.Waiting.{decoder_wait, encoder_wait}
use Rattle.h3_field.specs.declared.waiting.Wait.{Wait}
use Rattle.h3_proto.specs.Config.{is_limit}
use Rattle.h3_qpack.specs.DecoderState.{DecoderState}
use Rattle.h3_qpack.specs.EncoderHistory.{EncoderHistory, encoder_after, is_refused}
use Rattle.h3_qpack.specs.Encodings.{IsWrittenInstruction}
use Rattle.h3_qpack.specs.Hearing.{decoder_after_form, hear_form, hear_next, listen_form, listen_next}
use Rattle.h3_connection.specs.Codes.{excessive_load}
use Rattle.h3_connection.specs.ExcessiveInstructions.{exceeds, hear_up_to, listen_up_to, missing}
use Rattle.h3_connection.specs.LimitedHearingLaws.{hears_within}
use Rattle.h3_connection.specs.LimitedListeningLaws.{listens_within}
use Rattle.h3_connection.specs.Listeners.{fault_if, hearing_fault, listening_fault}
use Rattle.h3_headline.specs.FrontLaws.{long_front, short_front}
use Rattle.h3_strict.proofs.InstructionWaits.{decoder_lacks, encoder_lacks}
use Rattle.h3_strict.specs.Plainly.{is_excess}

-- the bytes of one instruction: no front of them waits for more than is left, and they wait for nothing
record WaitsWithin (waiting : List ℕ → Wait) (own : List ℕ) : Type 0 where
  front : (p q : List ℕ) → own ≡ p ++ q → missing (waiting p) ≤ length q
  whole : (q : List ℕ) → missing (waiting (own ++ q)) ≤ 0

-- it is not too long, however much came of it and of what stands behind it
one_within : (most : ℕ) (waiting : List ℕ → Wait) (own bytes more behind : List ℕ) → WaitsWithin waiting own → length own ≤ most → bytes ++ more ≡ own ++ behind → exceeds most waiting bytes ≡ false
one_within most waiting own [] more behind w short e = refl
one_within most waiting own (first ∷ rest) more behind w short e =
    and_right (is_limit most) (nat_lt most (length asked + missing (waiting asked))) (le-ltb most (length asked + missing (waiting asked)) few)
  where
    asked : List ℕ
    asked = take most (first ∷ rest)

    split : asked ++ (drop most (first ∷ rest) ++ more) ≡ own ++ behind
    split = sym (append_assoc asked (drop most (first ∷ rest)) more) ∙ ap (λ l. l ++ more) (take-append-drop most (first ∷ rest)) ∙ e

    few : length asked + missing (waiting asked) ≤ most
    few =
        elim (cases_lt (length asked) (length own)) [
          | inl less ↦
              let front : asked ≡ take (length asked) own = short_front asked (drop most (first ∷ rest) ++ more) own behind split (omega (arith, less)) in
              let both : own ≡ asked ++ drop (length asked) own = sym (take-append-drop (length asked) own) ∙ ap (λ l. l ++ drop (length asked) own) (sym front) in
              omega (arith, less, short, w.front asked (drop (length asked) own) both, length-drop (length asked) own)
          | inr there ↦
              let longer = long_front asked (drop most (first ∷ rest) ++ more) own behind split there in
              omega (arith, length-take most (first ∷ rest), w.whole (drop (length own) asked), ap (λ l. missing (waiting l)) longer.front_is)
        ]

-- nothing came
nothing_came : (bytes more : List ℕ) → bytes ++ more ≡ [] → bytes ≡ []
nothing_came [] more e = refl
nothing_came (byte ∷ bytes) more e = absurd (cc)

-- an encoder's stream
abbrev pub AreShort : ℕ → List EncoderInstruction → Type 0
AreShort most is = AllByRecursion (λ i. length (encoder_bytes i) ≤ most) is

encoder_waits : (i : EncoderInstruction) → IsWrittenInstruction i → WaitsWithin encoder_wait (encoder_bytes i)
encoder_waits i w =
    let own = encoder_bytes i in
    let alone = instruction_reads_back i [] w.0 w.1 w.2 in
    record {
      front = λ p q e. encoder_lacks p q alone.form [] (ap instruction (sym e ∙ sym (append-nil own)) ∙ alone.whole);
      whole = λ q. let read = instruction_reads_back i q w.0 w.1 w.2 in encoder_lacks (own ++ q) [] read.form q (ap instruction (append-nil (own ++ q)) ∙ read.whole);
    }

encoder_within : (most : ℕ) (is : List EncoderInstruction) (bytes more : List ℕ) → AllByRecursion IsWrittenInstruction is → AreShort most is → bytes ++ more ≡ flat_map encoder_bytes is → exceeds most encoder_wait bytes ≡ false
encoder_within most [] bytes more w short e = ap (exceeds most encoder_wait) (nothing_came bytes more e)
encoder_within most (i ∷ is) bytes more w short e = one_within most encoder_wait (encoder_bytes i) bytes more (flat_map encoder_bytes is) (encoder_waits i w.0) short.0 e

none_read : (bytes more : List ℕ) (form : InstructionForm) (rest : List ℕ) → bytes ++ more ≡ [] → instruction bytes ≡ Whole form rest → ⊥
none_read bytes more form rest e is = not_read (sym (ap instruction (nothing_came bytes more e)) ∙ is)
  where
    not_read : Unfinished ≡ Whole form rest → ⊥
    not_read e = absurd (cc)

-- what is left behind the first of them
behind_first : (i : EncoderInstruction) (bytes more behind : List ℕ) (form : InstructionForm) (rest : List ℕ) → IsWrittenInstruction i → bytes ++ more ≡ encoder_bytes i ++ behind → instruction bytes ≡ Whole form rest → rest ++ more ≡ behind
behind_first i bytes more behind form rest w e is =
    let stays = instruction_stable bytes more in
    let longer : instruction (bytes ++ more) ≡ Whole form (rest ++ more) = rw is at stays in
    let read = instruction_reads_back i behind w.0 w.1 w.2 in
    (whole_same form read.form (rest ++ more) behind (sym longer ∙ ap instruction e ∙ read.whole)).1

abbrev HearingFits : ℕ → DecoderState → List ℕ → Type 0
HearingFits most r bytes = is_excess false (hearing_fault most (hear_up_to most r bytes)) ≡ false

module _ (most : ℕ) (r : DecoderState) (bytes : List ℕ) (within : exceeds most encoder_wait bytes ≡ false) where
  next_fits : (rest : List ℕ) (o : Option DecoderState) → ((new : DecoderState) → HearingFits most new rest) → is_excess false (hearing_fault most (hear_next (hear_up_to most) r bytes rest o)) ≡ false
  next_fits rest None later = refl
  next_fits rest (Some new) later = later new

  form_fits : (x : Reading InstructionForm) → instruction bytes ≡ x → ((form : InstructionForm) (rest : List ℕ) (new : DecoderState) → instruction bytes ≡ Whole form rest → HearingFits most new rest)
      → is_excess false (hearing_fault most (hear_form (hear_up_to most) r bytes x)) ≡ false
  form_fits Unfinished is later = ap (λ b. is_excess false (fault_if b excessive_load)) within
  form_fits Bad is later = refl
  form_fits (Whole form rest) is later = next_fits rest (decoder_after_form r (instruction_of form)) (λ new. later form rest new is)

  hears_first : ((form : InstructionForm) (rest : List ℕ) (new : DecoderState) → instruction bytes ≡ Whole form rest → HearingFits most new rest) → HearingFits most r bytes
  hears_first later = ap (λ h. is_excess false (hearing_fault most h)) (hears_within most r bytes within) ∙ form_fits (instruction bytes) refl later

pub hearing_fits : (most : ℕ) (is : List EncoderInstruction) (r : DecoderState) (bytes more : List ℕ) → AllByRecursion IsWrittenInstruction is → AreShort most is → bytes ++ more ≡ flat_map encoder_bytes is
    → is_excess false (hearing_fault most (hear_up_to most r bytes)) ≡ false
hearing_fits most [] r bytes more w short e = hears_first most r bytes (encoder_within most [] bytes more w short e) (λ form rest new is. absurd (none_read bytes more form rest e is))
hearing_fits most (i ∷ is) r bytes more w short e =
    hears_first most r bytes (encoder_within most (i ∷ is) bytes more w short e)
    (λ form rest new here. hearing_fits most is new rest more w.1 short.1 (behind_first i bytes more (flat_map encoder_bytes is) form rest w.0 e here))

-- a decoder's stream
decoder_waits : (i : DecoderInstruction) → IsReply i → WaitsWithin decoder_wait (decoder_bytes i)
decoder_waits i w =
    let own = decoder_bytes i in
    record {
      front = λ p q e. decoder_lacks p q i [] (ap decoder_instruction (sym e ∙ sym (append-nil own)) ∙ reply_reads_back i [] w);
      whole = λ q. decoder_lacks (own ++ q) [] i q (ap decoder_instruction (append-nil (own ++ q)) ∙ reply_reads_back i q w);
    }

abbrev pub AreShortReplies : ℕ → List DecoderInstruction → Type 0
AreShortReplies most is = AllByRecursion (λ i. length (decoder_bytes i) ≤ most) is

decoder_within : (most : ℕ) (is : List DecoderInstruction) (bytes more : List ℕ) → AllByRecursion IsReply is → AreShortReplies most is → bytes ++ more ≡ flat_map decoder_bytes is → exceeds most decoder_wait bytes ≡ false
decoder_within most [] bytes more w short e = ap (exceeds most decoder_wait) (nothing_came bytes more e)
decoder_within most (i ∷ is) bytes more w short e = one_within most decoder_wait (decoder_bytes i) bytes more (flat_map decoder_bytes is) (decoder_waits i w.0) short.0 e

none_told : (bytes more : List ℕ) (i : DecoderInstruction) (rest : List ℕ) → bytes ++ more ≡ [] → decoder_instruction bytes ≡ Whole i rest → ⊥
none_told bytes more i rest e is = not_read (sym (ap decoder_instruction (nothing_came bytes more e)) ∙ is)
  where
    not_read : Unfinished ≡ Whole i rest → ⊥
    not_read e = absurd (cc)

told_behind : (i : DecoderInstruction) (bytes more behind : List ℕ) (j : DecoderInstruction) (rest : List ℕ) → IsReply i → bytes ++ more ≡ decoder_bytes i ++ behind → decoder_instruction bytes ≡ Whole j rest → rest ++ more ≡ behind
told_behind i bytes more behind j rest w e is =
    let stays = decoder_instruction_stable bytes more in
    let longer : decoder_instruction (bytes ++ more) ≡ Whole j (rest ++ more) = rw is at stays in
    (whole_same j i (rest ++ more) behind (sym longer ∙ ap decoder_instruction e ∙ reply_reads_back i behind w)).1

abbrev ListeningFits : ℕ → EncoderHistory → List ℕ → Type 0
ListeningFits most s bytes = is_excess false (listening_fault most (listen_up_to most s bytes)) ≡ false

module _ (most : ℕ) (s : EncoderHistory) (bytes : List ℕ) (within : exceeds most decoder_wait bytes ≡ false) where
  told_fits : (j : DecoderInstruction) (rest : List ℕ) (b : Bool) → ListeningFits most (encoder_after s j) rest → is_excess false (listening_fault most (listen_next (listen_up_to most) s bytes j rest b)) ≡ false
  told_fits j rest true later = refl
  told_fits j rest false later = later

  reading_fits : (x : Reading DecoderInstruction) → decoder_instruction bytes ≡ x → ((j : DecoderInstruction) (rest : List ℕ) → decoder_instruction bytes ≡ Whole j rest → ListeningFits most (encoder_after s j) rest)
      → is_excess false (listening_fault most (listen_form (listen_up_to most) s bytes x)) ≡ false
  reading_fits Unfinished is later = ap (λ b. is_excess false (fault_if b excessive_load)) within
  reading_fits Bad is later = refl
  reading_fits (Whole j rest) is later = told_fits j rest (is_refused s j) (later j rest is)

  listens_first : ((j : DecoderInstruction) (rest : List ℕ) → decoder_instruction bytes ≡ Whole j rest → ListeningFits most (encoder_after s j) rest) → ListeningFits most s bytes
  listens_first later = ap (λ l. is_excess false (listening_fault most l)) (listens_within most s bytes within) ∙ reading_fits (decoder_instruction bytes) refl later

pub listening_fits : (most : ℕ) (is : List DecoderInstruction) (s : EncoderHistory) (bytes more : List ℕ) → AllByRecursion IsReply is → AreShortReplies most is → bytes ++ more ≡ flat_map decoder_bytes is
    → is_excess false (listening_fault most (listen_up_to most s bytes)) ≡ false
listening_fits most [] s bytes more w short e = listens_first most s bytes (decoder_within most [] bytes more w short e) (λ j rest is. absurd (none_told bytes more j rest e is))
listening_fits most (i ∷ is) s bytes more w short e =
    listens_first most s bytes (decoder_within most (i ∷ is) bytes more w short e)
    (λ j rest here. listening_fits most is (encoder_after s j) rest more w.1 short.1 (told_behind i bytes more (flat_map decoder_bytes is) j rest w.0 e here))
