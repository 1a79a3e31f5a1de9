-- The peer's decoder stream, where instructions are taken up to a limit.
use Rattle.std.proofs.Common.{◌≡◌, ℕ, zero, suc, ◌≤◌, ◌<◌, Bool, true, false, if◌then◌else◌, List, [], ◌∷◌, ◌++◌, length, Some, refl, ap, sym, ◌∙◌, arith, inl, inr}
use Rattle.h3_field.specs.Instruction.{DecoderInstruction}
use Rattle.h3_field.specs.InstructionLaws.{decoder_instruction_stable}
use Rattle.h3_field.specs.InstructionReading.{decoder_instruction}
use Rattle.h3_field.specs.Reading.{Reading, Whole, Unfinished, Bad}
use Rattle.h3_field.specs.ShorterLaws.{decoder_instruction_less}
use Rattle.h3_field.specs.Waiting.{is_unfinished, decoder_wait}
use Rattle.h3_proto.specs.Config.{is_limit}
use Rattle.h3_qpack.specs.EncoderHistory.{EncoderHistory, encoder_after, is_refused}
use Rattle.h3_qpack.specs.Hearing.{Listened, listened, listen_next, listen_form, listen_within, listen}
use Rattle.h3_connection.specs.Codes.{decoder_stream_error, excessive_load}
use Rattle.h3_connection.specs.ExcessiveInstructionLaws.{none_exceeds, decoder_exceeds_unfinished, decoder_finished_within}
use Rattle.h3_connection.specs.ExcessiveInstructions.{exceeds, listen_limited, listen_up_to, listened_up_to_with}
use Rattle.h3_connection.specs.LimitedReading.{IsLongerOrListened, StopsOrListens, listened_unless_longer}
use Rattle.h3_connection.specs.Listeners.{fault_if, listening_fault}

-- one instruction, and then the rest
next_same : (go other : EncoderHistory → List ℕ → Listened) (s : EncoderHistory) (bytes : List ℕ) (i : DecoderInstruction) (rest : List ℕ) (b : Bool) → ((new : EncoderHistory) → go new rest ≡ other new rest)
    → listen_next go s bytes i rest b ≡ listen_next other s bytes i rest b
next_same go other s bytes i rest true same = refl
next_same go other s bytes i rest false same = same (encoder_after s i)

form_same : (go other : EncoderHistory → List ℕ → Listened) (s : EncoderHistory) (bytes : List ℕ) (x : Reading DecoderInstruction)
    → ((i : DecoderInstruction) (rest : List ℕ) (new : EncoderHistory) → x ≡ Whole i rest → go new rest ≡ other new rest) → listen_form go s bytes x ≡ listen_form other s bytes x
form_same go other s bytes (Whole i rest) same = next_same go other s bytes i rest (is_refused s i) (λ new. same i rest new refl)
form_same go other s bytes Unfinished same = refl
form_same go other s bytes Bad same = refl

-- no count of steps but the least matters
steps_same : (n m most : ℕ) (s : EncoderHistory) (bytes : List ℕ) → length bytes ≤ n → length bytes ≤ m → listen_limited n most s bytes ≡ listen_limited m most s bytes
steps_same zero zero most s bytes h k = refl
steps_same zero (suc m) most s [] h k = refl
steps_same zero (suc m) most s (byte ∷ bytes) h k = absurd (omega (arith, h))
steps_same (suc n) zero most s [] h k = refl
steps_same (suc n) zero most s (byte ∷ bytes) h k = absurd (omega (arith, k))
steps_same (suc n) (suc m) most s bytes h k =
    ap (listened_unless_longer (exceeds most decoder_wait bytes) s bytes)
    (form_same (listen_limited n most) (listen_limited m most) s bytes (decoder_instruction bytes)
    (λ i rest new e. let less = decoder_instruction_less bytes rest i e in steps_same n m most new rest (omega (arith, less, h)) (omega (arith, less, k))))

pub listen_step : (most : ℕ) (s : EncoderHistory) (bytes : List ℕ)
    → listen_up_to most s bytes ≡ (if exceeds most decoder_wait bytes then listened s bytes false else listen_form (listen_up_to most) s bytes (decoder_instruction bytes))
unfolding listen_up_to
listen_step most s bytes =
    steps_same (length bytes) (suc (length bytes)) most s bytes (omega arith) (omega arith)
    ∙ ap (listened_unless_longer (exceeds most decoder_wait bytes) s bytes)
    (form_same (listen_limited (length bytes) most) (listen_up_to most) s bytes (decoder_instruction bytes)
    (λ i rest new e. let less = decoder_instruction_less bytes rest i e in steps_same (length bytes) (length rest) most new rest (omega (arith, less)) (omega arith)))

-- No bytes are nothing.
pub listens_nothing : (most : ℕ) (s : EncoderHistory) → listen_up_to most s [] ≡ listened s [] false
unfolding listen_up_to
listens_nothing most s = refl

-- An instruction that is longer than the limit is not read,
pub listens_no_longer : (most : ℕ) (s : EncoderHistory) (bytes : List ℕ) → exceeds most decoder_wait bytes ≡ true → listen_up_to most s bytes ≡ listened s bytes false
listens_no_longer most s bytes longer = listen_step most s bytes ∙ ap (λ b. listened_unless_longer b s bytes (listen_form (listen_up_to most) s bytes (decoder_instruction bytes))) longer

-- and any other is.
pub listens_within : (most : ℕ) (s : EncoderHistory) (bytes : List ℕ) → exceeds most decoder_wait bytes ≡ false → listen_up_to most s bytes ≡ listen_form (listen_up_to most) s bytes (decoder_instruction bytes)
listens_within most s bytes within = listen_step most s bytes ∙ ap (λ b. listened_unless_longer b s bytes (listen_form (listen_up_to most) s bytes (decoder_instruction bytes))) within

-- **Without a limit all is read as it was.**
steps_unlimited : (n most : ℕ) (s : EncoderHistory) (bytes : List ℕ) → is_limit most ≡ false → listen_limited n most s bytes ≡ listen_within n s bytes
steps_unlimited zero most s bytes none = refl
steps_unlimited (suc n) most s bytes none =
    ap (λ b. listened_unless_longer b s bytes (listen_form (listen_limited n most) s bytes (decoder_instruction bytes))) (none_exceeds most decoder_wait bytes none)
    ∙ form_same (listen_limited n most) (listen_within n) s bytes (decoder_instruction bytes) (λ i rest new e. steps_unlimited n most new rest none)

pub listen_unlimited : (most : ℕ) (s : EncoderHistory) (bytes : List ℕ) → is_limit most ≡ false → listen_up_to most s bytes ≡ listen s bytes
unfolding listen_up_to listen
listen_unlimited most s bytes none = steps_unlimited (length bytes) most s bytes none

pub listening_unlimited : (most : ℕ) (l : Listened) → is_limit most ≡ false → listening_fault most l ≡ fault_if l.is_bad decoder_stream_error
listening_unlimited most l none = ap (λ b. if l.is_bad then Some decoder_stream_error else fault_if b excessive_load) (none_exceeds most decoder_wait l.left none)

-- **So are no more bytes than the limit.**
pass_by : (b : Bool) (s : EncoderHistory) (bytes : List ℕ) (l : Listened) → (b ≡ true → l ≡ listened s bytes false) → listened_unless_longer b s bytes l ≡ l
pass_by true s bytes l same = sym (same refl)
pass_by false s bytes l same = refl

steps_short : (n most : ℕ) (s : EncoderHistory) (bytes : List ℕ) → length bytes ≤ most → listen_limited n most s bytes ≡ listen_within n s bytes
steps_short zero most s bytes few = refl
steps_short (suc n) most s bytes few =
    pass_by (exceeds most decoder_wait bytes) s bytes (listen_form (listen_limited n most) s bytes (decoder_instruction bytes))
    (λ longer. ap (λ x. listen_form (listen_limited n most) s bytes x) (decoder_exceeds_unfinished most bytes few longer))
    ∙ form_same (listen_limited n most) (listen_within n) s bytes (decoder_instruction bytes)
    (λ i rest new e. let less = decoder_instruction_less bytes rest i e in steps_short n most new rest (omega (arith, less, few)))

pub listen_short : (most : ℕ) (s : EncoderHistory) (bytes : List ℕ) → length bytes ≤ most → listen_up_to most s bytes ≡ listen s bytes
unfolding listen_up_to listen
listen_short most s bytes few = steps_short (length bytes) most s bytes few

-- **However the bytes are cut, they come to the same.**
next_cut : (most : ℕ) (s : EncoderHistory) (bytes : List ℕ) (i : DecoderInstruction) (rest more : List ℕ) (b : Bool)
    → ((new : EncoderHistory) → listen_up_to most new (rest ++ more) ≡ listened_up_to_with most (listen_up_to most new rest) more (listen_up_to most new rest).is_bad)
    → listen_next (listen_up_to most) s (bytes ++ more) i (rest ++ more) b
    ≡ listened_up_to_with most (listen_next (listen_up_to most) s bytes i rest b) more (listen_next (listen_up_to most) s bytes i rest b).is_bad
next_cut most s bytes i rest more true each = refl
next_cut most s bytes i rest more false each = each (encoder_after s i)

cut_step : (most : ℕ) (s : EncoderHistory) (bytes more : List ℕ)
    → ((new : EncoderHistory) (rest : List ℕ) → length rest < length bytes → listen_up_to most new (rest ++ more) ≡ listened_up_to_with most (listen_up_to most new rest) more (listen_up_to most new rest).is_bad)
    → listen_up_to most s (bytes ++ more) ≡ listened_up_to_with most (listen_up_to most s bytes) more (listen_up_to most s bytes).is_bad
cut_step most s bytes more again = by_length (exceeds most decoder_wait bytes) refl
  where
    -- what is read of the first bytes
    by_front : (l : Listened) → listen_up_to most s bytes ≡ l → listen_up_to most s (bytes ++ more) ≡ listened_up_to_with most l more l.is_bad
        → listen_up_to most s (bytes ++ more) ≡ listened_up_to_with most (listen_up_to most s bytes) more (listen_up_to most s bytes).is_bad
    by_front l is same = same ∙ sym (ap (λ (x : Listened). listened_up_to_with most x more x.is_bad) is)

    later : (x : Reading DecoderInstruction) → decoder_instruction (bytes ++ more) ≡ x → exceeds most decoder_wait bytes ≡ false → is_unfinished (decoder_instruction bytes) ≡ false
        → listen_up_to most s (bytes ++ more) ≡ listen_form (listen_up_to most) s (bytes ++ more) x
    later x is within done = listens_within most s (bytes ++ more) (decoder_finished_within most bytes more within done) ∙ ap (listen_form (listen_up_to most) s (bytes ++ more)) is

    by_reading : exceeds most decoder_wait bytes ≡ false → (x : Reading DecoderInstruction) → decoder_instruction bytes ≡ x
        → listen_up_to most s (bytes ++ more) ≡ listened_up_to_with most (listen_form (listen_up_to most) s bytes x) more (listen_form (listen_up_to most) s bytes x).is_bad
    by_reading within Unfinished is = refl
    by_reading within Bad is =
        let stays = decoder_instruction_stable bytes more in
        let bad : decoder_instruction (bytes ++ more) ≡ Bad = rw is at stays in
        later Bad bad within (ap is_unfinished is)
    by_reading within (Whole i rest) is =
        let stays = decoder_instruction_stable bytes more in
        let whole : decoder_instruction (bytes ++ more) ≡ Whole i (rest ++ more) = rw is at stays in
        let less = decoder_instruction_less bytes rest i is in
        later (Whole i (rest ++ more)) whole within (ap is_unfinished is)
        ∙ next_cut most s bytes i rest more (is_refused s i) (λ new. again new rest less)

    by_length : (b : Bool) → exceeds most decoder_wait bytes ≡ b
        → listen_up_to most s (bytes ++ more) ≡ listened_up_to_with most (listen_up_to most s bytes) more (listen_up_to most s bytes).is_bad
    by_length true longer = by_front (listened s bytes false) (listens_no_longer most s bytes longer) refl
    by_length false within = by_front (listen_form (listen_up_to most) s bytes (decoder_instruction bytes)) (listens_within most s bytes within) (by_reading within (decoder_instruction bytes) refl)

cut_within : (n most : ℕ) (s : EncoderHistory) (bytes more : List ℕ) → length bytes ≤ n
    → listen_up_to most s (bytes ++ more) ≡ listened_up_to_with most (listen_up_to most s bytes) more (listen_up_to most s bytes).is_bad
cut_within zero most s bytes more fits = cut_step most s bytes more (λ new rest less. absurd (omega (arith, less, fits)))
cut_within (suc n) most s bytes more fits = cut_step most s bytes more (λ new rest less. cut_within n most new rest more (omega (arith, less, fits)))

pub listen_cut : (most : ℕ) (s : EncoderHistory) (bytes more : List ℕ) → listen_up_to most s (bytes ++ more) ≡ listened_up_to_with most (listen_up_to most s bytes) more (listen_up_to most s bytes).is_bad
listen_cut most s bytes more = cut_within (length bytes) most s bytes more (omega arith)

-- **An instruction that is too long is the fault, or all is read as without a limit.**
next_alike : (most : ℕ) (go other : EncoderHistory → List ℕ → Listened) (s : EncoderHistory) (bytes : List ℕ) (i : DecoderInstruction) (rest : List ℕ) (b : Bool)
    → ((new : EncoderHistory) → StopsOrListens most (go new rest) (other new rest)) → StopsOrListens most (listen_next go s bytes i rest b) (listen_next other s bytes i rest b)
next_alike most go other s bytes i rest true each = inr refl
next_alike most go other s bytes i rest false each = each (encoder_after s i)

form_alike : (most : ℕ) (go other : EncoderHistory → List ℕ → Listened) (s : EncoderHistory) (bytes : List ℕ) (x : Reading DecoderInstruction)
    → ((new : EncoderHistory) (rest : List ℕ) → StopsOrListens most (go new rest) (other new rest)) → StopsOrListens most (listen_form go s bytes x) (listen_form other s bytes x)
form_alike most go other s bytes (Whole i rest) each = next_alike most go other s bytes i rest (is_refused s i) (λ new. each new rest)
form_alike most go other s bytes Unfinished each = inr refl
form_alike most go other s bytes Bad each = inr refl

test_alike : (most : ℕ) (b : Bool) (s : EncoderHistory) (bytes : List ℕ) (l other : Listened) → exceeds most decoder_wait bytes ≡ b → StopsOrListens most l other → StopsOrListens most (listened_unless_longer b s bytes l) other
test_alike most true s bytes l other is alike = inl (refl, is)
test_alike most false s bytes l other is alike = alike

steps_alike : (n most : ℕ) (s : EncoderHistory) (bytes : List ℕ) → StopsOrListens most (listen_limited n most s bytes) (listen_within n s bytes)
steps_alike zero most s bytes = inr refl
steps_alike (suc n) most s bytes =
    test_alike most (exceeds most decoder_wait bytes) s bytes (listen_form (listen_limited n most) s bytes (decoder_instruction bytes)) (listen_form (listen_within n) s bytes (decoder_instruction bytes)) refl
    (form_alike most (listen_limited n most) (listen_within n) s bytes (decoder_instruction bytes) (λ new rest. steps_alike n most new rest))

longer_fault : (most : ℕ) (l : Listened) → l.is_bad ≡ false → exceeds most decoder_wait l.left ≡ true → listening_fault most l ≡ Some excessive_load
longer_fault most l good longer = ap (λ b. if b then Some decoder_stream_error else fault_if (exceeds most decoder_wait l.left) excessive_load) good ∙ ap (λ b. fault_if b excessive_load) longer

fault_alike : (most : ℕ) (l other : Listened) → StopsOrListens most l other → IsLongerOrListened most l other
fault_alike most l other (inl is) = inl (longer_fault most l is.0 is.1)
fault_alike most l other (inr same) = by_fault l.is_bad (exceeds most decoder_wait l.left) refl refl
  where
    by_fault : (bad longer : Bool) → l.is_bad ≡ bad → exceeds most decoder_wait l.left ≡ longer → IsLongerOrListened most l other
    by_fault true longer bad is = inr (
      same,
      ap (λ b. if b then Some decoder_stream_error else fault_if (exceeds most decoder_wait l.left) excessive_load) bad
          ∙ ap (λ b. fault_if b decoder_stream_error) (sym bad) ∙ ap (λ (x : Listened). fault_if x.is_bad decoder_stream_error) same,
    )
    by_fault false true good is = inl (longer_fault most l good is)
    by_fault false false good is = inr (
      same,
      ap (λ b. if l.is_bad then Some decoder_stream_error else fault_if b excessive_load) is ∙ ap (λ (x : Listened). fault_if x.is_bad decoder_stream_error) same,
    )

pub listen_alike : (most : ℕ) (s : EncoderHistory) (bytes : List ℕ) → IsLongerOrListened most (listen_up_to most s bytes) (listen s bytes)
unfolding listen_up_to listen
listen_alike most s bytes = fault_alike most (listen_limited (length bytes) most s bytes) (listen_within (length bytes) s bytes) (steps_alike (length bytes) most s bytes)
