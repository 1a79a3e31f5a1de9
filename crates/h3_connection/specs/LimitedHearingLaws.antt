-- The peer's encoder stream, where instructions are taken up to a limit.
use Rattle.std.proofs.Common.{◌≡◌, ℕ, zero, suc, ◌≤◌, ◌<◌, Bool, true, false, if◌then◌else◌, List, [], ◌∷◌, ◌++◌, length, Option, Some, None, refl, ap, sym, ◌∙◌, arith, inl, inr}
use Rattle.h3_field.specs.InstructionLaws.{instruction_stable}
use Rattle.h3_field.specs.InstructionReading.{InstructionForm, instruction}
use Rattle.h3_field.specs.Reading.{Reading, Whole, Unfinished, Bad}
use Rattle.h3_field.specs.ShorterLaws.{instruction_less}
use Rattle.h3_field.specs.Values.{instruction_of}
use Rattle.h3_field.specs.Waiting.{is_unfinished, encoder_wait}
use Rattle.h3_proto.specs.Config.{is_limit}
use Rattle.h3_qpack.specs.DecoderState.{DecoderState}
use Rattle.h3_qpack.specs.Hearing.{Heard, heard, decoder_after_form, hear_next, hear_form, hear_within, hear}
use Rattle.h3_connection.specs.Codes.{encoder_stream_error, excessive_load}
use Rattle.h3_connection.specs.ExcessiveInstructionLaws.{none_exceeds, exceeds_unfinished, finished_within}
use Rattle.h3_connection.specs.ExcessiveInstructions.{exceeds, hear_limited, hear_up_to, heard_up_to_with}
use Rattle.h3_connection.specs.LimitedReading.{IsLongerOrHeard, StopsOrHears, heard_unless_longer}
use Rattle.h3_connection.specs.Listeners.{fault_if, hearing_fault}

-- one instruction, and then the rest
next_same : (go other : DecoderState → List ℕ → Heard) (r : DecoderState) (bytes rest : List ℕ) (o : Option DecoderState) → ((new : DecoderState) → go new rest ≡ other new rest)
    → hear_next go r bytes rest o ≡ hear_next other r bytes rest o
next_same go other r bytes rest None same = refl
next_same go other r bytes rest (Some new) same = same new

form_same : (go other : DecoderState → List ℕ → Heard) (r : DecoderState) (bytes : List ℕ) (x : Reading InstructionForm) → ((form : InstructionForm) (rest : List ℕ) (new : DecoderState) → x ≡ Whole form rest → go new rest ≡ other new rest)
    → hear_form go r bytes x ≡ hear_form other r bytes x
form_same go other r bytes (Whole form rest) same = next_same go other r bytes rest (decoder_after_form r (instruction_of form)) (λ new. same form rest new refl)
form_same go other r bytes Unfinished same = refl
form_same go other r bytes Bad same = refl

-- no count of steps but the least matters
steps_same : (n m most : ℕ) (r : DecoderState) (bytes : List ℕ) → length bytes ≤ n → length bytes ≤ m → hear_limited n most r bytes ≡ hear_limited m most r bytes
steps_same zero zero most r bytes h k = refl
steps_same zero (suc m) most r [] h k = refl
steps_same zero (suc m) most r (byte ∷ bytes) h k = absurd (omega (arith, h))
steps_same (suc n) zero most r [] h k = refl
steps_same (suc n) zero most r (byte ∷ bytes) h k = absurd (omega (arith, k))
steps_same (suc n) (suc m) most r bytes h k =
    ap (heard_unless_longer (exceeds most encoder_wait bytes) r bytes)
    (form_same (hear_limited n most) (hear_limited m most) r bytes (instruction bytes)
    (λ form rest new e. let less = instruction_less bytes rest form e in steps_same n m most new rest (omega (arith, less, h)) (omega (arith, less, k))))

pub hear_step : (most : ℕ) (r : DecoderState) (bytes : List ℕ)
    → hear_up_to most r bytes ≡ (if exceeds most encoder_wait bytes then heard r bytes false else hear_form (hear_up_to most) r bytes (instruction bytes))
unfolding hear_up_to
hear_step most r bytes =
    steps_same (length bytes) (suc (length bytes)) most r bytes (omega arith) (omega arith)
    ∙ ap (heard_unless_longer (exceeds most encoder_wait bytes) r bytes)
    (form_same (hear_limited (length bytes) most) (hear_up_to most) r bytes (instruction bytes)
    (λ form rest new e. let less = instruction_less bytes rest form e in steps_same (length bytes) (length rest) most new rest (omega (arith, less)) (omega arith)))

-- No bytes are nothing.
pub hears_nothing : (most : ℕ) (r : DecoderState) → hear_up_to most r [] ≡ heard r [] false
unfolding hear_up_to
hears_nothing most r = refl

-- An instruction that is longer than the limit is not read,
pub hears_no_longer : (most : ℕ) (r : DecoderState) (bytes : List ℕ) → exceeds most encoder_wait bytes ≡ true → hear_up_to most r bytes ≡ heard r bytes false
hears_no_longer most r bytes longer = hear_step most r bytes ∙ ap (λ b. heard_unless_longer b r bytes (hear_form (hear_up_to most) r bytes (instruction bytes))) longer

-- and any other is.
pub hears_within : (most : ℕ) (r : DecoderState) (bytes : List ℕ) → exceeds most encoder_wait bytes ≡ false → hear_up_to most r bytes ≡ hear_form (hear_up_to most) r bytes (instruction bytes)
hears_within most r bytes within = hear_step most r bytes ∙ ap (λ b. heard_unless_longer b r bytes (hear_form (hear_up_to most) r bytes (instruction bytes))) within

-- **Without a limit all is heard as it was.**
steps_unlimited : (n most : ℕ) (r : DecoderState) (bytes : List ℕ) → is_limit most ≡ false → hear_limited n most r bytes ≡ hear_within n r bytes
steps_unlimited zero most r bytes none = refl
steps_unlimited (suc n) most r bytes none =
    ap (λ b. heard_unless_longer b r bytes (hear_form (hear_limited n most) r bytes (instruction bytes))) (none_exceeds most encoder_wait bytes none)
    ∙ form_same (hear_limited n most) (hear_within n) r bytes (instruction bytes) (λ form rest new e. steps_unlimited n most new rest none)

pub hear_unlimited : (most : ℕ) (r : DecoderState) (bytes : List ℕ) → is_limit most ≡ false → hear_up_to most r bytes ≡ hear r bytes
unfolding hear_up_to hear
hear_unlimited most r bytes none = steps_unlimited (length bytes) most r bytes none

pub hearing_unlimited : (most : ℕ) (h : Heard) → is_limit most ≡ false → hearing_fault most h ≡ fault_if h.is_bad encoder_stream_error
hearing_unlimited most h none = ap (λ b. if h.is_bad then Some encoder_stream_error else fault_if b excessive_load) (none_exceeds most encoder_wait h.left none)

-- **So are no more bytes than the limit.**
pass_by : (b : Bool) (r : DecoderState) (bytes : List ℕ) (h : Heard) → (b ≡ true → h ≡ heard r bytes false) → heard_unless_longer b r bytes h ≡ h
pass_by true r bytes h same = sym (same refl)
pass_by false r bytes h same = refl

steps_short : (n most : ℕ) (r : DecoderState) (bytes : List ℕ) → length bytes ≤ most → hear_limited n most r bytes ≡ hear_within n r bytes
steps_short zero most r bytes few = refl
steps_short (suc n) most r bytes few =
    pass_by (exceeds most encoder_wait bytes) r bytes (hear_form (hear_limited n most) r bytes (instruction bytes))
    (λ longer. ap (λ x. hear_form (hear_limited n most) r bytes x) (exceeds_unfinished most bytes few longer))
    ∙ form_same (hear_limited n most) (hear_within n) r bytes (instruction bytes)
    (λ form rest new e. let less = instruction_less bytes rest form e in steps_short n most new rest (omega (arith, less, few)))

pub hear_short : (most : ℕ) (r : DecoderState) (bytes : List ℕ) → length bytes ≤ most → hear_up_to most r bytes ≡ hear r bytes
unfolding hear_up_to hear
hear_short most r bytes few = steps_short (length bytes) most r bytes few

-- **However the bytes are cut, they come to the same.**
next_cut : (most : ℕ) (r : DecoderState) (bytes rest more : List ℕ) (o : Option DecoderState)
    → ((new : DecoderState) → hear_up_to most new (rest ++ more) ≡ heard_up_to_with most (hear_up_to most new rest) more (hear_up_to most new rest).is_bad)
    → hear_next (hear_up_to most) r (bytes ++ more) (rest ++ more) o
    ≡ heard_up_to_with most (hear_next (hear_up_to most) r bytes rest o) more (hear_next (hear_up_to most) r bytes rest o).is_bad
next_cut most r bytes rest more None each = refl
next_cut most r bytes rest more (Some new) each = each new

cut_step : (most : ℕ) (r : DecoderState) (bytes more : List ℕ)
    → ((new : DecoderState) (rest : List ℕ) → length rest < length bytes → hear_up_to most new (rest ++ more) ≡ heard_up_to_with most (hear_up_to most new rest) more (hear_up_to most new rest).is_bad)
    → hear_up_to most r (bytes ++ more) ≡ heard_up_to_with most (hear_up_to most r bytes) more (hear_up_to most r bytes).is_bad
cut_step most r bytes more again = by_length (exceeds most encoder_wait bytes) refl
  where
    -- what is read of the first bytes
    by_front : (h : Heard) → hear_up_to most r bytes ≡ h → hear_up_to most r (bytes ++ more) ≡ heard_up_to_with most h more h.is_bad
        → hear_up_to most r (bytes ++ more) ≡ heard_up_to_with most (hear_up_to most r bytes) more (hear_up_to most r bytes).is_bad
    by_front h is same = same ∙ sym (ap (λ (x : Heard). heard_up_to_with most x more x.is_bad) is)

    later : (x : Reading InstructionForm) → instruction (bytes ++ more) ≡ x → exceeds most encoder_wait bytes ≡ false → is_unfinished (instruction bytes) ≡ false
        → hear_up_to most r (bytes ++ more) ≡ hear_form (hear_up_to most) r (bytes ++ more) x
    later x is within done = hears_within most r (bytes ++ more) (finished_within most bytes more within done) ∙ ap (hear_form (hear_up_to most) r (bytes ++ more)) is

    by_reading : exceeds most encoder_wait bytes ≡ false → (x : Reading InstructionForm) → instruction bytes ≡ x
        → hear_up_to most r (bytes ++ more) ≡ heard_up_to_with most (hear_form (hear_up_to most) r bytes x) more (hear_form (hear_up_to most) r bytes x).is_bad
    by_reading within Unfinished is = refl
    by_reading within Bad is =
        let stays = instruction_stable bytes more in
        let bad : instruction (bytes ++ more) ≡ Bad = rw is at stays in
        later Bad bad within (ap is_unfinished is)
    by_reading within (Whole form rest) is =
        let stays = instruction_stable bytes more in
        let whole : instruction (bytes ++ more) ≡ Whole form (rest ++ more) = rw is at stays in
        let less = instruction_less bytes rest form is in
        later (Whole form (rest ++ more)) whole within (ap is_unfinished is)
        ∙ next_cut most r bytes rest more (decoder_after_form r (instruction_of form)) (λ new. again new rest less)

    by_length : (b : Bool) → exceeds most encoder_wait bytes ≡ b
        → hear_up_to most r (bytes ++ more) ≡ heard_up_to_with most (hear_up_to most r bytes) more (hear_up_to most r bytes).is_bad
    by_length true longer = by_front (heard r bytes false) (hears_no_longer most r bytes longer) refl
    by_length false within = by_front (hear_form (hear_up_to most) r bytes (instruction bytes)) (hears_within most r bytes within) (by_reading within (instruction bytes) refl)

cut_within : (n most : ℕ) (r : DecoderState) (bytes more : List ℕ) → length bytes ≤ n
    → hear_up_to most r (bytes ++ more) ≡ heard_up_to_with most (hear_up_to most r bytes) more (hear_up_to most r bytes).is_bad
cut_within zero most r bytes more fits = cut_step most r bytes more (λ new rest less. absurd (omega (arith, less, fits)))
cut_within (suc n) most r bytes more fits = cut_step most r bytes more (λ new rest less. cut_within n most new rest more (omega (arith, less, fits)))

pub hear_cut : (most : ℕ) (r : DecoderState) (bytes more : List ℕ) → hear_up_to most r (bytes ++ more) ≡ heard_up_to_with most (hear_up_to most r bytes) more (hear_up_to most r bytes).is_bad
hear_cut most r bytes more = cut_within (length bytes) most r bytes more (omega arith)

-- **An instruction that is too long is the fault, or all is heard as without a limit.**
next_alike : (most : ℕ) (go other : DecoderState → List ℕ → Heard) (r : DecoderState) (bytes rest : List ℕ) (o : Option DecoderState) → ((new : DecoderState) → StopsOrHears most (go new rest) (other new rest))
    → StopsOrHears most (hear_next go r bytes rest o) (hear_next other r bytes rest o)
next_alike most go other r bytes rest None each = inr refl
next_alike most go other r bytes rest (Some new) each = each new

form_alike : (most : ℕ) (go other : DecoderState → List ℕ → Heard) (r : DecoderState) (bytes : List ℕ) (x : Reading InstructionForm) → ((new : DecoderState) (rest : List ℕ) → StopsOrHears most (go new rest) (other new rest))
    → StopsOrHears most (hear_form go r bytes x) (hear_form other r bytes x)
form_alike most go other r bytes (Whole form rest) each = next_alike most go other r bytes rest (decoder_after_form r (instruction_of form)) (λ new. each new rest)
form_alike most go other r bytes Unfinished each = inr refl
form_alike most go other r bytes Bad each = inr refl

test_alike : (most : ℕ) (b : Bool) (r : DecoderState) (bytes : List ℕ) (h other : Heard) → exceeds most encoder_wait bytes ≡ b → StopsOrHears most h other → StopsOrHears most (heard_unless_longer b r bytes h) other
test_alike most true r bytes h other is alike = inl (refl, is)
test_alike most false r bytes h other is alike = alike

steps_alike : (n most : ℕ) (r : DecoderState) (bytes : List ℕ) → StopsOrHears most (hear_limited n most r bytes) (hear_within n r bytes)
steps_alike zero most r bytes = inr refl
steps_alike (suc n) most r bytes =
    test_alike most (exceeds most encoder_wait bytes) r bytes (hear_form (hear_limited n most) r bytes (instruction bytes)) (hear_form (hear_within n) r bytes (instruction bytes)) refl
    (form_alike most (hear_limited n most) (hear_within n) r bytes (instruction bytes) (λ new rest. steps_alike n most new rest))

longer_fault : (most : ℕ) (h : Heard) → h.is_bad ≡ false → exceeds most encoder_wait h.left ≡ true → hearing_fault most h ≡ Some excessive_load
longer_fault most h good longer = ap (λ b. if b then Some encoder_stream_error else fault_if (exceeds most encoder_wait h.left) excessive_load) good ∙ ap (λ b. fault_if b excessive_load) longer

fault_alike : (most : ℕ) (h other : Heard) → StopsOrHears most h other → IsLongerOrHeard most h other
fault_alike most h other (inl is) = inl (longer_fault most h is.0 is.1)
fault_alike most h other (inr same) = by_fault h.is_bad (exceeds most encoder_wait h.left) refl refl
  where
    by_fault : (bad longer : Bool) → h.is_bad ≡ bad → exceeds most encoder_wait h.left ≡ longer → IsLongerOrHeard most h other
    by_fault true longer bad is = inr (
      same,
      ap (λ b. if b then Some encoder_stream_error else fault_if (exceeds most encoder_wait h.left) excessive_load) bad
          ∙ ap (λ b. fault_if b encoder_stream_error) (sym bad) ∙ ap (λ (x : Heard). fault_if x.is_bad encoder_stream_error) same,
    )
    by_fault false true good is = inl (longer_fault most h good is)
    by_fault false false good is = inr (
      same,
      ap (λ b. if h.is_bad then Some encoder_stream_error else fault_if b excessive_load) is ∙ ap (λ (x : Heard). fault_if x.is_bad encoder_stream_error) same,
    )

pub hear_alike : (most : ℕ) (r : DecoderState) (bytes : List ℕ) → IsLongerOrHeard most (hear_up_to most r bytes) (hear r bytes)
unfolding hear_up_to hear
hear_alike most r bytes = fault_alike most (hear_limited (length bytes) most r bytes) (hear_within (length bytes) r bytes) (steps_alike (length bytes) most r bytes)
