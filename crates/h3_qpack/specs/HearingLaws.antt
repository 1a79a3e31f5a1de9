-- What the bytes of an encoder or a decoder come to is the value of those bytes, and the value says it.
use Rattle.std.proofs.Common.{◌≡◌, inl, inr, ℕ, zero, suc, ◌≤◌, Bool, true, false, List, [], ◌∷◌, length, Option, Some, None, refl, ap, sym, ◌∙◌, arith}
use Rattle.h3_field.specs.Reading.{Reading, Whole, Unfinished, Bad}
use Rattle.h3_field.specs.Instruction.{EncoderInstruction, DecoderInstruction}
use Rattle.h3_field.specs.InstructionReading.{InstructionForm, Says, instruction, decoder_instruction}
use Rattle.h3_field.specs.Values.{instruction_of}
use Rattle.h3_field.specs.ValueLaws.{instruction_some, instruction_is}
use Rattle.h3_qpack.specs.DecoderState.{DecoderState, decoder_after, decoder_after_all}
use Rattle.h3_qpack.specs.EncoderHistory.{EncoderHistory, encoder_after, encoder_after_all, is_refused}
use Rattle.h3_qpack.specs.Instructions.{AreInstructions, NoInstruction, NextInstruction, BeginsBad, AreDecoderInstructions, NoDecoderInstruction, NextDecoderInstruction, AreAccepted, BeginsRefused}
use Rattle.h3_qpack.specs.Hearing.{Heard, heard, decoder_after_form, hear_next, hear_form, hear_within, hear, StopsAt, IsHeardAs, Listened, listened, listen_next, listen_form, listen_within, listen, StopsBefore, IsListenedAs}
use Rattle.h3_field.specs.ShorterLaws.{instruction_less, decoder_instruction_less}

some_same : {X : Type 0} (x y : X) → Some x ≡ Some y → x ≡ y
some_same x y e = cc

nothing_after : (is : List EncoderInstruction) (r : DecoderState) → decoder_after_all None is ≡ Some r → ⊥
nothing_after [] r e = absurd (cc)
nothing_after (i ∷ is) r e = absurd (cc)

-- a first instruction that was read leaves a decoder
first_read : (o : Option DecoderState) (is : List EncoderInstruction) (new : DecoderState) → decoder_after_all o is ≡ Some new → (mid : DecoderState) × (o ≡ Some mid)
first_read None is new e = absurd (nothing_after is new e)
first_read (Some mid) is new e = (mid, refl)

-- behind whole instructions it goes on with what is left
front_heard : (most : ℕ) (r new : DecoderState) (bytes left : List ℕ) (is : List EncoderInstruction) → AreInstructions bytes is left → decoder_after_all (Some r) is ≡ Some new → length bytes ≤ most
    → (more : ℕ) × (length left ≤ more) × (hear_within most r bytes ≡ hear_within more new left)
front_heard most r new bytes left [] (NoInstruction b) e fits = (most, fits, ap (λ x. hear_within most x bytes) (some_same r new e))
front_heard zero r new bytes left (i ∷ is) (NextInstruction b rest l j js here others) e fits =
    absurd (let less = instruction_less bytes rest here.form here.whole in omega (arith, less, fits))
front_heard (suc most) r new bytes left (i ∷ is) (NextInstruction b rest l j js here others) e fits =
    let less = instruction_less bytes rest here.form here.whole in
    let mid = first_read (decoder_after r i) is new e in
    let next = front_heard most mid.0 new rest left is others (ap (λ o. decoder_after_all o is) (sym mid.1) ∙ e) (omega (arith, less, fits)) in (
      next.0,
      next.1,
      ap (λ x. hear_form (hear_within most) r bytes x) here.whole
          ∙ ap (λ o. hear_next (hear_within most) r bytes rest (decoder_after_form r o)) (instruction_some here.form i here.says)
          ∙ ap (λ o. hear_next (hear_within most) r bytes rest o) mid.1
          ∙ next.2,
    )

none_read : (r : DecoderState) (o : Option EncoderInstruction) → ((i : EncoderInstruction) → o ≡ Some i → decoder_after r i ≡ None) → decoder_after_form r o ≡ None
none_read r None h = refl
none_read r (Some i) h = h i refl

bad_form : (more : ℕ) (r : DecoderState) (left : List ℕ) → BeginsBad r left → hear_form (hear_within more) r left (instruction left) ≡ heard r left true
bad_form more r left (inl bad) = ap (λ x. hear_form (hear_within more) r left x) bad
bad_form more r left (inr b) =
    ap (λ x. hear_form (hear_within more) r left x) b.2
    ∙ ap (λ o. hear_next (hear_within more) r left b.1 o) (none_read r (instruction_of b.0) (λ i e. b.3 i (instruction_is b.0 i e)))

not_bad : (r : DecoderState) → BeginsBad r [] → ⊥
not_bad r (inl bad) = absurd (cc)
not_bad r (inr b) = let e : Unfinished ≡ Whole b.0 b.1 = b.2 in absurd (cc)

stopped : (more : ℕ) (r : DecoderState) (left : List ℕ) (is_bad : Bool) → length left ≤ more → StopsAt r left is_bad → hear_within more r left ≡ heard r left is_bad
stopped zero r left false fits e = refl
stopped (suc more) r left false fits e = ap (λ x. hear_form (hear_within more) r left x) e
stopped zero r [] true fits b = absurd (not_bad r b)
stopped zero r (byte ∷ left) true fits b = absurd (omega (arith, fits))
stopped (suc more) r left true fits b = bad_form more r left b

pub heard_is : (old : DecoderState) (bytes : List ℕ) (h : Heard) → IsHeardAs old bytes h → hear old bytes ≡ h
unfolding hear
heard_is old bytes h is =
    let front = front_heard (length bytes) old h.decoder bytes h.left is.read.instructions is.read.split is.read.table (omega arith) in
    front.2 ∙ stopped front.0 h.decoder h.left h.is_bad front.1 is.stops

-- the other way: the value says what the bytes come to
nothing_heard : (r : DecoderState) (bytes : List ℕ) (is_bad : Bool) → StopsAt r bytes is_bad → IsHeardAs r bytes (heard r bytes is_bad)
nothing_heard r bytes is_bad stops = record { read = record { instructions = []; split = NoInstruction bytes; table = refl }; stops = stops }

one_heard : (r new : DecoderState) (bytes rest : List ℕ) (form : InstructionForm) (i : EncoderInstruction) (h : Heard) → instruction bytes ≡ Whole form rest → Says form i → decoder_after r i ≡ Some new → IsHeardAs new rest h → IsHeardAs r bytes h
one_heard r new bytes rest form i h whole says e is =
    record {
      read = record {
        instructions = i ∷ is.read.instructions;
        split = NextInstruction bytes rest h.left i is.read.instructions (record { form = form; whole = whole; says = says }) is.read.split;
        table = ap (λ o. decoder_after_all o is.read.instructions) e ∙ is.read.table;
      };
      stops = is.stops;
    }

-- the instruction that was read
said : (r new : DecoderState) (o : Option EncoderInstruction) → decoder_after_form r o ≡ Some new → (i : EncoderInstruction) × (o ≡ Some i) × (decoder_after r i ≡ Some new)
said r new None e = absurd (cc)
said r new (Some i) e = (i, refl, e)

bad_next : (r : DecoderState) (form : InstructionForm) → decoder_after_form r (instruction_of form) ≡ None → (i : EncoderInstruction) → Says form i → decoder_after r i ≡ None
bad_next r form e i says = ap (decoder_after_form r) (sym (instruction_some form i says)) ∙ e

value_next : (r : DecoderState) (bytes rest : List ℕ) (form : InstructionForm) (go : DecoderState → List ℕ → Heard) (o : Option DecoderState) → instruction bytes ≡ Whole form rest → decoder_after_form r (instruction_of form) ≡ o
    → ((new : DecoderState) → IsHeardAs new rest (go new rest)) → IsHeardAs r bytes (hear_next go r bytes rest o)
value_next r bytes rest form go None whole e each = nothing_heard r bytes true (inr (form, rest, whole, bad_next r form e))
value_next r bytes rest form go (Some new) whole e each =
    let s = said r new (instruction_of form) e in
    one_heard r new bytes rest form s.0 (go new rest) whole (instruction_is form s.0 s.1) s.2 (each new)

value_form : (r : DecoderState) (bytes : List ℕ) (go : DecoderState → List ℕ → Heard) (x : Reading InstructionForm) → instruction bytes ≡ x
    → ((form : InstructionForm) (rest : List ℕ) (new : DecoderState) → instruction bytes ≡ Whole form rest → IsHeardAs new rest (go new rest)) → IsHeardAs r bytes (hear_form go r bytes x)
value_form r bytes go (Whole form rest) e each = value_next r bytes rest form go (decoder_after_form r (instruction_of form)) e refl (λ new. each form rest new e)
value_form r bytes go Unfinished e each = nothing_heard r bytes false e
value_form r bytes go Bad e each = nothing_heard r bytes true (inl e)

value_within : (most : ℕ) (r : DecoderState) (bytes : List ℕ) → length bytes ≤ most → IsHeardAs r bytes (hear_within most r bytes)
value_within zero r [] fits = nothing_heard r [] false refl
value_within zero r (byte ∷ bytes) fits = absurd (omega (arith, fits))
value_within (suc most) r bytes fits =
    value_form r bytes (hear_within most) (instruction bytes) refl
    (λ form rest new e. let less = instruction_less bytes rest form e in value_within most new rest (omega (arith, less, fits)))

pub heard_as_value : (old : DecoderState) (bytes : List ℕ) → IsHeardAs old bytes (hear old bytes)
unfolding hear
heard_as_value old bytes = value_within (length bytes) old bytes (omega arith)

-- the same of an encoder
front_listened : (most : ℕ) (s : EncoderHistory) (bytes left : List ℕ) (is : List DecoderInstruction) → AreDecoderInstructions bytes is left → AreAccepted s is → length bytes ≤ most
    → (more : ℕ) × (length left ≤ more) × (listen_within most s bytes ≡ listen_within more (encoder_after_all s is) left)
front_listened most s bytes left [] (NoDecoderInstruction b) ok fits = (most, fits, refl)
front_listened zero s bytes left (i ∷ is) (NextDecoderInstruction b rest l j js here others) ok fits =
    absurd (let less = decoder_instruction_less bytes rest i here in omega (arith, less, fits))
front_listened (suc most) s bytes left (i ∷ is) (NextDecoderInstruction b rest l j js here others) ok fits =
    let less = decoder_instruction_less bytes rest i here in
    let next = front_listened most (encoder_after s i) rest left is others ok.1 (omega (arith, less, fits)) in (
      next.0,
      next.1,
      ap (λ x. listen_form (listen_within most) s bytes x) here
          ∙ ap (λ b. listen_next (listen_within most) s bytes i rest b) ok.0
          ∙ next.2,
    )

refused_form : (more : ℕ) (s : EncoderHistory) (left : List ℕ) → BeginsRefused s left → listen_form (listen_within more) s left (decoder_instruction left) ≡ listened s left true
refused_form more s left (inl bad) = ap (λ x. listen_form (listen_within more) s left x) bad
refused_form more s left (inr b) =
    ap (λ x. listen_form (listen_within more) s left x) b.2 ∙ ap (λ t. listen_next (listen_within more) s left b.0 b.1 t) b.3

not_refused : (s : EncoderHistory) → BeginsRefused s [] → ⊥
not_refused s (inl bad) = absurd (cc)
not_refused s (inr b) = let e : Unfinished ≡ Whole b.0 b.1 = b.2 in absurd (cc)

stopped_before : (more : ℕ) (s : EncoderHistory) (left : List ℕ) (is_bad : Bool) → length left ≤ more → StopsBefore s left is_bad → listen_within more s left ≡ listened s left is_bad
stopped_before zero s left false fits e = refl
stopped_before (suc more) s left false fits e = ap (λ x. listen_form (listen_within more) s left x) e
stopped_before zero s [] true fits b = absurd (not_refused s b)
stopped_before zero s (byte ∷ left) true fits b = absurd (omega (arith, fits))
stopped_before (suc more) s left true fits b = refused_form more s left b

pub listened_is : (s : EncoderHistory) (bytes : List ℕ) (l : Listened) → IsListenedAs s bytes l → listen s bytes ≡ l
unfolding listen
listened_is s bytes l is =
    let front = front_listened (length bytes) s bytes l.left is.instructions is.split is.accepted (omega arith) in
    front.2 ∙ ap (λ t. listen_within front.0 t l.left) (sym is.after) ∙ stopped_before front.0 l.encoder l.left l.is_bad front.1 is.stops

nothing_listened : (s : EncoderHistory) (bytes : List ℕ) (is_bad : Bool) → StopsBefore s bytes is_bad → IsListenedAs s bytes (listened s bytes is_bad)
nothing_listened s bytes is_bad stops = record { instructions = []; split = NoDecoderInstruction bytes; accepted = tt; after = refl; stops = stops }

one_listened : (s : EncoderHistory) (bytes rest : List ℕ) (i : DecoderInstruction) (l : Listened) → decoder_instruction bytes ≡ Whole i rest → is_refused s i ≡ false → IsListenedAs (encoder_after s i) rest l → IsListenedAs s bytes l
one_listened s bytes rest i l whole ok is =
    record {
      instructions = i ∷ is.instructions;
      split = NextDecoderInstruction bytes rest l.left i is.instructions whole is.split;
      accepted = (ok, is.accepted);
      after = is.after;
      stops = is.stops;
    }

listened_next : (s : EncoderHistory) (bytes rest : List ℕ) (i : DecoderInstruction) (go : EncoderHistory → List ℕ → Listened) (b : Bool) → decoder_instruction bytes ≡ Whole i rest → is_refused s i ≡ b
    → IsListenedAs (encoder_after s i) rest (go (encoder_after s i) rest) → IsListenedAs s bytes (listen_next go s bytes i rest b)
listened_next s bytes rest i go true whole e is = nothing_listened s bytes true (inr (i, rest, whole, e))
listened_next s bytes rest i go false whole e is = one_listened s bytes rest i (go (encoder_after s i) rest) whole e is

listened_form : (s : EncoderHistory) (bytes : List ℕ) (go : EncoderHistory → List ℕ → Listened) (x : Reading DecoderInstruction) → decoder_instruction bytes ≡ x
    → ((i : DecoderInstruction) (rest : List ℕ) → decoder_instruction bytes ≡ Whole i rest → IsListenedAs (encoder_after s i) rest (go (encoder_after s i) rest)) → IsListenedAs s bytes (listen_form go s bytes x)
listened_form s bytes go (Whole i rest) e each = listened_next s bytes rest i go (is_refused s i) e refl (each i rest e)
listened_form s bytes go Unfinished e each = nothing_listened s bytes false e
listened_form s bytes go Bad e each = nothing_listened s bytes true (inl e)

listened_within : (most : ℕ) (s : EncoderHistory) (bytes : List ℕ) → length bytes ≤ most → IsListenedAs s bytes (listen_within most s bytes)
listened_within zero s [] fits = nothing_listened s [] false refl
listened_within zero s (byte ∷ bytes) fits = absurd (omega (arith, fits))
listened_within (suc most) s bytes fits =
    listened_form s bytes (listen_within most) (decoder_instruction bytes) refl
    (λ i rest e. let less = decoder_instruction_less bytes rest i e in listened_within most (encoder_after s i) rest (omega (arith, less, fits)))

pub listened_as_value : (s : EncoderHistory) (bytes : List ℕ) → IsListenedAs s bytes (listen s bytes)
unfolding listen
listened_as_value s bytes = listened_within (length bytes) s bytes (omega arith)
