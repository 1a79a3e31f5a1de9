-- Of the first bytes of written instructions the whole instructions are read, and the rest is unfinished.
use Rattle.std.proofs.Common.{◌≡◌, ℕ, zero, suc, ◌+◌, ◌-◌, ◌<◌, ◌≤◌, nat_le, Bool, true, false, if◌then◌else◌, List, [], ◌∷◌, ◌++◌, length, take, drop, flat_map, Some, refl, sym, ◌∙◌, ap, subst, arith, append-nil, append_assoc, length-append, length-drop}
use Rattle.std.specs.List.{AllByRecursion}
use Rattle.std.proofs.lemmas.Bool.{leb-true}
use Rattle.std.proofs.lemmas.Grind.{common_steps}
use Rattle.std.proofs.lemmas.List.{take-append-drop, take-append-le}
use Rattle.std.proofs.Math.Seq.{take-append-add}
use Rattle.h3_field.specs.Instruction.{EncoderInstruction, encoder_bytes, DecoderInstruction, decoder_bytes}
use Rattle.h3_field.specs.Reading.{Reading, Whole, Unfinished, Bad, Stays, IsStable}
use Rattle.h3_field.specs.InstructionReading.{instruction, decoder_instruction}
use Rattle.h3_field.specs.InstructionAnswer.{IsReply}
use Rattle.h3_field.specs.InstructionLaws.{instruction_stable, decoder_instruction_stable}
use Rattle.h3_field.specs.ReadBackLaws.{instruction_reads_back, reply_reads_back}
use Rattle.h3_qpack.specs.DecoderState.{DecoderState, decoder_after_all}
use Rattle.h3_qpack.specs.EncoderHistory.{EncoderHistory, encoder_after_all}
use Rattle.h3_qpack.specs.Encodings.{IsWrittenInstruction}
use Rattle.h3_qpack.specs.Instructions.{AreInstructions, NoInstruction, NextInstruction, AreDecoderInstructions, NoDecoderInstruction, NextDecoderInstruction, AreAccepted}
use Rattle.h3_qpack.specs.WholeInstructions.{whole_in, rest_in}
use Rattle.h3_qpack.specs.Hearing.{heard, hear, listened, listen}
use Rattle.h3_qpack.specs.HearingLaws.{heard_is, listened_is}

none_behind : {A : Type 0} (v w : A) (rest : List ℕ) → Whole v rest ≡ Whole w [] → length rest ≡ 0
none_behind v w rest e = let same : rest ≡ [] = cc in ap (λ l. length l) same

not_bad : {A : Type 0} (w : A) → Bad ≡ Whole w [] → ⊥
not_bad w e = absurd (cc)

-- a front of what is read whole, where nothing stands behind that
cut_off : {A : Type 0} (bytes more : List ℕ) (w : A) (x all : Reading A) → Stays more x all → all ≡ Whole w [] → 0 < length more → x ≡ Unfinished
cut_off bytes more w (Whole v rest) all stays whole some =
    absurd (omega (arith, some, none_behind v w (rest ++ more) (sym stays ∙ whole), length-append rest more))
cut_off bytes more w Unfinished all stays whole some = refl
cut_off bytes more w Bad all stays whole some = absurd (not_bad w (sym stays ∙ whole))

front_unfinished : {A : Type 0} (read : List ℕ → Reading A) (bytes : List ℕ) (n : ℕ) (w : A) → IsStable read → read bytes ≡ Whole w [] → n < length bytes → read (take n bytes) ≡ Unfinished
front_unfinished read bytes n w stable whole few =
    cut_off (take n bytes) (drop n bytes) w (read (take n bytes)) (read (take n bytes ++ drop n bytes)) (stable (take n bytes) (drop n bytes))
    (ap read (take-append-drop n bytes) ∙ whole) (omega (arith, few, length-drop n bytes))

take_none : (n : ℕ) → ◌≡◌ {A = List ℕ} (take n []) []
take_none zero = refl
take_none (suc n) = refl

one_more : {X : Type 0} (k : ℕ) (x : X) (xs : List X) → take (k + 1) (x ∷ xs) ≡ x ∷ take k xs
one_more k x xs = let e : k + 1 ≡ suc k = omega arith in ap (λ m. take m (x ∷ xs)) e

first_whole : (n : ℕ) (bytes more : List ℕ) → length bytes ≤ n → take n (bytes ++ more) ≡ bytes ++ take (n - length bytes) more
first_whole n bytes more fits =
    let e : n ≡ length bytes + (n - length bytes) = omega (arith, fits) in
    ap (λ m. take m (bytes ++ more)) e ∙ take-append-add bytes more (n - length bytes)

first_cut : (n : ℕ) (bytes more : List ℕ) → n < length bytes → take n (bytes ++ more) ≡ take n bytes
first_cut n bytes more few = take-append-le n bytes more (omega (arith, few))

above : (a n : ℕ) → nat_le a n ≡ false → n < a
above a n e = grind (arith, common_steps, e)

-- an encoder's stream
module _ (all : List EncoderInstruction) (n : ℕ) where
  abbrev pub FrontRead : Type 0
  FrontRead = AreInstructions (take n (flat_map encoder_bytes all)) (take (whole_in encoder_bytes n all) all) (rest_in encoder_bytes n all)
      × (instruction (rest_in encoder_bytes n all) ≡ Unfinished)

-- what a test of the first instruction leaves
abbrev AtEncoder : EncoderInstruction → List EncoderInstruction → ℕ → Bool → Type 0
AtEncoder j js n b =
    AreInstructions (take n (encoder_bytes j ++ flat_map encoder_bytes js)) (take (if b then whole_in encoder_bytes (n - length (encoder_bytes j)) js + 1 else 0) (j ∷ js))
    (if b then rest_in encoder_bytes (n - length (encoder_bytes j)) js else take n (encoder_bytes j))
    × (instruction (if b then rest_in encoder_bytes (n - length (encoder_bytes j)) js else take n (encoder_bytes j)) ≡ Unfinished)

pub front_read : (all : List EncoderInstruction) (n : ℕ) → AllByRecursion IsWrittenInstruction all → FrontRead all n
front_read [] n w = (subst (λ b. AreInstructions b [] []) (sym (take_none n)) (NoInstruction []), refl)
front_read (j ∷ js) n w = at (nat_le (length (encoder_bytes j)) n) refl (front_read js (n - length (encoder_bytes j)) w.1)
  where
    own : List ℕ
    own = encoder_bytes j

    more : List ℕ
    more = flat_map encoder_bytes js

    at : (b : Bool) → nat_le (length own) n ≡ b → FrontRead js (n - length own) → AtEncoder j js n b
    at true e later =
        let k = whole_in encoder_bytes (n - length own) js in
        let rest = take (n - length own) more in
        let next = NextInstruction (own ++ rest) rest (rest_in encoder_bytes (n - length own) js) j (take k js) (instruction_reads_back j rest w.0.0 w.0.1 w.0.2) later.0 in
        (rw (first_whole n own more (leb-true (length own) n e), one_more k j js) next, later.1)
    at false e later =
        let few = above (length own) n e in
        let here = instruction_reads_back j [] w.0.0 w.0.1 w.0.2 in (
          subst (λ b. AreInstructions b [] (take n own)) (sym (first_cut n own more few)) (NoInstruction (take n own)),
          front_unfinished instruction own n here.form instruction_stable (rw (append-nil own) at here.whole) few,
        )

-- what is heard of it
pub front_heard : (r new : DecoderState) (all : List EncoderInstruction) (n : ℕ) → AllByRecursion IsWrittenInstruction all → decoder_after_all (Some r) (take (whole_in encoder_bytes n all) all) ≡ Some new
    → hear r (take n (flat_map encoder_bytes all)) ≡ heard new (rest_in encoder_bytes n all) false
front_heard r new all n w e =
    let f = front_read all n w in
    heard_is r (take n (flat_map encoder_bytes all)) (heard new (rest_in encoder_bytes n all) false)
    (record { read = record { instructions = take (whole_in encoder_bytes n all) all; split = f.0; table = e }; stops = f.1 })

-- a decoder's stream
module _ (all : List DecoderInstruction) (n : ℕ) where
  abbrev pub DecoderFrontRead : Type 0
  DecoderFrontRead = AreDecoderInstructions (take n (flat_map decoder_bytes all)) (take (whole_in decoder_bytes n all) all) (rest_in decoder_bytes n all)
      × (decoder_instruction (rest_in decoder_bytes n all) ≡ Unfinished)

-- what a test of the first instruction leaves
abbrev AtDecoder : DecoderInstruction → List DecoderInstruction → ℕ → Bool → Type 0
AtDecoder j js n b =
    AreDecoderInstructions (take n (decoder_bytes j ++ flat_map decoder_bytes js)) (take (if b then whole_in decoder_bytes (n - length (decoder_bytes j)) js + 1 else 0) (j ∷ js))
    (if b then rest_in decoder_bytes (n - length (decoder_bytes j)) js else take n (decoder_bytes j))
    × (decoder_instruction (if b then rest_in decoder_bytes (n - length (decoder_bytes j)) js else take n (decoder_bytes j)) ≡ Unfinished)

pub decoder_front_read : (all : List DecoderInstruction) (n : ℕ) → AllByRecursion IsReply all → DecoderFrontRead all n
decoder_front_read [] n w = (subst (λ b. AreDecoderInstructions b [] []) (sym (take_none n)) (NoDecoderInstruction []), refl)
decoder_front_read (j ∷ js) n w = at (nat_le (length (decoder_bytes j)) n) refl (decoder_front_read js (n - length (decoder_bytes j)) w.1)
  where
    own : List ℕ
    own = decoder_bytes j

    more : List ℕ
    more = flat_map decoder_bytes js

    at : (b : Bool) → nat_le (length own) n ≡ b → DecoderFrontRead js (n - length own) → AtDecoder j js n b
    at true e later =
        let k = whole_in decoder_bytes (n - length own) js in
        let rest = take (n - length own) more in
        let next = NextDecoderInstruction (own ++ rest) rest (rest_in decoder_bytes (n - length own) js) j (take k js) (reply_reads_back j rest w.0) later.0 in
        (rw (first_whole n own more (leb-true (length own) n e), one_more k j js) next, later.1)
    at false e later =
        let few = above (length own) n e in
        let here = reply_reads_back j [] w.0 in (
          subst (λ b. AreDecoderInstructions b [] (take n own)) (sym (first_cut n own more few)) (NoDecoderInstruction (take n own)),
          front_unfinished decoder_instruction own n j decoder_instruction_stable (rw (append-nil own) at here) few,
        )

pub front_listened : (s : EncoderHistory) (all : List DecoderInstruction) (n : ℕ) → AllByRecursion IsReply all → AreAccepted s (take (whole_in decoder_bytes n all) all)
    → listen s (take n (flat_map decoder_bytes all)) ≡ listened (encoder_after_all s (take (whole_in decoder_bytes n all) all)) (rest_in decoder_bytes n all) false
front_listened s all n w accepted =
    let f = decoder_front_read all n w in
    let is = take (whole_in decoder_bytes n all) all in
    listened_is s (take n (flat_map decoder_bytes all)) (listened (encoder_after_all s is) (rest_in decoder_bytes n all) false)
    (record { instructions = is; split = f.0; accepted = accepted; after = refl; stops = f.1 })

-- all that was written
pub decoder_instructions_read : (all : List DecoderInstruction) (rest : List ℕ) → AllByRecursion IsReply all → AreDecoderInstructions (flat_map decoder_bytes all ++ rest) all rest
decoder_instructions_read [] rest w = NoDecoderInstruction rest
decoder_instructions_read (j ∷ js) rest w =
    rw (append_assoc (decoder_bytes j) (flat_map decoder_bytes js) rest)
    (NextDecoderInstruction (decoder_bytes j ++ (flat_map decoder_bytes js ++ rest)) (flat_map decoder_bytes js ++ rest) rest j js (reply_reads_back j (flat_map decoder_bytes js ++ rest) w.0) (decoder_instructions_read js rest w.1))
