-- What is left of an instruction or a frame that is not whole: no front of it is whole either.
use Rattle.std.proofs.Common.{◌≡◌, ℕ, ◌+◌, ◌-◌, ◌<◌, ◌≤◌, nat_le, Bool, true, false, List, [], ◌∷◌, ◌++◌, length, take, drop, refl, sym, ap, ◌∙◌, subst, arith, append-nil, length-append, if◌then◌else◌, Option, Some, None}
use Rattle.std.specs.List.{AllByRecursion}
use Rattle.std.proofs.Math.Seq.{take-append_seam}
use Rattle.std.proofs.lemmas.Grind.{common_steps}
use Rattle.std.proofs.lemmas.List.{length-take-le, take-append-drop, take-append-le}
use Rattle.h3_coding.specs.Encodings.{encoding}
use Rattle.h3_field.specs.Instruction.{EncoderInstruction, encoder_bytes, DecoderInstruction, decoder_bytes}
use Rattle.h3_field.specs.InstructionAnswer.{IsReply}
use Rattle.h3_proto.specs.Pairs.{payload_of}
use Rattle.h3_proto.specs.declared.stream.Side.{Side}
use Rattle.h3_qpack.specs.DecoderState.{DecoderState, decoder_after_all}
use Rattle.h3_qpack.specs.EncoderHistory.{EncoderHistory, encoder_after_all}
use Rattle.h3_qpack.specs.Encodings.{IsWrittenInstruction}
use Rattle.h3_qpack.specs.Hearing.{heard, hear, listened, listen}
use Rattle.h3_qpack.specs.Instructions.{AreAccepted}
use Rattle.h3_qpack.specs.WholeInstructions.{whole_in, rest_in, decoder_instructions_in}
use Rattle.h3_frames.specs.Fronts.{IsUnfinishedFront}
use Rattle.h3_connection.specs.Endpoint.{goaway_encoding}
use Rattle.h3_connection.specs.declared.setup.Announced.{Announced}
use Rattle.h3_world.specs.OwnStreams.{settings_bytes}
use Rattle.h3_world.specs.Setup.{Setup, announced_at}
use Rattle.h3_headline.specs.Cited.{StreamLaws}
use Rattle.h3_headline.specs.ControlLaws.{length_settings}
use Rattle.h3_headline.specs.ControlStreamLaws.{less_of, rest_unfinished, settings_wait}
use Rattle.h3_headline.specs.PeerStreams.{Announces, settings_frame_of}
use Rattle.h3_headline.specs.Standing.{AreGoaways, are_settings_there, control_left}
use Rattle.h3_headline.specs.WritesMoreLaws.{type_of_control}
use Rattle.h3_frames.specs.declared.frame.kinds.FrameKinds.{FrameKinds}

-- a front of a front
pub front_again : (n : ℕ) (all front left : List ℕ) → n ≤ length all → take n all ≡ front ++ left → (front ≡ take (length front) all) × (length front ≤ n)
front_again n all front left within is =
    let size = length-take-le n all within in
    let short : length front ≤ n = omega (arith, size, ap length is, length-append front left) in
    (sym (take-append_seam front left) ∙ ap (take (length front)) (sym is) ∙ sym (take-append-le (length front) (take n all) (drop n all) (omega (arith, short, size))) ∙ ap (take (length front)) (take-append-drop n all), short)

no_front : (front left : List ℕ) → [] ≡ front ++ left → front ≡ []
no_front [] left is = refl
no_front (x ∷ front) left is = absurd (cc)

-- what holds of every front of a unit that is not whole holds of a front of the rest
pub of_rest : {X : Type 0} (f : X → List ℕ) (P : X → Type 0) (Q : List ℕ → Type 0) (n : ℕ) (xs : List X) (front left : List ℕ) → AllByRecursion P xs → Q [] → ((x : X) → P x → (k : ℕ) → k < length (f x) → Q (take k (f x)))
    → rest_in f n xs ≡ front ++ left → Q front
of_rest f P Q n [] front left all nothing each is = subst Q (sym (no_front front left is)) nothing
of_rest f P Q n (x ∷ xs) front left all nothing each is = by_test (λ is. of_rest f P Q (n - length (f x)) xs front left all.1 nothing each is) (nat_le (length (f x)) n) refl is
  where
    by_test : (rest_in f (n - length (f x)) xs ≡ front ++ left → Q front) → (b : Bool) → nat_le (length (f x)) n ≡ b → (if b then rest_in f (n - length (f x)) xs else take n (f x)) ≡ front ++ left → Q front
    by_test later true e is = later is
    by_test later false e is =
        let less = less_of (length (f x)) n e in
        let again = front_again n (f x) front left (omega (arith, less)) is in
        subst Q (sym again.0) (each x all.0 (length front) (omega (arith, less, again.1)))

not_whole : (a k : ℕ) → k < a → nat_le a k ≡ false
not_whole a k h = grind (arith, common_steps, h)

-- **Encoder instructions.**
pub encoder_unfinished : (laws : StreamLaws) (r : DecoderState) (n : ℕ) (is : List EncoderInstruction) (front left : List ℕ) → AllByRecursion IsWrittenInstruction is → rest_in encoder_bytes n is ≡ front ++ left
    → hear r front ≡ heard r front false
encoder_unfinished laws r n is front left written rest = of_rest encoder_bytes IsWrittenInstruction (λ l. hear r l ≡ heard r l false) n is front left written (laws.heard_fronts r r [] 0 tt refl) one rest
  where
    one : (x : EncoderInstruction) → IsWrittenInstruction x → (k : ℕ) → k < length (encoder_bytes x) → hear r (take k (encoder_bytes x)) ≡ heard r (take k (encoder_bytes x)) false
    one x written k less =
        let short = not_whole (length (encoder_bytes x)) k less in
        let none : decoder_after_all (Some r) (take (whole_in encoder_bytes k (x ∷ [])) (x ∷ [])) ≡ Some r = ap (λ b. decoder_after_all (Some r) (take (if b then whole_in encoder_bytes (k - length (encoder_bytes x)) [] + 1 else 0) (x ∷ []))) short in
        ap (λ l. hear r (take k l)) (sym (append-nil (encoder_bytes x)))
        ∙ laws.heard_fronts r r (x ∷ []) k (written, tt) none
        ∙ ap (λ b. heard r (if b then rest_in encoder_bytes (k - length (encoder_bytes x)) [] else take k (encoder_bytes x)) false) short

-- **Decoder instructions.**
pub decoder_unfinished : (laws : StreamLaws) (s : EncoderHistory) (n : ℕ) (is : List DecoderInstruction) (front left : List ℕ) → AllByRecursion IsReply is → rest_in decoder_bytes n is ≡ front ++ left
    → listen s front ≡ listened s front false
decoder_unfinished laws s n is front left written rest = of_rest decoder_bytes IsReply (λ l. listen s l ≡ listened s l false) n is front left written (laws.listened_fronts s [] 0 tt tt) one rest
  where
    one : (x : DecoderInstruction) → IsReply x → (k : ℕ) → k < length (decoder_bytes x) → listen s (take k (decoder_bytes x)) ≡ listened s (take k (decoder_bytes x)) false
    one x written k less =
        let short = not_whole (length (decoder_bytes x)) k less in
        let none : decoder_instructions_in k (x ∷ []) ≡ [] = ap (λ b. take (if b then whole_in decoder_bytes (k - length (decoder_bytes x)) [] + 1 else 0) (x ∷ [])) short in
        ap (λ l. listen s (take k l)) (sym (append-nil (decoder_bytes x)))
        ∙ laws.listened_fronts s (x ∷ []) k (written, tt) (subst (AreAccepted s) (sym none) tt)
        ∙ ap (λ l. listened (encoder_after_all s l) (rest_in decoder_bytes k (x ∷ [])) false) none
        ∙ ap (λ b. listened s (if b then rest_in decoder_bytes (k - length (decoder_bytes x)) [] else take k (decoder_bytes x)) false) short

-- **Frames of the control stream.**
abbrev IsOneGoaway : Side → ℕ → Type 0
IsOneGoaway writer id = AreGoaways writer None (id ∷ [])

each_goaway : (writer : Side) (before : Option ℕ) (ids : List ℕ) → AreGoaways writer before ids → AllByRecursion (IsOneGoaway writer) ids
each_goaway writer before [] h = tt
each_goaway writer before (id ∷ ids) h = ((h.0, h.1, refl, tt), each_goaway writer (Some id) ids h.3)

goaways_unfinished : (kinds : FrameKinds) (writer : Side) (n : ℕ) (ids : List ℕ) (front left : List ℕ) → AreGoaways writer None ids → rest_in goaway_encoding n ids ≡ front ++ left → IsUnfinishedFront kinds front
goaways_unfinished kinds writer n ids front left h rest = of_rest goaway_encoding (IsOneGoaway writer) (IsUnfinishedFront kinds) n ids front left (each_goaway writer None ids h) (rest_unfinished kinds [] 0 writer None tt) one rest
  where
    one : (id : ℕ) → IsOneGoaway writer id → (k : ℕ) → k < length (goaway_encoding id) → IsUnfinishedFront kinds (take k (goaway_encoding id))
    one id h k less =
        subst (IsUnfinishedFront kinds) (ap (λ b. if b then rest_in goaway_encoding (k - length (goaway_encoding id)) [] else take k (goaway_encoding id)) (not_whole (length (goaway_encoding id)) k less))
        (rest_unfinished kinds (id ∷ []) k writer None h)

front_of_type : (n : ℕ) (xs : List ℕ) → drop 1 (take n (0 ∷ xs)) ≡ take (n - 1) xs
front_of_type Rattle.std.specs.Prelude.zero xs = refl
front_of_type (Rattle.std.specs.Prelude.suc n) xs = let e : n ≡ Rattle.std.specs.Prelude.suc n - 1 = omega arith in ap (λ m. take m xs) e

type_of_settings : encoding 4 ≡ 4 ∷ []
unfolding encoding
type_of_settings = refl

some_settings : (a : Announced) → 0 < length (settings_frame_of a)
some_settings a =
    let size = encoding (length (payload_of a.settings)) in
    omega (arith, ap length type_of_settings, length-append (encoding 4) size, length-append (encoding 4 ++ size) (payload_of a.settings))

pub control_unfinished : (kinds : FrameKinds) (setup : Setup) (writer : Side) (came : ℕ) (ids front left : List ℕ) → Announces (announced_at setup writer) → AreGoaways writer None ids → control_left setup writer came ids ≡ front ++ left → IsUnfinishedFront kinds front
control_unfinished kinds setup writer came ids front left made h is = by_settings (are_settings_there setup writer came) refl is
  where
    a : Announced
    a = announced_at setup writer

    by_settings : (b : Bool) → are_settings_there setup writer came ≡ b
        → (if b then rest_in goaway_encoding (came - length (settings_bytes a)) ids else drop 1 (take came (settings_bytes a))) ≡ front ++ left → IsUnfinishedFront kinds front
    by_settings true e is = goaways_unfinished kinds writer (came - length (settings_bytes a)) ids front left h is
    by_settings false e is =
        let less = less_of (length (settings_bytes a)) came e in
        let sizes = length_settings a in
        let cut : take (came - 1) (settings_frame_of a) ≡ front ++ left = sym (ap (λ l. drop 1 (take came (l ++ settings_frame_of a))) type_of_control ∙ front_of_type came (settings_frame_of a)) ∙ is in
        let some : came - 1 ≤ length (settings_frame_of a) = omega (arith, less, sizes) in
        let again = front_again (came - 1) (settings_frame_of a) front left some cut in
        subst (IsUnfinishedFront kinds) (sym again.0) (settings_wait kinds a (length front) made (short (length front) again.1 less sizes))
      where
        short : (k : ℕ) → k ≤ came - 1 → came < length (settings_bytes a) → length (settings_bytes a) ≡ 1 + length (settings_frame_of a) → k < length (settings_frame_of a)
        short k h less sizes = omega (arith, h, less, sizes, some_settings a)
