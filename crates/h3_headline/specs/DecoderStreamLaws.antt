-- What came of a decoder's stream is read as its instructions, and none is refused.
use Rattle.std.proofs.Common.{◌≡◌, List, [], ◌∷◌, ◌++◌, length, drop, refl, ℕ, ap, ◌∙◌, ◌-◌, ◌≤◌, sym, subst, arith, length-append, false, take, flat_map}
use Rattle.h3_field.specs.Instruction.{DecoderInstruction, decoder_bytes}
use Rattle.h3_qpack.specs.WholeInstructions.{whole_in, decoder_instructions_in, rest_in}
use Rattle.std.proofs.lemmas.List.{take-append-drop, drop-append-le}
use Rattle.h3_qpack.specs.EncoderHistory.{EncoderHistory, encoder_after_all}
use Rattle.h3_qpack.specs.Instructions.{AreAccepted}
use Rattle.std.specs.List.{AllByRecursion}
use Rattle.h3_field.specs.InstructionAnswer.{IsReply}
use Rattle.h3_qpack.specs.Hearing.{listened, listen}
use Rattle.h3_headline.specs.AcceptedLaws.{accepted_front}
use Rattle.h3_headline.specs.Cited.{StreamLaws}
use Rattle.h3_headline.specs.EncoderStreamLaws.{all_dropped}
use Rattle.h3_headline.specs.Parts.{GoesOn}
use Rattle.h3_headline.specs.PeerStreams.{replies_between}
use Rattle.h3_headline.specs.UnitLaws.{goes_on}

drop_front : {X : Type 0} (xs ys : List X) → drop (length xs) (xs ++ ys) ≡ ys
drop_front [] ys = refl
drop_front (x ∷ xs) ys = drop_front xs ys

between_are : (few many : ℕ) (all : List DecoderInstruction) → (g : GoesOn decoder_bytes few many all)
    → replies_between few many all ≡ decoder_instructions_in g.count (drop (whole_in decoder_bytes few all) all)
between_are few many all g =
    let first = decoder_instructions_in few all in
    ap (λ l. drop (length first) l) g.whole ∙ drop_front first (decoder_instructions_in g.count (drop (whole_in decoder_bytes few all) all))

-- they are accepted where all are that were not read
pub between_accepted : (s : EncoderHistory) (few many : ℕ) (all : List DecoderInstruction) → few ≤ many → AreAccepted s (drop (length (decoder_instructions_in few all)) all) → AreAccepted s (replies_between few many all)
between_accepted s few many all h accepted =
    let g = goes_on decoder_bytes few many all h in
    let first = decoder_instructions_in few all in
    let second = decoder_instructions_in many all in
    let behind = drop (whole_in decoder_bytes many all) all in
    let sizes : length first ≤ length second = omega (arith, ap length g.whole, length-append first (decoder_instructions_in g.count (drop (whole_in decoder_bytes few all) all))) in
    let split : drop (length first) all ≡ replies_between few many all ++ behind =
    ap (λ l. drop (length first) l) (sym (take-append-drop (whole_in decoder_bytes many all) all)) ∙ drop-append-le (length first) second behind sizes in
    accepted_front s (replies_between few many all) behind (subst (λ l. AreAccepted s l) split accepted)

-- What was left and what comes is read as the instructions that are now whole.
pub listened_on : (laws : StreamLaws) (s : EncoderHistory) (all : List DecoderInstruction) (few many : ℕ) → few ≤ many → AllByRecursion IsReply all → AreAccepted s (replies_between few many all)
    → listen s (rest_in decoder_bytes few all ++ take (many - few) (drop few (flat_map decoder_bytes all)))
    ≡ listened (encoder_after_all s (replies_between few many all)) (rest_in decoder_bytes many all) false
listened_on laws s all few many h written accepted =
    let g = goes_on decoder_bytes few many all h in
    let rest = drop (whole_in decoder_bytes few all) all in
    let are = between_are few many all g in
    ap (listen s) g.bytes
    ∙ laws.listened_fronts s rest g.count (all_dropped IsReply (whole_in decoder_bytes few all) all written) (subst (λ l. AreAccepted s l) are accepted)
    ∙ ap (λ l. listened (encoder_after_all s l) (rest_in decoder_bytes g.count rest) false) (sym are)
    ∙ ap (λ l. listened (encoder_after_all s (replies_between few many all)) l false) (sym g.rest)
