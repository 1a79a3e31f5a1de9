-- However the bytes of an encoder or of a decoder are cut, they come to the same.
use Rattle.std.proofs.Common.{◌≡◌, inl, inr, ℕ, Bool, true, false, List, [], ◌∷◌, ◌++◌, refl, ap, sym, ◌∙◌}
use Rattle.h3_field.specs.Instruction.{DecoderInstruction}
use Rattle.h3_field.specs.InstructionLaws.{instruction_stable, decoder_instruction_stable}
use Rattle.h3_qpack.specs.DecoderState.{DecoderState}
use Rattle.h3_qpack.specs.EncoderHistory.{EncoderHistory, encoder_after, encoder_after_all}
use Rattle.h3_qpack.specs.Instructions.{NoInstruction, HasRead, BeginsBad, AreDecoderInstructions, NoDecoderInstruction, NextDecoderInstruction, AreAccepted, BeginsRefused}
use Rattle.h3_qpack.specs.Hearing.{heard, hear, heard_with, heard_then, StopsAt, Listened, listened, listen, listened_with, listened_then, StopsBefore, IsListenedAs}
use Rattle.h3_qpack.specs.InstructionLaws.{read_pieces}
use Rattle.h3_qpack.specs.HearingLaws.{heard_is, heard_as_value, listened_is, listened_as_value}

longer_bad : (r : DecoderState) (left more : List ℕ) → BeginsBad r left → BeginsBad r (left ++ more)
longer_bad r left more (inl bad) = let stays = instruction_stable left more in inl (rw bad at stays)
longer_bad r left more (inr b) = let stays = instruction_stable left more in inr (b.0, b.1 ++ more, rw b.2 at stays, b.3)

cut_at : (old new : DecoderState) (bytes left more : List ℕ) (is_bad : Bool) → HasRead old new bytes left → StopsAt new left is_bad → hear old (bytes ++ more) ≡ heard_with (heard new left is_bad) more is_bad
cut_at old new bytes left more true read stops =
    heard_is old (bytes ++ more) (heard new (left ++ more) true) (record {
      read = read_pieces old new new bytes more left (left ++ more) read (record { instructions = []; split = NoInstruction (left ++ more); table = refl });
      stops = longer_bad new left more stops;
    })
cut_at old new bytes left more false read stops =
    let later = heard_as_value new (left ++ more) in
    let all = hear new (left ++ more) in
    heard_is old (bytes ++ more) all (record { read = read_pieces old new all.decoder bytes more left all.left read later.read; stops = later.stops })

pub cuts_are_heard_alike : (r : DecoderState) (bytes more : List ℕ) → hear r (bytes ++ more) ≡ heard_then (hear r bytes) more
cuts_are_heard_alike r bytes more =
    let h = hear r bytes in
    let is = heard_as_value r bytes in
    cut_at r h.decoder bytes h.left more h.is_bad is.read is.stops

-- the same of an encoder
longer_decoder_instructions : (bytes left more : List ℕ) (is : List DecoderInstruction) → AreDecoderInstructions bytes is left → AreDecoderInstructions (bytes ++ more) is (left ++ more)
longer_decoder_instructions bytes left more [] (NoDecoderInstruction b) = NoDecoderInstruction (bytes ++ more)
longer_decoder_instructions bytes left more (i ∷ is) (NextDecoderInstruction b rest l k ks here others) =
    let stays = decoder_instruction_stable bytes more in
    NextDecoderInstruction (bytes ++ more) (rest ++ more) (left ++ more) i is (rw here at stays) (longer_decoder_instructions rest left more is others)

joined : (bytes left rest : List ℕ) (is js : List DecoderInstruction) → AreDecoderInstructions bytes is left → AreDecoderInstructions left js rest → AreDecoderInstructions bytes (is ++ js) rest
joined bytes left rest [] js (NoDecoderInstruction b) k = k
joined bytes left rest (i ∷ is) js (NextDecoderInstruction b middle l n ns here others) k = NextDecoderInstruction bytes middle rest i (is ++ js) here (joined middle left rest is js others k)

all_accepted : (s : EncoderHistory) (is js : List DecoderInstruction) → AreAccepted s is → AreAccepted (encoder_after_all s is) js → AreAccepted s (is ++ js)
all_accepted s [] js h k = k
all_accepted s (i ∷ is) js h k = (h.0, all_accepted (encoder_after s i) is js h.1 k)

encoder_after_all-append : (s : EncoderHistory) (is js : List DecoderInstruction) → encoder_after_all s (is ++ js) ≡ encoder_after_all (encoder_after_all s is) js
encoder_after_all-append s [] js = refl
encoder_after_all-append s (i ∷ is) js = encoder_after_all-append (encoder_after s i) is js

longer_refused : (s : EncoderHistory) (left more : List ℕ) → BeginsRefused s left → BeginsRefused s (left ++ more)
longer_refused s left more (inl bad) = let stays = decoder_instruction_stable left more in inl (rw bad at stays)
longer_refused s left more (inr b) = let stays = decoder_instruction_stable left more in inr (b.0, b.1 ++ more, rw b.2 at stays, b.3)

-- what is read of the first bytes is read of all
more_listened : (s : EncoderHistory) (bytes more : List ℕ) (l k : Listened) → IsListenedAs s bytes l → IsListenedAs l.encoder (l.left ++ more) k → IsListenedAs s (bytes ++ more) k
more_listened s bytes more l k is js =
    let later : AreAccepted (encoder_after_all s is.instructions) js.instructions = rw is.after at js.accepted in
    record {
      instructions = is.instructions ++ js.instructions;
      split = joined (bytes ++ more) (l.left ++ more) k.left is.instructions js.instructions (longer_decoder_instructions bytes l.left more is.instructions is.split) js.split;
      accepted = all_accepted s is.instructions js.instructions is.accepted later;
      after = js.after ∙ ap (λ e. encoder_after_all e js.instructions) is.after ∙ sym (encoder_after_all-append s is.instructions js.instructions);
      stops = js.stops;
    }

cut_before : (s : EncoderHistory) (bytes more : List ℕ) (l : Listened) (is_bad : Bool) → IsListenedAs s bytes l → StopsBefore l.encoder l.left is_bad → listen s (bytes ++ more) ≡ listened_with l more is_bad
cut_before s bytes more l true is stops =
    listened_is s (bytes ++ more) (listened l.encoder (l.left ++ more) true)
    (more_listened s bytes more l (listened l.encoder (l.left ++ more) true) is (record {
      instructions = [];
      split = NoDecoderInstruction (l.left ++ more);
      accepted = tt;
      after = refl;
      stops = longer_refused l.encoder l.left more stops;
    }))
cut_before s bytes more l false is stops =
    listened_is s (bytes ++ more) (listen l.encoder (l.left ++ more))
    (more_listened s bytes more l (listen l.encoder (l.left ++ more)) is (listened_as_value l.encoder (l.left ++ more)))

pub cuts_are_listened_alike : (s : EncoderHistory) (bytes more : List ℕ) → listen s (bytes ++ more) ≡ listened_then (listen s bytes) more
cuts_are_listened_alike s bytes more =
    let l = listen s bytes in
    let is = listened_as_value s bytes in
    cut_before s bytes more l l.is_bad is is.stops
