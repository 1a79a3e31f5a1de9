-- Where the bytes of insertions were read, the insertions were.
use Rattle.std.proofs.Common.{◌≡◌, ℕ, zero, suc, ◌+◌, ◌-◌, ◌<◌, ◌≤◌, Bool, true, false, List, [], ◌∷◌, ◌++◌, length, take, drop, refl, sym, ◌∙◌, ap, subst, arith, length-append, length-drop, nat_le, flat_map}
use Rattle.std.specs.List.{AllByRecursion}
use Rattle.std.proofs.lemmas.Grind.{common_steps, flat_map-append}
use Rattle.std.proofs.lemmas.List.{take-append-drop}
use Rattle.std.proofs.Math.Seq.{take-append-add}
use Rattle.h3_field.specs.Instruction.{EncoderInstruction, encoder_bytes}
use Rattle.h3_field.specs.ReadBackLaws.{instruction_reads_back}
use Rattle.h3_qpack.specs.Encodings.{IsWrittenInstruction}
use Rattle.h3_qpack.specs.Session.{Session}
use Rattle.h3_qpack.specs.Exchange.{ExchangeHistory, opening}
use Rattle.h3_qpack.proofs.Drafts.{All-second}
use Rattle.h3_qpack.proofs.FrontsRead.{nothing_read}
use Rattle.h3_qpack.proofs.EncoderStreams.{take_further}
use Rattle.h3_qpack.proofs.Runs.{Stands}

some_bytes : (i : EncoderInstruction) → IsWrittenInstruction i → 0 < length (encoder_bytes i)
some_bytes i w = by_list (encoder_bytes i) refl
  where
    by_list : (bs : List ℕ) → encoder_bytes i ≡ bs → 0 < length bs
    by_list [] e = absurd (nothing_read (encoder_bytes i ++ []) [] i (ap (λ bs. bs ++ []) e) (instruction_reads_back i [] w.0 w.1 w.2))
    by_list (b ∷ bs) e = omega arith

some_more : (is : List EncoderInstruction) (n : ℕ) → AllByRecursion IsWrittenInstruction is → 0 < n → 0 < length is → 0 < length (flat_map encoder_bytes (take n is))
some_more [] n w above some = absurd (omega (arith, some))
some_more (i ∷ is) zero w above some = absurd (omega (arith, above))
some_more (i ∷ is) (suc n) w above some = omega (arith, some_bytes i w.0, length-append (encoder_bytes i) (flat_map encoder_bytes (take n is)))

pub bytes_read : (capacity : ℕ) (w : ExchangeHistory) (s : Session) (n : ℕ) → Stands capacity w s → n ≤ length s.instructions
    → length (flat_map encoder_bytes (opening capacity ++ take n s.instructions)) ≤ w.encoder_stream.read → n ≤ s.received
bytes_read capacity w s n st within came = by_order (nat_le n s.received) refl
  where
    all : List EncoderInstruction
    all = opening capacity ++ s.instructions

    rest : List EncoderInstruction
    rest = drop st.count all

    opened : ℕ
    opened = length (opening capacity)

    by_order : (b : Bool) → nat_le n s.received ≡ b → n ≤ s.received
    by_order true e = grind (arith, common_steps)
    by_order false e =
        let far : s.received < n = grind (arith, common_steps) in
        let more = opened + n - st.count in
        let place : st.count + more ≡ opened + n = omega (arith, far, st.received) in
        let front : opening capacity ++ take n s.instructions ≡ take st.count all ++ take more rest =
        sym (take-append-add (opening capacity) s.instructions n) ∙ ap (λ k. take k all) (sym place) ∙ take_further st.count more all in
        let size = ap (λ is. length (flat_map encoder_bytes is)) front ∙ ap length (flat_map-append encoder_bytes (take st.count all) (take more rest)) ∙ length-append (flat_map encoder_bytes (take st.count all)) (flat_map encoder_bytes (take more rest)) in
        let written = All-second IsWrittenInstruction (take st.count all) rest (subst (AllByRecursion IsWrittenInstruction) (sym (take-append-drop st.count all)) st.encoder_stream.written) in
        let some = some_more rest more written (omega (arith, far, st.received)) (omega (arith, far, st.received, within, length-drop st.count all, length-append (opening capacity) s.instructions)) in
        absurd (omega (arith, size, some, came, st.encoder_stream.read))
