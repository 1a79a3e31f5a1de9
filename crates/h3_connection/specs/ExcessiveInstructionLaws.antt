-- What holds of instructions that are longer than their reader takes.
use Rattle.std.proofs.Common.{◌≡◌, ℕ, zero, suc, ◌+◌, ◌-◌, ◌≤◌, Bool, true, false, ◌&&◌, nat_lt, List, [], ◌∷◌, ◌++◌, length, take, refl, ap, sym, ◌∙◌, arith, inl, inr}
use Rattle.std.proofs.lemmas.Bool.{and_parts, and_right, cases_lt, lt-ltb, le-ltb}
use Rattle.std.proofs.lemmas.List.{take_all, take-append-le}
use Rattle.h3_field.specs.InstructionLaws.{instruction_stable, decoder_instruction_stable}
use Rattle.h3_field.specs.InstructionReading.{instruction, decoder_instruction}
use Rattle.h3_field.specs.Reading.{Reading, Whole, Unfinished, Bad, Stays}
use Rattle.h3_field.specs.Waiting.{is_unfinished, goes_on, encoder_wait, decoder_wait}
use Rattle.h3_field.specs.WaitingLaws.{unfinished_is, encoder_waits, decoder_waits}
use Rattle.h3_field.specs.declared.waiting.Wait.{Wait}
use Rattle.h3_field.specs.declared.waiting.Wait.TheVariants as wait
use Rattle.h3_proto.specs.Config.{is_limit}
use Rattle.h3_connection.specs.ExcessiveInstructions.{missing, exceeds}
use Rattle.h3_connection.specs.LimitedReading.{Ends}

-- **With no limit no instruction is too long.**
pub none_exceeds : (most : ℕ) (waiting : List ℕ → Wait) (bytes : List ℕ) → is_limit most ≡ false → exceeds most waiting bytes ≡ false
none_exceeds most waiting [] none = refl
none_exceeds most waiting (first ∷ rest) none =
    ap (λ b. b && nat_lt most (length (take most (first ∷ rest)) + missing (waiting (take most (first ∷ rest))))) none

-- where any is, there is a limit
pub exceeds_limit : (most : ℕ) (waiting : List ℕ → Wait) (bytes : List ℕ) → exceeds most waiting bytes ≡ true → is_limit most ≡ true
exceeds_limit most waiting [] e = absurd (cc)
exceeds_limit most waiting (first ∷ rest) e = (and_parts (is_limit most) (nat_lt most (length (take most (first ∷ rest)) + missing (waiting (take most (first ∷ rest))))) e).0

-- Bytes that are no more than the limit are all asked,
all_taken : (most : ℕ) (bytes : List ℕ) → length bytes ≤ most → take most bytes ≡ bytes
all_taken most bytes few = take_all most bytes few

pub exceeds_short : (most : ℕ) (waiting : List ℕ → Wait) (first : ℕ) (rest : List ℕ) → length (first ∷ rest) ≤ most
    → exceeds most waiting (first ∷ rest) ≡ (is_limit most && nat_lt most (length (first ∷ rest) + missing (waiting (first ∷ rest))))
exceeds_short most waiting first rest few = ap (λ l. is_limit most && nat_lt most (length l + missing (waiting l))) (all_taken most (first ∷ rest) few)

-- and behind so many none is asked.
pub exceeds_front : (most : ℕ) (waiting : List ℕ → Wait) (first : ℕ) (rest more : List ℕ) → most ≤ length (first ∷ rest)
    → exceeds most waiting ((first ∷ rest) ++ more) ≡ exceeds most waiting (first ∷ rest)
exceeds_front most waiting first rest more many = ap (λ l. is_limit most && nat_lt most (length l + missing (waiting l))) (take-append-le most (first ∷ rest) more many)

-- what is not waited for is not missing
nothing_missing : (w : Wait) → goes_on w ≡ false → missing w ≡ 0
nothing_missing wait.Nothing e = refl
nothing_missing wait.Integer e = absurd (cc)
nothing_missing (wait.Bytes count) e =
    elim (cases_lt 0 count) [
      | inl some ↦ let wrong : true ≡ false = sym (lt-ltb 0 count some) ∙ e in absurd (cc)
      | inr none ↦ let zero_more : count ≡ 0 = omega (arith, none) in zero_more
    ]

-- Where the bytes are no more than the limit, an instruction that exceeds it is not whole.
exceeding_waits : (most : ℕ) (waiting : List ℕ → Wait) (bytes : List ℕ) → length bytes ≤ most → exceeds most waiting bytes ≡ true → goes_on (waiting bytes) ≡ true
exceeding_waits most waiting [] few e = absurd (cc)
exceeding_waits most waiting (first ∷ rest) few e = by_wait (goes_on (waiting (first ∷ rest))) refl
  where
    by_wait : (b : Bool) → goes_on (waiting (first ∷ rest)) ≡ b → b ≡ true
    by_wait true is = refl
    by_wait false is =
        let all = length (first ∷ rest) + missing (waiting (first ∷ rest)) in
        let none : all ≤ most = omega (arith, few, nothing_missing (waiting (first ∷ rest)) is) in
        let said = and_parts (is_limit most) (nat_lt most all) (sym (exceeds_short most waiting first rest few) ∙ e) in
        let wrong : true ≡ false = sym said.1 ∙ le-ltb most all none in absurd (cc)

pub exceeds_unfinished : (most : ℕ) (bytes : List ℕ) → length bytes ≤ most → exceeds most encoder_wait bytes ≡ true → instruction bytes ≡ Unfinished
exceeds_unfinished most bytes few e = unfinished_is (instruction bytes) (sym (encoder_waits bytes) ∙ exceeding_waits most encoder_wait bytes few e)

pub decoder_exceeds_unfinished : (most : ℕ) (bytes : List ℕ) → length bytes ≤ most → exceeds most decoder_wait bytes ≡ true → decoder_instruction bytes ≡ Unfinished
decoder_exceeds_unfinished most bytes few e = unfinished_is (decoder_instruction bytes) (sym (decoder_waits bytes) ∙ exceeding_waits most decoder_wait bytes few e)

-- What is told to be longer stays so, whatever comes behind; and so does an instruction that is whole or bad within the limit.
pub taken_more : (most : ℕ) (bytes more : List ℕ) → length bytes ≤ most → take most (bytes ++ more) ≡ bytes ++ take (most - length bytes) more
taken_more most [] more few = let same : most ≡ most - 0 = omega arith in ap (λ n. take n more) same
taken_more zero (byte ∷ bytes) more few = absurd (omega (arith, few))
taken_more (suc most) (byte ∷ bytes) more few =
    let same : most - length bytes ≡ suc most - length (byte ∷ bytes) = omega arith in
    ap (λ l. byte ∷ l) (taken_more most bytes more (omega (arith, few))) ∙ ap (λ n. byte ∷ (bytes ++ take n more)) same

pub taken_length : (most : ℕ) (bytes : List ℕ) → length (take most bytes) ≤ most
taken_length zero bytes = omega arith
taken_length (suc most) [] = omega arith
taken_length (suc most) (byte ∷ bytes) = let less = taken_length most bytes in omega (arith, less)

finished_stays : (most : ℕ) (waiting : List ℕ → Wait) (bytes more : List ℕ) → Ends waiting → waiting [] ≡ wait.Bytes 1 → exceeds most waiting bytes ≡ false → goes_on (waiting bytes) ≡ false
    → exceeds most waiting (bytes ++ more) ≡ false
finished_stays most waiting [] more ends empty within done = let waits : goes_on (waiting []) ≡ true = ap goes_on empty in absurd (cc)
finished_stays most waiting (first ∷ rest) more ends empty within done =
    elim (cases_lt (length (first ∷ rest)) most) [
      | inr many ↦ exceeds_front most waiting first rest more many ∙ within
      | inl few ↦
          let asked = take most ((first ∷ rest) ++ more) in
          let behind = take (most - length (first ∷ rest)) more in
          let none : missing (waiting asked) ≡ 0 =
          ap (λ l. missing (waiting l)) (taken_more most (first ∷ rest) more (omega (arith, few))) ∙ nothing_missing (waiting ((first ∷ rest) ++ behind)) (ends (first ∷ rest) behind done) in
          let size = taken_length most ((first ∷ rest) ++ more) in
          and_right (is_limit most) (nat_lt most (length asked + missing (waiting asked))) (le-ltb most (length asked + missing (waiting asked)) (omega (arith, none, size)))
    ]

done_stays : {A : Type 0} (more : List ℕ) (r later : Reading A) → Stays more r later → is_unfinished r ≡ false → is_unfinished later ≡ false
done_stays more (Whole value rest) later stays done = ap is_unfinished stays
done_stays more Unfinished later stays done = absurd (cc)
done_stays more Bad later stays done = ap is_unfinished stays

encoder_ends : Ends encoder_wait
encoder_ends bytes more done = encoder_waits (bytes ++ more) ∙ done_stays more (instruction bytes) _ (instruction_stable bytes more) (sym (encoder_waits bytes) ∙ done)

decoder_ends : Ends decoder_wait
decoder_ends bytes more done = decoder_waits (bytes ++ more) ∙ done_stays more (decoder_instruction bytes) _ (decoder_instruction_stable bytes more) (sym (decoder_waits bytes) ∙ done)

pub finished_within : (most : ℕ) (bytes more : List ℕ) → exceeds most encoder_wait bytes ≡ false → is_unfinished (instruction bytes) ≡ false → exceeds most encoder_wait (bytes ++ more) ≡ false
finished_within most bytes more within done = finished_stays most encoder_wait bytes more encoder_ends refl within (encoder_waits bytes ∙ done)

pub decoder_finished_within : (most : ℕ) (bytes more : List ℕ) → exceeds most decoder_wait bytes ≡ false → is_unfinished (decoder_instruction bytes) ≡ false → exceeds most decoder_wait (bytes ++ more) ≡ false
decoder_finished_within most bytes more within done = finished_stays most decoder_wait bytes more decoder_ends refl within (decoder_waits bytes ∙ done)
