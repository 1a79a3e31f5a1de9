-- An instruction that is not whole lacks at least as many bytes as are known to be missing.
use Rattle.std.proofs.Common.{◌≡◌, ◌⊎◌, ℕ, ◌-◌, ◌/◌, ◌%◌, ◌<◌, ◌≤◌, Bool, true, false, ◌==◌, List, [], ◌∷◌, ◌++◌, length, take, drop, refl, sym, ap, ◌∙◌, arith, append-nil, length-append, nat_le, inl, inr, if◌then◌else◌}
use Rattle.std.proofs.lemmas.Bool.{cases_lt, le-leb, le-ltb, lt-leb, lt-ltb}
use Rattle.std.proofs.lemmas.List.{drop-append-le}
use Rattle.h3_field.specs.InstructionReading.{InstructionForm, decoder_instruction, instruction, literal_name, name_reference}
use Rattle.h3_field.specs.Instruction.{DecoderInstruction}
use Rattle.h3_field.specs.IntegerLaws.{integer_stable}
use Rattle.h3_field.specs.IntegerReading.{integer}
use Rattle.h3_field.specs.Reading.{Bad, Reading, Stays, Unfinished, Whole, then_read}
use Rattle.h3_field.specs.StringReading.{Payload, bytes_reading, string}
use Rattle.h3_field.specs.Waiting.{behind_integer, bytes_wait, decoder_wait, encoder_wait, integer_wait, literal_name_wait, name_reference_wait, number_wait, string_wait, unfinished_wait}
use Rattle.h3_field.specs.declared.waiting.Wait.{Wait}
use Rattle.h3_field.specs.declared.waiting.Wait.TheVariants as wait
use Rattle.h3_connection.specs.ExcessiveInstructions.{missing}

-- What is whole with further bytes lacked no more than those.
abbrev Lacks : {A : Type 0} → Wait → List ℕ → Reading A → Type 0
Lacks {A} w more whole = (v : A) (rest : List ℕ) → whole ≡ Whole v rest → missing w ≤ length more

-- so of any bytes, where further ones come
abbrev LacksSo : {A : Type 0} → (List ℕ → Wait) → (List ℕ → Reading A) → Type 0
LacksSo waiting read = (bytes more : List ℕ) → Lacks (waiting bytes) more (read (bytes ++ more))

not_whole : {A : Type 0} (v : A) (rest : List ℕ) → Unfinished ≡ Whole v rest → ⊥
not_whole v rest e = absurd (cc)

-- an integer that is not whole lacks a byte
one_missing : (bytes : List ℕ) → missing (unfinished_wait bytes) ≡ 1
one_missing [] = refl
one_missing (first ∷ rest) = refl

integer_lacks : {A : Type 0} (size : ℕ) (next : ℕ → List ℕ → Wait) (read : ℕ × ℕ → List ℕ → Reading A) → ((head : ℕ × ℕ) → LacksSo (next head.1) (read head)) → LacksSo (integer_wait size next) (λ bytes. then_read (integer size bytes) read)
integer_lacks size next read each bytes more = by_reading (integer size bytes) refl (integer_stable size bytes more)
  where
    some : (l : List ℕ) → integer size bytes ≡ Unfinished → Lacks wait.Integer l (then_read (integer size (bytes ++ l)) read)
    some [] is v rest e = absurd (not_whole v rest (sym (ap (λ r. then_read r read) (ap (integer size) (append-nil bytes) ∙ is)) ∙ e))
    some (b ∷ l) is v rest e = omega arith

    by_reading : (r : Reading (ℕ × ℕ)) → integer size bytes ≡ r → Stays more r (integer size (bytes ++ more)) → Lacks (behind_integer r (unfinished_wait bytes) next) more (then_read (integer size (bytes ++ more)) read)
    by_reading (Whole head after) is stays v rest e = each head after more v rest (sym (ap (λ r. then_read r read) stays) ∙ e)
    by_reading Unfinished is stays v rest e = omega (arith, one_missing bytes, some more is v rest e)
    by_reading Bad is stays v rest e = omega arith

bytes_lack : {A : Type 0} (next : List ℕ → Wait) (read : List ℕ → List ℕ → Reading A) (count : ℕ) → ((value : List ℕ) → LacksSo next (read value)) → LacksSo (bytes_wait next count) (λ bytes. then_read (bytes_reading count bytes) read)
bytes_lack next read count each bytes more v rest e =
    elim (cases_lt (length bytes) count) [
      | inl few ↦ rw (lt-ltb (length bytes) count few) (lacking few (cases_lt (length (bytes ++ more)) count))
      | inr enough ↦
          let all : count ≤ length (bytes ++ more) = omega (arith, enough, length-append bytes more) in
          let whole = rw (le-leb count (length (bytes ++ more)) all) at e in
          rw (le-ltb (length bytes) count enough) (each (take count (bytes ++ more)) (drop count bytes) more v rest (ap (read (take count (bytes ++ more))) (sym (drop-append-le count bytes more enough)) ∙ whole))
    ]
  where
    lacking : length bytes < count → (length (bytes ++ more) < count) ⊎ (count ≤ length (bytes ++ more)) → count - length bytes ≤ length more
    lacking few (inl fewer) = let none = rw (lt-leb count (length (bytes ++ more)) fewer) at e in absurd (not_whole v rest none)
    lacking few (inr enough) = omega (arith, few, enough, length-append bytes more)

-- a part of what is read, and then the rest of it
in_parts : {A B C : Type 0} (w : Wait) (more : List ℕ) (r : Reading A) (read : A → List ℕ → Reading B) (next : B → List ℕ → Reading C)
    → Lacks w more (then_read r (λ value rest. then_read (read value rest) next)) → Lacks w more (then_read (then_read r read) next)
in_parts w more (Whole value rest) read next h = h
in_parts w more Unfinished read next h = h
in_parts w more Bad read next h = h

string_lacks : {A : Type 0} (size : ℕ) (next : List ℕ → Wait) (read : ℕ × Payload → List ℕ → Reading A) → ((value : ℕ × Payload) → LacksSo next (read value)) → LacksSo (string_wait size next) (λ bytes. then_read (string size bytes) read)
string_lacks size next read each bytes more =
    in_parts (string_wait size next bytes) more (integer (size - 1) (bytes ++ more)) _ read
    (integer_lacks (size - 1) (bytes_wait next) _ (λ head rest more.
    in_parts (bytes_wait next head.1 rest) more (bytes_reading head.1 (rest ++ more)) _ read
    (bytes_lack next (λ payload after. read (head.0 / 2, record { is_huffman = head.0 % 2 == 1; bytes = payload }) after) head.1
    (λ payload. each (head.0 / 2, record { is_huffman = head.0 % 2 == 1; bytes = payload })) rest more)) bytes more)

nothing_lacks : {A : Type 0} (read : List ℕ → Reading A) → LacksSo (λ bytes. wait.Nothing) read
nothing_lacks read bytes more v rest e = omega arith

last_string_lacks : {A : Type 0} (read : ℕ × Payload → List ℕ → Reading A) → LacksSo (string_wait 8 (λ after. wait.Nothing)) (λ bytes. then_read (string 8 bytes) read)
last_string_lacks read = string_lacks 8 (λ after. wait.Nothing) read (λ value. nothing_lacks (read value))

number_lacks : {A : Type 0} (size : ℕ) (read : ℕ × ℕ → List ℕ → Reading A) → LacksSo (number_wait size) (λ bytes. then_read (integer size bytes) read)
number_lacks size read = integer_lacks size (λ n after. wait.Nothing) read (λ head. nothing_lacks (read head))

name_lacks : LacksSo name_reference_wait name_reference
name_lacks bytes more =
    in_parts (name_reference_wait bytes) more (integer 6 (bytes ++ more)) _ _
    (integer_lacks 6 (λ index. string_wait 8 (λ after. wait.Nothing)) _ (λ head rest more.
    in_parts (string_wait 8 (λ after. wait.Nothing) rest) more (string 8 (rest ++ more)) _ _ (last_string_lacks _ rest more)) bytes more)

literal_lacks : LacksSo literal_name_wait literal_name
literal_lacks bytes more =
    in_parts (literal_name_wait bytes) more (string 6 (bytes ++ more)) _ _
    (string_lacks 6 (string_wait 8 (λ after. wait.Nothing)) _ (λ name rest more.
    in_parts (string_wait 8 (λ after. wait.Nothing) rest) more (string 8 (rest ++ more)) _ _ (last_string_lacks _ rest more)) bytes more)

-- by the first byte
by_test : {A : Type 0} (b : Bool) (v w : Wait) (more : List ℕ) (x y : Reading A) → Lacks v more x → Lacks w more y → Lacks (if b then v else w) more (if b then x else y)
by_test true v w more x y p q = p
by_test false v w more x y p q = q

either : {A : Type 0} (b : Bool) (w : Wait) (more : List ℕ) (x y : Reading A) → Lacks w more x → Lacks w more y → Lacks w more (if b then x else y)
either true w more x y p q = p
either false w more x y p q = q

first_lacks : {A : Type 0} (read : List ℕ → Reading A) (more : List ℕ) → read [] ≡ Unfinished → Lacks (wait.Bytes 1) more (read more)
first_lacks read [] none v rest e = absurd (not_whole v rest (sym none ∙ e))
first_lacks read (b ∷ more) none v rest e = omega arith

-- **An encoder instruction.**
pub encoder_lacks : (bytes more : List ℕ) (form : InstructionForm) (rest : List ℕ) → instruction (bytes ++ more) ≡ Whole form rest → missing (encoder_wait bytes) ≤ length more
encoder_lacks [] more = first_lacks instruction more refl
encoder_lacks (first ∷ bytes) more =
    by_test (nat_le 128 first) (name_reference_wait (first ∷ bytes)) (if nat_le 64 first then literal_name_wait (first ∷ bytes) else number_wait 5 (first ∷ bytes)) more _ _ (name_lacks (first ∷ bytes) more)
    (by_test (nat_le 64 first) (literal_name_wait (first ∷ bytes)) (number_wait 5 (first ∷ bytes)) more _ _ (literal_lacks (first ∷ bytes) more)
    (either (nat_le 32 first) (number_wait 5 (first ∷ bytes)) more _ _ (number_lacks 5 _ (first ∷ bytes) more) (number_lacks 5 _ (first ∷ bytes) more)))

-- **A decoder instruction.**
pub decoder_lacks : (bytes more : List ℕ) (i : DecoderInstruction) (rest : List ℕ) → decoder_instruction (bytes ++ more) ≡ Whole i rest → missing (decoder_wait bytes) ≤ length more
decoder_lacks [] more = first_lacks decoder_instruction more refl
decoder_lacks (first ∷ bytes) more =
    by_test (nat_le 128 first) (number_wait 7 (first ∷ bytes)) (number_wait 6 (first ∷ bytes)) more _ _ (number_lacks 7 _ (first ∷ bytes) more)
    (either (nat_le 64 first) (number_wait 6 (first ∷ bytes)) more _ _ (number_lacks 6 _ (first ∷ bytes) more) (number_lacks 6 _ (first ∷ bytes) more))
