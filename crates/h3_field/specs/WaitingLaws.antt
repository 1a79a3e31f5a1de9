-- What waits is exactly what is unfinished, and goes on waiting behind bytes that do not bring it.
use Rattle.std.proofs.Common.{Bool, true, false, ◌==◌, if◌then◌else◌, nat_le, ◌≡◌, ℕ, ◌-◌, ◌/◌, ◌%◌, List, [], ◌∷◌, length, take, drop, refl, sym, arith, inl, inr}
use Rattle.std.proofs.lemmas.Bool.{lt-ltb, le-ltb, cases_lt, lt-leb, le-leb}
use Rattle.h3_field.specs.Reading.{Reading, Whole, Unfinished, Bad, then_read}
use Rattle.h3_field.specs.IntegerReading.{integer}
use Rattle.h3_field.specs.StringReading.{Payload, bytes_reading, string}
use Rattle.h3_field.specs.Shapes.{index_and_string, two_strings}
use Rattle.h3_field.specs.InstructionReading.{name_reference, literal_name, capacity, repeat, instruction, acknowledgment, cancellation, increment, decoder_instruction}
use Rattle.h3_field.specs.Waiting.{is_unfinished, goes_on, unfinished_wait, behind_integer, integer_wait, bytes_wait, string_wait, number_wait, name_reference_wait, literal_name_wait, encoder_wait, decoder_wait, Agrees}
use Rattle.h3_field.specs.declared.waiting.Wait.{Wait}
use Rattle.h3_field.specs.declared.waiting.Wait.TheVariants as wait

pub unfinished_is : {A : Type 0} (r : Reading A) → is_unfinished r ≡ true → r ≡ Unfinished
unfinished_is (Whole value rest) e = absurd (cc)
unfinished_is Unfinished e = refl
unfinished_is Bad e = absurd (cc)

after_integer : {A : Type 0} (r : Reading (ℕ × ℕ)) (w : Wait) (next : ℕ → List ℕ → Wait) (read : ℕ × ℕ → List ℕ → Reading A) → goes_on w ≡ true
    → ((head : ℕ × ℕ) (rest : List ℕ) → Agrees (next head.1 rest) (read head rest)) → Agrees (behind_integer r w next) (then_read r read)
after_integer (Whole head rest) w next read waits each = each head rest
after_integer Unfinished w next read waits each = waits
after_integer Bad w next read waits each = refl

unfinished_waits : (bytes : List ℕ) → goes_on (unfinished_wait bytes) ≡ true
unfinished_waits [] = refl
unfinished_waits (first ∷ rest) = refl

integer_agrees : {A : Type 0} (size : ℕ) (next : ℕ → List ℕ → Wait) (read : ℕ × ℕ → List ℕ → Reading A) (bytes : List ℕ)
    → ((head : ℕ × ℕ) (rest : List ℕ) → Agrees (next head.1 rest) (read head rest)) → Agrees (integer_wait size next bytes) (then_read (integer size bytes) read)
integer_agrees size next read bytes each = after_integer (integer size bytes) (unfinished_wait bytes) next read (unfinished_waits bytes) each

bytes_agree : {A : Type 0} (next : List ℕ → Wait) (read : List ℕ → List ℕ → Reading A) (count : ℕ) (bytes : List ℕ)
    → ((value rest : List ℕ) → Agrees (next rest) (read value rest)) → Agrees (bytes_wait next count bytes) (then_read (bytes_reading count bytes) read)
bytes_agree next read count bytes each =
    elim (cases_lt (length bytes) count) [
      | inl few ↦ rw (lt-leb count (length bytes) few, lt-ltb (length bytes) count few) (lt-ltb 0 (count - length bytes) (omega (arith, few)))
      | inr enough ↦ rw (le-leb count (length bytes) enough, le-ltb (length bytes) count enough) (each (take count bytes) (drop count bytes))
    ]

-- a part of what is read, and then the rest of it
in_parts : {A B C : Type 0} (w : Wait) (r : Reading A) (read : A → List ℕ → Reading B) (next : B → List ℕ → Reading C)
    → Agrees w (then_read r (λ value rest. then_read (read value rest) next)) → Agrees w (then_read (then_read r read) next)
in_parts w (Whole value rest) read next e = e
in_parts w Unfinished read next e = e
in_parts w Bad read next e = e

string_agrees : {A : Type 0} (size : ℕ) (next : List ℕ → Wait) (read : ℕ × Payload → List ℕ → Reading A) (bytes : List ℕ)
    → ((value : ℕ × Payload) (rest : List ℕ) → Agrees (next rest) (read value rest)) → Agrees (string_wait size next bytes) (then_read (string size bytes) read)
string_agrees size next read bytes each =
    in_parts (string_wait size next bytes) (integer (size - 1) bytes) _ read
    (integer_agrees (size - 1) (bytes_wait next) _ bytes (λ head rest.
    in_parts (bytes_wait next head.1 rest) (bytes_reading head.1 rest) _ read
    (bytes_agree next _ head.1 rest (λ payload after. each (head.0 / 2, record { is_huffman = head.0 % 2 == 1; bytes = payload }) after))))

named_agrees : {A : Type 0} (bytes : List ℕ) (read : _ → List ℕ → Reading A) → ((parts : _) (rest : List ℕ) → is_unfinished (read parts rest) ≡ false)
    → Agrees (name_reference_wait bytes) (then_read (index_and_string 6 bytes) read)
named_agrees bytes read ends =
    in_parts (name_reference_wait bytes) (integer 6 bytes) _ read
    (integer_agrees 6 (λ index. string_wait 8 (λ after. wait.Nothing)) _ bytes (λ head rest.
    in_parts (string_wait 8 (λ after. wait.Nothing) rest) (string 8 rest) _ read
    (string_agrees 8 (λ after. wait.Nothing) _ rest (λ value after. sym (ends (record { flags = head.0; index = head.1; value = value.1 }) after)))))

both_agree : {A : Type 0} (bytes : List ℕ) (read : _ → List ℕ → Reading A) → ((parts : _) (rest : List ℕ) → is_unfinished (read parts rest) ≡ false)
    → Agrees (literal_name_wait bytes) (then_read (two_strings 6 bytes) read)
both_agree bytes read ends =
    in_parts (literal_name_wait bytes) (string 6 bytes) _ read
    (string_agrees 6 (string_wait 8 (λ after. wait.Nothing)) _ bytes (λ name rest.
    in_parts (string_wait 8 (λ after. wait.Nothing) rest) (string 8 rest) _ read
    (string_agrees 8 (λ after. wait.Nothing) _ rest (λ value after. sym (ends (record { flags = name.0; name = name.1; value = value.1 }) after)))))

by_test : {A : Type 0} (b : Bool) (v w : Wait) (x y : Reading A) → Agrees v x → Agrees w y → Agrees (if b then v else w) (if b then x else y)
by_test true v w x y p q = p
by_test false v w x y p q = q

either : {A : Type 0} (b : Bool) (w : Wait) (x y : Reading A) → Agrees w x → Agrees w y → Agrees w (if b then x else y)
either true w x y p q = p
either false w x y p q = q

number_agrees : {A : Type 0} (size : ℕ) (bytes : List ℕ) (read : ℕ × ℕ → List ℕ → Reading A) → ((head : ℕ × ℕ) (rest : List ℕ) → is_unfinished (read head rest) ≡ false)
    → Agrees (number_wait size bytes) (then_read (integer size bytes) read)
number_agrees size bytes read ends = integer_agrees size (λ n after. wait.Nothing) read bytes (λ head rest. sym (ends head rest))

-- An encoder instruction waits exactly where it is unfinished.
pub encoder_waits : (bytes : List ℕ) → goes_on (encoder_wait bytes) ≡ is_unfinished (instruction bytes)
encoder_waits [] = refl
encoder_waits (first ∷ rest) =
    let number = if nat_le 32 first then capacity (first ∷ rest) else repeat (first ∷ rest) in
    by_test (nat_le 128 first) (name_reference_wait (first ∷ rest)) (if nat_le 64 first then literal_name_wait (first ∷ rest) else number_wait 5 (first ∷ rest)) (name_reference (first ∷ rest)) (if nat_le 64 first then literal_name (first ∷ rest) else number)
    (named_agrees (first ∷ rest) _ (λ parts after. refl))
    (by_test (nat_le 64 first) (literal_name_wait (first ∷ rest)) (number_wait 5 (first ∷ rest)) (literal_name (first ∷ rest)) number
    (both_agree (first ∷ rest) _ (λ parts after. refl))
    (either (nat_le 32 first) (number_wait 5 (first ∷ rest)) (capacity (first ∷ rest)) (repeat (first ∷ rest))
    (number_agrees 5 (first ∷ rest) _ (λ head after. refl)) (number_agrees 5 (first ∷ rest) _ (λ head after. refl))))

-- A decoder instruction likewise.
pub decoder_waits : (bytes : List ℕ) → goes_on (decoder_wait bytes) ≡ is_unfinished (decoder_instruction bytes)
decoder_waits [] = refl
decoder_waits (first ∷ rest) =
    let number = if nat_le 64 first then cancellation (first ∷ rest) else increment (first ∷ rest) in
    by_test (nat_le 128 first) (number_wait 7 (first ∷ rest)) (number_wait 6 (first ∷ rest)) (acknowledgment (first ∷ rest)) number
    (number_agrees 7 (first ∷ rest) _ (λ head after. refl))
    (either (nat_le 64 first) (number_wait 6 (first ∷ rest)) (cancellation (first ∷ rest)) (increment (first ∷ rest))
    (number_agrees 6 (first ∷ rest) _ (λ head after. refl)) (number_agrees 6 (first ∷ rest) _ (λ head after. refl)))
