-- What holds of the reading of strings.
use Rattle.std.proofs.Common.{◌≡◌, ℕ, ◌+◌, ◌-◌, ◌*◌, ◌/◌, ◌%◌, ◌==◌, ◌<◌, ◌≤◌, Bool, true, false, List, ◌++◌, length, refl, arith, inl, inr, append_assoc, length-append}
use Rattle.std.proofs.lemmas.Bool.{le-leb, lt-leb, cases_lt}
use Rattle.std.proofs.lemmas.List.{take-append-le, drop-append-le, take_at, drop_at}
use Rattle.h3_field.specs.Integer.{prefixed}
use Rattle.h3_field.specs.StringLiteral.{Text, bit_h, text_bytes, string_literal}
use Rattle.h3_field.specs.Reading.{Whole, IsStable}
use Rattle.h3_field.specs.ReadingLaws.{then_stable}
use Rattle.h3_field.specs.IntegerReading.{integer, integer_limit}
use Rattle.h3_field.specs.IntegerLaws.{integer_stable, prefixed_read}
use Rattle.h3_field.specs.StringReading.{string, bytes_reading, payload_of}

pub bytes_stable : (count : ℕ) → IsStable (bytes_reading count)
bytes_stable count bytes more =
    elim (cases_lt (length bytes) count) [
      | inl short ↦ rw (lt-leb count (length bytes) short) tt
      | inr there ↦
          let all : count ≤ length (bytes ++ more) = omega (arith, length-append bytes more) in
          rw (le-leb count (length bytes) there, le-leb count (length (bytes ++ more)) all, take-append-le count bytes more there, drop-append-le count bytes more there) refl
    ]

pub string_stable : (size : ℕ) → IsStable (string size)
string_stable size =
    then_stable (integer (size - 1)) _ (integer_stable (size - 1))
    (λ head. then_stable (bytes_reading head.1) _ (bytes_stable head.1) (λ payload bytes more. refl))

pub bytes_whole : (payload rest : List ℕ) → bytes_reading (length payload) (payload ++ rest) ≡ Whole payload rest
bytes_whole payload rest =
    let there : length payload ≤ length (payload ++ rest) = omega (arith, length-append payload rest) in
    rw (le-leb (length payload) (length (payload ++ rest)) there, take_at payload rest (length payload) refl, drop_at payload rest (length payload) refl) refl

bit_h_above : (flags : ℕ) (h : Bool) → (2 * flags + bit_h h) / 2 ≡ flags
bit_h_above flags true = omega arith
bit_h_above flags false = omega arith

bit_h_lowest : (flags : ℕ) (h : Bool) → ((2 * flags + bit_h h) % 2 == 1) ≡ h
bit_h_lowest flags true = let lowest : (2 * flags + 1) % 2 ≡ 1 = omega arith in rw lowest refl
bit_h_lowest flags false = let lowest : (2 * flags + 0) % 2 ≡ 0 = omega arith in rw lowest refl

-- what is written is read, whatever follows
pub string_literal_read : (size flags : ℕ) (text : Text) (rest : List ℕ) → length (text_bytes text) < integer_limit (size - 1) → string size (string_literal size flags text ++ rest) ≡ Whole (flags, payload_of text) rest
string_literal_read size flags text rest h =
    let bytes = text_bytes text in
    let head = 2 * flags + bit_h text.is_huffman in
    let front : (prefixed (size - 1) head (length bytes) ++ bytes) ++ rest ≡ prefixed (size - 1) head (length bytes) ++ (bytes ++ rest) = append_assoc _ bytes rest in
    rw (front, prefixed_read (size - 1) head (length bytes) (bytes ++ rest) h, bytes_whole bytes rest, bit_h_above flags text.is_huffman, bit_h_lowest flags text.is_huffman) refl
