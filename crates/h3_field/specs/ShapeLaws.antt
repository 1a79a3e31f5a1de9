-- What holds of the reading of an integer and a string, and of two strings.
use Rattle.std.proofs.Common.{◌≡◌, ℕ, ◌-◌, ◌<◌, List, ◌++◌, length, refl, append_assoc}
use Rattle.h3_field.specs.Integer.{prefixed}
use Rattle.h3_field.specs.StringLiteral.{Text, text_bytes, string_literal}
use Rattle.h3_field.specs.Reading.{Whole, IsStable}
use Rattle.h3_field.specs.ReadingLaws.{then_stable}
use Rattle.h3_field.specs.IntegerReading.{integer, integer_limit}
use Rattle.h3_field.specs.IntegerLaws.{integer_stable, prefixed_read}
use Rattle.h3_field.specs.StringReading.{string, payload_of}
use Rattle.h3_field.specs.StringLaws.{string_stable, string_literal_read}
use Rattle.h3_field.specs.Shapes.{index_and_string, two_strings}

pub index_and_string_stable : (size : ℕ) → IsStable (index_and_string size)
index_and_string_stable size = then_stable (integer size) _ (integer_stable size) (λ head. then_stable (string 8) _ (string_stable 8) (λ value bytes more. refl))

pub two_strings_stable : (size : ℕ) → IsStable (two_strings size)
two_strings_stable size = then_stable (string size) _ (string_stable size) (λ name. then_stable (string 8) _ (string_stable 8) (λ value bytes more. refl))

-- what is written is read, whatever follows
pub index_and_string_read : (size flags index : ℕ) (value : Text) (rest : List ℕ) → index < integer_limit size → length (text_bytes value) < integer_limit 7 →
    index_and_string size ((prefixed size flags index ++ string_literal 8 0 value) ++ rest) ≡ Whole (record { flags = flags; index = index; value = payload_of value }) rest
index_and_string_read size flags index value rest h k =
    let front = append_assoc (prefixed size flags index) (string_literal 8 0 value) rest in
    rw (front, prefixed_read size flags index (string_literal 8 0 value ++ rest) h, string_literal_read 8 0 value rest k) refl

pub two_strings_read : (size flags : ℕ) (name value : Text) (rest : List ℕ) → length (text_bytes name) < integer_limit (size - 1) → length (text_bytes value) < integer_limit 7 →
    two_strings size ((string_literal size flags name ++ string_literal 8 0 value) ++ rest) ≡ Whole (record { flags = flags; name = payload_of name; value = payload_of value }) rest
two_strings_read size flags name value rest h k =
    let front = append_assoc (string_literal size flags name) (string_literal 8 0 value) rest in
    rw (front, string_literal_read size flags name (string_literal 8 0 value ++ rest) h, string_literal_read 8 0 value rest k) refl
