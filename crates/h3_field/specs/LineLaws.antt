-- What holds of the reading of field lines.
use Rattle.std.proofs.Common.{◌≡◌, ℕ, ◌/◌, ◌%◌, ◌==◌, ◌<◌, List, ◌++◌, length, refl}
use Rattle.h3_field.specs.Integer.{prefixed}
use Rattle.h3_field.specs.StringLiteral.{Text, text_bytes, string_literal}
use Rattle.h3_field.specs.Reading.{Whole}
use Rattle.h3_field.specs.IntegerReading.{integer_limit}
use Rattle.h3_field.specs.IntegerLaws.{prefixed_read}
use Rattle.h3_field.specs.StringReading.{payload_of}
use Rattle.h3_field.specs.ShapeLaws.{index_and_string_read, two_strings_read}
use Rattle.h3_field.specs.LineReading.{Indexed, PostBase, Named, PostBaseNamed, LiteralField, indexed, post_base, named, post_base_named, literal}

-- what is written is read, whatever follows
pub indexed_read : (flags index : ℕ) (rest : List ℕ) → index < integer_limit 6 → indexed (prefixed 6 flags index ++ rest) ≡ Whole (Indexed (flags % 2 == 1) index) rest
indexed_read flags index rest h = rw (prefixed_read 6 flags index rest h) refl

pub post_base_read : (flags index : ℕ) (rest : List ℕ) → index < integer_limit 4 → post_base (prefixed 4 flags index ++ rest) ≡ Whole (PostBase index) rest
post_base_read flags index rest h = rw (prefixed_read 4 flags index rest h) refl

pub named_read : (flags index : ℕ) (value : Text) (rest : List ℕ) → index < integer_limit 4 → length (text_bytes value) < integer_limit 7 →
    named ((prefixed 4 flags index ++ string_literal 8 0 value) ++ rest) ≡ Whole (Named (flags % 2 == 1) index (payload_of value) (flags / 2 % 2 == 1)) rest
named_read flags index value rest h k = rw (index_and_string_read 4 flags index value rest h k) refl

pub post_base_named_read : (flags index : ℕ) (value : Text) (rest : List ℕ) → index < integer_limit 3 → length (text_bytes value) < integer_limit 7 →
    post_base_named ((prefixed 3 flags index ++ string_literal 8 0 value) ++ rest) ≡ Whole (PostBaseNamed index (payload_of value) (flags % 2 == 1)) rest
post_base_named_read flags index value rest h k = rw (index_and_string_read 3 flags index value rest h k) refl

pub literal_read : (flags : ℕ) (name value : Text) (rest : List ℕ) → length (text_bytes name) < integer_limit 3 → length (text_bytes value) < integer_limit 7 →
    literal ((string_literal 4 flags name ++ string_literal 8 0 value) ++ rest) ≡ Whole (LiteralField (payload_of name) (payload_of value) (flags % 2 == 1)) rest
literal_read flags name value rest h k = rw (two_strings_read 4 flags name value rest h k) refl
