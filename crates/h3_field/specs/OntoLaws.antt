-- The head of a line, and the string behind it that is read onto a block, are the line.
use Rattle.std.proofs.Common.{◌≡◌, ◌==◌, ℕ, ◌/◌, ◌%◌, Bool, true, false, List, [], ◌∷◌, ◌++◌, if◌then◌else◌, Ok, refl}
use Rattle.h3_field.specs.Field.{Field}
use Rattle.h3_field.specs.Reading.{Reading, Whole, Unfinished, Bad, then_read}
use Rattle.h3_field.specs.IntegerReading.{integer}
use Rattle.h3_field.specs.StringReading.{Payload, StandsFor, string}
use Rattle.h3_field.specs.LineReading.{Named, TellsLine, named, post_base_named}
use Rattle.h3_field.specs.LineAnswer.{AnswersLine, line_of_name, short_named_line, short_post_base_named_line}
use Rattle.h3_field.specs.ShapeAnswer.{AtInteger}
use Rattle.h3_field.specs.OntoAnswer.{AnswersField, AnswersIndex, named_head, post_base_head, parts_of, named_of, post_base_of}
use Rattle.h3_field.specs.declared.block.literal.NameRef as name_ref

says_named : (is_static n : Bool) (index : ℕ) (p : Payload) (value : List ℕ) → StandsFor p value
    → TellsLine (Named is_static index p n) (line_of_name value n (if is_static then name_ref.TheVariants.Static index else name_ref.TheVariants.Dynamic index))
says_named true n index p value s = (value, s, refl)
says_named false n index p value s = (value, s, refl)

named_there : (head : ℕ × ℕ) (r : Reading (ℕ × Payload)) (old mid new bytes : List ℕ) (before after : List Field) → AnswersField bytes (named_head head).1 r mid new before after (Ok tt)
    → (value : List ℕ) × AnswersLine (short_named_line value) AtInteger (named_of (parts_of head r)) old new (Ok (named_head head)) × (after ≡ before ++ (record { name = bytes; value = value; never_indexed = (named_head head).1 }) ∷ [])
named_there head (Whole v rest) old mid new bytes before after h =
    (h.0.0, (says_named (head.0 % 2 == 1) (head.0 / 2 % 2 == 1) head.1 v.1 h.0.0 h.0.1, h.1), h.0.2)
named_there head Unfinished old mid new bytes before after h = absurd (cc)
named_there head Bad old mid new bytes before after h = absurd (cc)

named_from : (r : Reading (ℕ × ℕ)) (old mid new bytes : List ℕ) (before after : List Field) (name : name_ref.NameRef × Bool) → AnswersIndex named_head r old mid (Ok name) → AnswersField bytes name.1 (string 8 mid) mid new before after (Ok tt)
    → (value : List ℕ) × AnswersLine (short_named_line value) AtInteger (named_of (then_read r (λ head rest. parts_of head (string 8 rest)))) old new (Ok name) × (after ≡ before ++ (record { name = bytes; value = value; never_indexed = name.1 }) ∷ [])
named_from (Whole head rest) old mid new bytes before after name is h =
    let same : name ≡ named_head head = cc in
    rw same (named_there head (string 8 rest) old rest new bytes before after (rw (is.1, same) at h))
named_from Unfinished old mid new bytes before after name is h = absurd (cc)
named_from Bad old mid new bytes before after name is h = absurd (cc)

-- a line with the name of an entry, whose value is read behind the bytes of that name
pub named_onto : (old mid new bytes : List ℕ) (before after : List Field) (name : name_ref.NameRef × Bool) → AnswersIndex named_head (integer 4 old) old mid (Ok name) → AnswersField bytes name.1 (string 8 mid) mid new before after (Ok tt)
    → (value : List ℕ) × AnswersLine (short_named_line value) AtInteger (named old) old new (Ok name) × (after ≡ before ++ (record { name = bytes; value = value; never_indexed = name.1 }) ∷ [])
named_onto old mid new bytes before after name is h = named_from (integer 4 old) old mid new bytes before after name is h

post_base_there : (head : ℕ × ℕ) (r : Reading (ℕ × Payload)) (old mid new bytes : List ℕ) (before after : List Field) → AnswersField bytes (post_base_head head).1 r mid new before after (Ok tt)
    → (value : List ℕ) × AnswersLine (short_post_base_named_line value) AtInteger (post_base_of (parts_of head r)) old new (Ok (post_base_head head)) × (after ≡ before ++ (record { name = bytes; value = value; never_indexed = (post_base_head head).1 }) ∷ [])
post_base_there head (Whole v rest) old mid new bytes before after h = (h.0.0, ((h.0.0, h.0.1, refl), h.1), h.0.2)
post_base_there head Unfinished old mid new bytes before after h = absurd (cc)
post_base_there head Bad old mid new bytes before after h = absurd (cc)

post_base_from : (r : Reading (ℕ × ℕ)) (old mid new bytes : List ℕ) (before after : List Field) (index : ℕ × Bool) → AnswersIndex post_base_head r old mid (Ok index) → AnswersField bytes index.1 (string 8 mid) mid new before after (Ok tt)
    → (value : List ℕ) × AnswersLine (short_post_base_named_line value) AtInteger (post_base_of (then_read r (λ head rest. parts_of head (string 8 rest)))) old new (Ok index) × (after ≡ before ++ (record { name = bytes; value = value; never_indexed = index.1 }) ∷ [])
post_base_from (Whole head rest) old mid new bytes before after index is h =
    let same : index ≡ post_base_head head = cc in
    rw same (post_base_there head (string 8 rest) old rest new bytes before after (rw (is.1, same) at h))
post_base_from Unfinished old mid new bytes before after index is h = absurd (cc)
post_base_from Bad old mid new bytes before after index is h = absurd (cc)

-- the same where the name is told by its distance from the base on
pub post_base_onto : (old mid new bytes : List ℕ) (before after : List Field) (index : ℕ × Bool) → AnswersIndex post_base_head (integer 3 old) old mid (Ok index) → AnswersField bytes index.1 (string 8 mid) mid new before after (Ok tt)
    → (value : List ℕ) × AnswersLine (short_post_base_named_line value) AtInteger (post_base_named old) old new (Ok index) × (after ≡ before ++ (record { name = bytes; value = value; never_indexed = index.1 }) ∷ [])
post_base_onto old mid new bytes before after index is h = post_base_from (integer 3 old) old mid new bytes before after index is h
