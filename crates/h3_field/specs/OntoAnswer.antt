-- What the readers answer that append to a block.
use Rattle.std.specs.Prelude.{◌≡◌, ◌==◌, ◌/◌, ◌%◌, ℕ, Bool, true, is_some, if◌then◌else◌, List, [], ◌∷◌, ◌++◌, Result, Ok, Err}
use Rattle.h3_field.specs.Field.{Field}
use Rattle.h3_field.specs.FieldBlock.{IsNext}
use Rattle.h3_field.specs.Reading.{Reading, Whole, Unfinished, Bad, then_read}
use Rattle.h3_field.specs.Shapes.{IndexAndString, TwoStrings}
use Rattle.h3_field.specs.ShapeAnswer.{AreTwoStrings}
use Rattle.h3_field.specs.LineReading.{LineForm, Named, PostBaseNamed}
use Rattle.h3_field.specs.StringReading.{Payload, StandsFor, StandsForNone}
use Rattle.h3_field.specs.Values.{string_of}
use Rattle.h3_field.specs.declared.field_block.FieldPlace.{FieldPlace}
use Rattle.h3_field.specs.declared.prefix_int.Error as integer
use Rattle.h3_field.specs.declared.prefix_string.Error.{Error}
use Rattle.h3_field.specs.declared.prefix_string.Error.TheVariants.{UnexpectedEnd, Integer, HuffmanDecoding, HuffmanEncoding, BufSize, OutOfMemory}
use Rattle.h3_field.specs.declared.parse_error.ParseError.{ParseError}
use Rattle.h3_field.specs.declared.parse_error.ParseError.TheVariants as parse
use Rattle.h3_field.specs.declared.block.literal.NameRef as name_ref

-- Why the string of a payload is refused: it is none, or want of memory where it is one.
abbrev pub IsRefusedString : Payload → Error → Type 0
IsRefusedString p HuffmanDecoding = StandsForNone p
IsRefusedString p OutOfMemory = is_some (string_of p) ≡ true
IsRefusedString p UnexpectedEnd = ⊥
IsRefusedString p (Integer e) = ⊥
IsRefusedString p HuffmanEncoding = ⊥
IsRefusedString p BufSize = ⊥

-- the string behind the bytes that were there, or nothing
abbrev pub AppendsString : Payload → List ℕ → List ℕ → Result (Unit {0}) Error → Type 0
AppendsString p old new (Ok done) = (value : List ℕ) × StandsFor p value × (new ≡ old ++ value)
AppendsString p old new (Err e) = IsRefusedString p e × (new ≡ old)

-- a name and the string, and where they lie; or nothing
abbrev pub PutsField : List ℕ → Bool → Payload → List ℕ → List ℕ → Result FieldPlace Error → Type 0
PutsField name n p old new (Ok place) = (value : List ℕ) × StandsFor p value × (new ≡ old ++ (name ++ value)) × IsNext old name value n place
PutsField name n p old new (Err e) = IsRefusedString p e × (new ≡ old)

-- the field of a name, the string and the flag, or none
abbrev pub PushesField : List ℕ → Bool → Payload → List Field → List Field → Result (Unit {0}) Error → Type 0
PushesField name n p old new (Ok done) = (value : List ℕ) × StandsFor p value × (new ≡ old ++ (record { name = name; value = value; never_indexed = n }) ∷ [])
PushesField name n p old new (Err e) = IsRefusedString p e × (new ≡ old)

-- the strings of two payloads, a name and a value, and where they lie
abbrev pub PutsStrings : Payload → Payload → Bool → List ℕ → List ℕ → FieldPlace → Type 0
PutsStrings p q n old new place = (name : List ℕ) × (value : List ℕ) × StandsFor p name × StandsFor q value × (new ≡ old ++ (name ++ value)) × IsNext old name value n place

-- the field of these strings and of the flag
abbrev pub PushesStrings : Payload → Payload → Bool → List Field → List Field → Type 0
PushesStrings p q n old new = (name : List ℕ) × (value : List ℕ) × StandsFor p name × StandsFor q value
    × (new ≡ old ++ (record { name = name; value = value; never_indexed = n }) ∷ [])

-- the field of the two strings that are read, and what stands behind them is left
abbrev pub ReadsStrings : Reading TwoStrings → List ℕ → List Field → List Field → Type 0
ReadsStrings r new before after = (f : Field) × AreTwoStrings r f new × (after ≡ before ++ f ∷ [])

-- The field of a name, of the string that is read and of the flag, and what stands behind the string is left. A refused read takes nothing, and adds
-- nothing.
abbrev pub AnswersField : List ℕ → Bool → Reading (ℕ × Payload) → List ℕ → List ℕ → List Field → List Field → Result (Unit {0}) Error → Type 0
AnswersField name n (Whole value rest) old new before after (Ok done) = PushesField name n value.1 before after (Ok done) × (new ≡ rest)
AnswersField name n (Whole value rest) old new before after (Err e) = PushesField name n value.1 before after (Err e) × (new ≡ old)
AnswersField name n Unfinished old new before after result = (result ≡ Err UnexpectedEnd) × (new ≡ old) × (after ≡ before)
AnswersField name n Bad old new before after result = (result ≡ Err (Integer integer.TheVariants.Overflow)) × (new ≡ old) × (after ≡ before)

-- the head of a line: what its integer and the flags above it say, and what stands behind it is left
abbrev pub AnswersIndex : {X : Type 0} → (ℕ × ℕ → X) → Reading (ℕ × ℕ) → List ℕ → List ℕ → Result X ParseError → Type 0
AnswersIndex index_of (Whole head rest) old new result = (result ≡ Ok (index_of head)) × (new ≡ rest)
AnswersIndex index_of Unfinished old new result = (result ≡ Err (parse.Integer integer.TheVariants.UnexpectedEnd)) × (new ≡ old)
AnswersIndex index_of Bad old new result = (result ≡ Err (parse.Integer integer.TheVariants.Overflow)) × (new ≡ old)

-- the name that the head of a line refers to
abbrev pub name_ref_of : ℕ × ℕ → name_ref.NameRef
name_ref_of head = if head.0 % 2 == 1 then name_ref.TheVariants.Static head.1 else name_ref.TheVariants.Dynamic head.1

-- and the bit N beside it
abbrev pub named_head : ℕ × ℕ → name_ref.NameRef × Bool
named_head head = (name_ref_of head, head.0 / 2 % 2 == 1)

-- the post-base index of the name that the head of a line refers to, and the bit N
abbrev pub post_base_head : ℕ × ℕ → ℕ × Bool
post_base_head head = (head.1, head.0 % 2 == 1)

-- an index with the flags above it, and the string behind it
abbrev pub parts_of : ℕ × ℕ → Reading (ℕ × Payload) → Reading IndexAndString
parts_of head r = then_read r (λ value after. Whole (record { flags = head.0; index = head.1; value = value.1 }) after)

-- a line with the name of an entry, by those
abbrev pub named_of : Reading IndexAndString → Reading LineForm
named_of r = then_read r (λ parts rest. Whole (Named (parts.flags % 2 == 1) parts.index parts.value (parts.flags / 2 % 2 == 1)) rest)

-- the same by its distance from the base on
abbrev pub post_base_of : Reading IndexAndString → Reading LineForm
post_base_of r = then_read r (λ parts rest. Whole (PostBaseNamed parts.index parts.value (parts.flags % 2 == 1)) rest)
