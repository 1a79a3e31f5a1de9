-- The steps of reading and writing a string.
use Rattle.std.proofs.Common.{◌≡◌, ◌⊎◌, inr, ℕ, ◌+◌, ◌*◌, ◌-◌, ◌^◌, ◌<◌, ◌≤◌, ◌==◌, Bool, true, false, if◌then◌else◌, List, [], ◌∷◌, length, Option, Some, None, is_some, refl, sym, ◌∙◌, arith, append-nil}
use Rattle.std.specs.List.{AllByRecursion}
use Rattle.std.proofs.lemmas.Grind.{pow_more}
use Rattle.h3_huffman.specs.Huffman.{huffman, octets}
use Rattle.h3_huffman.specs.Payload.{IsByte}
use Rattle.h3_field.specs.Integer.{prefixed}
use Rattle.h3_field.specs.StringLiteral.{string_literal, huffman_text, plain_text, coded}
use Rattle.h3_field.specs.StringReading.{Payload, StandsFor, StandsForNone}
use Rattle.h3_field.specs.Values.{string_of}
use Rattle.h3_field.specs.StringAnswer.{TakesMemory}
use Rattle.h3_field.specs.ShapeAnswer.{TakeMemory, IsRefused}
use Rattle.h3_field.specs.declared.prefix_string.Error.TheVariants.{HuffmanDecoding}
use Rattle.h3_field.specs.declared.parse_error.ParseError.{ParseError}
use Rattle.h3_field.specs.declared.parse_error.ParseError.TheVariants.{String, OutOfMemory}
use Rattle.h3_field.specs.ValueLaws.{string_some}
use Rattle.h3_field.proofs.NoValues.{no_string}

-- a string that is not Huffman coded
pub plain_stands : (p : Payload) (items : List ℕ) → p.is_huffman ≡ false → items ≡ p.bytes → AllByRecursion IsByte items → StandsFor p items
plain_stands p items not_coded e each = record { each = each; form = rw (e, not_coded) refl }

-- an empty payload is the empty string, coded or not
empty_form : (coded : Bool) → [] ≡ (if coded then huffman [] else [])
unfolding huffman octets
empty_form true = refl
empty_form false = refl

no_bytes : (bytes : List ℕ) → length bytes ≡ 0 → bytes ≡ []
no_bytes [] e = refl
no_bytes (b ∷ bytes) e = absurd (omega (arith, e))

pub some_bytes : (bytes : List ℕ) → (length bytes == 0) ≡ false → 0 < length bytes
some_bytes [] e = absurd (cc)
some_bytes (b ∷ bytes) e = omega arith

pub empty_stands : (p : Payload) (items : List ℕ) → length p.bytes ≡ 0 → items ≡ [] → StandsFor p items
empty_stands p items none empty = rw empty (record { each = tt; form = no_bytes p.bytes none ∙ empty_form p.is_huffman })

-- an empty string, as it is written
empty_literal : (size flags : ℕ) (value : List ℕ) → length value ≡ 0 → string_literal size flags (huffman_text value) ≡ prefixed (size - 1) (2 * flags + 1) 0
empty_literal size flags value none =
    let empty : huffman [] ≡ [] = sym (empty_form true) in
    rw (no_bytes value none, empty) (append-nil (prefixed (size - 1) (2 * flags + 1) 0))

-- what an empty string is written as by a choice
pub empty_plain : (size flags : ℕ) (shortest : Bool) (value : List ℕ) → length value ≡ 0 → shortest ≡ true → string_literal size flags (coded shortest value) ≡ string_literal size flags (plain_text value)
empty_plain size flags shortest value none on =
    let empty : huffman [] ≡ [] = sym (empty_form true) in
    rw (on, no_bytes value none, empty) (refl {a = string_literal size flags (plain_text [])})

pub empty_coded : (size flags : ℕ) (shortest : Bool) (value : List ℕ) → length value ≡ 0 → shortest ≡ false → string_literal size flags (coded shortest value) ≡ prefixed (size - 1) (2 * flags + 1) 0
empty_coded size flags shortest value none off = rw off (empty_literal size flags value none)

-- what a payload stands for, and that it stands for none, as its value tells
pub stands_some : (p : Payload) (bytes : List ℕ) → StandsFor p bytes → is_some (string_of p) ≡ true
stands_some p bytes s = rw (string_some p bytes s) refl

pub plain_some : (p : Payload) → p.is_huffman ≡ false → AllByRecursion IsByte p.bytes → is_some (string_of p) ≡ true
plain_some p not_coded each = stands_some p p.bytes (plain_stands p p.bytes not_coded refl each)

is_none : {X : Type 0} (o : Option X) → is_some o ≡ false → o ≡ None
is_none None e = refl
is_none (Some x) e = absurd (cc)

pub stands_none : (p : Payload) → is_some (string_of p) ≡ false → StandsForNone p
stands_none p e = no_string p (is_none (string_of p) e)

-- two strings: the first, or the second, finds no memory
pub first_refused : (first second : Payload) (e : ParseError) → TakesMemory first → e ≡ (if is_some (string_of second) then OutOfMemory else String HuffmanDecoding) →
    IsRefused (TakeMemory first second) (StandsForNone first ⊎ StandsForNone second) e
first_refused first second e memory is = from (is_some (string_of second)) refl is
  where
    from : (some : Bool) → is_some (string_of second) ≡ some → e ≡ (if some then OutOfMemory else String HuffmanDecoding) → IsRefused (TakeMemory first second) (StandsForNone first ⊎ StandsForNone second) e
    from true some is = rw is (memory.0, some, omega (arith, memory.1))
    from false none is = rw is (inr (stands_none second none))

pub second_refused : (first second : Payload) (name : List ℕ) → StandsFor first name → TakesMemory second → TakeMemory first second
second_refused first second name s memory = (stands_some first name s, memory.0, omega (arith, memory.1))

pub string_flags : (size flags : ℕ) → 2 ≤ size → size ≤ 8 → flags < 2 ^ (8 - size) → 2 * flags + 1 < 2 ^ (8 - (size - 1))
string_flags size flags h k few =
    let e : 8 - (size - 1) ≡ (8 - size) + 1 = omega arith in
    let power : 2 ^ ((8 - size) + 1) ≡ 2 ^ (8 - size) * 2 = pow_more 2 (8 - size) in
    rw (e, power) (omega arith)

pub plain_flags : (size flags : ℕ) → 2 ≤ size → size ≤ 8 → flags < 2 ^ (8 - size) → 2 * flags < 2 ^ (8 - (size - 1))
plain_flags size flags h k few = omega (arith, string_flags size flags h k few)
