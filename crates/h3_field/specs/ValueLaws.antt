-- A payload stands for its value, a form says its value, and each nothing else.
use Rattle.std.proofs.Common.{◌≡◌, ℕ, Bool, true, false, List, if◌then◌else◌, Option, Some, None, option_map, refl, ap, sym, ◌∙◌, subst}
use Rattle.std.specs.List.{AllByRecursion}
use Rattle.h3_huffman.specs.Huffman.{huffman}
use Rattle.h3_huffman.specs.Payload.{IsByte}
use Rattle.h3_huffman.specs.Unhuffman.{unhuffman}
use Rattle.h3_huffman.specs.UnhuffmanLaws.{unhuffman_some, unhuffman_is, all_bytes, each_byte, encoded_is}
use Rattle.h3_field.specs.StringReading.{Payload, StandsFor, text_of}
use Rattle.h3_field.specs.Line.{FieldLine}
use Rattle.h3_field.specs.Line.FieldLine.{StaticField, RelativeField, PostBaseField, StaticName, RelativeName, PostBaseName, Literal}
use Rattle.h3_field.specs.LineReading.{LineForm, Indexed, PostBase, Named, PostBaseNamed, LiteralField, SaysLine}
use Rattle.h3_field.specs.Instruction.{EncoderInstruction}
use Rattle.h3_field.specs.Instruction.EncoderInstruction.{SetCapacity, InsertWithStaticName, InsertWithEntryName, InsertLiteral, Duplicate}
use Rattle.h3_field.specs.InstructionReading.{InstructionForm, Capacity, NameReference, LiteralName, Repeat, Says}
use Rattle.h3_field.specs.Values.{plain_string, string_of, of_both, line_of, instruction_of}

pub some_same : {X : Type 0} (x y : X) → Some x ≡ Some y → x ≡ y
some_same x y e = cc

value_some : (coded : Bool) (payload bytes : List ℕ) → AllByRecursion IsByte bytes → payload ≡ (if coded then huffman bytes else bytes) → (if coded then unhuffman payload else plain_string payload) ≡ Some bytes
value_some true payload bytes h e = ap (λ l. unhuffman l) e ∙ unhuffman_some bytes h
value_some false payload bytes h e = ap (λ l. plain_string l) e ∙ ap (λ b. if b then Some bytes else None) (all_bytes bytes h)

pub string_some : (p : Payload) (bytes : List ℕ) → StandsFor p bytes → string_of p ≡ Some bytes
string_some p bytes h = value_some p.is_huffman p.bytes bytes h.each h.form

value_is : (coded : Bool) (payload bytes : List ℕ) → (if coded then unhuffman payload else plain_string payload) ≡ Some bytes → AllByRecursion IsByte bytes × (payload ≡ (if coded then huffman bytes else bytes))
value_is true payload bytes e = unhuffman_is payload bytes e
value_is false payload bytes e =
    let c = encoded_is _ payload bytes e in
    (subst (λ l. AllByRecursion IsByte l) c.1 (each_byte payload c.0), c.1)

pub string_is : (p : Payload) (bytes : List ℕ) → string_of p ≡ Some bytes → StandsFor p bytes
string_is p bytes e = let v = value_is p.is_huffman p.bytes bytes e in record { each = v.0; form = v.1 }

mapped : {X : Type 0} (build : List ℕ → X) (p : Payload) (value : List ℕ) (x : X) → StandsFor p value → x ≡ build value → option_map build (string_of p) ≡ Some x
mapped build p value x h is = rw (string_some p value h, is) refl

unmapped : {X : Type 0} (build : List ℕ → X) (o : Option (List ℕ)) (x : X) → option_map build o ≡ Some x → (value : List ℕ) × (o ≡ Some value) × (x ≡ build value)
unmapped build None x e = absurd (cc)
unmapped build (Some value) x e = (value, refl, sym (some_same (build value) x e))

both_mapped : {X : Type 0} (build : List ℕ → List ℕ → X) (p q : Payload) (name value : List ℕ) (x : X) → StandsFor p name → StandsFor q value → x ≡ build name value → of_both build (string_of p) (string_of q) ≡ Some x
both_mapped build p q name value x h k is = rw (string_some p name h, string_some q value k, is) refl

both_unmapped : {X : Type 0} (build : List ℕ → List ℕ → X) (o u : Option (List ℕ)) (x : X) → of_both build o u ≡ Some x → (name value : List ℕ) × (o ≡ Some name) × (u ≡ Some value) × (x ≡ build name value)
both_unmapped build None u x e = absurd (cc)
both_unmapped build (Some name) None x e = absurd (cc)
both_unmapped build (Some name) (Some value) x e = (name, value, refl, refl, sym (some_same (build name value) x e))

pub line_some : (form : LineForm) (l : FieldLine) → SaysLine form l → line_of form ≡ Some l
line_some (Indexed true index) l h = rw h refl
line_some (Indexed false index) l h = rw h refl
line_some (PostBase index) l h = rw h refl
line_some (Named true index p n) l h = mapped (λ value. StaticName index (text_of p value) n) p h.0 l h.1 h.2
line_some (Named false index p n) l h = mapped (λ value. RelativeName index (text_of p value) n) p h.0 l h.1 h.2
line_some (PostBaseNamed index p n) l h = mapped (λ value. PostBaseName index (text_of p value) n) p h.0 l h.1 h.2
line_some (LiteralField p q n) l h = both_mapped (λ name value. Literal (text_of p name) (text_of q value) n) p q h.0 h.1 l h.2 h.3 h.4

pub line_is : (form : LineForm) (l : FieldLine) → line_of form ≡ Some l → SaysLine form l
line_is (Indexed true index) l e = sym (some_same (StaticField index) l e)
line_is (Indexed false index) l e = sym (some_same (RelativeField index) l e)
line_is (PostBase index) l e = sym (some_same (PostBaseField index) l e)
line_is (Named true index p n) l e = let u = unmapped (λ value. StaticName index (text_of p value) n) (string_of p) l e in (u.0, string_is p u.0 u.1, u.2)
line_is (Named false index p n) l e = let u = unmapped (λ value. RelativeName index (text_of p value) n) (string_of p) l e in (u.0, string_is p u.0 u.1, u.2)
line_is (PostBaseNamed index p n) l e = let u = unmapped (λ value. PostBaseName index (text_of p value) n) (string_of p) l e in (u.0, string_is p u.0 u.1, u.2)
line_is (LiteralField p q n) l e = let u = both_unmapped (λ name value. Literal (text_of p name) (text_of q value) n) (string_of p) (string_of q) l e in (u.0, u.1, string_is p u.0 u.2, string_is q u.1 u.3, u.4)

-- a form says one line
pub one_line_said : (form : LineForm) (l k : FieldLine) → SaysLine form l → SaysLine form k → l ≡ k
one_line_said form l k a b = some_same l k (sym (line_some form l a) ∙ line_some form k b)

pub instruction_some : (form : InstructionForm) (i : EncoderInstruction) → Says form i → instruction_of form ≡ Some i
instruction_some (Capacity n) i h = rw h refl
instruction_some (NameReference true index p) i h = mapped (λ value. InsertWithStaticName index (text_of p value)) p h.0 i h.1 h.2
instruction_some (NameReference false index p) i h = mapped (λ value. InsertWithEntryName index (text_of p value)) p h.0 i h.1 h.2
instruction_some (LiteralName p q) i h = both_mapped (λ name value. InsertLiteral (text_of p name) (text_of q value)) p q h.0 h.1 i h.2 h.3 h.4
instruction_some (Repeat index) i h = rw h refl

pub instruction_is : (form : InstructionForm) (i : EncoderInstruction) → instruction_of form ≡ Some i → Says form i
instruction_is (Capacity n) i e = sym (some_same (SetCapacity n) i e)
instruction_is (NameReference true index p) i e = let u = unmapped (λ value. InsertWithStaticName index (text_of p value)) (string_of p) i e in (u.0, string_is p u.0 u.1, u.2)
instruction_is (NameReference false index p) i e = let u = unmapped (λ value. InsertWithEntryName index (text_of p value)) (string_of p) i e in (u.0, string_is p u.0 u.1, u.2)
instruction_is (LiteralName p q) i e = let u = both_unmapped (λ name value. InsertLiteral (text_of p name) (text_of q value)) (string_of p) (string_of q) i e in (u.0, u.1, string_is p u.0 u.2, string_is q u.1 u.3, u.4)
instruction_is (Repeat index) i e = sym (some_same (Duplicate index) i e)

-- a form says one instruction
pub one_instruction_said : (form : InstructionForm) (i j : EncoderInstruction) → Says form i → Says form j → i ≡ j
one_instruction_said form i j a b = some_same i j (sym (instruction_some form i a) ∙ instruction_some form j b)
