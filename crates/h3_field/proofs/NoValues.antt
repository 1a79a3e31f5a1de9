-- What stands for no line and no instruction has no value.
use Rattle.std.proofs.Common.{◌≡◌, ℕ, true, false, List, Option, Some, None, is_some, option_map, refl, sym, ◌∙◌}
use Rattle.h3_field.specs.StringReading.{Payload, StandsFor, StandsForNone, text_of}
use Rattle.h3_field.specs.Line.{FieldLine}
use Rattle.h3_field.specs.Line.FieldLine.{StaticName, RelativeName, PostBaseName, Literal}
use Rattle.h3_field.specs.LineReading.{LineForm, Indexed, PostBase, Named, PostBaseNamed, LiteralField, SaysLine}
use Rattle.h3_field.specs.Instruction.{EncoderInstruction}
use Rattle.h3_field.specs.Instruction.EncoderInstruction.{InsertWithStaticName, InsertWithEntryName, InsertLiteral}
use Rattle.h3_field.specs.InstructionReading.{InstructionForm, Capacity, NameReference, LiteralName, Repeat, Says}
use Rattle.h3_field.specs.LineAnswer.{LineTakesMemory}
use Rattle.h3_field.specs.InstructionAnswer.{InstructionTakesMemory}
use Rattle.h3_field.specs.Values.{string_of, of_both, line_of, instruction_of}
use Rattle.h3_field.specs.ValueLaws.{some_same, string_some, string_is, line_some, line_is, instruction_some, instruction_is}

none_left : {X : Type 0} (o : Option X) → ((x : X) → o ≡ Some x → ⊥) → o ≡ None
none_left None h = refl
none_left (Some x) h = absurd (h x refl)

some_of_none : {X : Type 0} (o : Option X) (x : X) → o ≡ None → o ≡ Some x → ⊥
some_of_none o x none e = absurd (cc)

pub string_none : (p : Payload) → StandsForNone p → string_of p ≡ None
string_none p h = none_left (string_of p) (λ bytes e. h bytes (string_is p bytes e))

pub no_string : (p : Payload) → string_of p ≡ None → StandsForNone p
no_string p none bytes h = some_of_none (string_of p) bytes none (string_some p bytes h)

-- a payload stands for one string
pub one_string_stood_for : (p : Payload) (s t : List ℕ) → StandsFor p s → StandsFor p t → s ≡ t
one_string_stood_for p s t a b = some_same s t (sym (string_some p s a) ∙ string_some p t b)

pub line_none : (form : LineForm) → ((l : FieldLine) → SaysLine form l → ⊥) → line_of form ≡ None
line_none form h = none_left (line_of form) (λ l e. h l (line_is form l e))

pub no_line : (form : LineForm) → line_of form ≡ None → (l : FieldLine) → SaysLine form l → ⊥
no_line form none l h = some_of_none (line_of form) l none (line_some form l h)

some_mapped : {X : Type 0} (build : List ℕ → X) (o : Option (List ℕ)) → is_some o ≡ true → is_some (option_map build o) ≡ true
some_mapped build None e = absurd (cc)
some_mapped build (Some value) e = refl

some_of_both : {X : Type 0} (build : List ℕ → List ℕ → X) (o u : Option (List ℕ)) → is_some o ≡ true → is_some u ≡ true → is_some (of_both build o u) ≡ true
some_of_both build None u e h = absurd (cc)
some_of_both build (Some name) None e h = absurd (cc)
some_of_both build (Some name) (Some value) e h = refl

-- a form whose strings take memory says a line
pub line_of_memory : (form : LineForm) → LineTakesMemory form → is_some (line_of form) ≡ true
line_of_memory (Indexed is_static index) h = absurd h
line_of_memory (PostBase index) h = absurd h
line_of_memory (Named true index p n) h = some_mapped (λ value. StaticName index (text_of p value) n) (string_of p) h.0
line_of_memory (Named false index p n) h = some_mapped (λ value. RelativeName index (text_of p value) n) (string_of p) h.0
line_of_memory (PostBaseNamed index p n) h = some_mapped (λ value. PostBaseName index (text_of p value) n) (string_of p) h.0
line_of_memory (LiteralField p q n) h = some_of_both (λ name value. Literal (text_of p name) (text_of q value) n) (string_of p) (string_of q) h.0 h.1

pub instruction_none : (form : InstructionForm) → ((i : EncoderInstruction) → Says form i → ⊥) → instruction_of form ≡ None
instruction_none form h = none_left (instruction_of form) (λ i e. h i (instruction_is form i e))

pub no_instruction : (form : InstructionForm) → instruction_of form ≡ None → (i : EncoderInstruction) → Says form i → ⊥
no_instruction form none i h = some_of_none (instruction_of form) i none (instruction_some form i h)

-- a form whose strings take memory says an instruction
pub instruction_of_memory : (form : InstructionForm) → InstructionTakesMemory form → is_some (instruction_of form) ≡ true
instruction_of_memory (Capacity n) h = absurd h
instruction_of_memory (NameReference true index p) h = some_mapped (λ value. InsertWithStaticName index (text_of p value)) (string_of p) h.0
instruction_of_memory (NameReference false index p) h = some_mapped (λ value. InsertWithEntryName index (text_of p value)) (string_of p) h.0
instruction_of_memory (LiteralName p q) h = some_of_both (λ name value. InsertLiteral (text_of p name) (text_of q value)) (string_of p) (string_of q) h.0 h.1
instruction_of_memory (Repeat index) h = absurd h
