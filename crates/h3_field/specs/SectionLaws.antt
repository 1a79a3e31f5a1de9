-- The steps of reading a field section.
use Rattle.std.proofs.Common.{◌≡◌, ℕ, Bool, ◌<◌, nat_le, true, List, [], ◌∷◌, length, Some, Ok, refl, sym, ◌∙◌, arith}
use Rattle.std.specs.List.{slice_get}
use Rattle.std.proofs.lemmas.Bool.{and_parts, leb-true, lt-leb}
use Rattle.h3_field.specs.Reading.{Reading, Whole, Unfinished, Bad}
use Rattle.h3_field.specs.Shapes.{begins}
use Rattle.h3_field.specs.Line.{FieldLine, huffman_line}
use Rattle.h3_field.specs.StaticTable.{static_table, NamesEntry}
use Rattle.h3_field.specs.LineReading.{LineForm, SaysLine, line, indexed, named, literal, post_base, post_base_named}
use Rattle.h3_field.specs.LineAnswer.{AnswersLine}
use Rattle.h3_field.specs.ShapeAnswer.{Place}
use Rattle.h3_field.specs.Section.{HasLine, with_value}
use Rattle.h3_field.specs.ValueLaws.{one_line_said}
use Rattle.h3_field.specs.CodingLaws.{told_line}

pub whole_same : {A : Type 0} (v w : A) (r s : List ℕ) → Whole v r ≡ Whole w s → (v ≡ w) × (r ≡ s)
whole_same v w r s e = (cc, cc)

-- bytes begin with one line
pub line_one : (bytes rest more : List ℕ) (l k : FieldLine) → HasLine bytes l rest → HasLine bytes k more → (l ≡ k) × (rest ≡ more)
line_one bytes rest more l k a b =
    let same = whole_same a.form b.form rest more (sym a.whole ∙ b.whole) in
    let says : SaysLine a.form k = rw (← same.0) at b.says in
    (one_line_said a.form l k a.says says, same.1)

-- which line the first byte begins
pub line_indexed : (bytes : List ℕ) → 0 < length bytes → begins 128 255 bytes ≡ true → line bytes ≡ indexed bytes
line_indexed [] some h = absurd (omega arith)
line_indexed (first ∷ rest) some h =
    let parts = and_parts (nat_le 128 first) (nat_le first 255) h in
    rw parts.0 refl

pub line_named : (bytes : List ℕ) → 0 < length bytes → begins 64 127 bytes ≡ true → line bytes ≡ named bytes
line_named [] some h = absurd (omega arith)
line_named (first ∷ rest) some h =
    let parts = and_parts (nat_le 64 first) (nat_le first 127) h in
    rw (lt-leb 128 first (omega (arith, leb-true first 127 parts.1)), parts.0) refl

pub line_literal : (bytes : List ℕ) → 0 < length bytes → begins 32 63 bytes ≡ true → line bytes ≡ literal bytes
line_literal [] some h = absurd (omega arith)
line_literal (first ∷ rest) some h =
    let parts = and_parts (nat_le 32 first) (nat_le first 63) h in
    let most = leb-true first 63 parts.1 in
    rw (lt-leb 128 first (omega (arith, most)), lt-leb 64 first (omega (arith, most)), parts.0) refl

pub line_post_base : (bytes : List ℕ) → 0 < length bytes → begins 16 31 bytes ≡ true → line bytes ≡ post_base bytes
line_post_base [] some h = absurd (omega arith)
line_post_base (first ∷ rest) some h =
    let parts = and_parts (nat_le 16 first) (nat_le first 31) h in
    let most = leb-true first 31 parts.1 in
    rw (lt-leb 128 first (omega (arith, most)), lt-leb 64 first (omega (arith, most)), lt-leb 32 first (omega (arith, most)), parts.0) refl

pub line_post_base_named : (bytes : List ℕ) → 0 < length bytes → begins 0 15 bytes ≡ true → line bytes ≡ post_base_named bytes
line_post_base_named [] some h = absurd (omega arith)
line_post_base_named (first ∷ rest) some h =
    let parts = and_parts (nat_le 0 first) (nat_le first 15) h in
    let most = leb-true first 15 parts.1 in
    rw (lt-leb 128 first (omega (arith, most)), lt-leb 64 first (omega (arith, most)), lt-leb 32 first (omega (arith, most)), lt-leb 16 first (omega (arith, most))) refl

-- a line that was read, and how its strings are coded
pub has_line : {L : Type 0} (place : Place) (line_of : L → FieldLine) (r : Reading LineForm) (old new : List ℕ) (l : L) → line old ≡ r → AnswersLine line_of place r old new (Ok l)
    → (k : FieldLine) × HasLine old k new × (huffman_line k ≡ line_of l)
has_line place line_of (Whole form rest) old new l e h =
    let told = told_line form (line_of l) h.0 in
    (told.0, record { form = form; whole = rw h.1 e; says = told.1 }, told.2)
has_line place line_of Unfinished old new l e h = absurd (cc)
has_line place line_of Bad old new l e h = absurd (cc)

pub named_entry : (index : ℕ) (name value : List ℕ) (flag : Bool) → NamesEntry index name → with_value value flag (slice_get static_table index) ≡ Some (record { name = name; value = value; never_indexed = flag })
named_entry index name value flag n = rw (n.here, n.name_is) refl
