-- Evictions, one at a time.
use Rattle.std.proofs.Common.{◌≡◌, ℕ, ◌+◌, ◌-◌, ◌<◌, ◌≤◌, List, [], ◌∷◌, length, drop, ◌∙◌, ap, arith, length-drop, refl}
use Rattle.std.proofs.lemmas.Grind.{common_steps}
use Rattle.h3_field.specs.Field.{Field, section_size}
use Rattle.h3_table.specs.Table.{table}
use Rattle.h3_table.specs.TableLaws.{length-table}

-- what fits stays whole
pub table-whole : (capacity : ℕ) (fs : List Field) → section_size fs ≤ capacity → table capacity fs ≡ fs
table-whole capacity [] h = refl
table-whole capacity (f ∷ fs) h = grind (arith, common_steps)

-- what remains of the entries when so many have given way
pub evicted_when : (es : List Field) (inserted room d : ℕ) → length es ≤ inserted → d ≤ length es → table room es ≡ table room (drop d es) → section_size (drop d es) ≤ room
    → inserted - length (table room es) ≡ inserted - length es + d
evicted_when es inserted room d made inside same within =
    let left : length (table room es) ≡ length es - d = ap length (same ∙ table-whole room (drop d es) within) ∙ length-drop d es in
    omega (arith, left, made, inside)

shorter : (room : ℕ) (fs : List Field) → room < section_size fs → length (table room fs) + 1 ≤ length fs
shorter room [] h = absurd (omega (arith, h))
shorter room (f ∷ fs) h = grind (arith, common_steps, length-table room fs)

-- more are evicted while what remains is too large
pub evicted_further : (es : List Field) (inserted room d : ℕ) → length es ≤ inserted → d ≤ length es → table room es ≡ table room (drop d es) → room < section_size (drop d es)
    → inserted - length es + d < inserted - length (table room es)
evicted_further es inserted room d made inside same above =
    let left = shorter room (drop d es) above in
    omega (arith, ap length same, left, length-drop d es, made, inside)
