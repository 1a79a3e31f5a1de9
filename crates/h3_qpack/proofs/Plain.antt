-- An encoder that is not economical: nothing drains, and every field is worth an entry.
use Rattle.std.proofs.Common.{◌≡◌, ℕ, ◌<◌, List, fold, Bool, true, false, ◌&&◌, refl, ◌∙◌, ap, arith, nat_lt, Option, Some, None, if◌then◌else◌}
use Rattle.std.proofs.lemmas.Grind.{common_steps}
use Rattle.h3_field.specs.Field.{Field}
use Rattle.h3_field.specs.Line.{FieldLine}
use Rattle.h3_table.specs.Table.{evictions}
use Rattle.h3_qpack.specs.EncoderHistory.{EncoderHistory, blocks_out}
use Rattle.h3_qpack.specs.SectionEncoding.{Draft, held, found, finds_room, is_insertable, lasting_capacity, marked, marks_after}
use Rattle.h3_qpack.proofs.Newest.{above_only, newest_from-passes}
use Rattle.h3_qpack.proofs.Choices.{found_above}
use Rattle.h3_qpack.proofs.Canceled.{plain_lines}

above_none : (o : Option ℕ) → ((n : ℕ) → o ≡ Some n → 0 < n) → above_only 0 o ≡ o
above_none None some = refl
above_none (Some n) some = rw (is_above n (some n refl)) refl
  where
    is_above : (n : ℕ) → 0 < n → nat_lt 0 n ≡ true
    is_above n lt = grind (arith, common_steps, lt)

-- It names the newest equal entry that it may.
pub finds_all : (s : EncoderHistory) (d : Draft) (f : Field) → s.choices.economical ≡ false → found s d f ≡ held s d f
finds_all s d f plain =
    found_above s d f
    ∙ ap (λ b. above_only (if b then evictions (lasting_capacity s.capacity) s.inserted else 0) (held s d f)) plain
    ∙ above_none (held s d f) (λ n e. omega (arith, (newest_from-passes _ 1 d.inserted n e).above))

-- It inserts whatever there is room for.
pub inserts_all : (s : EncoderHistory) (d : Draft) (f : Field) → s.choices.economical ≡ false → is_insertable s d f ≡ (nat_lt (blocks_out s) s.limit && finds_room s d f)
inserts_all s d f plain = rw plain (and_true (nat_lt (blocks_out s) s.limit))
  where
    and_true : (a : Bool) → (a && true && finds_room s d f) ≡ (a && finds_room s d f)
    and_true true = refl
    and_true false = refl

-- It leaves no mark.
pub marks_nothing : (s : EncoderHistory) (lines : List FieldLine) → s.choices.economical ≡ false → marks_after s lines ≡ s.marks
marks_nothing s lines plain = ap (λ b. fold (marked (b && nat_lt 0 s.capacity)) s.marks lines) plain ∙ plain_lines s.marks lines
