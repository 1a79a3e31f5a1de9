use Rattle.std.proofs.Common.{◌≡◌, ◌≤◌, ℕ, length}
use Rattle.h3_field.specs.Field.{section_size}
use Rattle.h3_table.specs.Table.{table}
use Rattle.h3_table.specs.FieldRow.{FieldRow}
use Rattle.h3_table.proofs.entries.evict_oldest.Given as goal

pub record Invariant (sum most : ℕ) (fields fields_then : FieldRow) : Type 0 where
  pub sum_is : sum ≡ section_size fields.fields
  pub shorter : length fields.fields ≤ length fields_then.fields
  pub same : table most fields.fields ≡ table most fields_then.fields
  pub written : fields.written ≡ fields_then.written
  pub room : fields.room ≡ fields_then.room
  pub places : fields.places ≡ fields_then.places

abbrev pub invariant-loop-sum : goal.invariant-loop-sum
invariant-loop-sum l = Invariant l.sum l.most l.fields l.initial.fields

abbrev pub decreases-loop-sum : goal.decreases-loop-sum
decreases-loop-sum l = length l.fields.fields
