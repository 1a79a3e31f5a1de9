use Rattle.std.proofs.Common.{◌≡◌, ◌≤◌, ◌+◌, ◌-◌, ℕ, List, length, drop}
use Rattle.h3_field.specs.Field.{Field, section_size}
use Rattle.h3_table.specs.Table.{table}
use Rattle.h3_table.proofs.entries.Entries.evicted_within.Given as goal

pub record Invariant (es : List Field) (room sum evictions : ℕ) : Type 0 where
  pub inside : evictions ≤ length es
  pub sum_is : sum ≡ section_size (drop evictions es)
  pub same : table room es ≡ table room (drop evictions es)

abbrev pub invariant-loop-sum : goal.invariant-loop-sum
invariant-loop-sum l = Invariant l.self-inside.fields.fields l.room l.sum l.evictions × (l.evicted + l.evictions ≤ l.most)

abbrev pub decreases-loop-sum : goal.decreases-loop-sum
decreases-loop-sum l = length l.self-inside.fields.fields - l.evictions
