-- A table by the plain list of all insertions: its entries are an end of that list, and what is evicted does not come back
-- (RFC 9204, sections 3.2.2 and 3.2.3).
use Rattle.std.specs.Prelude.{◌≡◌, take, ℕ, ◌+◌, ◌^◌, ◌≤◌, ◌&&◌, List, [], ◌∷◌, ◌++◌, length, drop, max, nat_lt, nat_le, if◌then◌else◌, Option, Some, None}
use Rattle.h3_field.specs.Field.{Field, field_size}
use Rattle.h3_field.specs.Instruction.{EncoderInstruction}
use Rattle.h3_field.specs.Instruction.EncoderInstruction.{SetCapacity}
use Rattle.h3_qpack.specs.NamedFields.{insertion_at, insertion_by}
use Rattle.h3_table.specs.Table.{evictions}
use Rattle.h3_table.specs.TableState.{TableState}

pub record TableHistory : Type 0 where
  pub capacity : ℕ
  pub inserted : List Field
  pub evicted : ℕ

-- its state
abbrev pub table_state : TableHistory → TableState
table_state h = record { capacity = h.capacity; entries = drop h.evicted h.inserted; inserted = length h.inserted }

abbrev pub entry_still_at : TableHistory → ℕ → Option Field
entry_still_at h number = if nat_lt h.evicted number then insertion_at h.inserted number else None

abbrev pub field_inserted : TableHistory → EncoderInstruction → Option Field
field_inserted h instruction = insertion_by (entry_still_at h) (length h.inserted) instruction

abbrev pub table_after_insertion : TableHistory → Option Field → Option TableHistory
table_after_insertion h None = None
table_after_insertion h (Some f) =
    if nat_lt (length h.inserted + 1) (2 ^ 62) && nat_le (field_size f) h.capacity
    then Some (record h { inserted = h.inserted ++ f ∷ []; evicted = max h.evicted (evictions h.capacity (h.inserted ++ f ∷ [])) }) else None

-- after an instruction, where a capacity up to the greatest may be set, or none where it is bad
abbrev pub table_after : ℕ → TableHistory → EncoderInstruction → Option TableHistory
table_after greatest h (SetCapacity capacity) =
    if nat_le capacity greatest then Some (record h { capacity = capacity; evicted = max h.evicted (evictions capacity h.inserted) }) else None
table_after greatest h instruction = table_after_insertion h (field_inserted h instruction)

abbrev pub table_after_all : ℕ → Option TableHistory → List EncoderInstruction → Option TableHistory
table_after_all greatest h [] = h
table_after_all greatest None (instruction ∷ rest) = None
table_after_all greatest (Some h) (instruction ∷ rest) = table_after_all greatest (table_after greatest h instruction) rest

-- the table of a capacity that was set before the first of these insertions
abbrev pub table_of : ℕ → List Field → TableHistory
table_of capacity inserted = record { capacity = capacity; inserted = inserted; evicted = evictions capacity inserted }

-- Each instruction is one insertion, and after the first of them the table is that of the first insertions.
pub record IsReadAs (greatest capacity : ℕ) (instructions : List EncoderInstruction) (inserted : List Field) : Type 0 where
  pub one_each : length instructions ≡ length inserted
  pub tables : (k : ℕ) → k ≤ length instructions →
      table_after_all greatest (Some (table_of capacity [])) (take k instructions) ≡ Some (table_of capacity (take k inserted))
