-- A decoder's table, and what an encoder instruction makes of it (RFC 9204, sections 3.2.2, 3.2.3 and 4.3).
use Rattle.std.specs.Prelude.{ℕ, ◌-◌, ◌^◌, Bool, false, List, [], ◌∷◌, nat_le, if◌then◌else◌, Option, Some, None, unwrap_or}
use Rattle.h3_field.specs.Field.{Field}
use Rattle.h3_field.specs.Instruction.{EncoderInstruction}
use Rattle.h3_field.specs.Instruction.EncoderInstruction.{SetCapacity}
use Rattle.h3_qpack.specs.NamedFields.{insertion_by}
use Rattle.h3_table.specs.TableState.{TableState, no_entries, entry_at, has_room, with_entry, with_capacity}

pub record DecoderState : Type 0 where
  -- the greatest capacity that was announced; none where the table came with a capacity of its own
  pub announced : Option ℕ
  -- whether each section is held to its required insert count
  pub checks_count : Bool
  pub table : TableState

-- a decoder that announced this capacity, before anything: its table has capacity 0
abbrev pub announcing : ℕ → DecoderState
announcing capacity = record { announced = Some capacity; checks_count = false; table = no_entries }

-- the same decoder, which holds sections to their counts or does not
abbrev pub checking : Bool → DecoderState → DecoderState
checking checks r = record r { checks_count = checks }

-- RFC 9204 4.3.1: a capacity above the limit
-- the greatest capacity that may be set
abbrev pub greatest_capacity : DecoderState → ℕ
greatest_capacity r = unwrap_or r.announced (2 ^ 30 - 1)

-- the capacity by which required insert counts are encoded
abbrev pub count_capacity : DecoderState → ℕ
count_capacity r = unwrap_or r.announced r.table.capacity

-- the field that an instruction inserts, or none where it names none
abbrev pub insertion_of : TableState → EncoderInstruction → Option Field
insertion_of h instruction = insertion_by (entry_at h) h.inserted instruction

abbrev pub inserting : DecoderState → Option Field → Option DecoderState
inserting r None = None
inserting r (Some f) = if has_room r.table f then Some (record r { table = with_entry r.table f }) else None

-- after an instruction, or none where it is bad
abbrev pub decoder_after : DecoderState → EncoderInstruction → Option DecoderState
decoder_after r (SetCapacity capacity) =
    if nat_le capacity (greatest_capacity r) then Some (record r { table = with_capacity r.table capacity }) else None
decoder_after r instruction = inserting r (insertion_of r.table instruction)

abbrev pub decoder_after_all : Option DecoderState → List EncoderInstruction → Option DecoderState
decoder_after_all r [] = r
decoder_after_all None (instruction ∷ rest) = None
decoder_after_all (Some r) (instruction ∷ rest) = decoder_after_all (decoder_after r instruction) rest
