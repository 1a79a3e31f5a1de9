-- Decoded fields under a limit on the sum of their sizes.
use Rattle.std.specs.Prelude.{◌≡◌, ◌<◌, ◌≤◌, ℕ, ◌+◌, ◌-◌, ◌^◌, Bool, List, min, fold, bytes_eq, ◌++◌, if◌then◌else◌, Option, Some, None, option_map}
use Rattle.h3_field.specs.Field.{Field, field_size, section_size}
use Rattle.h3_table.specs.TableState.{TableState}
use Rattle.h3_qpack.specs.DecodedSection.{fields_in}
use Rattle.h3_qpack.specs.declared.within.LargeSection.{LargeSection}
use Rattle.h3_qpack.specs.declared.block_within.BlockWithin.{BlockWithin}
use Rattle.h3_qpack.specs.declared.block_within.BlockWithin.TheVariants as within

-- the sum of the fields' sizes, which stops at the greatest number of 64 bits
abbrev pub told_size : List Field → ℕ
told_size fields = min (2 ^ 64 - 1) (section_size fields)

-- The first lines are of fields that sum to more than the limit; of the rest nothing is said.
pub record PassesLimit (h : TableState) (base : ℕ) (bytes : List ℕ) (max : ℕ) : Type 0 where
  pub front : List Field
  pub rest : List ℕ
  pub read : fields_in h base bytes ≡ option_map (λ more. front ++ more) (fields_in h base rest)
  pub large : max < told_size front

-- the value of a field of that name, or the one before
abbrev pub value_after : List ℕ → Option (List ℕ) → Field → Option (List ℕ)
value_after name last f = if bytes_eq f.name name then Some f.value else last

-- the value of the last field of that name
abbrev pub last_value : List ℕ → List Field → Option (List ℕ)
last_value name fields = fold (value_after name) None fields

-- fields that are counted and not kept
pub record Counted : Type 0 where
  pub sum : ℕ
  pub last : Option (List ℕ)

abbrev pub counted : List ℕ → List Field → Counted
counted name fields = record { sum = told_size fields; last = last_value name fields }

-- with one field more
abbrev pub counted_on : List ℕ → Counted → Field → Counted
counted_on name c f = record { sum = min (c.sum + field_size f) (2 ^ 64 - 1); last = value_after name c.last f }

-- what is told of a section of these fields that sum to more than the limit
pub record IsLarge (name : List ℕ) (dyn_ref : Bool) (fields : List Field) (l : LargeSection) : Type 0 where
  pub size : l.mem_size ≡ told_size fields
  pub dynamic : l.dyn_ref ≡ dyn_ref
  pub last : option_map (λ v. v.items) l.last_value ≡ last_value name fields

-- The answer of a decoder whose caller takes sums up to a limit and asks for the last value of a name: the fields, which alone are in the block
-- then, or their exact sum.
abbrev pub IsBlockWithin : ℕ → List ℕ → Bool → List Field → BlockWithin → List Field → Type 0
IsBlockWithin max name dyn_ref fields (within.Fields d) block =
    (told_size fields ≤ max) × (block ≡ fields) × (d.dyn_ref ≡ dyn_ref) × (d.mem_size ≡ told_size fields)
IsBlockWithin max name dyn_ref fields (within.TooLarge l) block = (max < told_size fields) × IsLarge name dyn_ref fields l
