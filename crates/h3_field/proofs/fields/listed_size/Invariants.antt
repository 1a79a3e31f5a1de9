use Rattle.std.specs.Prelude.{◌≡◌, ◌-◌, ◌^◌, min, take}
use Rattle.h3_field.specs.Field.{section_size}
use Rattle.h3_field.proofs.fields.listed_size.Given as goal

abbrev pub invariant-fields : goal.invariant-fields
invariant-fields l = l.size ≡ min (2 ^ 64 - 1) (section_size (take l.field-index l.fields))
