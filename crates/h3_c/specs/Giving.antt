-- Why what C gave is no list.
use Rattle.std.specs.Prelude.{◌≡◌, ◌≢◌, List, [], Option, Some, None}
use Rattle.h3_field.specs.Field.{Field}
use Rattle.h3_c.specs.declared.numbers.Told.{Told}
use Rattle.h3_c.specs.Numbers.{argument, memory}

-- The sizes are not those of the bytes, or a flag is not known; or they are, of one field or more, and memory was refused.
abbrev pub RefusesFields : Option (List Field) → Told → Type 0
RefusesFields None n = n ≡ argument
RefusesFields (Some fields) n = (n ≡ memory) × (fields ≢ [])
