-- What an entry has in common with a field. An entry has no flag, so it equals no field that has it.
use Rattle.std.specs.Prelude.{Bool, bytes_eq}
use Rattle.h3_field.specs.Field.{Field, field_eq}
use Rattle.h3_table.specs.declared.entries.Match.{Match}
use Rattle.h3_table.specs.declared.entries.Match.TheVariants as what

abbrev pub matches : Match → Field → Field → Bool
matches what.Name f entry = bytes_eq entry.name f.name
matches what.Field f entry = field_eq entry f
