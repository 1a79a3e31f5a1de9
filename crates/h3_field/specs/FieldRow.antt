-- Fields that lie in a list or in a block.
use Rattle.std.specs.Prelude.{⊤, List}
use Rattle.h3_field.specs.Field.{Field}
use Rattle.h3_field.specs.FieldBlock.{fields_at, IsBlock}
use Rattle.h3_field.specs.declared.fields.Row.{Row}
use Rattle.h3_field.specs.declared.fields.Row.TheVariants as row

abbrev pub fields_in_row : Row → List Field
fields_in_row (row.List fields) = fields.now
fields_in_row (row.Block places bytes) = fields_at bytes.now places.now

abbrev pub IsRow : Row → Type 0
IsRow (row.List fields) = ⊤
IsRow (row.Block places bytes) = IsBlock bytes.now places.now
