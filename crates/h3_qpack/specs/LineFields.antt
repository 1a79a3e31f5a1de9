-- The field of a line that was read, wherever its bytes lie.
use Rattle.h3_field.specs.Field.{Field}
use Rattle.h3_qpack.specs.declared.lines.Source.{Source}
use Rattle.h3_qpack.specs.declared.lines.Source.TheVariants.{Own, Entry, Named}

abbrev pub field_from : Source → Field
field_from (Own f) = f
field_from (Entry f) = f
field_from (Named f value n) = record { name = f.name; value = value.items; never_indexed = n }
