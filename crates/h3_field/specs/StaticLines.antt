-- Lines that name no dynamic entry, by the choice of a writer.
use Rattle.std.specs.Prelude.{ℕ, Bool, Option, Some, None}
use Rattle.h3_field.specs.Field.{Field}
use Rattle.h3_field.specs.StringLiteral.{coded}
use Rattle.h3_field.specs.StaticTable.{static_field, static_name}
use Rattle.h3_field.specs.Line.{FieldLine}
use Rattle.h3_field.specs.Line.FieldLine.{StaticField, StaticName, Literal}

abbrev pub literal_line_by : Bool → Option ℕ → Field → FieldLine
literal_line_by shortest (Some index) f = StaticName index (coded shortest f.value) f.never_indexed
literal_line_by shortest None f = Literal (coded shortest f.name) (coded shortest f.value) f.never_indexed

abbrev pub line_or_literal_by : Bool → Option ℕ → Field → FieldLine
line_or_literal_by shortest (Some index) f = StaticField index
line_or_literal_by shortest None f = literal_line_by shortest (static_name f.name) f

-- the equal static entry, or a literal with a static or literal name, with the shortest strings or none but Huffman coded ones
abbrev pub static_line_by : Bool → Field → FieldLine
static_line_by shortest f = line_or_literal_by shortest (static_field f) f
