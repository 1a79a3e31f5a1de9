-- What the forms of a field stand for, without its flag, and what a part of one does.
use Rattle.std.specs.Prelude.{ℕ, ⊤, ◌<◌, ◌≤◌, List, length, take, drop}
use Rattle.h3_field.specs.Field.{Field, plain_field}
use Rattle.h3_field.specs.declared.field.Form.{Form}
use Rattle.h3_field.specs.declared.field.Form.TheVariants as form
use Rattle.h3_field.specs.declared.part.Part.{Part}
use Rattle.h3_field.specs.declared.part.Part.TheVariants as part

abbrev pub field_in : Form → Field
field_in (form.Static name value) = plain_field name.now value.now
field_in (form.StaticName name value) = plain_field name.now value.items
field_in (form.StaticValue name value) = plain_field name.items value.now
field_in (form.Owned name value) = plain_field name.items value.items
field_in (form.Block bytes name_length) = plain_field (take name_length bytes.items) (drop name_length bytes.items)
field_in (form.ShortValue value name) = plain_field name.now value
field_in (form.Short field) = plain_field field.name field.value

-- The name of a block lies within it. A short field has a value, so that memory for its name is memory for both.
abbrev pub IsForm : Form → Type 0
IsForm (form.Static _ _) = ⊤
IsForm (form.StaticName _ _) = ⊤
IsForm (form.StaticValue _ _) = ⊤
IsForm (form.Owned _ _) = ⊤
IsForm (form.Block bytes name_length) = name_length ≤ length bytes.items
IsForm (form.ShortValue _ _) = ⊤
IsForm (form.Short field) = 0 < length field.value

abbrev pub part_bytes : Part → List ℕ
part_bytes (part.Static bytes) = bytes.now
part_bytes (part.Lent bytes) = bytes.now
