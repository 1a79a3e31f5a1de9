-- What the static table has of a field (RFC 9204, section 3.1).
use Rattle.std.specs.Prelude.{◌≡◌, ◌<◌, None, Some}
use Rattle.h3_field.specs.Field.{Field}
use Rattle.h3_field.specs.StaticTable.{static_field, static_name}
use Rattle.h3_field.specs.declared.static_.Found.{Found}
use Rattle.h3_field.specs.declared.static_.Found.TheVariants as found

abbrev pub IsFound : Field → Found → Type 0
IsFound f (found.Entry index) = (static_field f ≡ Some index) × (index < 99)
IsFound f (found.Name index) = (static_field f ≡ None) × (static_name f.name ≡ Some index) × (index < 99)
IsFound f found.Nothing = (static_field f ≡ None) × (static_name f.name ≡ None)
