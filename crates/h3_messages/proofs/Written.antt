-- How the worked rows write a field.
use Rattle.std.specs.Prelude.{ℕ, List}
use Rattle.h3_field.specs.Field.{Field, plain_field}

abbrev pub field : List ℕ → List ℕ → Field
field name value = plain_field name value
