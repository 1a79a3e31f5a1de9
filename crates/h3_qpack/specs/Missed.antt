-- What a search for an older entry leaves to be searched, where it found none.
use Rattle.std.specs.Prelude.{◌≡◌, ℕ, None}
use Rattle.h3_field.specs.Field.{Field}
use Rattle.h3_table.specs.TableState.{TableState, evicted, newest_in}
use Rattle.h3_table.specs.Matches.{matches}
use Rattle.h3_table.specs.declared.entries.Match.TheVariants as what
use Rattle.h3_qpack.specs.declared.section.Choice.{Choice}
use Rattle.h3_qpack.specs.declared.section.Choice.TheVariants as choice

-- No entry up to this number equals the field.
abbrev pub IsMissed : TableState → ℕ → Field → Type 0
IsMissed h searched f = newest_in h (matches what.Field f) (evicted h) searched ≡ None

-- A field is inserted where no entry up to the number that was searched equals it.
abbrev pub IsMissedFor : TableState → Field → Choice → Type 0
IsMissedFor h f (choice.Insertion after searched) = IsMissed h searched f
IsMissedFor h f other = Unit {0}
